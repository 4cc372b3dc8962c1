-- The lines of access control entries: what reading gives, and the words that are printed.
use Rattle.std.specs.Prelude.{Bool, true, false, ◌&&◌, ◌||◌, if◌then◌else◌, List, [], ◌∷◌, ◌++◌, codes, Result, Ok, Err}
use Rattle.tm_word.specs.Prelude.{Text, begins, texts_equal, ◌>>=◌}
use Rattle.tm_rules.specs.Types.{Args, Cond, Entry, LineKind, Perms}
use Rattle.tm_file.specs.Lines.{is_last}
use Rattle.tm_file.specs.FileLines.{file_line, file_words, is_file}
use Rattle.tm_net.specs.NetLines.{net_line, net_words, is_net}
use Rattle.tm_cond.specs.Reading.{cond_of, cond_words}
use Rattle.tm_cond.specs.Written.{is_cond}

-- a line of any row: its arguments, its permissions, and the words after them; an unfinished first
-- word as the last word is a missing word
unfoldable pub acl_line : List Text → Result (Args × Perms × List Text) LineKind
acl_line [] = Err LineKind.Arity
acl_line (word ∷ words) =
    if texts_equal word (codes "file") then file_line (word ∷ words)
    else (if is_last words && begins word (codes "file") then Err LineKind.Arity
    else net_line (word ∷ words))

abbrev pub entry : Args → Perms → Cond → Entry
entry args perms cond_ = record { args = args; perms = perms; cond = cond_ }

-- the entry of a line with the conditions that these words are
abbrev pub with_cond : Args → Perms → List Text → Result Entry LineKind
with_cond args perms words = cond_of words >>= λ cond_. Ok (entry args perms cond_)

-- a line, and every word after it as a condition
unfoldable pub entry_of : List Text → Result Entry LineKind
entry_of words = acl_line words >>= λ line. with_cond line.0 line.1 line.2

-- the arguments are those of a file line
abbrev pub is_of_file : Args → Bool
is_of_file (Args.Path name) = true
is_of_file (Args.Execute name prefer) = true
is_of_file (Args.PathNumber name number) = true
is_of_file (Args.Device name mode major minor) = true
is_of_file (Args.Path2 first second) = true
is_of_file (Args.Mount device dir type flags) = true
is_of_file (Args.Inet kind address port) = false
is_of_file (Args.Unix kind name) = false
is_of_file (Args.Env pattern_) = false
is_of_file (Args.Manual domain) = false

-- the words of a line
unfoldable pub acl_words : Args → Perms → List Text
acl_words args perms =
    if is_of_file args then file_words args perms.bits else net_words args perms.bits

-- the words of an entry: its line, and its conditions
unfoldable pub entry_words : Entry → List Text
entry_words e = acl_words e.args e.perms ++ cond_words e.cond

-- an entry that a line can write
unfoldable pub is_entry : Entry → Bool
is_entry e = (is_file e.args e.perms.bits || is_net e.args e.perms.bits) && is_cond e.cond
