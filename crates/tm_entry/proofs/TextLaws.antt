-- The text of an entry: its line, and each condition after a space.
use Rattle.std.proofs.Common.{◌≡◌, List, ◌∷◌, ◌++◌, refl, sym, ap, ◌∙◌, append_assoc}
use Rattle.tm_word.specs.Prelude.{Text, joined}
use Rattle.tm_rules.specs.Types.{Args, Entry, Perms}
use Rattle.tm_file.specs.Lines.{spaced}
use Rattle.tm_file.proofs.JoinLaws.{joined_more}
use Rattle.tm_file.specs.FileLines.{file_words}
use Rattle.tm_net.specs.NetLines.{net_words}
use Rattle.tm_cond.specs.Reading.{cond_words}
use Rattle.tm_entry.specs.Entries.{acl_words, entry_words}

-- a first word, and the words after it
pub record Words (words : List Text) : Type 0 where
  pub first : Text
  pub rest : List Text
  pub are : words ≡ first ∷ rest

pub acl_first : (args : Args) (perms : Perms) → Words (acl_words args perms)
unfolding acl_words file_words net_words
acl_first (Args.Path name) perms = record { first = _; rest = _; are = refl }
acl_first (Args.Execute name prefer) perms = record { first = _; rest = _; are = refl }
acl_first (Args.PathNumber name number) perms = record { first = _; rest = _; are = refl }
acl_first (Args.Device name mode major minor) perms = record { first = _; rest = _; are = refl }
acl_first (Args.Path2 first second) perms = record { first = _; rest = _; are = refl }
acl_first (Args.Mount device dir type flags) perms = record { first = _; rest = _; are = refl }
acl_first (Args.Inet kind address port) perms = record { first = _; rest = _; are = refl }
acl_first (Args.Unix kind name) perms = record { first = _; rest = _; are = refl }
acl_first (Args.Env pattern_) perms = record { first = _; rest = _; are = refl }
acl_first (Args.Manual domain) perms = record { first = _; rest = _; are = refl }

pub entry_joined : (e : Entry) → joined (entry_words e) ≡ joined (acl_words e.args e.perms) ++ spaced (cond_words e.cond)
unfolding entry_words
entry_joined e = let w = acl_first e.args e.perms in rw w.are (joined_more w.first w.rest (cond_words e.cond))

-- what a line and then its conditions are appended to ends with the words of the entry
pub entry_printed : (e : Entry) (before one two : Text) → one ≡ before ++ joined (acl_words e.args e.perms) → two ≡ one ++ spaced (cond_words e.cond) → two ≡ before ++ joined (entry_words e)
entry_printed e before one two first then =
    then ∙ ap (λ t. t ++ spaced (cond_words e.cond)) first
    ∙ append_assoc before (joined (acl_words e.args e.perms)) (spaced (cond_words e.cond))
    ∙ ap (λ t. before ++ t) (sym (entry_joined e))
