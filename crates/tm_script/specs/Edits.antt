-- Edits: editors, and the policy lines that each of them writes.
use Rattle.std.specs.Prelude.{ℕ, ◌^◌, List, [], ◌∷◌, ◌++◌, Option, Some, None, Result, Ok, Err, if◌then◌else◌, codes, option_to_list}
use Rattle.tm_word.specs.Prelude.{Text, Word, begins_with_byte, joined, of_word, spelled_word, texts_equal, ◌>>=◌}
use Rattle.tm_rules.specs.Types.{Editor, FileKind, ScriptKind, policies, policy_text}
use Rattle.tm_rules.specs.Prelude.{DomainName}
use Rattle.tm_line.specs.Domains.{domain_words}
use Rattle.tm_script.specs.Steps.{kinded, or_kind, word_at, number_at}
use Rattle.tm_script.specs.Lines.{script_of}
use Rattle.tm_script.specs.declared.edits.Edits.{Edits}

-- ---- editors

-- a literal path is the spelled word of a name that begins with `/`
unfoldable pub exe_word : Text → Result Word ScriptKind
exe_word text =
    if begins_with_byte 47 text then or_kind ScriptKind.Word (spelled_word text)
    else Err ScriptKind.Word

-- a domain name that runs to the line's end
unfoldable pub domain_rest : List Text → Result DomainName ScriptKind
domain_rest [] = Err ScriptKind.Arity
domain_rest (word ∷ words) = kinded ScriptKind.Domain (domain_words (word ∷ words))

-- an editor before its first line
abbrev pub new_editor : ℕ → ℕ → Word → DomainName → Editor
new_editor uid euid exe domain =
    record { uid = uid; euid = euid; exe = exe; domain = domain; lines = [] }

-- `UID EUID EXE DOMAIN`
unfoldable pub editor_of : List Text → Result Editor ScriptKind
editor_of words = do
  uid ← number_at (2 ^ 32) words
  euid ← number_at (2 ^ 32) uid.1
  exe ← word_at exe_word euid.1
  domain ← domain_rest exe.1
  Ok (new_editor uid.0 euid.0 exe.0 domain)

-- ---- their lines

-- the file that a line is for
unfoldable pub file_of : Text → Result FileKind ScriptKind
file_of key = or_kind ScriptKind.Keyword (of_word policy_text policies key)

-- LINE: one word or more, joined by single spaces; it is judged when its step is made
abbrev pub line_text : List Text → Result Text ScriptKind
line_text [] = Err ScriptKind.Arity
line_text (word ∷ words) = Ok (joined (word ∷ words))

-- the editor with one line more
abbrev pub with_line : Editor → FileKind → Text → Editor
with_line editor file text = record editor { lines = editor.lines ++ (file, text) ∷ [] }

-- ---- the file

-- no editor yet
abbrev pub no_edits : Edits
no_edits = record { before = []; last = None }

-- all editors, in order
abbrev pub all_editors : Edits → List Editor
all_editors edits = edits.before ++ option_to_list edits.last

-- an edit is the last editor's; there has to be one
abbrev pub edit_by : Edits → Option Editor → FileKind → List Text → Result Edits ScriptKind
edit_by edits None file words = Err ScriptKind.NoEditor
edit_by edits (Some editor) file words =
    line_text words >>= λ text. Ok (record edits { last = Some (with_line editor file text) })

-- `editor UID EUID EXE DOMAIN` begins the next editor; every other line is an edit of the last one
unfoldable pub edits_line : Edits → Text → List Text → Result Edits ScriptKind
edits_line edits key words =
    if texts_equal key (codes "editor")
    then editor_of words
    >>= (λ editor. Ok (record { before = all_editors edits; last = Some editor }))
    else file_of key >>= (λ file. edit_by edits edits.last file words)

-- the editors that a text writes, or its first wrong line
unfoldable pub edits_of : Text → Result (List Editor) (ℕ × ScriptKind)
edits_of text = script_of edits_line no_edits text >>= λ edits. Ok (all_editors edits)
