-- Reading a script, line by line, up to the first wrong line: its number, from 1, and its kind are
-- the script's.
use Rattle.std.specs.Prelude.{◌≡◌, ℕ, ◌+◌, List, [], ◌∷◌, take, slice_get, Option, Some, None, Result, Ok, Err}
use Rattle.tm_word.specs.Prelude.{Text, lines_of, words_of, ◌>>=◌}
use Rattle.tm_rules.specs.Types.{ScriptFault, ScriptKind}

-- the line of a fault, from 1, and its kind; want of memory has none
abbrev pub script_cause : ScriptFault → Option (ℕ × ScriptKind)
script_cause ScriptFault.NoMemory = None
script_cause (ScriptFault.Line number kind) = Some (number, kind)

-- what has been read after a line with these words; a line without words does nothing
abbrev pub line_read : {S : Type 0} → (S → Text → List Text → Result S ScriptKind) → S → List Text
    → Result S ScriptKind
line_read line so_far [] = Ok so_far
line_read line so_far (key ∷ words) = line so_far key words

-- a wrong line is named by its number
abbrev pub numbered : {A : Type 0} → ℕ → Result A ScriptKind → Result A (ℕ × ScriptKind)
numbered number (Ok x) = Ok x
numbered number (Err kind) = Err (number, kind)

-- these lines, the first with this number, after what has been read so far
unfoldable pub script_lines : {S : Type 0} → (S → Text → List Text → Result S ScriptKind) → ℕ
    → List Text → S → Result S (ℕ × ScriptKind)
script_lines line number [] so_far = Ok so_far
script_lines line number (text ∷ texts) so_far =
    numbered number (line_read line so_far (words_of text))
    >>= λ next. script_lines line (number + 1) texts next

-- all lines of a text
abbrev pub script_of : {S : Type 0} → (S → Text → List Text → Result S ScriptKind) → S → Text
    → Result S (ℕ × ScriptKind)
script_of line start text = script_lines line 1 (lines_of text) start

-- the line of this number, from 1, is wrong in this kind after the lines before it, which are read
pub record FirstWrong {S : Type 0} (line : S → Text → List Text → Result S ScriptKind) (start : S)
    (text : Text) (number : ℕ) (kind : ScriptKind) : Type 0 where
  pub place : ℕ
  pub numbers : number ≡ place + 1
  pub before : S
  pub read : script_lines line 1 (take place (lines_of text)) start ≡ Ok before
  pub wrong_line : Text
  pub there : slice_get (lines_of text) place ≡ Some wrong_line
  pub wrong : line_read line before (words_of wrong_line) ≡ Err kind
