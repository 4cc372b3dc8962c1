-- A fault is the first wrong line's: those before it are read, and it is wrong in its kind.
use Rattle.std.proofs.Common.{◌≡◌, ℕ, suc, ◌+◌, List, [], ◌∷◌, take, Some, Result, Ok, Err, refl, ap, ◌∙◌, arith}
use Rattle.std.specs.Prelude.{slice_get}
use Rattle.tm_word.specs.Prelude.{Text, lines_of, words_of, ◌>>=◌}
use Rattle.tm_rules.specs.Types.{ScriptKind}
use Rattle.tm_script.specs.Lines.{line_read, numbered, script_lines, script_of, FirstWrong}
use Rattle.tm_script.specs.Edits.{no_edits, all_editors, edits_line, edits_of}
use Rattle.tm_script.specs.Answers.{no_rules, answers_line, answers_of}
use Rattle.tm_script.specs.Schedule.{no_turns, schedule_line, schedule_of}
use Rattle.tm_script.specs.declared.schedule.Schedule.{Schedule}

-- the same for lines of which the first has the number n
record WrongFrom {S : Type 0} (line : S → Text → List Text → Result S ScriptKind) (n : ℕ) (texts : List Text) (start : S) (number : ℕ) (kind : ScriptKind) : Type 0 where
  place : ℕ
  numbers : number ≡ n + place
  before : S
  read : script_lines line n (take place texts) start ≡ Ok before
  wrong_line : Text
  there : slice_get texts place ≡ Some wrong_line
  wrong : line_read line before (words_of wrong_line) ≡ Err kind

abbrev failed : {S : Type 0} → S → ℕ × ScriptKind → Result S (ℕ × ScriptKind)
failed start fault = Err fault

fault_is : {S : Type 0} (start : S) (x y : ℕ × ScriptKind) → failed start x ≡ failed start y → x ≡ y
fault_is start x y e = cc

by_line : {S : Type 0} (line : S → Text → List Text → Result S ScriptKind) (text : Text) (texts : List Text) (n : ℕ) (start : S) (number : ℕ) (kind : ScriptKind)
    → ((next : S) → script_lines line (n + 1) texts next ≡ Err (number, kind) → WrongFrom line (n + 1) texts next number kind) → (r : Result S ScriptKind) → line_read line start (words_of text) ≡ r
    → (numbered n r >>= λ next. script_lines line (n + 1) texts next) ≡ Err (number, kind) → WrongFrom line n (text ∷ texts) start number kind
unfolding script_lines
by_line line text texts n start number kind more (Err found) f h =
    let same = fault_is start (n, found) (number, kind) h in
    record { place = 0; numbers = omega (arith, ap (λ x. x.0) same); before = start; read = refl; wrong_line = text; there = refl; wrong = f ∙ ap (λ x. Err x.1) same }
by_line line text texts n start number kind more (Ok next) f h =
    let later = more next h in
    record {
      place = suc later.place;
      numbers = omega (arith, later.numbers);
      before = later.before;
      read = rw f later.read;
      wrong_line = later.wrong_line;
      there = later.there;
      wrong = later.wrong;
    }

lines_wrong : {S : Type 0} (line : S → Text → List Text → Result S ScriptKind) (texts : List Text) (n : ℕ) (start : S) (number : ℕ) (kind : ScriptKind) → script_lines line n texts start ≡ Err (number, kind) → WrongFrom line n texts start number kind
unfolding script_lines
lines_wrong line [] n start number kind e = absurd cc
lines_wrong line (text ∷ texts) n start number kind e =
    by_line line text texts n start number kind (λ next h. lines_wrong line texts (n + 1) next number kind h) (line_read line start (words_of text)) refl e

pub script_wrong : {S : Type 0} (line : S → Text → List Text → Result S ScriptKind) (start : S) (text : Text) (number : ℕ) (kind : ScriptKind) → script_of line start text ≡ Err (number, kind) → FirstWrong line start text number kind
script_wrong line start text number kind e =
    let found = lines_wrong line (lines_of text) 1 start number kind e in
    record { place = found.place; numbers = omega (arith, found.numbers); before = found.before; read = found.read; wrong_line = found.wrong_line; there = found.there; wrong = found.wrong }

-- what follows can't fail
pub end_ok : {A B : Type 0} (r : Result A (ℕ × ScriptKind)) (f : A → B) (fault : ℕ × ScriptKind) → (r >>= λ x. Ok (f x)) ≡ Err fault → r ≡ Err fault
end_ok (Ok x) f fault e = absurd cc
end_ok (Err found) f fault e = cc

pub edits_wrong : (text : Text) (number : ℕ) (kind : ScriptKind) → edits_of text ≡ Err (number, kind) → FirstWrong edits_line no_edits text number kind
unfolding edits_of
edits_wrong text number kind e = script_wrong edits_line no_edits text number kind (end_ok (script_of edits_line no_edits text) all_editors (number, kind) e)

pub answers_wrong : (text : Text) (number : ℕ) (kind : ScriptKind) → answers_of text ≡ Err (number, kind) → FirstWrong answers_line no_rules text number kind
unfolding answers_of
answers_wrong text number kind e = script_wrong answers_line no_rules text number kind e

pub schedule_wrong : (trees editors : ℕ) (text : Text) (number : ℕ) (kind : ScriptKind) → schedule_of trees editors text ≡ Err (number, kind) → FirstWrong schedule_line (no_turns trees editors) text number kind
unfolding schedule_of
schedule_wrong trees editors text number kind e =
    script_wrong schedule_line (no_turns trees editors) text number kind (end_ok (script_of schedule_line (no_turns trees editors) text) (λ (schedule : Schedule). schedule.turns) (number, kind) e)
