-- The lines that editors have had, after one step more, and after all.
use Rattle.std.proofs.Common.{◌≡◌, ◌≤◌, ◌<◌, ◌+◌, ℕ, zero, suc, Bool, true, false, ◌==◌, ◌&&◌, List, [], ◌∷◌, ◌++◌, length, take, Option, Some, None, refl, sym, ap, ◌∙◌, subst, arith, eqb-true, eq-eqb, length-append}
use Rattle.std.specs.Prelude.{slice_get, slice_set, slice_index_or, if◌then◌else◌, ◌↔◌, get_or}
use Rattle.std.specs.Option.{option_and_then}
use Rattle.std.specs.List.{cons_option}
use Rattle.std.proofs.lemmas.List.{append-nil, append_assoc, take_more, take_all}
use Rattle.std.proofs.lemmas.Option.{slice_get_within, get_or_from_slice_get}
use Rattle.tm_word.specs.Prelude.{Text}
use Rattle.tm_rules.specs.Types.{Editor, FileKind, Reply, Run, Step}
use Rattle.tm_rules.specs.Prelude.{changed_at, numbered}
use Rattle.tm_legal.specs.Prelude.{History, Scene, edit_line, lines_of_editor}
use Rattle.tm_verify_laws.specs.First.{AllAfter}
use Rattle.tm_verify_laws.specs.Placed.{IsNextLine, IsPlaced, NoLineMissing}
use Rattle.tm_verify_steps.specs.Lines.{HasHad, next_line, IsDue, line_had, had_after, have_all}
use Rattle.tm_verify_steps.proofs.ChangedLaws.{changed_same, changed_other, changed_set}

abbrev Line : Type 0
Line = FileKind × Text

abbrev line_list : Option Line → List Line
line_list None = []
line_list (Some x) = x ∷ []

abbrev line_if : Bool → Line → Option Line
line_if b x = if b then Some x else None

-- ---- one step more

-- the lines after one step more
lines_more : (e : ℕ) (before : History) (pair : Step × Reply) → lines_of_editor e (before ++ pair ∷ []) ≡ lines_of_editor e before ++ line_list (edit_line e pair)
lines_more e [] pair = go (edit_line e pair)
  where
    go : (o : Option Line) → cons_option o [] ≡ line_list o
    go None = refl
    go (Some x) = refl
lines_more e (first ∷ before) pair = go (edit_line e first) (lines_more e before pair)
  where
    go : (o : Option Line) → lines_of_editor e (before ++ pair ∷ []) ≡ lines_of_editor e before ++ line_list (edit_line e pair) → cons_option o (lines_of_editor e (before ++ pair ∷ [])) ≡ cons_option o (lines_of_editor e before) ++ line_list (edit_line e pair)
    go None h = h
    go (Some x) h = ap (λ xs. x ∷ xs) h

-- a step that is no edit of this editor
no_line_more : (e : ℕ) (before : History) (pair : Step × Reply) → edit_line e pair ≡ None → lines_of_editor e (before ++ pair ∷ []) ≡ lines_of_editor e before
no_line_more e before pair none = lines_more e before pair ∙ ap (λ o. lines_of_editor e before ++ line_list o) none ∙ append-nil (lines_of_editor e before)

-- an edit of this editor
line_more : (e : ℕ) (before : History) (file : FileKind) (line : Text) (reply : Reply) → length (lines_of_editor e (before ++ (Step.Edit e file line, reply) ∷ [])) ≡ suc (length (lines_of_editor e before))
line_more e before file line reply =
    let same : (e == e) ≡ true = eq-eqb e e refl in
    let here : edit_line e (Step.Edit e file line, reply) ≡ Some (file, line) = rw same refl in
    ap length (lines_more e before (Step.Edit e file line, reply) ∙ ap (λ o. lines_of_editor e before ++ line_list o) here) ∙ length-append (lines_of_editor e before) ((file, line) ∷ []) ∙ omega arith

-- an edit of another one
other_line : (e by : ℕ) (before : History) (file : FileKind) (line : Text) (reply : Reply) → (by ≡ e → ⊥) → lines_of_editor e (before ++ (Step.Edit by file line, reply) ∷ []) ≡ lines_of_editor e before
other_line e by before file line reply ne = no_line_more e before (Step.Edit by file line, reply) (go (by == e) refl)
  where
    go : (b : Bool) → (by == e) ≡ b → line_if b (file, line) ≡ None
    go true is = absurd (ne (eqb-true by e is))
    go false is = refl

-- what editors have had after one step more
pub had_more : (scene : Scene) (before : History) (step : Step) (reply : Reply) (had : List ℕ) → HasHad scene before had → HasHad scene (before ++ (step, reply) ∷ []) (had_after had step)
had_more scene before (Step.Learn d entry) reply had h k lt = h k lt ∙ ap (λ ls. Some (length ls)) (sym (no_line_more (suc k) before (Step.Learn d entry, reply) refl))
had_more scene before (Step.Make d name) reply had h k lt = h k lt ∙ ap (λ ls. Some (length ls)) (sym (no_line_more (suc k) before (Step.Make d name, reply) refl))
had_more scene before (Step.Fail d) reply had h k lt = h k lt ∙ ap (λ ls. Some (length ls)) (sym (no_line_more (suc k) before (Step.Fail d, reply) refl))
had_more scene before (Step.Ask d retry line) reply had h k lt = h k lt ∙ ap (λ ls. Some (length ls)) (sym (no_line_more (suc k) before (Step.Ask d retry line, reply) refl))
had_more scene before (Step.Answer serial code) reply had h k lt = h k lt ∙ ap (λ ls. Some (length ls)) (sym (no_line_more (suc k) before (Step.Answer serial code, reply) refl))
had_more scene before Step.Attach reply had h k lt = h k lt ∙ ap (λ ls. Some (length ls)) (sym (no_line_more (suc k) before (Step.Attach, reply) refl))
had_more scene before Step.Detach reply had h k lt = h k lt ∙ ap (λ ls. Some (length ls)) (sym (no_line_more (suc k) before (Step.Detach, reply) refl))
had_more scene before (Step.End t) reply had h k lt = h k lt ∙ ap (λ ls. Some (length ls)) (sym (no_line_more (suc k) before (Step.End t, reply) refl))
had_more scene before (Step.Edit zero file line) reply had h k lt = h k lt ∙ ap (λ ls. Some (length ls)) (sym (other_line (suc k) zero before file line reply (λ e. absurd cc)))
had_more scene before (Step.Edit (suc j) file line) reply had h k lt = go (j == k) refl
  where
    go : (b : Bool) → (j == k) ≡ b → slice_get (changed_at j suc had) k ≡ Some (length (lines_of_editor (suc k) (before ++ (Step.Edit (suc j) file line, reply) ∷ [])))
    go true is =
        let same : k ≡ j = sym (eqb-true j k is) in
        subst (λ i. slice_get (changed_at i suc had) k ≡ Some (length (lines_of_editor (suc k) (before ++ (Step.Edit (suc i) file line, reply) ∷ [])))) same
        (changed_same suc had k (length (lines_of_editor (suc k) before)) (h k lt) ∙ ap (λ n. Some n) (sym (line_more (suc k) before file line reply)))
    go false is =
        let ne : j ≡ k → ⊥ = (λ e. let yes = eq-eqb j k e in absurd cc) in
        changed_other suc had j k ne ∙ h k lt ∙ ap (λ ls. Some (length ls)) (sym (other_line (suc k) (suc j) before file line reply (λ e. ne (let same : j ≡ k = cc in same))))

-- a store of what an editor has had
pub line_counted : (by k n : ℕ) (had : List ℕ) → k + 1 ≡ by → k < length had → n ≡ slice_index_or had k n → slice_set had k (n + 1) ≡ line_had by had
line_counted zero k n had e h is = absurd (omega (arith, e))
line_counted (suc j) k n had e h is =
    let same : k ≡ j = omega (arith, e) in
    let more : n + 1 ≡ suc n = omega arith in
    ap (slice_set had k) more ∙ changed_set suc had k n h is ∙ ap (λ i. changed_at i suc had) same

-- ---- the next line

-- the next line is the one that is due
due : (scene : Scene) (before : History) (had : List ℕ) (e : ℕ) (file : FileKind) (line : Text) → HasHad scene before had → (next_line scene.editors had e ≡ Some (file, line)) ↔ IsNextLine scene before (Step.Edit e file line)
due scene before had zero file line h = (λ e. absurd cc, λ p. let none = p.1 in absurd cc)
due scene before had (suc k) file line h = go (slice_get scene.editors k) refl
  where
    n : ℕ
    n = length (lines_of_editor (suc k) before)

    go : (o : Option Editor) → slice_get scene.editors k ≡ o
        → (option_and_then (λ (editor : Editor). option_and_then (λ n. slice_get editor.lines n) (slice_get had k)) o ≡ Some (file, line))
        ↔ ((editor : Editor) × (o ≡ Some editor) × (slice_get editor.lines (length (lines_of_editor (suc k) before)) ≡ Some (file, line)))
    go None is = (λ e. absurd cc, λ p. let none = p.1 in absurd cc)
    go (Some editor) is =
        let number : slice_get had k ≡ Some n = h k (slice_get_within scene.editors k editor is) in
        let inner : option_and_then (λ m. slice_get editor.lines m) (slice_get had k) ≡ slice_get editor.lines n = ap (λ o. option_and_then (λ m. slice_get editor.lines m) o) number in (
          λ e. (editor, refl, sym inner ∙ e),
          λ p. let same : p.0 ≡ editor = (let one = p.1 in cc) in inner ∙ subst (λ (x : Editor). slice_get x.lines n ≡ Some (file, line)) same p.2,
        )

-- of any step
pub is_next : (scene : Scene) (before : History) (had : List ℕ) (step : Step) → HasHad scene before had → IsDue scene.editors had step ↔ IsNextLine scene before step
is_next scene before had (Step.Learn d entry) h = (λ p. tt, λ p. tt)
is_next scene before had (Step.Make d name) h = (λ p. tt, λ p. tt)
is_next scene before had (Step.Fail d) h = (λ p. tt, λ p. tt)
is_next scene before had (Step.Ask d retry line) h = (λ p. tt, λ p. tt)
is_next scene before had (Step.Answer serial code) h = (λ p. tt, λ p. tt)
is_next scene before had Step.Attach h = (λ p. tt, λ p. tt)
is_next scene before had Step.Detach h = (λ p. tt, λ p. tt)
is_next scene before had (Step.End t) h = (λ p. tt, λ p. tt)
is_next scene before had (Step.Edit e file line) h = due scene before had e file line h

-- ---- all lines

-- these lines are the first ones of those
abbrev IsFront : List Line → List Line → Type 0
IsFront front lines = front ≡ take (length front) lines

front_more : (front lines : List Line) (x : Line) → IsFront front lines → slice_get lines (length front) ≡ Some x → IsFront (front ++ x ∷ []) lines
front_more front lines x h at =
    let more : take (length front + 1) lines ≡ take (length front) lines ++ x ∷ [] =
    take_more lines (length front) x (slice_get_within lines (length front) x at) ∙ ap (λ z. take (length front) lines ++ z ∷ []) (get_or_from_slice_get lines (length front) x x at) in
    ap (λ xs. xs ++ x ∷ []) h ∙ sym more ∙ ap (λ n. take n lines) (sym (length-append front (x ∷ [])))

-- a step that is placed leaves an editor with first lines
front_next : (scene : Scene) (e : ℕ) (editor : Editor) (before : History) (step : Step) (reply : Reply) → numbered scene.editors e ≡ Some editor → IsNextLine scene before step
    → IsFront (lines_of_editor e before) editor.lines → IsFront (lines_of_editor e (before ++ (step, reply) ∷ [])) editor.lines
front_next scene e editor before (Step.Learn d entry) reply at p h = subst (λ ls. IsFront ls editor.lines) (sym (no_line_more e before (Step.Learn d entry, reply) refl)) h
front_next scene e editor before (Step.Make d name) reply at p h = subst (λ ls. IsFront ls editor.lines) (sym (no_line_more e before (Step.Make d name, reply) refl)) h
front_next scene e editor before (Step.Fail d) reply at p h = subst (λ ls. IsFront ls editor.lines) (sym (no_line_more e before (Step.Fail d, reply) refl)) h
front_next scene e editor before (Step.Ask d retry line) reply at p h = subst (λ ls. IsFront ls editor.lines) (sym (no_line_more e before (Step.Ask d retry line, reply) refl)) h
front_next scene e editor before (Step.Answer serial code) reply at p h = subst (λ ls. IsFront ls editor.lines) (sym (no_line_more e before (Step.Answer serial code, reply) refl)) h
front_next scene e editor before Step.Attach reply at p h = subst (λ ls. IsFront ls editor.lines) (sym (no_line_more e before (Step.Attach, reply) refl)) h
front_next scene e editor before Step.Detach reply at p h = subst (λ ls. IsFront ls editor.lines) (sym (no_line_more e before (Step.Detach, reply) refl)) h
front_next scene e editor before (Step.End t) reply at p h = subst (λ ls. IsFront ls editor.lines) (sym (no_line_more e before (Step.End t, reply) refl)) h
front_next scene e editor before (Step.Edit by file line) reply at p h = go (by == e) refl
  where
    go : (b : Bool) → (by == e) ≡ b → IsFront (lines_of_editor e (before ++ (Step.Edit by file line, reply) ∷ [])) editor.lines
    go false is = subst (λ ls. IsFront ls editor.lines) (sym (other_line e by before file line reply (λ same. let yes = eq-eqb by e same in absurd cc))) h
    go true is =
        let number : by ≡ e = eqb-true by e is in
        let here : edit_line e (Step.Edit by file line, reply) ≡ Some (file, line) = rw is refl in
        let lines : lines_of_editor e (before ++ (Step.Edit by file line, reply) ∷ []) ≡ lines_of_editor e before ++ (file, line) ∷ [] =
        lines_more e before (Step.Edit by file line, reply) ∙ ap (λ o. lines_of_editor e before ++ line_list o) here in
        let one : numbered scene.editors e ≡ Some p.0 = subst (λ n. numbered scene.editors n ≡ Some p.0) number p.1 in
        let same : p.0 ≡ editor = cc in
        let next : slice_get editor.lines (length (lines_of_editor e before)) ≡ Some (file, line) =
        subst (λ (x : Editor). slice_get x.lines (length (lines_of_editor e before)) ≡ Some (file, line)) same (subst (λ n. slice_get p.0.lines (length (lines_of_editor n before)) ≡ Some (file, line)) number p.2) in
        subst (λ ls. IsFront ls editor.lines) (sym lines) (front_more (lines_of_editor e before) editor.lines (file, line) h next)

fronts : (scene : Scene) (run : Run) (e : ℕ) (editor : Editor) → numbered scene.editors e ≡ Some editor → (before rest : History) → AllAfter (IsPlaced scene run) before rest
    → IsFront (lines_of_editor e before) editor.lines → IsFront (lines_of_editor e (before ++ rest)) editor.lines
fronts scene run e editor at before [] placed h = subst (λ hs. IsFront (lines_of_editor e hs) editor.lines) (sym (append-nil before)) h
fronts scene run e editor at before (pair ∷ rest) placed h =
    subst (λ hs. IsFront (lines_of_editor e hs) editor.lines) (append_assoc before (pair ∷ []) rest)
    (fronts scene run e editor at (before ++ pair ∷ []) rest placed.1 (front_next scene e editor before pair.0 pair.1 at placed.0.next h))

-- every editor has had as many lines as it has
have_each : (editors : List Editor) (had : List ℕ) → have_all editors had ≡ true → (k : ℕ) (editor : Editor) → slice_get editors k ≡ Some editor → slice_get had k ≡ Some (length editor.lines)
have_each [] had e k editor at = absurd cc
have_each (x ∷ editors) [] e k editor at = absurd cc
have_each (x ∷ editors) (n ∷ had) e k editor at = go (λ f j there. have_each editors had f j editor there) (n == length x.lines) refl e k at
  where
    go : (have_all editors had ≡ true → (j : ℕ) → slice_get editors j ≡ Some editor → slice_get had j ≡ Some (length editor.lines)) → (b : Bool) → (n == length x.lines) ≡ b → (b && have_all editors had) ≡ true → (k : ℕ) → slice_get (x ∷ editors) k ≡ Some editor → slice_get (n ∷ had) k ≡ Some (length editor.lines)
    go more false is f j there = absurd cc
    go more true is f zero there = let same : x ≡ editor = cc in ap (λ m. Some m) (eqb-true n (length x.lines) is ∙ ap (λ (y : Editor). length y.lines) same)
    go more true is f (suc j) there = more f j there

each_has : (editors : List Editor) (had : List ℕ) → ((k : ℕ) (editor : Editor) → slice_get editors k ≡ Some editor → slice_get had k ≡ Some (length editor.lines)) → have_all editors had ≡ true
each_has [] had h = refl
each_has (x ∷ editors) [] h = let none = h 0 x refl in absurd cc
each_has (x ∷ editors) (n ∷ had) h =
    let first = h 0 x refl in
    let same : n ≡ length x.lines = cc in
    let yes : (n == length x.lines) ≡ true = eq-eqb n (length x.lines) same in
    rw (yes, each_has editors had (λ k editor at. h (suc k) editor at)) refl

pub lines_there : (scene : Scene) (run : Run) (had : List ℕ) → HasHad scene run.steps had → AllAfter (IsPlaced scene run) [] run.steps → have_all scene.editors had ≡ true → NoLineMissing scene run.steps
lines_there scene run had h placed all zero editor at = absurd cc
lines_there scene run had h placed all (suc k) editor at =
    let one = h k (slice_get_within scene.editors k editor at) in
    let other = have_each scene.editors had all k editor at in
    let long : length (lines_of_editor (suc k) run.steps) ≡ length editor.lines = cc in
    let front : lines_of_editor (suc k) run.steps ≡ take (length (lines_of_editor (suc k) run.steps)) editor.lines = fronts scene run (suc k) editor at [] run.steps placed refl in
    front ∙ ap (λ n. take n editor.lines) long ∙ take_all (length editor.lines) editor.lines (omega arith)

pub lines_all : (scene : Scene) (history : History) (had : List ℕ) → HasHad scene history had → NoLineMissing scene history → have_all scene.editors had ≡ true
lines_all scene history had h lines = each_has scene.editors had (λ k editor at. h k (slice_get_within scene.editors k editor at) ∙ ap (λ ls. Some (length ls)) (lines (suc k) editor at))
