-- A fault names the first line with which no text of a run can go on.
use Rattle.std.proofs.Common.{◌≡◌, ℕ, suc, ◌+◌, ◌-◌, Bool, true, false, cond, List, [], ◌∷◌, ◌++◌, length, take, Option, Some, None, Result, Ok, Err, refl, sym, ap, subst, ◌∙◌, arith, append_assoc}
use Rattle.std.specs.Prelude.{codes}
use Rattle.std.proofs.lemmas.List.{append-nil, length-append}
use Rattle.std.proofs.Math.Seq.{take-append_seam}
use Rattle.tm_word.specs.Prelude.{Text, texts_equal}
use Rattle.tm_rules.specs.Types.{Reply, Run, Step, Take}
use Rattle.tm_domain.proofs.NameLaws.{same_texts}
use Rattle.tm_run.specs.declared.reading.Reading.{Reading}
use Rattle.tm_run.specs.RunText.{audit_line, run_text}
use Rattle.tm_run.specs.Reading.{line_read, lines_of, fresh, run_at, go_on, run_from, run_in, run_of}
use Rattle.tm_run.specs.Written.{is_written}
use Rattle.tm_run.specs.Laws.{CanBegin}
use Rattle.tm_run.proofs.TextLaws.{IsLine}
use Rattle.tm_run.proofs.ReadLaws.{reading, run_again, first_line}
use Rattle.tm_run.proofs.WriteLaws.{text_of, Good, audit_added, grown, fresh_good, fresh_text, run_by, IsPrinted, printed_by}

-- ---- other lines after the same first lines are refused at the same place

-- the fault, which stands j lines further, is found in any lines that are the same up to there
pub record Stops (number n : ℕ) (r : Reading) (lines : List Text) : Type 0 where
  pub further : ℕ
  pub place : n ≡ number + further
  pub same : (others : List Text) → take (suc further) others ≡ take (suc further) lines → run_from number r others ≡ Err n

stop : ℕ → Result Run ℕ
stop n = Err n

err_is : (x y : ℕ) → stop x ≡ stop y → x ≡ y
unfolding stop
err_is x y e = cc

none_left : (others : List Text) → take 1 others ≡ [] → others ≡ []
none_left [] e = refl
none_left (line ∷ others) e = absurd cc

head_is : (a b : Text) (xs ys : List Text) → a ∷ xs ≡ b ∷ ys → a ≡ b
head_is a b xs ys e = cc

tail_is : (a b : Text) (xs ys : List Text) → a ∷ xs ≡ b ∷ ys → xs ≡ ys
tail_is a b xs ys e = cc

-- the line that can't stand
bad_again : (number : ℕ) (r : Reading) (line : Text) (lines others : List Text) → line_read r line ≡ None → take 1 others ≡ take 1 (line ∷ lines) → run_from number r others ≡ Err number
bad_again number r line lines [] h e = absurd cc
bad_again number r line lines (other ∷ others) h e = let same : other ≡ line = cc in rw (same, h) refl

-- a line that can stand
good_again : (number n further : ℕ) (r next : Reading) (line : Text) (lines others : List Text) → line_read r line ≡ Some next → ((more : List Text) → take (suc further) more ≡ take (suc further) lines → run_from (number + 1) next more ≡ Err n)
    → take (suc (suc further)) others ≡ take (suc (suc further)) (line ∷ lines) → run_from number r others ≡ Err n
good_again number n further r next line lines [] h more e = absurd cc
good_again number n further r next line lines (other ∷ others) h more e =
    let same : other ≡ line = head_is other line (take (suc further) others) (take (suc further) lines) e in
    let rest = tail_is other line (take (suc further) others) (take (suc further) lines) e in
    rw (same, h) (more others rest)

stops : (lines : List Text) (number n : ℕ) (r : Reading) → run_from number r lines ≡ Err n → Stops number n r lines
unfolding stop
stops [] number n r e = record {
  further = 0;
  place = ended r.begun e;
  same = λ others h. subst (λ (ls : List Text). run_from number r ls ≡ Err n) (sym (none_left others h)) e;
}
  where
    ended : (begun : Option Take) → run_at number r begun ≡ Err n → n ≡ number + 0
    ended None h = absurd cc
    ended (Some t) h = let same : number ≡ n = err_is number n h in omega (arith, same)
stops (line ∷ lines) number n r e = by_line (line_read r line) refl e (λ next. stops lines (number + 1) n next)
  where
    by_line : (o : Option Reading) → line_read r line ≡ o → go_on number o (λ next. run_from (number + 1) next lines) ≡ Err n → ((next : Reading) → run_from (number + 1) next lines ≡ Err n → Stops (number + 1) n next lines) → Stops number n r (line ∷ lines)
    by_line None h f more =
        let same : number ≡ n = err_is number n f in
        record {
          further = 0;
          place = omega (arith, same);
          same = λ others k. subst (λ (m : ℕ). run_from number r others ≡ Err m) same (bad_again number r line lines others h k);
        }
    by_line (Some next) h f more =
        let s = more next f in
        record {
          further = suc s.further;
          place = omega (arith, s.place);
          same = λ others k. good_again number n s.further r next line lines others h s.same k;
        }

-- the first line isn't `run 1`, or it is the line that was read
first_again : (line : Text) (lines others : List Text) (n : ℕ) (b : Bool) → texts_equal line (codes "run 1\n") ≡ b → cond b (run_from 2 fresh lines) (Err 1) ≡ Err n → take n others ≡ take n (line ∷ lines) → run_in others ≡ Err n
unfolding stop
first_again line lines others n true h e k = by_others (stops lines 2 n fresh e) others k
  where
    by_others : Stops 2 n fresh lines → (others : List Text) → take n others ≡ take n (line ∷ lines) → run_in others ≡ Err n
    by_others s others k =
        let more : n ≡ suc (suc s.further) = omega (arith, s.place) in
        by_number s others (subst (λ (m : ℕ). take m others ≡ take m (line ∷ lines)) more k)
      where
        by_number : (s : Stops 2 n fresh lines) (others : List Text) → take (suc (suc s.further)) others ≡ line ∷ take (suc s.further) lines → run_in others ≡ Err n
        by_number s [] k = absurd cc
        by_number s (other ∷ others) k =
            let same : other ≡ line = head_is other line (take (suc s.further) others) (take (suc s.further) lines) k in
            let rest = tail_is other line (take (suc s.further) others) (take (suc s.further) lines) k in
            rw (same, h) (s.same others rest)
first_again line lines others n false h e k = let same : 1 ≡ n = err_is 1 n e in by_others others (subst (λ (m : ℕ). take m others ≡ take m (line ∷ lines)) (sym same) k) same
  where
    by_others : (others : List Text) → take 1 others ≡ take 1 (line ∷ lines) → 1 ≡ n → run_in others ≡ Err n
    by_others [] k same = absurd cc
    by_others (other ∷ others) k same = let is : other ≡ line = cc in rw (is, h) (ap stop same)

fault_again : (lines others : List Text) (n : ℕ) → run_in lines ≡ Err n → take n others ≡ take n lines → run_in others ≡ Err n
unfolding stop
fault_again [] others n e k =
    let same : 1 ≡ n = err_is 1 n e in
    let none : others ≡ [] = none_left others (subst (λ (m : ℕ). take m others ≡ take m []) (sym same) k) in
    rw none e
fault_again (line ∷ lines) others n e k = first_again line lines others n (texts_equal line (codes "run 1\n")) refl e k

-- no text of a run has these first lines
pub none_goes_on : (text : Text) (n : ℕ) → run_of text ≡ Err n → ¬ (CanBegin n text)
unfolding run_of
none_goes_on text n e c =
    let refused = fault_again (lines_of text) (lines_of (run_text c.0)) n e c.2 in
    let read : run_in (lines_of (run_text c.0)) ≡ Ok c.0 = run_again c.0 c.1 in
    absurd (let wrong : Ok c.0 ≡ Err n = sym read ∙ refused in cc)

-- ---- some text of a run has the lines before

-- a text whose lines are these, whatever comes after it
abbrev Opens : Text → List Text → Type 0
Opens text front = (more : Text) → lines_of (text ++ more) ≡ front ++ lines_of more

-- what has been read can become a run
pub record Closed (text : Text) : Type 0 where
  pub run : Run
  pub more : Text
  pub printed : IsPrinted (text ++ more) run

close : (steps : List (Step × Reply)) (takes : List Take) (begun : Option Take) → Good steps takes begun → Closed (text_of steps takes begun)
close steps takes None g = record {
  run = run_by steps takes;
  more = [];
  printed = subst (λ (x : Text). IsPrinted x (run_by steps takes)) (sym (append-nil (text_of steps takes None))) (printed_by steps takes g);
}
close steps takes (Some t) g =
    let a = audit_added steps takes t None refl g in
    let all_takes : List Take = takes ++ record t { audit = None } ∷ [] in
    record {
      run = run_by steps all_takes;
      more = audit_line None;
      printed = subst (λ (x : Text). IsPrinted x (run_by steps all_takes)) a.text (printed_by steps all_takes a.good);
    }

-- some written run's text has the first lines of these
abbrev Begins : ℕ → List Text → Type 0
Begins count lines = (run : Run) × (is_written run ≡ true) × (take count (lines_of (run_text run)) ≡ take count lines)

begins_here : (text : Text) (front rest : List Text) (n : ℕ) → Closed text → Opens text front → n ≡ length front + 1 → Begins (n - 1) (front ++ rest)
begins_here text front rest n c o e =
    let count : n - 1 ≡ length front = omega (arith, e) in
    let lines : lines_of (run_text c.run) ≡ front ++ lines_of c.more = ap lines_of c.printed.1 ∙ o c.more in
    let both : take (length front) (lines_of (run_text c.run)) ≡ take (length front) (front ++ rest) =
    ap (take (length front)) lines ∙ take-append_seam front (lines_of c.more) ∙ sym (take-append_seam front rest) in
    (c.run, c.printed.0, subst (λ (m : ℕ). take m (lines_of (run_text c.run)) ≡ take m (front ++ rest)) (sym count) both)

opens_more : (text line next : Text) (front : List Text) → Opens text front → IsLine line → next ≡ text ++ line → Opens next (front ++ line ∷ [])
opens_more text line next front o h e more =
    ap (λ (x : Text). lines_of (x ++ more)) e ∙ ap lines_of (append_assoc text line more) ∙ o (line ++ more) ∙ ap (λ (ls : List Text). front ++ ls) (h more) ∙ sym (append_assoc front (line ∷ []) (lines_of more))

begins_before : (rest : List Text) (number n : ℕ) (steps : List (Step × Reply)) (takes : List Take) (begun : Option Take) (front : List Text) → run_from number (reading steps takes begun) rest ≡ Err n → Good steps takes begun
    → Opens (text_of steps takes begun) front → number ≡ length front + 1 → Begins (n - 1) (front ++ rest)
unfolding stop
begins_before [] number n steps takes begun front e g o k = begins_here (text_of steps takes begun) front [] n (close steps takes begun g) o (ended begun e)
  where
    ended : (b : Option Take) → run_at number (reading steps takes begun) b ≡ Err n → n ≡ length front + 1
    ended None h = absurd cc
    ended (Some t) h = let same : number ≡ n = err_is number n h in omega (arith, same, k)
begins_before (line ∷ rest) number n steps takes begun front e g o k =
    by_line (line_read (reading steps takes begun) line) refl e (λ next. begins_before rest (number + 1) n next.steps next.takes next.begun (front ++ line ∷ []))
  where
    by_line : (b : Option Reading) → line_read (reading steps takes begun) line ≡ b → go_on number b (λ next. run_from (number + 1) next rest) ≡ Err n
        → ((next : Reading) → run_from (number + 1) next rest ≡ Err n → Good next.steps next.takes next.begun → Opens (text_of next.steps next.takes next.begun) (front ++ line ∷ []) → number + 1 ≡ length (front ++ line ∷ []) + 1 → Begins (n - 1) ((front ++ line ∷ []) ++ rest))
        → Begins (n - 1) (front ++ line ∷ rest)
    by_line None h f more =
        let same : number ≡ n = err_is number n f in
        begins_here (text_of steps takes begun) front (line ∷ rest) n (close steps takes begun g) o (omega (arith, same, k))
    by_line (Some next) h f more =
        let step = grown steps takes begun line next h g in
        let longer : number + 1 ≡ length (front ++ line ∷ []) + 1 = simp length-append (omega (arith, k)) in
        subst (λ (ls : List Text). Begins (n - 1) ls) (append_assoc front (line ∷ []) rest)
        (more next f step.good (opens_more (text_of steps takes begun) line (text_of next.steps next.takes next.begun) front o step.ends step.text) longer)

-- before the first line every text begins as every other
begins_none : (n : ℕ) → n ≡ 1 → (lines : List Text) → Begins (n - 1) lines
begins_none n k lines =
    let count : n - 1 ≡ 0 = omega (arith, k) in
    let p = printed_by [] [] fresh_good in
    (run_by [] [], p.0, subst (λ (m : ℕ). take m (lines_of (run_text (run_by [] []))) ≡ take m lines) (sym count) refl)

begins_in : (lines : List Text) (n : ℕ) → run_in lines ≡ Err n → Begins (n - 1) lines
unfolding stop
begins_in [] n e = let same : 1 ≡ n = err_is 1 n e in begins_none n (sym same) []
begins_in (line ∷ lines) n e = by_first (texts_equal line (codes "run 1\n")) refl e
  where
    by_first : (b : Bool) → texts_equal line (codes "run 1\n") ≡ b → cond b (run_from 2 fresh lines) (Err 1) ≡ Err n → Begins (n - 1) (line ∷ lines)
    by_first true h f =
        let same : line ≡ codes "run 1\n" = same_texts line (codes "run 1\n") h in
        let opens : Opens (text_of [] [] None) (line ∷ []) = λ more. ap (λ (x : Text). lines_of (x ++ more)) fresh_text ∙ first_line more ∙ ap (λ (x : Text). x ∷ lines_of more) (sym same) in
        begins_before lines 2 n [] [] None (line ∷ []) f fresh_good opens (omega arith)
    by_first false h f = let one : 1 ≡ n = err_is 1 n f in begins_none n (sym one) (line ∷ lines)

pub some_goes_on : (text : Text) (n : ℕ) → run_of text ≡ Err n → CanBegin (n - 1) text
unfolding run_of
some_goes_on text n e = begins_in (lines_of text) n e
