-- What the printed lines of a run are read as.
use Rattle.std.proofs.Common.{◌≡◌, ℕ, suc, ◌+◌, ◌<◌, ◌^◌, true, ◌&&◌, List, [], ◌∷◌, ◌++◌, length, Option, Some, None, Ok, refl, sym, subst, arith, append_assoc}
use Rattle.std.specs.Prelude.{codes}
use Rattle.std.specs.List.{list_all, flat_map}
use Rattle.std.proofs.lemmas.List.{append-nil, length-append}
use Rattle.std.proofs.lemmas.Bool.{lt-ltb, ltb-true}
use Rattle.tm_word.specs.Prelude.{Text, texts_equal}
use Rattle.tm_rules.specs.Types.{Look, Reply, Run, Step, Take}
use Rattle.tm_domain.proofs.NameLaws.{texts_same}
use Rattle.tm_line.proofs.Steps.{both}
use Rattle.tm_run.specs.declared.reading.Reading.{Reading}
use Rattle.tm_run.specs.Steps.{step_line, steps_text}
use Rattle.tm_run.specs.RunText.{look_text, audit_line, take_line, take_text, takes_text, run_text}
use Rattle.tm_run.specs.Reading.{line_read, lines_of, run_from, run_of}
use Rattle.tm_run.specs.Written.{is_plain, is_wide, is_step, is_look, is_audit, is_take, is_written}
use Rattle.tm_run.proofs.TextLaws.{IsLine, end_line, free_by, line_from, no_line}
use Rattle.tm_run.proofs.StepLaws.{step_again}
use Rattle.tm_run.proofs.LineLaws.{take_first, take_again, look_words, look_line, look_again, audit_again}

-- what has been read
abbrev pub reading : List (Step × Reply) → List Take → Option Take → Reading
reading steps takes begun = record { steps = steps; takes = takes; begun = begun }

-- ---- one line more

same_line : (line : Text) → texts_equal line line ≡ true
same_line line = texts_same line line refl

pub step_reads : (steps : List (Step × Reply)) (count : ℕ) (pair : Step × Reply) → length steps ≡ count → is_wide (count + 1) ≡ true → is_step pair ≡ true
    → line_read (reading steps [] None) (step_line (count + 1) pair) ≡ Some (reading (steps ++ pair ∷ []) [] None)
unfolding line_read
step_reads steps count pair c h k = let l = step_again (count + 1) pair.0 pair.1 h k in rw (l.line.found, l.reads, c, h, same_line (step_line (count + 1) pair)) refl

-- what a take that can be written has
pub record TakeParts (t : Take) : Type 0 where
  pub pid : is_plain t.pid ≡ true
  pub before : is_plain t.before ≡ true
  pub after : is_plain t.after ≡ true
  pub looks : list_all is_look t.looks ≡ true
  pub audit : is_audit t.audit ≡ true

pub take_parts : (t : Take) → is_take t ≡ true → TakeParts t
take_parts t h =
    let a = both (is_plain t.pid && is_plain t.before && is_plain t.after && list_all is_look t.looks) (is_audit t.audit) h in
    let b = both (is_plain t.pid && is_plain t.before && is_plain t.after) (list_all is_look t.looks) a.0 in
    let c = both (is_plain t.pid && is_plain t.before) (is_plain t.after) b.0 in
    let d = both (is_plain t.pid) (is_plain t.before) c.0 in
    record { pid = d.0; before = d.1; after = c.1; looks = b.1; audit = a.1 }

-- a take with these looks, before its audit line
abbrev pub looked : Take → List Look → Take
looked t looks = record { pid = t.pid; before = t.before; after = t.after; granted = t.granted; looks = looks; audit = None }

pub take_reads : (steps : List (Step × Reply)) (takes : List Take) (count : ℕ) (t : Take) → length takes ≡ count → is_wide (count + 1) ≡ true → is_plain t.pid ≡ true → is_plain t.before ≡ true → is_plain t.after ≡ true
    → line_read (reading steps takes None) (take_line (count + 1) t) ≡ Some (reading steps takes (Some (looked t [])))
unfolding line_read
take_reads steps takes count t c h a b d =
    let l = take_first (count + 1) t h a b d in
    rw (l.found, take_again (count + 1) t a b d, c, h, same_line (take_line (count + 1) t)) refl

pub look_reads : (steps : List (Step × Reply)) (takes : List Take) (t : Take) (looks : List Look) (look : Look) → is_look look ≡ true
    → line_read (reading steps takes (Some (looked t looks))) (look_text look) ≡ Some (reading steps takes (Some (looked t (looks ++ look ∷ []))))
unfolding line_read look_words
look_reads steps takes t looks look h = let l = look_line look h in rw (l.found, look_again look h, same_line (look_text look)) refl

abbrev pub audited : Take → List Look → Option Text → Take
audited t looks audit = record { pid = t.pid; before = t.before; after = t.after; granted = t.granted; looks = looks; audit = audit }

pub audit_reads : (steps : List (Step × Reply)) (takes : List Take) (t : Take) (looks : List Look) (audit : Option Text) → is_audit audit ≡ true
    → line_read (reading steps takes (Some (looked t looks))) (audit_line audit) ≡ Some (reading steps (takes ++ audited t looks audit ∷ []) None)
unfolding line_read
audit_reads steps takes t looks audit h = let l = audit_again audit h in rw (l.line.found, l.reads, same_line (audit_line audit)) refl

-- ---- all lines

-- from here on the rest is read as the run, whatever number its first line has
abbrev pub Reads : Reading → Text → Run → Type 0
Reads r rest run = (number : ℕ) → run_from number r (lines_of rest) ≡ Ok run

one_line : (r next : Reading) (line rest : Text) (run : Run) → IsLine line → line_read r line ≡ Some next → Reads next rest run → Reads r (line ++ rest) run
one_line r next line rest run h e more number = rw (h rest, e) (more (number + 1))

steps_read : (steps done : List (Step × Reply)) (count : ℕ) (rest : Text) (run : Run) → length done ≡ count → is_wide (count + length steps) ≡ true → list_all is_step steps ≡ true
    → Reads (reading (done ++ steps) [] None) rest run → Reads (reading done [] None) (steps_text count steps ++ rest) run
steps_read [] done count rest run c h k more = subst (λ (ps : List (Step × Reply)). Reads (reading ps [] None) rest run) (append-nil done) more
steps_read (pair ∷ steps) done count rest run c h k more =
    let t = both (is_step pair) (list_all is_step steps) k in
    let below : count + suc (length steps) < 2 ^ 64 = ltb-true _ _ h in
    let here : is_wide (count + 1) ≡ true = lt-ltb _ _ (omega (arith, below)) in
    let others : is_wide (count + 1 + length steps) ≡ true = lt-ltb _ _ (omega (arith, below)) in
    let longer : length (done ++ pair ∷ []) ≡ count + 1 = simp length-append (omega (arith, c)) in
    let next = subst (λ (ps : List (Step × Reply)). Reads (reading ps [] None) rest run) (sym (append_assoc done (pair ∷ []) steps)) more in
    let l = step_again (count + 1) pair.0 pair.1 here t.0 in
    subst (λ (text : Text). Reads (reading done [] None) text run) (sym (append_assoc (step_line (count + 1) pair) (steps_text (count + 1) steps) rest))
    (one_line (reading done [] None) (reading (done ++ pair ∷ []) [] None) (step_line (count + 1) pair) (steps_text (count + 1) steps ++ rest) run l.line.ends (step_reads done count pair c here t.0)
    (steps_read steps (done ++ pair ∷ []) (count + 1) rest run longer others t.1 next))

looks_read : (looks done : List Look) (steps : List (Step × Reply)) (takes : List Take) (t : Take) (rest : Text) (run : Run) → list_all is_look looks ≡ true
    → Reads (reading steps takes (Some (looked t (done ++ looks)))) rest run → Reads (reading steps takes (Some (looked t done))) (flat_map look_text looks ++ rest) run
looks_read [] done steps takes t rest run h more = subst (λ (ls : List Look). Reads (reading steps takes (Some (looked t ls))) rest run) (append-nil done) more
looks_read (look ∷ looks) done steps takes t rest run h more =
    let p = both (is_look look) (list_all is_look looks) h in
    let next = subst (λ (ls : List Look). Reads (reading steps takes (Some (looked t ls))) rest run) (sym (append_assoc done (look ∷ []) looks)) more in
    subst (λ (text : Text). Reads (reading steps takes (Some (looked t done))) text run) (sym (append_assoc (look_text look) (flat_map look_text looks) rest))
    (one_line (reading steps takes (Some (looked t done))) (reading steps takes (Some (looked t (done ++ look ∷ [])))) (look_text look) (flat_map look_text looks ++ rest) run (look_line look p.0).ends (look_reads steps takes t done look p.0)
    (looks_read looks (done ++ look ∷ []) steps takes t rest run p.1 next))

regroup : (a b c d : Text) → a ++ b ++ c ++ d ≡ a ++ (b ++ (c ++ d))
regroup a b c d = simp append_assoc

take_read : (steps : List (Step × Reply)) (takes : List Take) (count : ℕ) (t : Take) (rest : Text) (run : Run) → length takes ≡ count → is_wide (count + 1) ≡ true → is_take t ≡ true
    → Reads (reading steps (takes ++ t ∷ []) None) rest run → Reads (reading steps takes None) (take_text (count + 1) t ++ rest) run
take_read steps takes count t rest run c h k more =
    let p = take_parts t k in
    let first = take_line (count + 1) t in
    let looks = flat_map look_text t.looks in
    let audit = audit_line t.audit in
    let text : take_text (count + 1) t ++ rest ≡ first ++ (looks ++ (audit ++ rest)) = regroup first looks audit rest in
    let ended = one_line (reading steps takes (Some (looked t t.looks))) (reading steps (takes ++ t ∷ []) None) audit rest run (audit_again t.audit p.audit).line.ends (audit_reads steps takes t t.looks t.audit p.audit) more in
    let seen = looks_read t.looks [] steps takes t (audit ++ rest) run p.looks ended in
    subst (λ (x : Text). Reads (reading steps takes None) x run) (sym text)
    (one_line (reading steps takes None) (reading steps takes (Some (looked t []))) first (looks ++ (audit ++ rest)) run (take_first (count + 1) t h p.pid p.before p.after).ends (take_reads steps takes count t c h p.pid p.before p.after) seen)

takes_read : (takes done : List Take) (count : ℕ) (steps : List (Step × Reply)) (rest : Text) (run : Run) → length done ≡ count → is_wide (count + length takes) ≡ true → list_all is_take takes ≡ true
    → Reads (reading steps (done ++ takes) None) rest run → Reads (reading steps done None) (takes_text count takes ++ rest) run
takes_read [] done count steps rest run c h k more = subst (λ (ts : List Take). Reads (reading steps ts None) rest run) (append-nil done) more
takes_read (t ∷ takes) done count steps rest run c h k more =
    let p = both (is_take t) (list_all is_take takes) k in
    let below : count + suc (length takes) < 2 ^ 64 = ltb-true _ _ h in
    let here : is_wide (count + 1) ≡ true = lt-ltb _ _ (omega (arith, below)) in
    let others : is_wide (count + 1 + length takes) ≡ true = lt-ltb _ _ (omega (arith, below)) in
    let longer : length (done ++ t ∷ []) ≡ count + 1 = simp length-append (omega (arith, c)) in
    let next = subst (λ (ts : List Take). Reads (reading steps ts None) rest run) (sym (append_assoc done (t ∷ []) takes)) more in
    subst (λ (text : Text). Reads (reading steps done None) text run) (sym (append_assoc (take_text (count + 1) t) (takes_text (count + 1) takes) rest))
    (take_read steps done count t (takes_text (count + 1) takes ++ rest) run c here p.0 (takes_read takes (done ++ t ∷ []) (count + 1) steps rest run longer others p.1 next))

-- ---- the run

pub first_line : IsLine (codes "run 1\n")
first_line = line_from (codes "run 1") (10 ∷ []) (free_by 10 (codes "run 1") refl) end_line

pub run_text_is : (run : Run) → run_text run ≡ codes "run 1\n" ++ (steps_text 0 run.steps ++ takes_text 0 run.takes)
unfolding run_text
run_text_is run = append_assoc (codes "run 1\n") (steps_text 0 run.steps) (takes_text 0 run.takes)

-- what a run that can be written has
pub record RunParts (run : Run) : Type 0 where
  pub count : is_wide (length run.steps) ≡ true
  pub steps : list_all is_step run.steps ≡ true
  pub takes_count : is_wide (length run.takes) ≡ true
  pub takes : list_all is_take run.takes ≡ true

pub run_parts : (run : Run) → is_written run ≡ true → RunParts run
unfolding is_written
run_parts run h =
    let a = both (is_wide (length run.steps) && list_all is_step run.steps && is_wide (length run.takes)) (list_all is_take run.takes) h in
    let b = both (is_wide (length run.steps) && list_all is_step run.steps) (is_wide (length run.takes)) a.0 in
    let c = both (is_wide (length run.steps)) (list_all is_step run.steps) b.0 in
    record { count = c.0; steps = c.1; takes_count = b.1; takes = a.1 }

at_end : (run : Run) → Reads (reading run.steps run.takes None) [] run
at_end run number = rw no_line refl

from_zero : (n : ℕ) → is_wide n ≡ true → is_wide (0 + n) ≡ true
from_zero n h = let same : n ≡ 0 + n = omega arith in subst (λ (m : ℕ). is_wide m ≡ true) same h

pub run_again : (run : Run) → is_written run ≡ true → run_of (run_text run) ≡ Ok run
unfolding run_of
run_again run h =
    let p = run_parts run h in
    let rest = steps_text 0 run.steps ++ takes_text 0 run.takes in
    let takes = takes_read run.takes [] 0 run.steps [] run refl (from_zero (length run.takes) p.takes_count) p.takes (at_end run) in
    let takes_alone = subst (λ (text : Text). Reads (reading run.steps [] None) text run) (append-nil (takes_text 0 run.takes)) takes in
    let steps = steps_read run.steps [] 0 (takes_text 0 run.takes) run refl (from_zero (length run.steps) p.count) p.steps takes_alone in
    rw (run_text_is run, first_line rest) (steps 2)
