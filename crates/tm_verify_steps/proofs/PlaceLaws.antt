-- Steps that have their places.
use Rattle.std.proofs.Common.{◌≡◌, ◌≤◌, ◌<◌, ◌+◌, ℕ, zero, suc, Bool, true, false, List, [], ◌∷◌, ◌++◌, length, take, drop, Option, Some, None, refl, sym, ap, ◌∙◌, subst, arith, inl, inr}
use Rattle.std.specs.Prelude.{MatchOption, slice_get, slice_index_or, if◌then◌else◌, ◌↔◌, ◌⊎◌, get_or}
use Rattle.std.proofs.lemmas.List.{take_more, append-nil, append_assoc}
use Rattle.std.proofs.lemmas.Option.{slice_get_within, get_or_from_slice_get}
use Rattle.tm_rules.specs.Types.{Reply, Run, Step}
use Rattle.tm_legal.specs.Prelude.{History, Scene, is_own, own_numbers, times, times_owned}
use Rattle.tm_verify_laws.specs.First.{AllAfter, FirstFailsAfter, first_failing_after}
use Rattle.tm_verify_laws.specs.Placed.{IsNextLine, IsPlaced, NoLineMissing, PlacesFail}
use Rattle.tm_verify_notes.specs.declared.given.Given.{Given}
use Rattle.tm_verify_notes.specs.declared.steps.StepNote.{StepNote}
use Rattle.tm_verify_notes.specs.Given.{scene_of, history_of, run_of}
use Rattle.tm_verify_notes.specs.Stepping.{IsStepNote, AreNoted}
use Rattle.tm_verify_steps.specs.Counting.{capped, owned_counts}
use Rattle.tm_verify_steps.specs.Lines.{HasHad, IsInPlace, IsDue, had_after, have_all}
use Rattle.tm_verify_steps.proofs.CountLaws.{owned_at, capped_is, is_capped}
use Rattle.tm_verify_steps.proofs.LineLaws.{had_more, is_next, lines_there, lines_all}

-- ---- lists that are gone over by places

-- what holds of the rest, after these before it, holds of the whole; and where it fails first, the
-- whole does
pub record LeadsOn {A : Type 0} (P : List A → A → Type 0) (before rest whole : List A) : Type 0 where
  pub all : AllAfter P before rest → AllAfter P [] whole
  pub fails : (k : ℕ) → FirstFailsAfter P before rest k → FirstFailsAfter P [] whole k

pub cut_here : {A : Type 0} (xs : List A) (k : ℕ) (x : A) → slice_get xs k ≡ Some x → drop k xs ≡ x ∷ drop (suc k) xs
cut_here [] k x e = absurd cc
cut_here (y ∷ xs) zero x e = let same : y ≡ x = cc in ap (λ z. z ∷ xs) same
cut_here (y ∷ xs) (suc k) x e = cut_here xs k x e

pub front_here : {A : Type 0} (xs : List A) (k : ℕ) (x : A) → slice_get xs k ≡ Some x → take (suc k) xs ≡ take k xs ++ x ∷ []
front_here [] k x e = absurd cc
front_here (y ∷ xs) zero x e = let same : y ≡ x = cc in ap (λ z. z ∷ []) same
front_here (y ∷ xs) (suc k) x e = ap (λ ys. y ∷ ys) (front_here xs k x e)

pub long_here : {A : Type 0} (xs : List A) (k : ℕ) (x : A) → slice_get xs k ≡ Some x → length (take k xs) ≡ k
long_here [] k x e = absurd cc
long_here (y ∷ xs) zero x e = refl
long_here (y ∷ xs) (suc k) x e = ap suc (long_here xs k x e)

-- an element of a list that is gone over
pub here_at : {A : Type 0} (xs : List A) (k : ℕ) (x : A) → k < length xs → x ≡ get_or xs k x → slice_get xs k ≡ Some x
here_at [] k x lt is = absurd (omega (arith, lt))
here_at (y ∷ ys) zero x lt is = ap (λ z. Some z) (sym is)
here_at (y ∷ ys) (suc k) x lt is = here_at ys k x (omega (arith, lt)) is

-- past the end nothing is left
pub none_left : {A : Type 0} (xs : List A) (k : ℕ) → length xs ≤ k → drop k xs ≡ []
none_left [] zero h = refl
none_left [] (suc k) h = refl
none_left (x ∷ xs) zero h = absurd (omega (arith, h))
none_left (x ∷ xs) (suc k) h = none_left xs k (omega (arith, h))

-- ---- scans that go on

leads_next : {A : Type 0} (P : List A → A → Type 0) (before rest whole : List A) (x : A) → LeadsOn P before (x ∷ rest) whole → P before x → LeadsOn P (before ++ x ∷ []) rest whole
leads_next P before rest whole x h p = record { all = λ a. h.all (p, a); fails = λ k f. h.fails k (inr (p, f)) }

pub leads_more : {A : Type 0} (P : List A → A → Type 0) (xs : List A) (k : ℕ) (x : A) → slice_get xs k ≡ Some x → LeadsOn P (take k xs) (drop k xs) xs → P (take k xs) x → LeadsOn P (take (suc k) xs) (drop (suc k) xs) xs
leads_more P xs k x at h p =
    subst (λ front. LeadsOn P front (drop (suc k) xs) xs) (sym (front_here xs k x at))
    (leads_next P (take k xs) (drop (suc k) xs) xs x (subst (λ rest. LeadsOn P (take k xs) rest xs) (cut_here xs k x at) h) p)

pub leads_fails : {A : Type 0} (P : List A → A → Type 0) (xs : List A) (k : ℕ) (x : A) → slice_get xs k ≡ Some x → LeadsOn P (take k xs) (drop k xs) xs → ¬ P (take k xs) x → FirstFailsAfter P [] xs (suc k)
leads_fails P xs k x at h fails =
    let here = subst (λ rest. LeadsOn P (take k xs) rest xs) (cut_here xs k x at) h in
    here.fails (suc k) (inl (ap suc (sym (long_here xs k x at)), fails))

-- the same of tests
pub scan_more : {A : Type 0} (test : List A → A → Bool) (xs : List A) (k : ℕ) (x : A) → slice_get xs k ≡ Some x → test (take k xs) x ≡ true
    → first_failing_after test (take (suc k) xs) (drop (suc k) xs) ≡ first_failing_after test (take k xs) (drop k xs)
scan_more test xs k x at is =
    let here : first_failing_after test (take k xs) (x ∷ drop (suc k) xs) ≡ first_failing_after test (take k xs ++ x ∷ []) (drop (suc k) xs) = rw is refl in
    ap (λ front. first_failing_after test front (drop (suc k) xs)) (front_here xs k x at) ∙ sym here ∙ ap (first_failing_after test (take k xs)) (sym (cut_here xs k x at))

pub scan_stops : {A : Type 0} (test : List A → A → Bool) (xs : List A) (k : ℕ) (x : A) → slice_get xs k ≡ Some x → test (take k xs) x ≡ false
    → first_failing_after test (take k xs) (drop k xs) ≡ Some (suc k)
scan_stops test xs k x at is =
    let here : first_failing_after test (take k xs) (x ∷ drop (suc k) xs) ≡ Some (suc (length (take k xs))) = rw is refl in
    ap (first_failing_after test (take k xs)) (cut_here xs k x at) ∙ here ∙ ap (λ n. Some (suc n)) (long_here xs k x at)

-- ---- one step

-- what was noted of a step at its place
pub noted_at : (scene : Scene) (before pairs : History) (notes : List StepNote) (k : ℕ) (pair : Step × Reply) (note : StepNote) → AreNoted scene before pairs notes
    → slice_get pairs k ≡ Some pair → slice_get notes k ≡ Some note → IsStepNote scene (before ++ take k pairs) pair note
noted_at scene before [] notes k pair note h e f = absurd cc
noted_at scene before (p ∷ pairs) [] k pair note h e f = absurd h
noted_at scene before (p ∷ pairs) (n ∷ notes) zero pair note h e f =
    let ep : p ≡ pair = cc in
    let en : n ≡ note = cc in
    subst (λ q. IsStepNote scene (before ++ []) q note) ep (subst (λ m. IsStepNote scene (before ++ []) p m) en (subst (λ bs. IsStepNote scene bs p n) (sym (append-nil before)) h.0))
noted_at scene before (p ∷ pairs) (n ∷ notes) (suc k) pair note h e f =
    subst (λ bs. IsStepNote scene bs pair note) (append_assoc before (p ∷ []) (take k pairs)) (noted_at scene (before ++ p ∷ []) pairs notes k pair note h.1 e f)

owned_few : (step : Step) → times_owned (Some step) ≤ 1
owned_few step = go (is_own step)
  where
    go : (b : Bool) → (if b then 1 else 0) ≤ 1
    go true = omega arith
    go false = omega arith

-- a step that is in place after these before it
in_place : (given : Given) (before : History) (pair : Step × Reply) (count : ℕ) (note : StepNote) (had : List ℕ) → HasHad (scene_of given) before had
    → count ≡ capped (times (suc (length before)) (own_numbers given.takes.now)) → IsStepNote (scene_of given) before pair note
    → IsInPlace given.editors.now count note.replied had pair.0 ↔ IsPlaced (scene_of given) (run_of given) before pair
in_place given before pair count note had h c n =
    let next = is_next (scene_of given) before had pair.0 h in
    let few = owned_few pair.0 in (
      λ p. record {
        own = capped_is (times (suc (length before)) (own_numbers given.takes.now)) (times_owned (Some pair.0)) few (sym c ∙ p.0);
        next = next.0 p.2;
        reply = n.replied.0 p.1;
      },
      λ p. (c ∙ is_capped (times (suc (length before)) (own_numbers given.takes.now)) (times_owned (Some pair.0)) few p.own, n.replied.1 p.reply, next.1 p.next),
    )

-- what is known where the steps are gone over
pub record IsUnderWay (given : Given) (k : ℕ) (had : List ℕ) : Type 0 where
  pub lines : HasHad (scene_of given) (take k (history_of given)) had
  pub leads : LeadsOn (IsPlaced (scene_of given) (run_of given)) (take k (history_of given)) (drop k (history_of given)) (history_of given)

at_step : (given : Given) (k : ℕ) (pair : Step × Reply) (count : ℕ) (note : StepNote) (counts had : List ℕ) (notes : List StepNote) → IsUnderWay given k had
    → AreNoted (scene_of given) [] (history_of given) notes → counts ≡ owned_counts given.takes.now (history_of given)
    → slice_get (history_of given) k ≡ Some pair → slice_get notes k ≡ Some note → slice_get counts k ≡ Some count
    → IsInPlace given.editors.now count note.replied had pair.0 ↔ IsPlaced (scene_of given) (run_of given) (take k (history_of given)) pair
at_step given k pair count note counts had notes way noted are at n c =
    let owned : slice_get counts k ≡ Some (capped (times (suc k) (own_numbers given.takes.now))) =
    ap (λ cs. slice_get cs k) are ∙ owned_at given.takes.now (history_of given) k (slice_get_within (history_of given) k pair at) in
    let same : count ≡ capped (times (suc k) (own_numbers given.takes.now)) = cc in
    let number : count ≡ capped (times (suc (length (take k (history_of given)))) (own_numbers given.takes.now)) = same ∙ ap (λ j. capped (times (suc j) (own_numbers given.takes.now))) (sym (long_here (history_of given) k pair at)) in
    in_place given (take k (history_of given)) pair count note had way.lines number (noted_at (scene_of given) [] (history_of given) notes k pair note noted at n)

-- one step more
pub step_placed : (given : Given) (k next : ℕ) (pair : Step × Reply) (count : ℕ) (note : StepNote) (counts had new : List ℕ) (notes : List StepNote) (b : Bool) → IsUnderWay given k had
    → AreNoted (scene_of given) [] (history_of given) notes → counts ≡ owned_counts given.takes.now (history_of given)
    → slice_get (history_of given) k ≡ Some pair → slice_get notes k ≡ Some note → slice_get counts k ≡ Some count
    → (b ≡ true) ↔ IsInPlace given.editors.now count note.replied had pair.0 → (b ≡ true → new ≡ had_after had pair.0)
    → b ≡ true → next ≡ k + 1 → IsUnderWay given next new
step_placed given k next pair count note counts had new notes b way noted are at n c right after passed number =
    let place : suc k ≡ next = omega (arith, number) in
    let both = at_step given k pair count note counts had notes way noted are at n c in
    let more : HasHad (scene_of given) (take (suc k) (history_of given)) (had_after had pair.0) =
    subst (λ hs. HasHad (scene_of given) hs (had_after had pair.0)) (sym (front_here (history_of given) k pair at)) (had_more (scene_of given) (take k (history_of given)) pair.0 pair.1 had way.lines) in
    let lead = leads_more (IsPlaced (scene_of given) (run_of given)) (history_of given) k pair at way.leads (both.0 (right.0 passed)) in
    subst (λ j. IsUnderWay given j new) place (record { lines = subst (λ hs. HasHad (scene_of given) (take (suc k) (history_of given)) hs) (sym (after passed)) more; leads = lead })

-- the first step that isn't placed
pub step_misplaced : (given : Given) (k number : ℕ) (pair : Step × Reply) (count : ℕ) (note : StepNote) (counts had : List ℕ) (notes : List StepNote) (b : Bool) → IsUnderWay given k had
    → AreNoted (scene_of given) [] (history_of given) notes → counts ≡ owned_counts given.takes.now (history_of given)
    → slice_get (history_of given) k ≡ Some pair → slice_get notes k ≡ Some note → slice_get counts k ≡ Some count
    → (b ≡ true) ↔ IsInPlace given.editors.now count note.replied had pair.0
    → b ≡ false → number ≡ k + 1 → FirstFailsAfter (IsPlaced (scene_of given) (run_of given)) [] (history_of given) number
step_misplaced given k number pair count note counts had notes b way noted are at n c right fails place =
    let next : suc k ≡ number = omega (arith, place) in
    let both = at_step given k pair count note counts had notes way noted are at n c in
    subst (λ j. FirstFailsAfter (IsPlaced (scene_of given) (run_of given)) [] (history_of given) j) next
    (leads_fails (IsPlaced (scene_of given) (run_of given)) (history_of given) k pair at way.leads (λ p. let yes : b ≡ true = right.1 (both.1 p) in absurd cc))

-- all is in place where no line is missing
pub all_in_place : (given : Given) (had : List ℕ) → AllAfter (IsPlaced (scene_of given) (run_of given)) [] (history_of given) → HasHad (scene_of given) (history_of given) had → have_all given.editors.now had ≡ true
    → AllAfter (IsPlaced (scene_of given) (run_of given)) [] (history_of given) × NoLineMissing (scene_of given) (history_of given)
all_in_place given had placed h all = (placed, lines_there (scene_of given) (run_of given) had h placed all)

pub lines_missing : (given : Given) (had : List ℕ) → AllAfter (IsPlaced (scene_of given) (run_of given)) [] (history_of given) → HasHad (scene_of given) (history_of given) had → have_all given.editors.now had ≡ false
    → PlacesFail (scene_of given) (run_of given) 0
lines_missing given had placed h less = inr (refl, placed, λ lines. let yes = lines_all (scene_of given) (history_of given) had h lines in absurd cc)

-- where all are placed, what is missing decides
pub lines_decide : (given : Given) (had : List ℕ) (fault : Option ℕ) → AllAfter (IsPlaced (scene_of given) (run_of given)) [] (history_of given) → HasHad (scene_of given) (history_of given) had
    → fault ≡ (if have_all given.editors.now had then None else Some 0)
    → MatchOption fault (AllAfter (IsPlaced (scene_of given) (run_of given)) [] (history_of given) × NoLineMissing (scene_of given) (history_of given)) (PlacesFail (scene_of given) (run_of given))
lines_decide given had fault placed h e = subst (λ o. MatchOption o (AllAfter (IsPlaced (scene_of given) (run_of given)) [] (history_of given) × NoLineMissing (scene_of given) (history_of given)) (PlacesFail (scene_of given) (run_of given))) (sym e) (go (have_all given.editors.now had) refl)
  where
    missing : Bool → Option ℕ
    missing b = if b then None else Some 0

    go : (b : Bool) → have_all given.editors.now had ≡ b → MatchOption (missing b) (AllAfter (IsPlaced (scene_of given) (run_of given)) [] (history_of given) × NoLineMissing (scene_of given) (history_of given)) (PlacesFail (scene_of given) (run_of given))
    go true is = all_in_place given had placed h is
    go false is = lines_missing given had placed h is
