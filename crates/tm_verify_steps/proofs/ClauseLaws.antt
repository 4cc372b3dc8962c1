-- The clauses in their order, by what was noted.
use Rattle.std.proofs.Common.{◌≡◌, ◌≤◌, ◌<◌, ◌+◌, ℕ, zero, suc, Bool, true, false, List, [], ◌∷◌, length, map, Option, Some, None, refl, sym, ap, ◌∙◌, subst, arith, inl, inr, ◌⊎◌}
use Rattle.std.specs.Prelude.{◌↔◌}
use Rattle.std.specs.List.{AllByRecursion}
use Rattle.std.proofs.lemmas.Bool.{cases_lt}
use Rattle.tm_rules.specs.Types.{Run, Take}
use Rattle.tm_legal.specs.Prelude.{Case, Legal, LooksRise, Scene, TakeHears, TakeHolds, TakesInOrder, all_do_pids, cases_of}
use Rattle.tm_legal.proofs.Legality.{cases_take}
use Rattle.tm_verify_laws.specs.First.{FirstFails, first_failing, AllAfter}
use Rattle.tm_verify_laws.specs.Desk.{DeskHolds, DeskFails}
use Rattle.tm_verify_laws.specs.Placed.{IsPlaced, NoLineMissing, PlacesFail}
use Rattle.tm_verify_laws.specs.Broken.{TakeRises, TakeOwns, TakeEnds, Clause, Breaks, IsFirstBroken}
use Rattle.tm_verify_laws.specs.Scans.{pairs_fault, do_rise}
use Rattle.tm_verify_laws.specs.declared.broken.Broken.{Broken}
use Rattle.tm_verify_laws.proofs.FirstLaws.{scan_all, scan_fails}
use Rattle.tm_verify_laws.proofs.Stays.{ends_are_of_trees}
use Rattle.tm_verify_laws.proofs.DeskActs.{hold_acts}
use Rattle.tm_verify_laws.proofs.PlacedLaws.{placed_places}
use Rattle.tm_verify_laws.proofs.TakeLaws.{own_are_steps, pairs_decide, rise_is, is_rise}
use Rattle.tm_verify_notes.specs.declared.given.Given.{Given}
use Rattle.tm_verify_notes.specs.declared.sums.Flag.{Flag}
use Rattle.tm_verify_notes.specs.declared.sums.TakeNote.{TakeNote}
use Rattle.tm_verify_notes.specs.Given.{scene_of, history_of, run_of}
use Rattle.tm_take.specs.Each.{EachWith}
use Rattle.tm_verify_notes.specs.Noting.{IsTakeNote}
use Rattle.tm_verify_notes.specs.Sums.{flag}
use Rattle.tm_verify_notes.proofs.EachLaws.{each_as, each_none, each_some}
use Rattle.tm_verify_steps.specs.Clauses.{HoldBelow, IsJudged, NotesTakes}

-- one clause more
next_below : (given : Given) (n : ℕ) → HoldBelow given n → Clause n (scene_of given) (run_of given) → HoldBelow given (suc n)
next_below given n h c = record { each = λ clause lt. go clause lt (cases_lt clause n) }
  where
    go : (clause : ℕ) → clause < suc n → (clause < n) ⊎ (n ≤ clause) → Clause clause (scene_of given) (run_of given)
    go clause lt (inl less) = h.each clause less
    go clause lt (inr le) = let same : n ≡ clause = omega (arith, lt, le) in subst (λ m. Clause m (scene_of given) (run_of given)) same c

abbrev broken_at : ℕ → ℕ → Broken
broken_at clause place = record { clause = clause; place = place }

breaks_here : (given : Given) (n place : ℕ) → HoldBelow given n → Breaks n (scene_of given) (run_of given) place → IsFirstBroken (scene_of given) (run_of given) (broken_at n place)
breaks_here given n place h b = record { earlier = h.each; breaks = b }

-- nothing is below the first clause
none_below : (given : Given) → HoldBelow given 1
none_below given = record { each = λ clause lt. go clause lt }
  where
    go : (clause : ℕ) → clause < 1 → Clause clause (scene_of given) (run_of given)
    go zero lt = tt
    go (suc n) lt = absurd (omega (arith, lt))

-- ---- 1: takes and `do` lines

pub pairs_broken : (given : Given) (pids : List ℕ) (place : ℕ) → pids ≡ all_do_pids given.trace.now → pairs_fault 1 given.takes.now pids ≡ Some place
    → IsFirstBroken (scene_of given) (run_of given) (broken_at 1 place)
pairs_broken given pids place p e =
    breaks_here given 1 place (none_below given) ((pairs_decide given.takes.now (all_do_pids given.trace.now)).1 place (ap (pairs_fault 1 given.takes.now) (sym p) ∙ e))

pub pairs_hold : (given : Given) (pids : List ℕ) → pids ≡ all_do_pids given.trace.now → pairs_fault 1 given.takes.now pids ≡ None → HoldBelow given 2
pairs_hold given pids p e =
    let order = (pairs_decide given.takes.now (all_do_pids given.trace.now)).0.0 (ap (pairs_fault 1 given.takes.now) (sym p) ∙ e) in
    next_below given 1 (none_below given) (record { pids = order.0; looks = order.1 })

-- ---- 2: versions

abbrev rises : Given → Case → Bool
rises given c = do_rise (length (history_of given)) c.now.floor c.taken.looks

pub rise_broken : (given : Given) (cs : List Case) (place : ℕ) → HoldBelow given 2 → cs ≡ cases_of (scene_of given) (run_of given)
    → first_failing (λ (c : Case). do_rise (length (history_of given)) c.now.floor c.taken.looks) 1 cs ≡ Some place → IsFirstBroken (scene_of given) (run_of given) (broken_at 2 place)
rise_broken given cs place h c e =
    breaks_here given 2 place h
    (scan_fails (TakeRises (run_of given)) (rises given) (λ x. rise_is (history_of given) x.now.floor x.taken.looks) (λ x. is_rise (history_of given) x.now.floor x.taken.looks) 1 (cases_of (scene_of given) (run_of given)) place (ap (first_failing (rises given) 1) (sym c) ∙ e))

pub rise_holds : (given : Given) (cs : List Case) → HoldBelow given 2 → cs ≡ cases_of (scene_of given) (run_of given)
    → first_failing (λ (c : Case). do_rise (length (history_of given)) c.now.floor c.taken.looks) 1 cs ≡ None → HoldBelow given 3
rise_holds given cs h c e =
    next_below given 2 h (scan_all (TakeRises (run_of given)) (rises given) (λ x. rise_is (history_of given) x.now.floor x.taken.looks) 1 (cases_of (scene_of given) (run_of given)) (ap (first_failing (rises given) 1) (sym c) ∙ e))

-- ---- 3, 4, 8: takes by their notes

pub holds_broken : (given : Given) (notes : List TakeNote) (place : ℕ) → HoldBelow given 3 → NotesTakes given notes → first_failing (flag Flag.Holds) 1 notes ≡ Some place → IsFirstBroken (scene_of given) (run_of given) (broken_at 3 place)
holds_broken given notes place h n e =
    breaks_here given 3 place h
    (each_some (TakeHolds (scene_of given) (history_of given)) (flag Flag.Holds) 1 (cases_of (scene_of given) (run_of given)) notes place
    (each_as (IsTakeNote (scene_of given) (history_of given)) (λ c x. (flag Flag.Holds x ≡ true) ↔ TakeHolds (scene_of given) (history_of given) c) (λ c x t. t.holds) (cases_of (scene_of given) (run_of given)) notes n) e)

pub holds_hold : (given : Given) (notes : List TakeNote) → HoldBelow given 3 → NotesTakes given notes → first_failing (flag Flag.Holds) 1 notes ≡ None → HoldBelow given 4
holds_hold given notes h n e =
    next_below given 3 h
    (each_none (TakeHolds (scene_of given) (history_of given)) (flag Flag.Holds) 1 (cases_of (scene_of given) (run_of given)) notes
    (each_as (IsTakeNote (scene_of given) (history_of given)) (λ c x. (flag Flag.Holds x ≡ true) ↔ TakeHolds (scene_of given) (history_of given) c) (λ c x t. t.holds) (cases_of (scene_of given) (run_of given)) notes n) e)

pub owns_broken : (given : Given) (notes : List TakeNote) (place : ℕ) → HoldBelow given 4 → NotesTakes given notes → first_failing (flag Flag.Owns) 1 notes ≡ Some place → IsFirstBroken (scene_of given) (run_of given) (broken_at 4 place)
owns_broken given notes place h n e =
    breaks_here given 4 place h
    (each_some (TakeOwns (scene_of given) (run_of given)) (flag Flag.Owns) 1 (cases_of (scene_of given) (run_of given)) notes place
    (each_as (IsTakeNote (scene_of given) (history_of given)) (λ c x. (flag Flag.Owns x ≡ true) ↔ TakeOwns (scene_of given) (run_of given) c) (λ c x t. t.owns) (cases_of (scene_of given) (run_of given)) notes n) e)

pub owns_hold : (given : Given) (notes : List TakeNote) → HoldBelow given 4 → NotesTakes given notes → first_failing (flag Flag.Owns) 1 notes ≡ None → HoldBelow given 5
owns_hold given notes h n e =
    next_below given 4 h
    (each_none (TakeOwns (scene_of given) (run_of given)) (flag Flag.Owns) 1 (cases_of (scene_of given) (run_of given)) notes
    (each_as (IsTakeNote (scene_of given) (history_of given)) (λ c x. (flag Flag.Owns x ≡ true) ↔ TakeOwns (scene_of given) (run_of given) c) (λ c x t. t.owns) (cases_of (scene_of given) (run_of given)) notes n) e)

-- ---- 5: places of steps

pub places_broken : (given : Given) (place : ℕ) → HoldBelow given 5 → PlacesFail (scene_of given) (run_of given) place → IsFirstBroken (scene_of given) (run_of given) (broken_at 5 place)
places_broken given place h f = breaks_here given 5 place h f

pub places_hold : (given : Given) → HoldBelow given 5 → AllAfter (IsPlaced (scene_of given) (run_of given)) [] (history_of given) × NoLineMissing (scene_of given) (history_of given) → HoldBelow given 6
places_hold given h p =
    let own = own_are_steps (scene_of given) (run_of given) (h.each 1 (omega arith)) (h.each 3 (omega arith)) (h.each 4 (omega arith)) in
    next_below given 5 h (placed_places (scene_of given) (run_of given) own p.0 p.1)

-- ---- 6: the supervisor

pub desk_broken : (given : Given) (place : ℕ) → HoldBelow given 6 → DeskFails (scene_of given) (run_of given) place → IsFirstBroken (scene_of given) (run_of given) (broken_at 6 place)
desk_broken given place h f = breaks_here given 6 place h f

pub desk_holds : (given : Given) → HoldBelow given 6 → DeskHolds (scene_of given) (run_of given) → HoldBelow given 7
desk_holds given h d =
    let placed = h.each 5 (omega arith) in
    next_below given 6 h (hold_acts (scene_of given) (run_of given) (ends_are_of_trees (scene_of given) (history_of given) placed.replies) d)

-- ---- 7: answers

fails_mapped : {A B : Type 0} (f : A → B) (P : B → Type 0) (n : ℕ) (xs : List A) (k : ℕ) → FirstFails (λ x. P (f x)) n xs k → FirstFails P n (map f xs) k
fails_mapped f P n [] k h = h
fails_mapped f P n (x ∷ xs) k (inl here) = inl here
fails_mapped f P n (x ∷ xs) k (inr later) = inr (later.0, fails_mapped f P (suc n) xs k later.1)

all_mapped : {A B : Type 0} (f : A → B) (P : B → Type 0) (xs : List A) → AllByRecursion (λ x. P (f x)) xs → AllByRecursion P (map f xs)
all_mapped f P [] h = tt
all_mapped f P (x ∷ xs) h = (h.0, all_mapped f P xs h.1)

abbrev taken_of : Case → Take
taken_of c = c.taken

abbrev Hears : Given → Take → Type 0
Hears given t = TakeHears (scene_of given) (history_of given) t

pub hears_broken : (given : Given) (notes : List TakeNote) (place : ℕ) → HoldBelow given 7 → NotesTakes given notes → first_failing (flag Flag.Hears) 1 notes ≡ Some place → IsFirstBroken (scene_of given) (run_of given) (broken_at 7 place)
hears_broken given notes place h n e =
    breaks_here given 7 place h
    (subst (λ ts. FirstFails (Hears given) 1 ts place) (cases_take (scene_of given) (run_of given) (h.each 1 (omega arith)))
    (fails_mapped taken_of (Hears given) 1 (cases_of (scene_of given) (run_of given)) place
    (each_some (λ c. Hears given c.taken) (flag Flag.Hears) 1 (cases_of (scene_of given) (run_of given)) notes place
    (each_as (IsTakeNote (scene_of given) (history_of given)) (λ c x. (flag Flag.Hears x ≡ true) ↔ Hears given c.taken) (λ c x t. t.hears) (cases_of (scene_of given) (run_of given)) notes n) e)))

pub hears_hold : (given : Given) (notes : List TakeNote) → HoldBelow given 7 → NotesTakes given notes → first_failing (flag Flag.Hears) 1 notes ≡ None → HoldBelow given 8
hears_hold given notes h n e =
    next_below given 7 h
    (subst (λ ts. AllByRecursion (Hears given) ts) (cases_take (scene_of given) (run_of given) (h.each 1 (omega arith)))
    (all_mapped taken_of (Hears given) (cases_of (scene_of given) (run_of given))
    (each_none (λ c. Hears given c.taken) (flag Flag.Hears) 1 (cases_of (scene_of given) (run_of given)) notes
    (each_as (IsTakeNote (scene_of given) (history_of given)) (λ c x. (flag Flag.Hears x ≡ true) ↔ Hears given c.taken) (λ c x t. t.hears) (cases_of (scene_of given) (run_of given)) notes n) e)))

-- ---- 8: outcomes

pub ends_broken : (given : Given) (notes : List TakeNote) (place : ℕ) → HoldBelow given 8 → NotesTakes given notes → first_failing (flag Flag.Ends) 1 notes ≡ Some place → IsFirstBroken (scene_of given) (run_of given) (broken_at 8 place)
ends_broken given notes place h n e =
    breaks_here given 8 place h
    (each_some (TakeEnds (scene_of given) (run_of given)) (flag Flag.Ends) 1 (cases_of (scene_of given) (run_of given)) notes place
    (each_as (IsTakeNote (scene_of given) (history_of given)) (λ c x. (flag Flag.Ends x ≡ true) ↔ TakeEnds (scene_of given) (run_of given) c) (λ c x t. t.ends) (cases_of (scene_of given) (run_of given)) notes n) e)

pub all_hold : (given : Given) (notes : List TakeNote) → HoldBelow given 8 → NotesTakes given notes → first_failing (flag Flag.Ends) 1 notes ≡ None → Legal (scene_of given) (run_of given)
all_hold given notes h n e =
    record {
      takes = h.each 1 (omega arith);
      versions = h.each 2 (omega arith);
      verdicts = h.each 3 (omega arith);
      own_steps = h.each 4 (omega arith);
      places = h.each 5 (omega arith);
      supervisor = h.each 6 (omega arith);
      answers = h.each 7 (omega arith);
      outcomes = each_none (TakeEnds (scene_of given) (run_of given)) (flag Flag.Ends) 1 (cases_of (scene_of given) (run_of given)) notes
          (each_as (IsTakeNote (scene_of given) (history_of given)) (λ c x. (flag Flag.Ends x ≡ true) ↔ TakeEnds (scene_of given) (run_of given) c) (λ c x t. t.ends) (cases_of (scene_of given) (run_of given)) notes n) e;
    }
