-- A run of which a clause breaks first isn't legal, and there is one such clause and place.
use Rattle.std.proofs.Common.{◌≡◌, ◌≤◌, ◌<◌, ℕ, zero, suc, List, [], ◌∷◌, length, map, sym, ap, ◌∙◌, subst, arith, inl, inr, ◌⊎◌}
use Rattle.std.specs.List.{AllByRecursion}
use Rattle.std.proofs.lemmas.Bool.{cases_lt}
use Rattle.tm_rules.specs.Types.{Run, Take}
use Rattle.tm_legal.specs.Prelude.{Legal, Scene, StepsHavePlaces, SupervisorActs, TakeHears, TakeHolds, all_do_pids, cases_of}
use Rattle.tm_verify_laws.specs.Desk.{DeskFails}
use Rattle.tm_verify_laws.specs.Placed.{IsPlaced, PlacesFail}
use Rattle.tm_verify_laws.specs.Broken.{PairsFail, TakeRises, TakeOwns, TakeEnds, Clause, Breaks, IsFirstBroken}
use Rattle.tm_verify_laws.specs.declared.broken.Broken.{Broken}
use Rattle.tm_verify_laws.proofs.FirstLaws.{fails_not_all, fails_once, after_not_all, after_once}
use Rattle.tm_verify_laws.proofs.Stays.{ends_are_of_trees}
use Rattle.tm_verify_laws.proofs.DeskActs.{acts_hold, desk_not_both, desk_once}
use Rattle.tm_verify_laws.proofs.PlacedLaws.{placed_of, lines_of}

-- ---- takes and `do` lines

pub pairs_not_all : (n : ℕ) (takes : List Take) (pids : List ℕ) (k : ℕ) → PairsFail n takes pids k → map (λ (t : Take). t.pid) takes ≡ pids → AllByRecursion (λ (t : Take). 0 < length t.looks) takes → ⊥
pairs_not_all n [] [] k f e looks = f
pairs_not_all n (t ∷ takes) [] k f e looks = absurd cc
pairs_not_all n [] (pid ∷ pids) k f e looks = absurd cc
pairs_not_all n (t ∷ takes) (pid ∷ pids) k (inl here) e looks = here.1 (cc, looks.0)
pairs_not_all n (t ∷ takes) (pid ∷ pids) k (inr later) e looks = pairs_not_all (suc n) takes pids k later.1 (let same : map (λ (t : Take). t.pid) takes ≡ pids = cc in same) looks.1

pub pairs_once : (n : ℕ) (takes : List Take) (pids : List ℕ) (k m : ℕ) → PairsFail n takes pids k → PairsFail n takes pids m → k ≡ m
pairs_once n [] [] k m f g = absurd f
pairs_once n (t ∷ takes) [] k m f g = f ∙ sym g
pairs_once n [] (pid ∷ pids) k m f g = f ∙ sym g
pairs_once n (t ∷ takes) (pid ∷ pids) k m (inl here) (inl also) = here.0 ∙ sym also.0
pairs_once n (t ∷ takes) (pid ∷ pids) k m (inl here) (inr later) = absurd (here.1 later.0)
pairs_once n (t ∷ takes) (pid ∷ pids) k m (inr later) (inl here) = absurd (here.1 later.0)
pairs_once n (t ∷ takes) (pid ∷ pids) k m (inr later) (inr also) = pairs_once (suc n) takes pids k m later.1 also.1

-- ---- places of steps

places_fail_not : (scene : Scene) (run : Run) (k : ℕ) → PlacesFail scene run k → StepsHavePlaces scene run → ⊥
places_fail_not scene run k (inl f) h = after_not_all (IsPlaced scene run) [] run.steps k f (placed_of scene run h)
places_fail_not scene run k (inr missing) h = missing.2 (lines_of scene run h)

places_once : (scene : Scene) (run : Run) (k m : ℕ) → PlacesFail scene run k → PlacesFail scene run m → k ≡ m
places_once scene run k m (inl f) (inl g) = after_once (IsPlaced scene run) [] run.steps k m f g
places_once scene run k m (inl f) (inr missing) = absurd (after_not_all (IsPlaced scene run) [] run.steps k f missing.1)
places_once scene run k m (inr missing) (inl f) = absurd (after_not_all (IsPlaced scene run) [] run.steps m f missing.1)
places_once scene run k m (inr missing) (inr also) = missing.0 ∙ sym also.0

-- ---- the supervisor

desk_fails_not : (scene : Scene) (run : Run) (k : ℕ) → StepsHavePlaces scene run → DeskFails scene run k → SupervisorActs scene run → ⊥
desk_fails_not scene run k places f h = desk_not_both scene run k f (acts_hold scene run (ends_are_of_trees scene run.steps places.replies) h)

-- ---- one clause

-- where those before hold, a clause that breaks somewhere doesn't hold
breaks_not : (scene : Scene) (run : Run) (clause place : ℕ) → ((c : ℕ) → c < clause → Clause c scene run) → Breaks clause scene run place → Clause clause scene run → ⊥
breaks_not scene run zero k earlier b h = b
breaks_not scene run (suc zero) k earlier b h = pairs_not_all 1 run.takes (all_do_pids scene.trace) k b h.pids h.looks
breaks_not scene run (suc (suc zero)) k earlier b h = fails_not_all (TakeRises run) 1 (cases_of scene run) k b h
breaks_not scene run (suc (suc (suc zero))) k earlier b h = fails_not_all (TakeHolds scene run.steps) 1 (cases_of scene run) k b h
breaks_not scene run (suc (suc (suc (suc zero)))) k earlier b h = fails_not_all (TakeOwns scene run) 1 (cases_of scene run) k b h
breaks_not scene run (suc (suc (suc (suc (suc zero))))) k earlier b h = places_fail_not scene run k b h
breaks_not scene run (suc (suc (suc (suc (suc (suc zero)))))) k earlier b h = desk_fails_not scene run k (earlier (suc (suc (suc (suc (suc zero))))) (omega arith)) b h
breaks_not scene run (suc (suc (suc (suc (suc (suc (suc zero))))))) k earlier b h = fails_not_all (TakeHears scene run.steps) 1 run.takes k b h
breaks_not scene run (suc (suc (suc (suc (suc (suc (suc (suc zero)))))))) k earlier b h = fails_not_all (TakeEnds scene run) 1 (cases_of scene run) k b h
breaks_not scene run (suc (suc (suc (suc (suc (suc (suc (suc (suc n))))))))) k earlier b h = b

-- of one clause there is one least place
breaks_once : (scene : Scene) (run : Run) (clause k m : ℕ) → Breaks clause scene run k → Breaks clause scene run m → k ≡ m
breaks_once scene run zero k m f g = absurd f
breaks_once scene run (suc zero) k m f g = pairs_once 1 run.takes (all_do_pids scene.trace) k m f g
breaks_once scene run (suc (suc zero)) k m f g = fails_once (TakeRises run) 1 (cases_of scene run) k m f g
breaks_once scene run (suc (suc (suc zero))) k m f g = fails_once (TakeHolds scene run.steps) 1 (cases_of scene run) k m f g
breaks_once scene run (suc (suc (suc (suc zero)))) k m f g = fails_once (TakeOwns scene run) 1 (cases_of scene run) k m f g
breaks_once scene run (suc (suc (suc (suc (suc zero))))) k m f g = places_once scene run k m f g
breaks_once scene run (suc (suc (suc (suc (suc (suc zero)))))) k m f g = desk_once scene run k m f g
breaks_once scene run (suc (suc (suc (suc (suc (suc (suc zero))))))) k m f g = fails_once (TakeHears scene run.steps) 1 run.takes k m f g
breaks_once scene run (suc (suc (suc (suc (suc (suc (suc (suc zero)))))))) k m f g = fails_once (TakeEnds scene run) 1 (cases_of scene run) k m f g
breaks_once scene run (suc (suc (suc (suc (suc (suc (suc (suc (suc n))))))))) k m f g = absurd f

-- a legal run has every clause
clause_of : (scene : Scene) (run : Run) → Legal scene run → (clause : ℕ) → Clause clause scene run
clause_of scene run h zero = tt
clause_of scene run h (suc zero) = h.takes
clause_of scene run h (suc (suc zero)) = h.versions
clause_of scene run h (suc (suc (suc zero))) = h.verdicts
clause_of scene run h (suc (suc (suc (suc zero)))) = h.own_steps
clause_of scene run h (suc (suc (suc (suc (suc zero))))) = h.places
clause_of scene run h (suc (suc (suc (suc (suc (suc zero)))))) = h.supervisor
clause_of scene run h (suc (suc (suc (suc (suc (suc (suc zero))))))) = h.answers
clause_of scene run h (suc (suc (suc (suc (suc (suc (suc (suc zero)))))))) = h.outcomes
clause_of scene run h (suc (suc (suc (suc (suc (suc (suc (suc (suc n))))))))) = tt

pub not_legal : (scene : Scene) (run : Run) (broken : Broken) → IsFirstBroken scene run broken → Legal scene run → ⊥
not_legal scene run broken b h = breaks_not scene run broken.clause broken.place b.earlier b.breaks (clause_of scene run h broken.clause)

abbrev broken_at : ℕ → ℕ → Broken
broken_at clause place = record { clause = clause; place = place }

pub broken_once : (scene : Scene) (run : Run) (one other : Broken) → IsFirstBroken scene run one → IsFirstBroken scene run other → one ≡ other
broken_once scene run one other b c = by_clause (cases_lt one.clause other.clause) (cases_lt other.clause one.clause)
  where
    by_clause : (one.clause < other.clause) ⊎ (other.clause ≤ one.clause) → (other.clause < one.clause) ⊎ (one.clause ≤ other.clause) → one ≡ other
    by_clause (inl lt) either = absurd (breaks_not scene run one.clause one.place b.earlier b.breaks (c.earlier one.clause lt))
    by_clause (inr le) (inl lt) = absurd (breaks_not scene run other.clause other.place c.earlier c.breaks (b.earlier other.clause lt))
    by_clause (inr le) (inr ge) =
        let clause : one.clause ≡ other.clause = omega (arith, le, ge) in
        let place : one.place ≡ other.place = breaks_once scene run other.clause one.place other.place (subst (λ n. Breaks n scene run one.place) clause b.breaks) c.breaks in
        ap (λ n. broken_at n one.place) clause ∙ ap (broken_at other.clause) place
