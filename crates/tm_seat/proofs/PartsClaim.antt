-- The steps of each worker that plays trees are claimed by its pass.
use Rattle.std.proofs.Common.{◌≡◌, ◌<◌, ℕ, zero, suc, ◌+◌, List, [], ◌∷◌, length, true, refl, sym, ap, ◌∙◌, subst, arith}
use Rattle.std.specs.Prelude.{Option, Some, slice_get, ◌==◌}
use Rattle.std.specs.List.{AllByRecursion}
use Rattle.std.proofs.lemmas.Bool.{eqb-true}
use Rattle.tm_rules.specs.Types.{Made, Maker, Policy, Start}
use Rattle.tm_rules.specs.Prelude.{Trace}
use Rattle.tm_take.specs.Trees.{tree_pids}
use Rattle.tm_take.specs.Written.{IsTrace}
use Rattle.tm_legal.specs.Prelude.{do_pids}
use Rattle.tm_legal.proofs.Walks.{All-map}
use Rattle.tm_joint.specs.Makers.{EachClaims}
use Rattle.tm_joint.specs.Workers.{pass_of}
use Rattle.tm_joint.proofs.Rows.{All-flat}
use Rattle.tm_seat.specs.declared.tree.PlayedTree.{PlayedTree}
use Rattle.tm_seat.specs.declared.tree.TreeToPlay.{TreeToPlay}
use Rattle.tm_seat.specs.Rows.{tree_makers, makers_all}
use Rattle.tm_seat.specs.Dealing.{dealt_to, hand_of}
use Rattle.tm_take.specs.Each.{EachWith}
use Rattle.tm_seat.specs.Parts.{trees_from, Deed, WorkerDid}
use Rattle.tm_seat.specs.Replayed.{AreDealt}
use Rattle.tm_seat.proofs.Lists.{All-filter, All-mapped}
use Rattle.tm_seat.proofs.Plans.{IsOfTrace, trees-of-trace}
use Rattle.tm_seat.proofs.Moving.{deed_at}
use Rattle.tm_seat.proofs.Shares.{owns, OthersFollow}
use Rattle.tm_seat.proofs.TreePasses.{processes-have-their-pass}

module _ (trace : Trace) (written : IsTrace trace) (workers editors : ℕ) where
  -- who makes whose steps
  abbrev pub who : Maker → Option ℕ
  who maker = pass_of tree_pids (dealt_to workers) workers editors trace maker

  -- after the workers come the editors, and the supervisor
  pub others-follow : OthersFollow who workers editors
  others-follow = record { editor = λ e. refl; desk = refl }

  -- the makers of a tree belong to the worker that it is dealt to
  makers-of-tree : (policy : Policy) (worker : ℕ) (tree : TreeToPlay) → IsOfTrace policy trace tree × ((dealt_to workers tree.number == worker) ≡ true) → AllByRecursion (λ maker. who maker ≡ Some worker) (tree_makers tree)
  makers-of-tree policy worker tree (of, dealt) =
      let mine : dealt_to workers tree.number ≡ worker = eqb-true (dealt_to workers tree.number) worker dealt in
      let number : tree.number ≡ suc of.place = ap (λ (t : TreeToPlay). t.number) of.is in
      let records : do_pids tree.records ≡ do_pids of.its.records = ap (λ (t : TreeToPlay). do_pids t.records) of.is in
      let deal : dealt_to workers (suc of.place) ≡ worker = sym (ap (dealt_to workers) number) ∙ mine in (
        ap Some mine,
        All-mapped (λ maker. who maker ≡ Some worker) (λ pid. Maker.Process pid) (do_pids tree.records)
            (subst (λ (pids : List ℕ). AllByRecursion (λ pid. who (Maker.Process pid) ≡ Some worker) pids) (sym records)
            (All-map (λ pid. who (Maker.Process pid) ≡ Some (dealt_to workers (suc of.place))) (λ pid. who (Maker.Process pid) ≡ Some worker) (do_pids of.its.records)
            (λ pid is. is ∙ ap Some deal)
            (processes-have-their-pass (dealt_to workers) workers editors trace of.place of.its written of.there))),
      )

  makers-of-hand : (policy : Policy) (worker : ℕ) → AllByRecursion (λ maker. who maker ≡ Some worker) (makers_all (hand_of workers worker (trees_from policy 1 trace)))
  makers-of-hand policy worker =
      All-flat (λ maker. who maker ≡ Some worker) tree_makers (hand_of workers worker (trees_from policy 1 trace))
      (All-map (λ (tree : TreeToPlay). IsOfTrace policy trace tree × ((dealt_to workers tree.number == worker) ≡ true)) (λ (tree : TreeToPlay). AllByRecursion (λ maker. who maker ≡ Some worker) (tree_makers tree)) (hand_of workers worker (trees_from policy 1 trace))
      (makers-of-tree policy worker)
      (All-filter (IsOfTrace policy trace) (λ (tree : TreeToPlay). dealt_to workers tree.number == worker) (trees_from policy 1 trace) (trees-of-trace policy trace)))

  module _ (start : Start) (floor : ℕ) (list : List Made) where
    -- workers from worker i on
    claims-from : (i : ℕ) (hands : List (List TreeToPlay)) (deeds : List (Deed PlayedTree)) → ((k : ℕ) (hand : List TreeToPlay) → slice_get hands k ≡ Some hand → AllByRecursion (λ maker. who maker ≡ Some (i + k)) (makers_all hand)) → EachWith (λ hand done. WorkerDid start floor hand (deed_at list done)) hands deeds → EachClaims who i list (owns deeds)
    claims-from i [] [] makers h = tt
    claims-from i [] (done ∷ deeds) makers h = absurd h
    claims-from i (hand ∷ hands) [] makers h = absurd h
    claims-from i (hand ∷ hands) (done ∷ deeds) makers h = (
      h.0.claims who i (subst (λ n. AllByRecursion (λ maker. who maker ≡ Some n) (makers_all hand)) (omega arith) (makers 0 hand refl)),
      claims-from (suc i) hands deeds (λ k other at. subst (λ n. AllByRecursion (λ maker. who maker ≡ Some n) (makers_all other)) (omega arith) (makers (suc k) other at)) h.1,
    )

    -- all of them
    pub claims-workers : (hands : List (List TreeToPlay)) (deeds : List (Deed PlayedTree)) → AreDealt start trace workers hands → EachWith (λ hand done. WorkerDid start floor hand (deed_at list done)) hands deeds → EachClaims who 0 list (owns deeds)
    claims-workers hands deeds dealt each = claims-from 0 hands deeds (λ k hand at. subst (λ n. AllByRecursion (λ maker. who maker ≡ Some n) (makers_all hand)) (omega arith) (hands-makers k hand at)) each
      where
        inside : {A : Type 0} (xs : List A) (k : ℕ) (x : A) → slice_get xs k ≡ Some x → k < length xs
        inside [] k x at = absurd cc
        inside (y ∷ xs) zero x at = omega arith
        inside (y ∷ xs) (suc k) x at = let rest = inside xs k x at in omega (arith, rest)

        hands-makers : (k : ℕ) (hand : List TreeToPlay) → slice_get hands k ≡ Some hand → AllByRecursion (λ maker. who maker ≡ Some k) (makers_all hand)
        hands-makers k hand at =
            let lt : k < workers = subst (λ n. k < n) dealt.count (inside hands k hand at) in
            let both : Some hand ≡ Some (hand_of workers k (trees_from start.policy 1 trace)) = sym at ∙ dealt.each k lt in
            let same : hand ≡ hand_of workers k (trees_from start.policy 1 trace) = cc in
            subst (λ (l : List TreeToPlay). AllByRecursion (λ maker. who maker ≡ Some k) (makers_all l)) (sym same) (makers-of-hand start.policy k)
