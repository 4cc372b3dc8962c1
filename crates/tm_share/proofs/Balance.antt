-- Each step on a deque keeps its balance.
use Rattle.std.proofs.Common.{◌≡◌, ℕ, zero, suc, ◌+◌, ◌-◌, ◌<◌, ◌≤◌, ◌≢◌, List, [], ◌∷◌, ◌++◌, set, refl, ap, sym, ◌∙◌, ⊎_elim, arith}
use mathlib.Core.Option.{some, some-injective, some-ne-none}
use lib.ListN.{get_elem?}
use Rattle.atomic_table.proofs.Lists.{at_set, at_snoc}
use Rattle.crossbeam_deque.specs.Tasks as tasks
use Rattle.tm_share.specs.declared.tally.Tally.{Tally}
use Rattle.tm_share.specs.Weights.{weigh}
use Rattle.tm_share.specs.Tallies.{tally, total, IdleIsEmpty, Balanced, Leaves}
use Rattle.tm_share.proofs.Weights.{weigh-append}

module _ {J : Type 0} where
  -- the total after a change of one pass
  total_set : (f : Tally J → ℕ) (views : List (Tally J)) (port : ℕ) (v w : Tally J) → get_elem? views port ≡ some v → total f (set views port w) + f v ≡ total f views + f w
  total_set f [] port v w at = absurd (some-ne-none v (sym at))
  total_set f (u ∷ us) zero v w at = (let e = ap f (some-injective u v at) in omega arith)
  total_set f (u ∷ us) (suc port) v w at = (let r = total_set f us port v w at in omega arith)

  total_snoc : (f : Tally J → ℕ) (views : List (Tally J)) (w : Tally J) → total f (views ++ w ∷ []) ≡ total f views + f w
  total_snoc f [] w = omega arith
  total_snoc f (u ∷ us) w = (let r = total_snoc f us w in omega arith)

  total_at : (f : Tally J → ℕ) (views : List (Tally J)) (port : ℕ) (v : Tally J) → get_elem? views port ≡ some v → f v ≤ total f views
  total_at f [] port v at = absurd (some-ne-none v (sym at))
  total_at f (u ∷ us) zero v at = (let e = ap f (some-injective u v at) in omega arith)
  total_at f (u ∷ us) (suc port) v at = (let r = total_at f us port v at in omega arith)

  idle_set : (views : List (Tally J)) (port : ℕ) (w : Tally J) → (w.parts ≡ 0 → (w.put ≡ []) × (w.taken ≡ [])) → IdleIsEmpty views → IdleIsEmpty (set views port w)
  idle_set views port w empty idle j u at none = ⊎_elim
      (λ (t : (j ≡ port) × (w ≡ u)). (let e = empty (ap (λ x. x.parts) t.1 ∙ none) in (sym (ap (λ x. x.put) t.1) ∙ e.0, sym (ap (λ x. x.taken) t.1) ∙ e.1)))
      (λ (t : (j ≢ port) × (get_elem? views j ≡ some u)). idle j u t.1 none)
      (at_set views port j w u at)

  idle_snoc : (views : List (Tally J)) (w : Tally J) → (w.parts ≡ 0 → (w.put ≡ []) × (w.taken ≡ [])) → IdleIsEmpty views → IdleIsEmpty (views ++ w ∷ [])
  idle_snoc views w empty idle j u at none = ⊎_elim
      (λ (t : get_elem? views j ≡ some u). idle j u t none)
      (λ (t : w ≡ u). (let e = empty (ap (λ x. x.parts) t ∙ none) in (sym (ap (λ x. x.put) t) ∙ e.0, sym (ap (λ x. x.taken) t) ∙ e.1)))
      (at_snoc views w u j at)

  pub puts : (port : ℕ) (v : Tally J) (xs : List J) → 0 < v.parts → tasks.Pushes Balanced port v xs (λ w. w ≡ tally v.parts (v.put ++ xs) v.taken)
  puts port v xs some_part items views b at =
      let w = tally v.parts (v.put ++ xs) v.taken in (
        w,
        (
          (let s = total_set (λ u. u.parts) views port v w at in let p = b.0 in omega arith),
          (λ h.
              let s = total_set (λ u. weigh h u.put) views port v w at in
              let t = total_set (λ u. weigh h u.taken) views port v w at in
              let p = b.1 h in
              omega (arith, weigh-append h v.put xs, weigh-append h items xs)),
          idle_set views port w (λ none. absurd (omega arith)) b.2,
        ),
        refl,
      )

  pub takes : (port : ℕ) (v : Tally J) (most : ℕ) → 0 < v.parts → tasks.Takes Balanced port v most (λ xs w. w ≡ tally v.parts v.put (v.taken ++ xs))
  takes port v most some_part xs items views above below b at =
      let w = tally v.parts v.put (v.taken ++ xs) in (
        w,
        (
          (let s = total_set (λ u. u.parts) views port v w at in let p = b.0 in omega arith),
          (λ h.
              let s = total_set (λ u. weigh h u.put) views port v w at in
              let t = total_set (λ u. weigh h u.taken) views port v w at in
              let p = b.1 h in
              omega (arith, weigh-append h v.taken xs, weigh-append h xs items)),
          idle_set views port w (λ none. absurd (omega arith)) b.2,
        ),
        refl,
      )

  pub forks : (port : ℕ) (v : Tally J) → 1 < v.parts → tasks.Forks Balanced port v (tally (v.parts - 1) v.put v.taken) (tally 1 [] [])
  forks port v two items views b at =
      let w = tally (v.parts - 1) v.put v.taken in
      let one : Tally J = tally 1 [] [] in (
        (let s = total_set (λ u. u.parts) views port v w at in let t = total_snoc (λ u. u.parts) (set views port w) one in let p = b.0 in omega arith),
        (λ h.
            let s = total_set (λ u. weigh h u.put) views port v w at in
            let s' = total_snoc (λ u. weigh h u.put) (set views port w) one in
            let t = total_set (λ u. weigh h u.taken) views port v w at in
            let t' = total_snoc (λ u. weigh h u.taken) (set views port w) one in
            let p = b.1 h in
            omega arith),
        idle_snoc (set views port w) one (λ none. (refl, refl)) (idle_set views port w (λ none. absurd (omega arith)) b.2),
      )

  -- a pass with no part, to which another is added
  nothing_left : (xs ys : List J) → xs ≡ [] → ys ≡ [] → xs ++ ys ≡ []
  nothing_left xs ys e f = ap (λ l. l ++ ys) e ∙ f

  pub merges : (port : ℕ) (v : Tally J) (other : ℕ) (w : Tally J)
      → tasks.Merges Balanced port v other w (tally (v.parts + w.parts) (v.put ++ w.put) (v.taken ++ w.taken)) (tally 0 [] [])
  merges port v other w items views b at apart there =
      let both = tally (v.parts + w.parts) (v.put ++ w.put) (v.taken ++ w.taken) in
      let spent : Tally J = tally 0 [] [] in
      let mid = set views port both in
      let was : get_elem? views other ≡ some w = ⊎_elim
      (λ (t : (other ≡ port) × (both ≡ w)). absurd (apart t.0))
      (λ (t : (other ≢ port) × (get_elem? views other ≡ some w)). t.1)
      (at_set views port other both w there) in
      let none : both.parts ≡ 0 → (both.put ≡ []) × (both.taken ≡ []) = λ zero. (
      (let a = b.2 port v at (omega arith) in let c = b.2 other w was (omega arith) in
      (nothing_left v.put w.put a.0 c.0, nothing_left v.taken w.taken a.1 c.1))
      ) in (
        (let s = total_set (λ u. u.parts) views port v both at in let t = total_set (λ u. u.parts) mid other w spent there in let p = b.0 in omega arith),
        (λ h.
            let s = total_set (λ u. weigh h u.put) views port v both at in
            let s' = total_set (λ u. weigh h u.put) mid other w spent there in
            let t = total_set (λ u. weigh h u.taken) views port v both at in
            let t' = total_set (λ u. weigh h u.taken) mid other w spent there in
            let p = b.1 h in
            omega (arith, weigh-append h v.put w.put, weigh-append h v.taken w.taken)),
        idle_set mid other spent (λ zero. (refl, refl)) (idle_set views port both none b.2),
      )

  -- where no pass has a part, f of all is 0 if it is 0 of each
  total_none : (f : Tally J → ℕ) (views : List (Tally J)) → total (λ u. u.parts) views ≡ 0 → ((j : ℕ) (u : Tally J) → get_elem? views j ≡ some u → u.parts ≡ 0 → f u ≡ 0) → total f views ≡ 0
  total_none f [] parts each = refl
  total_none f (u ∷ us) parts each =
      let here = each zero u refl (omega arith) in
      let rest = total_none f us (omega arith) (λ j x at. each (suc j) x at) in
      omega arith

  -- where one pass has every part, f of all is f of it
  total_own : (f : Tally J → ℕ) (views : List (Tally J)) (port : ℕ) (v : Tally J) → get_elem? views port ≡ some v → total (λ u. u.parts) views ≡ v.parts
      → ((j : ℕ) (u : Tally J) → get_elem? views j ≡ some u → u.parts ≡ 0 → f u ≡ 0) → total f views ≡ f v
  total_own f [] port v at parts each = absurd (some-ne-none v (sym at))
  total_own f (u ∷ us) zero v at parts each =
      let same = some-injective u v at in
      let p = ap (λ x. x.parts) same in
      let e = ap f same in
      let rest = total_none f us (omega arith) (λ j x there. each (suc j) x there) in
      omega arith
  total_own f (u ∷ us) (suc port) v at parts each =
      let le = total_at (λ x. x.parts) us port v at in
      let here = each zero u refl (omega arith) in
      let rest = total_own f us port v at (omega arith) (λ j x there. each (suc j) x there) in
      omega arith

  -- who has every part knows what is left
  pub learns : (port : ℕ) (v : Tally J) → tasks.Learns Balanced port v (Leaves v)
  learns port v items views b at every h =
      let parts : total (λ u. u.parts) views ≡ v.parts = b.0 ∙ sym every in
      let put = total_own (λ u. weigh h u.put) views port v at parts (λ j u there none. ap (weigh h) (b.2 j u there none).0) in
      let taken = total_own (λ u. weigh h u.taken) views port v at parts (λ j u there none. ap (weigh h) (b.2 j u there none).1) in
      let p = b.1 h in
      omega arith

  pub finds : (port : ℕ) (v : Tally J) → tasks.Finds Balanced port v (Leaves v [])
  finds port v views b at = learns port v [] views b at

  pub finds_few : (port : ℕ) (v : Tally J) → tasks.FindsFew Balanced 0 port v (Leaves v [])
  finds_few port v [] views few b at = learns port v [] views b at
  finds_few port v (x ∷ xs) views few b at = absurd (omega arith)
