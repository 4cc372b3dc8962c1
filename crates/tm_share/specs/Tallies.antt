-- The rule of a deque: what was put is what was taken and what it holds.
use Rattle.std.specs.Prelude.{◌≡◌, ◌+◌, ℕ, List, [], ◌∷◌, ◌++◌}
use mathlib.Core.Option.{some}
use lib.ListN.{get_elem?}
use Rattle.tm_share.specs.declared.tally.Tally.{Tally}
use Rattle.tm_share.specs.Weights.{weigh}

module _ {J : Type 0} where
  abbrev pub tally : ℕ → List J → List J → Tally J
  tally parts put taken = record { parts = parts; put = put; taken = taken }

  -- what two passes know together
  abbrev pub joined : Tally J → Tally J → Tally J
  joined v w = tally (v.parts + w.parts) (v.put ++ w.put) (v.taken ++ w.taken)

  abbrev pub total : (Tally J → ℕ) → List (Tally J) → ℕ
  total f [] = 0
  total f (v ∷ vs) = f v + total f vs

  -- a pass with no part has put and taken nothing
  abbrev pub IdleIsEmpty : List (Tally J) → Type 0
  IdleIsEmpty views = (port : ℕ) (v : Tally J) → get_elem? views port ≡ some v → v.parts ≡ 0 → (v.put ≡ []) × (v.taken ≡ [])

  -- what was put is what was taken and what the deque holds, however the jobs are weighed
  abbrev pub Balanced : List J → List (Tally J) → Type 0
  Balanced items views =
      (total (λ v. v.parts) views ≡ 1024)
      × ((h : J → ℕ) → total (λ v. weigh h v.put) views ≡ total (λ v. weigh h v.taken) views + weigh h items)
      × IdleIsEmpty views

  -- who has every part knows that these are left: what was put, less what was taken
  abbrev pub Leaves : Tally J → List J → Type 0
  Leaves v items = v.parts ≡ 1024 → (h : J → ℕ) → weigh h v.put ≡ weigh h v.taken + weigh h items
