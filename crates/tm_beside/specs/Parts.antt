-- A part of a list that begins at some place, and the calls at its places.
use Rattle.std.specs.Prelude.{◌≡◌, ℕ, ◌+◌, ◌<◌, List, length, slice_index_or}
use denote.Ref.{MutBor}
use denote.Param.Members.{Shared}
use Rattle.std.specs.Fork.{AcceptsAt, ChangesAt}

module _ {F T : Type 0} (g : Shared F (ℕ × (MutBor T × Unit {0})) ((Unit {0}) × (MutBor T × Unit {0}))) (f : F) where
  -- f may be called at each place of a part that begins at that place
  pub record AcceptsFrom (begin : ℕ) (part : List T) : Type 0 where
    pub each : (k : ℕ) (d : T) → k < length part → AcceptsAt g f (begin + k) (slice_index_or part k d)

  -- each element of the new part is what a call of f left at that place of the old one
  pub record ChangesFrom (begin : ℕ) (old new : List T) : Type 0 where
    pub long : length new ≡ length old
    pub each : (k : ℕ) (d : T) → k < length old
        → ChangesAt g f (begin + k) (slice_index_or old k d) (slice_index_or new k d)
