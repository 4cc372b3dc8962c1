-- What is done with each element of a list.
use Rattle.std.specs.Prelude.{◌≡◌, ℕ, ◌<◌, List, length, slice_index_or}

-- each element is accepted at its place
pub record AcceptsAll {T : Type 0} (Accepts : ℕ → T → Type 0) (list : List T) : Type 0 where
  pub each : (k : ℕ) (d : T) → k < length list → Accepts k (slice_index_or list k d)

-- each element of the new list is what is left of the old one's at that place
pub record LeavesAll {T : Type 0} (Leaves : ℕ → T → T → Type 0) (old new : List T) : Type 0 where
  pub long : length new ≡ length old
  pub each : (k : ℕ) (d : T) → k < length old → Leaves k (slice_index_or old k d) (slice_index_or new k d)
