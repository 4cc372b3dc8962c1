-- A product and a sum that wrap are their values modulo 2^64.
use Rattle.std.proofs.Common.{◌≡◌, ℕ, ◌+◌, ◌*◌, ◌%◌, ◌^◌}
use Rattle.std.proofs.Math.Nat.{mod-add-mod}

pub wrapped_state : (state : ℕ) → ((state * 6364136223846793005) % 2 ^ 64 + 1442695040888963407) % 2 ^ 64 ≡ (state * 6364136223846793005 + 1442695040888963407) % 2 ^ 64
wrapped_state state = mod-add-mod (state * 6364136223846793005) (2 ^ 64) 1442695040888963407
