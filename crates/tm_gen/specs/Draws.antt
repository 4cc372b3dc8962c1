-- Draws: numbers that follow from a seed.
use Rattle.std.specs.Prelude.{ℕ, ◌+◌, ◌*◌, ◌/◌, ◌%◌, ◌^◌}

-- the state after a draw, modulo 2^64
abbrev pub next_state : ℕ → ℕ
next_state state = (state * 6364136223846793005 + 1442695040888963407) % 2 ^ 64

-- the number below a limit that is drawn in a state: the upper 31 bits of the next one, modulo the
-- limit
abbrev pub drawn : ℕ → ℕ → ℕ
drawn limit state = next_state state / 2 ^ 33 % limit
