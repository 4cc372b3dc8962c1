-- What a tally tells by its numbers.
use Rattle.std.specs.Prelude.{ℕ, ◌-◌, ◌==◌, ◌&&◌, Bool, nat_lt, nat_le, if◌then◌else◌, List, length, Option, Some, None, slice_get}
use Rattle.tm_types.specs.declared.step.Answered.{Answered}

-- a step is replied itself, by its number, from 1
abbrev pub reply_of : List ℕ → ℕ → Option ℕ
reply_of steps number = if nat_lt 0 number then slice_get steps (number - 1) else None

-- query 1 is answered by the first step
abbrev pub answer_in : List ℕ → ℕ → Option Answered
answer_in steps serial = if serial == 1 && nat_lt 0 (length steps) then Some Answered.Yes else None

-- the start is asked for from the first step to the third
abbrev pub asked_in : ℕ → List ℕ → Option ℕ
asked_in start steps = if nat_lt 0 (length steps) && nat_lt (length steps) 3 then Some start else None

-- from the third step on nothing is asked
abbrev pub is_over : List ℕ → Bool
is_over steps = nat_le 3 (length steps)
