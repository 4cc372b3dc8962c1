-- How often numbers stand in a list, up to two.
use Rattle.std.specs.Prelude.{ℕ, zero, suc, List, [], ◌∷◌, if◌then◌else◌, ◌==◌, length, replicate}
use Rattle.tm_rules.specs.Prelude.{changed_at}
use Rattle.tm_rules.specs.Types.{Take}
use Rattle.tm_legal.specs.Prelude.{History, own_numbers}

-- two at most
abbrev pub capped : ℕ → ℕ
capped zero = 0
capped (suc zero) = 1
capped (suc (suc n)) = 2

-- one more, two at most
abbrev pub one_more : ℕ → ℕ
one_more count = if count == 0 then 1 else 2

-- a number, from 1, is counted
abbrev pub counted_one : ℕ → List ℕ → List ℕ
counted_one zero counts = counts
counted_one (suc k) counts = changed_at k one_more counts

-- these numbers are counted
abbrev pub counted : List ℕ → List ℕ → List ℕ
counted [] counts = counts
counted (n ∷ ns) counts = counted ns (counted_one n counts)

-- how often each of so many steps is an own step of these takes
abbrev pub owned_counts : List Take → History → List ℕ
owned_counts takes history = counted (own_numbers takes) (replicate (length history) 0)
