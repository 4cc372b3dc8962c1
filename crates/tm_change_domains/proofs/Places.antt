-- The first permission of an entry.
use Rattle.std.proofs.Common.{◌≡◌, ℕ, suc, ◌+◌, true, false, refl}
use Rattle.std.specs.Prelude.{Option, Some, None, unwrap_or}
use Rattle.std.specs.List.{find, range_with_len}
use Rattle.tm_rules.specs.Types.{Entry}
use Rattle.tm_rules.specs.Prelude.{has_permission, permission_place}

-- the first place of all sixteen
unfoldable pub first_place : ℕ → Option ℕ
first_place bits = find (has_permission bits) (range_with_len 0 16)

-- the first of so many places from this one on
unfoldable pub place_from : ℕ → ℕ → ℕ → Option ℕ
place_from bits place n = find (has_permission bits) (range_with_len place n)

pub all_places : (bits : ℕ) → place_from bits 0 16 ≡ first_place bits
unfolding first_place place_from
all_places bits = refl

pub place_here : (bits place n : ℕ) → has_permission bits place ≡ true → place_from bits place (suc n) ≡ Some place
unfolding place_from
place_here bits place n h = rw h refl

pub place_later : (bits place n : ℕ) → has_permission bits place ≡ false → place_from bits place (suc n) ≡ place_from bits (place + 1) n
unfolding place_from
place_later bits place n h = rw h refl

pub no_place : (bits place : ℕ) → place_from bits place 0 ≡ None
unfolding place_from
no_place bits place = refl

pub place_is : (entry : Entry) → permission_place entry ≡ unwrap_or (first_place entry.perms.bits) 0
unfolding first_place
place_is entry = refl
