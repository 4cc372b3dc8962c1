-- Room in a text that grows.
use Rattle.std.specs.Prelude.{ℕ, ◌-◌, Vec, vec_len, vec_capacity}

-- so many bytes can be appended where the text stands
unfoldable pub room : {Z : Type 0} → Vec ℕ Z → ℕ
room text = vec_capacity text - vec_len text
