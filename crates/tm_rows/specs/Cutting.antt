-- The first bytes of a text, as they are and with bytes 0 for spaces.
use Rattle.std.specs.Prelude.{ℕ, ◌==◌, if◌then◌else◌, Bool, true, false, map, take, min, length}
use Rattle.tm_word.specs.Prelude.{Text}

-- a byte 0 for a space
abbrev pub zeroed_byte : ℕ → ℕ
zeroed_byte b = if b == 32 then 0 else b

-- a byte 0 for each space
abbrev pub zeroed : Text → Text
zeroed bytes = map zeroed_byte bytes

-- so many first bytes, or all
abbrev pub front : Text → ℕ → Text
front bytes count = take (min count (length bytes)) bytes

-- with bytes 0 for spaces, or as they are
abbrev pub cut_text : Text → ℕ → Bool → Text
cut_text bytes count true = zeroed (front bytes count)
cut_text bytes count false = front bytes count
