-- Bytes that come in parts.
use Rattle.std.proofs.Common.{◌≡◌, ℕ, List, [], ◌∷◌, ◌++◌, refl, if◌then◌else◌}
use Rattle.tm_log.specs.Logs.{Reading, ends_line, with_end, with_byte, fed}

-- what is read in parts is what is read of the whole
pub parts_join : (s : Reading) (first later : List ℕ) → fed (fed s first) later ≡ fed s (first ++ later)
parts_join s [] later = refl
parts_join s (b ∷ first) later = parts_join (if ends_line b then with_end s else with_byte s b) first later
