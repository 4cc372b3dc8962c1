-- The plain components of a pattern, one after another.
use Rattle.std.proofs.Common.{◌≡◌, ℕ, ◌+◌, ◌<◌, ◌≤◌, [], ◌∷◌, ◌++◌, take, drop, ◌∙◌}
use Rattle.tm_word.specs.Prelude.{Pattern}
use Rattle.tm_index.specs.Stems.{plain_front}

-- The plain components before a place, and those from it on
abbrev pub Fronted : Pattern → ℕ → Type 0
Fronted p k = take k p ++ plain_front (drop k p) ≡ plain_front p
