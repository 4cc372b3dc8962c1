-- Pairs in a list, by their two parts.
use Rattle.std.specs.Prelude.{Bool, ◌&&◌, not, List, filter}

-- the pair of these two
abbrev pub is_pair : {A B : Type 0} → (A → A → Bool) → (B → B → Bool) → A → B → A × B → Bool
is_pair same alike first second pair = same first pair.0 && alike second pair.1

-- that pair leaves
abbrev pub leaving_pair : {A B : Type 0} → (A → A → Bool) → (B → B → Bool) → A → B → List (A × B)
    → List (A × B)
leaving_pair same alike first second pairs =
    filter (λ pair. not (is_pair same alike first second pair)) pairs
