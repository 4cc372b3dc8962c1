-- What the order of namespaces means.
use Rattle.std.specs.Prelude.{◌≡◌, false, List, [], ◌∷◌}
use Rattle.tm_rules.specs.Types.{Namespace}
use Rattle.tm_text.specs.ProfileText.{comes_before}

-- the namespace after this one, if there is one, has no name that comes before its own
abbrev pub MayStand : Namespace → List Namespace → Type 0
MayStand ns [] = Unit {0}
MayStand ns (other ∷ others) = comes_before other.name ns.name ≡ false

-- so it is all along the list
abbrev pub IsOrdered : List Namespace → Type 0
IsOrdered [] = Unit {0}
IsOrdered (ns ∷ others) = MayStand ns others × IsOrdered others
