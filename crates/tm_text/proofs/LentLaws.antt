-- References put into a list, as the namespaces that they lend.
use Rattle.std.proofs.Common.{◌≡◌, ◌∷◌, [], suc, Bool, true, false, if◌then◌else◌, List, ap, refl}
use Rattle.std.specs.Borrow.{Bor}
use Rattle.std.specs.List.{insert}
use Rattle.tm_rules.specs.Types.{Namespace}
use Rattle.tm_text.specs.ProfileText.{comes_before, with_namespace, lent, place_for}

-- a reference before the first one, or behind it
pub placed_at
    : (here : Bool) (first : Bor Namespace) (references : List (Bor Namespace)) (ns : Bor Namespace)
    → lent (insert references (place_for ns.now (lent references)) ns) ≡ with_namespace ns.now (lent references)
    → lent (insert (first ∷ references) (if here then 0 else suc (place_for ns.now (lent references))) ns)
    ≡ (if here then ns.now ∷ first.now ∷ lent references else first.now ∷ with_namespace ns.now (lent references))
placed_at true first references ns there = refl
placed_at false first references ns there = ap (λ lasts. first.now ∷ lasts) there

-- a reference that is put into its place lends its namespace there
pub lent_placed
    : (references : List (Bor Namespace)) (ns : Bor Namespace)
    → lent (insert references (place_for ns.now (lent references)) ns) ≡ with_namespace ns.now (lent references)
lent_placed [] ns = refl
lent_placed (first ∷ references) ns = placed_at (comes_before ns.now.name first.now.name) first references ns (lent_placed references ns)
