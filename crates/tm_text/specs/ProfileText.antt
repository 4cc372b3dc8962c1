-- The printed text of the profiles, and the order of namespaces.
use Rattle.std.specs.Prelude.{ℕ, suc, Bool, true, false, ◌==◌, nat_lt, if◌then◌else◌, List, [], ◌∷◌, map}
use Rattle.std.specs.List.{flat_map}
use Rattle.std.specs.Borrow.{Bor}
use Rattle.tm_word.specs.Prelude.{Text}
use Rattle.tm_rules.specs.Types.{Namespace, Policy}
use Rattle.tm_profile.specs.Printing.{profiles_text}

-- a text comes before another one by its bytes: at the first that differs the lesser one decides,
-- and a front comes first
abbrev pub comes_before : Text → Text → Bool
comes_before [] [] = false
comes_before [] (b ∷ right) = true
comes_before (a ∷ left) [] = false
comes_before (a ∷ left) (b ∷ right) = if a == b then comes_before left right else nat_lt a b

-- a namespace goes before the first one whose name comes after its own
abbrev pub with_namespace : Namespace → List Namespace → List Namespace
with_namespace ns [] = ns ∷ []
with_namespace ns (other ∷ others) =
    if comes_before ns.name other.name then ns ∷ other ∷ others
    else other ∷ with_namespace ns others

-- each of these goes into its place among those that are ordered
abbrev pub placed : List Namespace → List Namespace → List Namespace
placed ordered [] = ordered
placed ordered (ns ∷ others) = placed (with_namespace ns ordered) others

-- namespaces in the order of their names' bytes
unfoldable pub by_name : List Namespace → List Namespace
by_name namespaces = placed [] namespaces

-- the profiles of a namespace; nothing where it has none
abbrev pub namespace_text : Namespace → Text
namespace_text ns = profiles_text ns.name ns.profiles

-- the profiles of each namespace, by the order of names
unfoldable pub profile_text : Policy → Text
profile_text policy = flat_map namespace_text (by_name policy.namespaces)

-- the namespaces that references lend
abbrev pub lent : List (Bor Namespace) → List Namespace
lent references = map (λ reference. reference.now) references

-- how many namespaces a namespace goes behind
abbrev pub place_for : Namespace → List Namespace → ℕ
place_for ns [] = 0
place_for ns (other ∷ others) =
    if comes_before ns.name other.name then 0 else suc (place_for ns others)
