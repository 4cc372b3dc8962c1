-- Namespaces put into their places: each stays, and they are in the order of their names.
use Rattle.std.proofs.Common.{◌≡◌, ◌∷◌, [], Bool, true, false, if◌then◌else◌, List, ◌++◌, arith, refl, sym, subst, append-nil}
use Rattle.std.specs.List.Sorted.{IsPermutation}
use Rattle.std.proofs.lemmas.List.Sorted.{IsPermutation-refl, IsPermutation-cons, IsPermutation-trans, IsPermutation-swap}
use Rattle.tm_word.specs.Prelude.{Text}
use Rattle.tm_rules.specs.Types.{Namespace}
use Rattle.tm_text.specs.ProfileText.{comes_before, with_namespace, placed, by_name}
use Rattle.tm_text.specs.Order.{MayStand, IsOrdered}

-- of two texts, one at most comes before the other
pub one_before : (left right : Text) → comes_before left right ≡ true → comes_before right left ≡ false
one_before [] [] e = refl
one_before [] (b ∷ right) e = refl
one_before (a ∷ left) [] e = sym e
one_before (a ∷ left) (b ∷ right) e = grind (arith, e, one_before left right)

-- behind a namespace that may stand before the list, the new one may stand too
pub may_follow : (ns first : Namespace) (others : List Namespace) → comes_before ns.name first.name ≡ false → MayStand first others → MayStand first (with_namespace ns others)
may_follow ns first [] behind stands = behind
may_follow ns first (other ∷ others) behind stands = at (comes_before ns.name other.name)
  where
    at : (here : Bool) → MayStand first (if here then ns ∷ other ∷ others else other ∷ with_namespace ns others)
    at true = behind
    at false = stands

-- a namespace in its place keeps the order
pub one_ordered : (ns : Namespace) (ordered : List Namespace) → IsOrdered ordered → IsOrdered (with_namespace ns ordered)
one_ordered ns [] h = (tt, tt)
one_ordered ns (other ∷ others) h = at (comes_before ns.name other.name) refl (one_ordered ns others h.1)
  where
    at : (here : Bool) → comes_before ns.name other.name ≡ here → IsOrdered (with_namespace ns others) → IsOrdered (if here then ns ∷ other ∷ others else other ∷ with_namespace ns others)
    at true e rest = (one_before ns.name other.name e, h)
    at false e rest = (may_follow ns other others e h.0, rest)

pub all_ordered : (ordered others : List Namespace) → IsOrdered ordered → IsOrdered (placed ordered others)
all_ordered ordered [] h = h
all_ordered ordered (ns ∷ others) h = all_ordered (with_namespace ns ordered) others (one_ordered ns ordered h)

-- ordering gives an ordered list
pub names_ordered : (namespaces : List Namespace) → IsOrdered (by_name namespaces)
unfolding by_name
names_ordered namespaces = all_ordered [] namespaces tt

-- a namespace that goes to the front
pub moved : (ns : Namespace) (front others : List Namespace) → IsPermutation (front ++ ns ∷ others) (ns ∷ front ++ others)
moved ns [] others = IsPermutation-refl (ns ∷ others)
moved ns (first ∷ front) others =
    IsPermutation-trans (first ∷ front ++ ns ∷ others) (first ∷ ns ∷ front ++ others) (ns ∷ first ∷ front ++ others)
    (IsPermutation-cons first (front ++ ns ∷ others) (ns ∷ front ++ others) (moved ns front others))
    (IsPermutation-swap (first ∷ ns ∷ front ++ others) (ns ∷ first ∷ front ++ others) 0 1 (omega arith) (omega arith) refl)

-- a namespace in its place is there, and the others too
pub one_kept : (ns : Namespace) (ordered others : List Namespace) → IsPermutation (ordered ++ ns ∷ others) (with_namespace ns ordered ++ others)
one_kept ns [] others = IsPermutation-refl (ns ∷ others)
one_kept ns (first ∷ ordered) others = at (comes_before ns.name first.name) (one_kept ns ordered others)
  where
    at
        : (here : Bool)
        → IsPermutation (ordered ++ ns ∷ others) (with_namespace ns ordered ++ others)
        → IsPermutation (first ∷ ordered ++ ns ∷ others) ((if here then ns ∷ first ∷ ordered else first ∷ with_namespace ns ordered) ++ others)
    at true rest = moved ns (first ∷ ordered) others
    at false rest = IsPermutation-cons first (ordered ++ ns ∷ others) (with_namespace ns ordered ++ others) rest

pub all_kept : (ordered others : List Namespace) → IsPermutation (ordered ++ others) (placed ordered others)
all_kept ordered [] = subst (λ (front : List Namespace). IsPermutation front ordered) (sym (append-nil ordered)) (IsPermutation-refl ordered)
all_kept ordered (ns ∷ others) =
    IsPermutation-trans (ordered ++ ns ∷ others) (with_namespace ns ordered ++ others) (placed (with_namespace ns ordered) others)
    (one_kept ns ordered others)
    (all_kept (with_namespace ns ordered) others)

-- ordering keeps each namespace
pub names_kept : (namespaces : List Namespace) → IsPermutation namespaces (by_name namespaces)
unfolding by_name
names_kept namespaces = all_kept [] namespaces
