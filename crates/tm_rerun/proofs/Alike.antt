-- Lists whose values are the same, place by place.
use Rattle.std.proofs.Common.{◌≡◌, ◌∙◌, ◌<◌, ◌+◌, ℕ, zero, suc, List, [], ◌∷◌, ◌++◌, sym, ap, length, get_or, take}
use Rattle.std.specs.Prelude.{map, Some, slice_get}
use Rattle.std.proofs.lemmas.List.{take_more, map-append}
use Rattle.std.proofs.lemmas.Option.{slice_get-get_or, slice_get_within, get_or_from_slice_get}

heads : {A : Type 0} (x y : A) (xs ys : List A) → x ∷ xs ≡ y ∷ ys → x ≡ y
heads x y xs ys e = cc

tails : {A : Type 0} (x y : A) (xs ys : List A) → x ∷ xs ≡ y ∷ ys → xs ≡ ys
tails x y xs ys e = cc

-- what stands at a place of a list that is lent
pub stands : {A : Type 0} (xs items : List A) (k : ℕ) (x : A) → items ≡ xs → k < length items → x ≡ get_or items k x → slice_get xs k ≡ Some x
stands {A = A} xs items k x e lt is = ap (λ (ys : List A). slice_get ys k) (sym e) ∙ slice_get-get_or items k x lt ∙ ap (λ (y : A). Some y) (sym is)

-- the values at one place are the same
pub same-at : {A B C : Type 0} (f : A → C) (g : B → C) (xs : List A) (ys : List B) (k : ℕ) (x : A) (y : B) → slice_get xs k ≡ Some x → slice_get ys k ≡ Some y → map f xs ≡ map g ys → f x ≡ g y
same-at f g [] ys k x y there other same = absurd cc
same-at f g (a ∷ xs) [] k x y there other same = absurd cc
same-at f g (a ∷ xs) (b ∷ ys) zero x y there other same =
    let left : a ≡ x = cc in
    let right : b ≡ y = cc in
    ap f (sym left) ∙ heads (f a) (g b) (map f xs) (map g ys) same ∙ ap g right
same-at f g (a ∷ xs) (b ∷ ys) (suc k) x y there other same = same-at f g xs ys k x y there other (tails (f a) (g b) (map f xs) (map g ys) same)

one-more : {A C : Type 0} (f : A → C) (xs : List A) (k : ℕ) (x : A) → slice_get xs k ≡ Some x → map f (take (k + 1) xs) ≡ map f (take k xs) ++ f x ∷ []
one-more {A = A} f xs k x there =
    ap (map f) (take_more xs k x (slice_get_within xs k x there)) ∙ map-append f (take k xs) (get_or xs k x ∷ []) ∙ ap (λ (y : A). map f (take k xs) ++ f y ∷ []) (get_or_from_slice_get xs k x x there)

-- values that are the same before a place and at it are the same before the next place
pub same-next : {A B C : Type 0} (f : A → C) (g : B → C) (xs : List A) (ys : List B) (k : ℕ) (x : A) (y : B) → slice_get xs k ≡ Some x → slice_get ys k ≡ Some y → map f (take k xs) ≡ map g (take k ys) → f x ≡ g y
    → map f (take (k + 1) xs) ≡ map g (take (k + 1) ys)
same-next {C = C} f g xs ys k x y there other before at =
    one-more f xs k x there ∙ ap (λ (zs : List C). zs ++ f x ∷ []) before ∙ ap (λ (z : C). map g (take k ys) ++ z ∷ []) at ∙ sym (one-more g ys k y other)
