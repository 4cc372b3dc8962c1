-- What an index tells after a change of one of its domains.
use Rattle.std.proofs.Common.{◌≡◌, ℕ, zero, suc, ◌<◌, List, [], ◌∷◌, map, length, get_or, slice_set, refl, ap, ◌∙◌, arith}
use Rattle.std.specs.Prelude.{slice_get, option_map}
use Rattle.tm_rules.specs.Prelude.{changed_at}
use Rattle.tm_index.specs.Index.{Told}

-- what is seen of a list with another element in a place
pub seen_set : {A B : Type 0} (see : A → B) (change : B → B) (xs : List A) (k : ℕ) (x y : A) → x ≡ get_or xs k x → see y ≡ change (see x) → map see (slice_set xs k y) ≡ changed_at k change (map see xs)
seen_set see change [] k x y is e = refl
seen_set see change (z ∷ zs) zero x y is e = ap (λ t. t ∷ map see zs) (e ∙ ap (λ t. change (see t)) is)
seen_set see change (z ∷ zs) (suc k) x y is e = ap (λ t. see z ∷ t) (seen_set see change zs k x y is e)

-- with an element that is seen as the one before, nothing is changed
pub seen_same : {A B : Type 0} (see : A → B) (xs : List A) (k : ℕ) (x y : A) → x ≡ get_or xs k x → see y ≡ see x → map see (slice_set xs k y) ≡ map see xs
seen_same see [] k x y is e = refl
seen_same see (z ∷ zs) zero x y is e = ap (λ t. t ∷ map see zs) (e ∙ ap see is)
seen_same see (z ∷ zs) (suc k) x y is e = ap (λ t. see z ∷ t) (seen_same see zs k x y is e)

-- with the element that was there before a change, all is as before it
pub seen_back : {A B : Type 0} (see : A → B) (change : B → B) (xs : List A) (ys : List B) (k : ℕ) (x y : A) → k < length xs → x ≡ get_or xs k x → map see xs ≡ changed_at k change ys → ((b : B) → see x ≡ change b → see y ≡ b) → map see (slice_set xs k y) ≡ ys
seen_back see change [] ys k x y less is e back = absurd (omega (arith, less))
seen_back see change (z ∷ zs) [] k x y less is e back = absurd cc
seen_back see change (z ∷ zs) (b ∷ bs) zero x y less is e back =
    let first : see z ≡ change b = cc in
    let rest : map see zs ≡ bs = cc in
    ap (λ t. t ∷ map see zs) (back b (ap see is ∙ first)) ∙ ap (λ t. b ∷ t) rest
seen_back see change (z ∷ zs) (b ∷ bs) (suc k) x y less is e back =
    let first : see z ≡ b = cc in
    let rest : map see zs ≡ changed_at k change bs = cc in
    ap (λ t. t ∷ map see (slice_set zs k y)) first ∙ ap (λ t. b ∷ t) (seen_back see change zs bs k x y (omega (arith, less)) is rest back)

-- what is seen of the element at a place
pub seen_at : {A B : Type 0} (see : A → B) (xs : List A) (k : ℕ) → slice_get (map see xs) k ≡ option_map see (slice_get xs k)
seen_at see [] k = refl
seen_at see (x ∷ xs) zero = refl
seen_at see (x ∷ xs) (suc k) = seen_at see xs k

pub told_equal : (x y : Told) → x.domains ≡ y.domains → x.groups ≡ y.groups → x.live ≡ y.live → x ≡ y
told_equal x y a b c = λ i. record { domains = a i; groups = b i; live = c i }
