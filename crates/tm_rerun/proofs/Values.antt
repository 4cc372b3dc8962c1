-- The values of a map, changed one after another.
use Rattle.std.proofs.Common.{◌≡◌, ◌∙◌, ◌<◌, ◌+◌, ℕ, List, [], ◌∷◌, ◌++◌, refl, sym, ap, length, get_or, take, drop, append_assoc, arith, subst}
use Rattle.std.specs.Prelude.{map, Option, Some, IsSome}
use Rattle.std.proofs.lemmas.List.{take_more, drop_more, map-append}
use Rattle.std.proofs.lemmas.Bool.{lt-ltb, le-ltb, eq-eqb, ne_eqb}
use Rattle.tm_list.specs.Map.{AllAbove, Rises, at_rank, put}

-- each value of a map changed, under its key
abbrev pub values_changed : {K V : Type 0} → (V → V) → List (K × V) → List (K × V)
values_changed change pairs = map (λ pair. (pair.0, change pair.1)) pairs

-- a rank above which all are is below each
above-there : {K V : Type 0} (rank : K → ℕ) (n : ℕ) (front back : List (K × V)) (there : K × V) → AllAbove rank n (front ++ there ∷ back) → n < rank there.0
above-there rank n [] back there above = above.0
above-there rank n (e ∷ front) back there above = above-there rank n front back there above.1

-- a key that is there is found
found-there : {K V : Type 0} (rank : K → ℕ) (front back : List (K × V)) (there : K × V) → Rises rank (front ++ there ∷ back) → at_rank rank (rank there.0) (front ++ there ∷ back) ≡ Some there.1
found-there rank [] back there rises = rw (eq-eqb (rank there.0) (rank there.0) refl) refl
found-there rank (e ∷ front) back there rises =
    let below : rank e.0 < rank there.0 = above-there rank (rank e.0) front back there rises.0 in
    rw (ne_eqb (rank e.0) (rank there.0) (omega arith)) (found-there rank front back there rises.1)

-- its value is changed in its place
put-there : {K V : Type 0} (rank : K → ℕ) (front back : List (K × V)) (there : K × V) (value : V) → Rises rank (front ++ there ∷ back) → put rank there.0 value (front ++ there ∷ back) ≡ front ++ (there.0, value) ∷ back
put-there rank [] back there value rises = rw (le-ltb (rank there.0) (rank there.0) (omega arith), eq-eqb (rank there.0) (rank there.0) refl) refl
put-there rank (e ∷ front) back there value rises =
    let below : rank e.0 < rank there.0 = above-there rank (rank e.0) front back there rises.0 in
    rw (lt-ltb (rank e.0) (rank there.0) below) (ap (λ rest. e ∷ rest) (put-there rank front back there value rises.1))

-- the values before a place are changed
abbrev pub ChangedTo : {K V : Type 0} → (V → V) → ℕ → List (K × V) → List (K × V) → Type 0
ChangedTo change k pairs made = made ≡ values_changed change (take k pairs) ++ drop k pairs

-- the next one is changed too, by the map that has its value there
pub changed-there : {K V : Type 0} (rank : K → ℕ) (change : V → V) (pairs made more : List (K × V)) (k : ℕ) (there : K × V) (value : V) (old : Option V) → k < length pairs → there ≡ get_or pairs k there → value ≡ change there.1
    → ChangedTo change k pairs made → old ≡ at_rank rank (rank there.0) made → (IsSome old → more ≡ put rank there.0 value made) → Rises rank made → ChangedTo change (k + 1) pairs more
changed-there {K = K} {V = V} rank change pairs made more k there value old lt is changed so found written rises =
    let front : List (K × V) = values_changed change (take k pairs) in
    let back : List (K × V) = drop (k + 1) pairs in
    let all : made ≡ front ++ there ∷ back = so ∙ ap (λ rest. front ++ rest) (drop_more pairs k there lt ∙ ap (λ (x : K × V). x ∷ back) (sym is)) in
    let rising : Rises rank (front ++ there ∷ back) = subst (Rises rank) all rises in
    let stands : old ≡ Some there.1 = found ∙ ap (at_rank rank (rank there.0)) all ∙ found-there rank front back there rising in
    let put_is : more ≡ front ++ (there.0, change there.1) ∷ back = written (rw stands refl) ∙ ap (λ v. put rank there.0 v made) changed ∙ ap (put rank there.0 (change there.1)) all ∙ put-there rank front back there (change there.1) rising in
    let taken : values_changed change (take (k + 1) pairs) ≡ front ++ (there.0, change there.1) ∷ [] =
    ap (values_changed change) (take_more pairs k there lt ∙ ap (λ (x : K × V). take k pairs ++ x ∷ []) (sym is)) ∙ map-append (λ (pair : K × V). (pair.0, change pair.1)) (take k pairs) (there ∷ []) in
    put_is ∙ sym (append_assoc front ((there.0, change there.1) ∷ []) back) ∙ ap (λ xs. xs ++ back) (sym taken)
