-- the components of a literal, joined
use Rattle.std.proofs.Common.{◌≡◌, ℕ, List, [], ◌∷◌, ◌++◌, refl, ap, sym}
use Rattle.std.specs.Prelude.{map, flat_map}
use Rattle.std.specs.List.{join_with_byte}
use Rattle.std.proofs.Common.{append-nil}
use Rattle.tm_number.specs.Component.{Component}
use Rattle.tm_number.specs.Words.{Word}
use Rattle.tm_number.specs.Printing.{element_bytes, literal, literal_word}
use Rattle.tm_number.proofs.Literals.{literal-name}
use Rattle.tm_types.specs.Request.{joined_bytes}

-- the pieces joined by a byte: the first one, and each other one behind that byte
pub joined_components : {A : Type 0} (c : ℕ) (f : A → List ℕ) (x : A) (xs : List A) → join_with_byte c (map f (x ∷ xs)) ≡ f x ++ flat_map (λ y. c ∷ f y) xs
joined_components c f x [] = sym (append-nil (f x))
joined_components c f x (y ∷ ys) = ap (λ t. f x ++ (c ∷ t)) (joined_components c f y ys)

-- a literal's word is the bytes of its components, joined by slashes
pub literal_components : (cs : List Component) → literal_word cs ≡ joined_bytes cs
unfolding literal_word
literal_components [] = refl
literal_components (c ∷ cs) = joined_components 47 (λ (d : Component). flat_map element_bytes d.first) c cs

-- the word of a name's literal is this name
pub word_of_literal : (name : Word) → literal_word (literal name) ≡ name
word_of_literal = literal-name
