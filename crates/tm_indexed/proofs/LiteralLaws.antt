-- The places that an index lends are those of the definitions.
use Rattle.std.proofs.Common.{◌≡◌, ℕ, suc, Bool, true, false, ◌&&◌, not, if◌then◌else◌, List, [], ◌∷◌, refl, sym, ap, ◌∙◌}
use Rattle.std.specs.Prelude.{Option, Some, None, is_some}
use Rattle.std.specs.Option.{option_and_then, option_map_or}
use Rattle.tm_word.specs.Prelude.{Pattern, Word, literal_word, matches, texts_equal}
use Rattle.tm_rules.specs.Types.{Entry}
use Rattle.tm_rules.specs.Prelude.{is_literal}
use Rattle.tm_index.specs.declared.list.ListIndex.{ListIndex}
use Rattle.tm_index.specs.Names.{first_pattern, literal_name, literal_of}
use Rattle.tm_index.specs.Listing.{Listed, listed, listing, places_from, has_name, has_no_name}
use Rattle.tm_indexed.specs.Literals.{is_named, is_literally_named, literal_places, other_places}
use Rattle.tm_indexed.proofs.NameLaws.{literal-matches}

places-same : {A : Type 0} (one two : A → Bool) → ((x : A) → one x ≡ two x) → (n : ℕ) (xs : List A) → places_from one n xs ≡ places_from two n xs
places-same one two same n [] = refl
places-same one two same n (x ∷ xs) = ap (λ b. if b then n ∷ places_from one (suc n) xs else places_from one (suc n) xs) (same x) ∙ ap (λ t. if two x then n ∷ t else t) (places-same one two same (suc n) xs)

pattern-named : (name : Word) (o : Option Pattern) → option_map_or (texts_equal name) (option_and_then literal_name o) false ≡ option_map_or (λ p. is_literal p && matches p name) o false
pattern-named name None = refl
pattern-named name (Some p) = go (is_literal p) refl
  where
    go : (b : Bool) → is_literal p ≡ b → option_map_or (texts_equal name) (if b then Some (literal_word p) else None) false ≡ (b && matches p name)
    go true h = sym (literal-matches p name h)
    go false h = refl

pattern-none : (o : Option Pattern) → not (is_some (option_and_then literal_name o)) ≡ not (option_map_or is_literal o false)
pattern-none None = refl
pattern-none (Some p) = go (is_literal p)
  where
    go : (b : Bool) → not (is_some (if b then Some (literal_word p) else None)) ≡ not b
    go true = refl
    go false = refl

named-places : (name : Word) (entries : List Entry) → (listing entries).named name ≡ literal_places name entries
unfolding listing literal_places literal_of
named-places name entries = places-same (has_name name) (λ (entry : Entry). is_named name entry.args) (λ entry. pattern-named name (first_pattern entry.args)) 0 entries

no-name-places : (entries : List Entry) → (listing entries).others ≡ other_places entries
unfolding listing other_places literal_of
no-name-places entries = places-same has_no_name (λ (entry : Entry). not (is_literally_named entry.args)) (λ entry. pattern-none (first_pattern entry.args)) 0 entries

-- what the index of a list has under a name
pub lent_named : (list : ListIndex) (entries : List Entry) (name : Word) (places : List ℕ) → listed list ≡ listing entries → places ≡ (listed list).named name → places ≡ literal_places name entries
lent_named list entries name places e is = is ∙ ap (λ (x : Listed). x.named name) e ∙ named-places name entries

-- nothing is noted
pub none_named : (entries : List Entry) (name : Word) → listing [] ≡ listing entries → [] ≡ literal_places name entries
unfolding listing
none_named entries name e = ap (λ (x : Listed). x.named name) e ∙ named-places name entries

pub lent_others : (list : ListIndex) (entries : List Entry) (places : List ℕ) → listed list ≡ listing entries → places ≡ (listed list).others → places ≡ other_places entries
lent_others list entries places e is = is ∙ ap (λ (x : Listed). x.others) e ∙ no-name-places entries

pub none_others : (entries : List Entry) → listing [] ≡ listing entries → [] ≡ other_places entries
unfolding listing
none_others entries e = ap (λ (x : Listed). x.others) e ∙ no-name-places entries
