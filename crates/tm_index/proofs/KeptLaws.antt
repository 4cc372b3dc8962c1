-- The name and the stem of a pattern, as it is kept: a literal as its name, any other as its
-- components.
use Rattle.std.proofs.Common.{◌≡◌, ◌==◌, Bool, true, false, List, [], ◌∷◌, map, if◌then◌else◌, refl, sym, ap, ◌∙◌}
use Rattle.std.specs.Prelude.{Option, Some, None}
use Rattle.std.specs.List.{list_all}
use Rattle.std.proofs.lemmas.Bool.{and_parts}
use Rattle.tm_word.specs.Prelude.{IsNoLiteral, Pattern, Word, is_literal, is_plain, literal, literal_component, literal_word}
use Rattle.tm_word.proofs.Cuts.{Pieces, pieces_of}
use Rattle.tm_word.proofs.Literals.{literal-name, literal-is_literal}
use Rattle.tm_rules.specs.Prelude.{patterns_equal}
use Rattle.tm_rules.specs.Requests as requests
use Rattle.tm_rules.proofs.EqualityLaws.{same_patterns}
use Rattle.tm_index.specs.Names.{literal_name}
use Rattle.tm_index.specs.Stems.{plain_front, front_stem, short_stem, pattern_stem}

-- the name of a literal is the one that it was made of
own-name : (name : Word) → literal_name (literal name) ≡ Some name
own-name name =
    ap (λ (w : Word). if patterns_equal (literal name) (literal w) then Some w else None) (literal-name name)
    ∙ ap (λ b. if b then Some name else None) (same_patterns.full (literal name))

pub name_kept : (p : Pattern) (name : Word) → p ≡ literal name → literal_name p ≡ Some name
name_kept p name e = ap literal_name e ∙ own-name name

-- what is no name's literal has none
pub no_name_kept : (p : Pattern) → IsNoLiteral p → literal_name p ≡ None
unfolding IsNoLiteral
no_name_kept p none = go (requests.is_literal p) refl
  where
    go : (b : Bool) → requests.is_literal p ≡ b → (if b then Some (literal_word p) else None) ≡ None
    go false e = refl
    go true e = absurd (none (literal_word p) (same_patterns.sound p (literal (literal_word p)) e))

all-front : (cs : Pattern) → list_all is_plain cs ≡ true → plain_front cs ≡ cs
all-front [] h = refl
all-front (c ∷ cs) h =
    let parts = and_parts (is_plain c) (list_all is_plain cs) h in
    rw parts.0 (ap (λ t. c ∷ t) (all-front cs parts.1))

literal-front : (name : Word) → plain_front (literal name) ≡ literal name
unfolding is_literal
literal-front name = all-front (literal name) (literal-is_literal name)

own-stem : (name : Word) → front_stem (literal name) ≡ short_stem name
unfolding literal
own-stem name =
    let pieces : Pieces (λ c. c == 47) name = pieces_of (λ c. c == 47) name in
    let are : literal name ≡ literal_component pieces.first ∷ map literal_component pieces.rest = ap (map literal_component) pieces.are in
    ap front_stem are ∙ ap (λ (p : Pattern). short_stem (literal_word p)) (sym are) ∙ ap short_stem (literal-name name)

-- the stem of a literal is its name, where that has few enough bytes
pub stem_kept : (p : Pattern) (name : Word) → p ≡ literal name → pattern_stem p ≡ short_stem name
stem_kept p name e = ap pattern_stem e ∙ ap front_stem (literal-front name) ∙ own-stem name
