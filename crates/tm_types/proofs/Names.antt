-- Which arguments are names' literals.
use Rattle.std.proofs.Common.{◌≡◌, refl, sym, ap, ◌∙◌}
use Rattle.std.specs.Prelude.{[]}
use Rattle.tm_number.specs.Words.{Word, Pattern}
use Rattle.tm_number.specs.Printing.{literal, literal_word}
use Rattle.tm_number.specs.Patterns.{IsNoLiteral}
use Rattle.tm_number.proofs.Literals.{literal-name}
use Rattle.tm_types.specs.declared.unions.NameUnion.{NameUnion}
use Rattle.tm_types.specs.Request.{name_value, IsLiteral}

-- the literal of a name is one
pub literal_name : (n : NameUnion) (word : Word) → n ≡ NameUnion.One (literal word) → IsLiteral n
unfolding IsLiteral
literal_name n word is = is ∙ ap (λ w. NameUnion.One (literal w)) (sym (literal-name word)) ∙ ap (λ m. NameUnion.One (literal (name_value m))) (sym is)

-- its word is this name
pub name_of : (n : NameUnion) (word : Word) → n ≡ NameUnion.One (literal word) → word ≡ name_value n
name_of n word is = sym (literal-name word) ∙ ap name_value (sym is)

-- what is no name's literal is none
pub no_literal_name : (n : NameUnion) (pattern : Pattern) → n ≡ NameUnion.One pattern → IsNoLiteral pattern → IsLiteral n → ⊥
unfolding IsLiteral IsNoLiteral
no_literal_name n pattern is never lit = never (name_value n) (one-of pattern (literal (name_value n)) (sym is ∙ lit))
  where
    pattern-of : NameUnion → Pattern
    pattern-of (NameUnion.One p) = p
    pattern-of (NameUnion.Group g) = []

    one-of : (p q : Pattern) → NameUnion.One p ≡ NameUnion.One q → p ≡ q
    one-of p q e = ap pattern-of e

-- a group is none either
pub no_group : (n : NameUnion) (group : Word) → n ≡ NameUnion.Group group → IsLiteral n → ⊥
unfolding IsLiteral
no_group n group is lit = absurd (never (sym is ∙ lit))
  where
    never : NameUnion.Group group ≡ NameUnion.One (literal (name_value n)) → ⊥
    never e = absurd cc

-- the word of the literal of a name
pub variable : (pattern : Pattern) (word : Word) → pattern ≡ literal word → word ≡ literal_word pattern
variable pattern word is = sym (literal-name word) ∙ ap literal_word (sym is)

-- the literal of a name is one
pub literal_variable : (pattern : Pattern) (word : Word) → pattern ≡ literal word → IsLiteral (NameUnion.One pattern)
literal_variable pattern word is = literal_name (NameUnion.One pattern) word (ap NameUnion.One is)

-- what is no name's literal is no variable
pub no_variable : (pattern : Pattern) → IsNoLiteral pattern → IsLiteral (NameUnion.One pattern) → ⊥
no_variable pattern never lit = no_literal_name (NameUnion.One pattern) pattern refl never lit
