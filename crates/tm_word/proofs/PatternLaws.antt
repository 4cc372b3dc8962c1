-- Patterns are compared as they are kept.
use Rattle.std.specs.Prelude.{◌≡◌, Bool, false, List}
use Rattle.std.proofs.Common.{sym, ap, ◌∙◌, subst}
use Rattle.std.specs.Bool.{IsTrue}
use Rattle.tm_word.specs.declared.Component.{Component}
use Rattle.tm_word.specs.declared.pattern.Form.{Form}
use Rattle.tm_word.specs.Prelude.{IsKept, IsNoLiteral, Pattern, Word, components_of, literal}
use Rattle.tm_word.proofs.Literals.{literal-distinct}

-- the pattern of a kept name
of-name : (form : Form) (name : Word) (pattern : Pattern) → form ≡ Form.Literal name → components_of form ≡ pattern → pattern ≡ literal name
unfolding components_of
of-name form name pattern is view = sym view ∙ ap components_of is

-- and of kept components
of-components : (form : Form) (components : List Component) (pattern : Pattern) → form ≡ Form.Components components → components_of form ≡ pattern → pattern ≡ components
unfolding components_of
of-components form components pattern is view = sym view ∙ ap components_of is

-- kept components are no name's literal
no-literal : (form : Form) (components : List Component) → form ≡ Form.Components components → IsKept form → IsNoLiteral components
unfolding IsKept
no-literal form components is kept = subst IsKept is kept

-- two names' literals are equal where the names are
pub literals-same : (left right : Form) (name other : Word) (x y : Pattern) (same : Bool) → left ≡ Form.Literal name → right ≡ Form.Literal other → components_of left ≡ x → components_of right ≡ y →
    (IsTrue same → name ≡ other) × (name ≡ other → IsTrue same) → (IsTrue same → x ≡ y) × (x ≡ y → IsTrue same)
literals-same left right name other x y same l r vl vr both =
    let a = of-name left name x l vl in
    let b = of-name right other y r vr in
    ((λ yes. a ∙ ap literal (both.0 yes) ∙ sym b), (λ e. both.1 (literal-distinct name other (sym a ∙ e ∙ b))))

-- a literal is no other pattern
pub literal-other : (left right : Form) (name : Word) (components : List Component) (x y : Pattern) → left ≡ Form.Literal name → right ≡ Form.Components components → components_of left ≡ x → components_of right ≡ y → IsKept right →
    (IsTrue false → x ≡ y) × (x ≡ y → IsTrue false)
unfolding IsNoLiteral
literal-other left right name components x y l r vl vr kept =
    let a = of-name left name x l vl in
    let b = of-components right components y r vr in
    let never = no-literal right components r kept in
    ((λ yes. absurd cc), (λ e. absurd (never name (sym b ∙ sym e ∙ a))))

-- and no other pattern is one
pub other-literal : (left right : Form) (components : List Component) (name : Word) (x y : Pattern) → left ≡ Form.Components components → right ≡ Form.Literal name → components_of left ≡ x → components_of right ≡ y → IsKept left →
    (IsTrue false → x ≡ y) × (x ≡ y → IsTrue false)
unfolding IsNoLiteral
other-literal left right components name x y l r vl vr kept =
    let a = of-components left components x l vl in
    let b = of-name right name y r vr in
    let never = no-literal left components l kept in
    ((λ yes. absurd cc), (λ e. absurd (never name (sym a ∙ e ∙ b))))
