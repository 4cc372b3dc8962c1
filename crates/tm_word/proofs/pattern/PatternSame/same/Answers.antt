use Rattle.tm_word.proofs.PatternLaws.{literals-same, literal-other, other-literal}
use Rattle.tm_word.proofs.pattern.PatternSame.same.Goals as goal

pub returns-in-Literal-Literal : goal.returns-in-Literal-Literal
returns-in-Literal-Literal c =
    literals-same c.self.inside.form c.other.inside.form c.in-Literal-Literal.name c.in-Literal-Literal.other_name c.args.self.now c.args.other.now c.same.result
    c.in-Literal-Literal.is-0 c.in-Literal-Literal.is-1 c.self.view_is c.other.view_is c.same.ensures

pub returns-in-Literal-Components : goal.returns-in-Literal-Components
returns-in-Literal-Components c =
    literal-other c.self.inside.form c.other.inside.form c.in-Literal-Components.field-0-0 c.in-Literal-Components.field-0-1 c.args.self.now c.args.other.now
    c.in-Literal-Components.is-0 c.in-Literal-Components.is-1 c.self.view_is c.other.view_is c.other.invariant

pub returns-in-Components-Literal : goal.returns-in-Components-Literal
returns-in-Components-Literal c =
    other-literal c.self.inside.form c.other.inside.form c.in-Components-Literal.field-0-0 c.in-Components-Literal.field-0-1 c.args.self.now c.args.other.now
    c.in-Components-Literal.is-0 c.in-Components-Literal.is-1 c.self.view_is c.other.view_is c.self.invariant
