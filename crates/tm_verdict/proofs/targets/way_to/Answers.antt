use Rattle.std.proofs.Common.{◌≡◌, true, false, Some, None, sym, ◌∙◌}
use Rattle.tm_word.specs.Prelude.{texts_equal}
use Rattle.tm_rules.specs.Prelude.{live_domain, namespace_word}
use Rattle.tm_verdict.proofs.WayLaws.{to_live, to_new, to_other}
use Rattle.tm_verdict.proofs.targets.way_to.Goals as goal

pub returns-in-Some : goal.returns-in-Some
returns-in-Some g c =
    let live : live_domain (g.R.Rep.policy c.args.rep.now) c.args.name ≡ Some c.in-Some.number = sym c.live_domain.ensures ∙ c.in-Some.is in
    λ right. c.to.ensures ∙ to_live (g.R.Rep.policy c.args.rep.now) c.args.domain.now c.args.strict c.args.name c.in-Some.number live

pub returns-then-bytes_equal : goal.returns-then-bytes_equal
returns-then-bytes_equal g c =
    let none : live_domain (g.R.Rep.policy c.args.rep.now) c.args.name ≡ None = sym c.live_domain.ensures ∙ c.in-None.is in
    let own : texts_equal (namespace_word c.args.name) (namespace_word c.args.domain.now.name) ≡ true = cc in
    λ right. to_new (g.R.Rep.policy c.args.rep.now) c.args.domain.now c.args.strict c.args.name none right own

pub returns-else-bytes_equal : goal.returns-else-bytes_equal
returns-else-bytes_equal g c =
    let none : live_domain (g.R.Rep.policy c.args.rep.now) c.args.name ≡ None = sym c.live_domain.ensures ∙ c.in-None.is in
    let other : texts_equal (namespace_word c.args.name) (namespace_word c.args.domain.now.name) ≡ false = cc in
    λ right. c.fails.ensures ∙ to_other (g.R.Rep.policy c.args.rep.now) c.args.domain.now c.args.strict c.args.name none right other
