use Rattle.std.proofs.Common.{sym, ◌∙◌}
use Rattle.tm_policy.proofs.Finds.{found-there, found-nowhere}
use Rattle.tm_policy.proofs.searching.search.Goals as goal

pub returns-in-Some : goal.returns-in-Some
returns-in-Some c = c.search_domain.ensures ∙ sym (found-there c.args.policy.now c.args.domain c.args.process.now c.args.request.now c.in-Some.domain.now (sym c.in-Some.ensures))

pub returns-in-None : goal.returns-in-None
returns-in-None c = sym (found-nowhere c.args.policy.now c.args.domain c.args.process.now c.args.request.now (sym c.in-None.ensures))
