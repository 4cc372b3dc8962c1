use Rattle.std.proofs.Common.{◌≡◌, ◌∙◌}
use Rattle.tm_verdict.proofs.WayLaws.{to_nowhere}
use Rattle.tm_verdict.proofs.targets.way_of_made.Goals as goal

pub returns-else-eq : goal.returns-else-eq
returns-else-eq g c = λ name gives made.
    let failed = rw c.in-Err.is at gives in
    c.fails.ensures ∙ to_nowhere (g.R.Rep.policy c.args.rep.now) c.args.domain.now c.args.strict name c.in-Err.fault c.requires.named (λ e. let wrong = c.if-eq.ensures in let same = rw e at wrong in absurd cc) failed
