use Rattle.std.proofs.Common.{◌∙◌}
use Rattle.tm_indexed.proofs.MakeLaws.{fail_told}
use Rattle.tm_indexed.proofs.making.mark_failed.Goals as goal

pub returns-clause-index : goal.returns-clause-index
returns-clause-index c = c.requires.index ∙ fail_told c.args.policy.now c.apply_fail.new.policy c.args.number c.apply_fail.result c.apply_fail.ensures.done
