use Rattle.std.proofs.Common.{sym, ◌∙◌}
use Rattle.tm_policy.proofs.Lists.{found_here, found_later}
use Rattle.tm_policy.proofs.searching.first_in_groups.Goals as goal

pub returns-in-Some : goal.returns-in-Some
returns-in-Some g c =
    sym (found_here c.args.asked.now c.args.lists.now c.args.members.now c.loop-group.group-index _ c.first_in_group.result c.in-Some.found c.loop-group-test.true c.first_in_group.ensures c.in-Some.is)
    ∙ c.loop-group.invariant

pub loop-group-preserved : goal.loop-group-preserved
loop-group-preserved g c =
    sym (found_later c.args.asked.now c.args.lists.now c.args.members.now c.loop-group.group-index _ c.first_in_group.result c.loop-group-test.true c.first_in_group.ensures c.in_default.is)
    ∙ c.loop-group.invariant
