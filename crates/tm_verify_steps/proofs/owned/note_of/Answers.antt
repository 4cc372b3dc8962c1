use Rattle.std.proofs.Common.{rules}
use Rattle.tm_verify_steps.proofs.OwnLaws.{verdict_noted}
use Rattle.tm_verify_steps.proofs.owned.note_of.Goals as goal

pub returns : goal.returns
returns c =
    verdict_noted c.args.steps.now c.args.before c.retry_written-retry.result c.as_slice-own.result.now c.look_grants-granted.result c.args.audit.now c.args.found.now c.args.look.now c.args.verdict.now
    c.is_shown-shown.result c.in_ok-asked.asked c.owns_in_order-ordered.result c.both-owns.result c.same-audited.result
    (search rules) (search rules) (search rules) c.is_shown-shown.ensures c.in_ok-asked.ensures c.owns_in_order-ordered.ensures c.both-owns.ensures (search rules)
