use Rattle.tm_change_domains.proofs.Kept.{kept_same}
use Rattle.tm_change_domains.proofs.lines.apply_domain.Goals as goal

pub returns-in-Select-clause-refused : goal.returns-in-Select-clause-refused
returns-in-Select-clause-refused c = kept_same c.select_known-reply.result c.args.policy.now
