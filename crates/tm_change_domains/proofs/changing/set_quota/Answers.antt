use Rattle.std.proofs.Common.{◌≡◌, slice_set, get_or, refl, rules}
use Rattle.tm_rules.specs.Types.{Domain}
use Rattle.tm_change_domains.proofs.Domains.{changed_here}
use Rattle.tm_change_domains.proofs.changing.set_quota.Goals as goal

pub returns-clause-done : goal.returns-clause-done
returns-clause-done c domain e =
    let change : Domain → Domain = λ x. record x { quota_exceeded = c.args.full } in
    let set : c.from_vec.result ≡ slice_set c.args.policy.now.domains c.args.number (record c.index_mut.result.now { quota_exceeded = c.args.full }) = search rules in
    let at : c.index_mut.result.now ≡ get_or c.args.policy.now.domains c.args.number c.index_mut.result.now = search rules in
    changed_here c.args.policy.now c.args.number change domain c.index_mut.result.now (record c.index_mut.result.now { quota_exceeded = c.args.full }) c.from_vec.result e at set refl
