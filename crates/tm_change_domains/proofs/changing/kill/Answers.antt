use Rattle.std.proofs.Common.{◌≡◌, false, slice_set, get_or, refl, rules}
use Rattle.tm_change_domains.proofs.Domains.{dead_here}
use Rattle.tm_change_domains.proofs.changing.kill.Goals as goal

pub returns-clause-done : goal.returns-clause-done
returns-clause-done c =
    let set : c.from_vec.result ≡ slice_set c.args.policy.now.domains c.args.number (record c.index_mut.result.now { live = false }) = search rules in
    let at : c.index_mut.result.now ≡ get_or c.args.policy.now.domains c.args.number c.index_mut.result.now = search rules in
    dead_here c.args.policy.now c.args.number c.index_mut.result.now (record c.index_mut.result.now { live = false }) c.from_vec.result at set refl
