use Rattle.std.proofs.Common.{◌≡◌, slice_set, get_or, rules}
use Rattle.tm_rules.specs.Types.{Domain}
use Rattle.std.proofs.Common.{ap}
use Rattle.tm_rules.specs.Prelude.{remove_key}
use Rattle.tm_change_domains.proofs.Domains.{changed_here}
use Rattle.tm_change_domains.proofs.changing.remove_group.Goals as goal

pub returns-clause-done : goal.returns-clause-done
returns-clause-done c domain e =
    let change : Domain → Domain = λ x. record x { groups = remove_key c.args.group x.groups } in
    let set : c.from_vec.result ≡ slice_set c.args.policy.now.domains c.args.number (record c.index_mut.result.now { groups = c.remove.new.self }) = search rules in
    let at : c.index_mut.result.now ≡ get_or c.args.policy.now.domains c.args.number c.index_mut.result.now = search rules in
    let after : c.remove.new.self ≡ remove_key c.args.group c.index_mut.result.now.groups = search rules in
    let same : (record c.index_mut.result.now { groups = c.remove.new.self }) ≡ change c.index_mut.result.now = ap (λ y. let x : Domain = record c.index_mut.result.now { groups = y } in x) after in
    changed_here c.args.policy.now c.args.number change domain c.index_mut.result.now (record c.index_mut.result.now { groups = c.remove.new.self }) c.from_vec.result e at set same
