use Rattle.std.proofs.Common.{◌≡◌, ◌+◌, slice_set, get_or, sum_by, rules}
use Rattle.tm_rules.specs.Types.{Domain}
use Rattle.std.proofs.Common.{ap}
use Rattle.tm_rules.specs.Prelude.{adding}
use Rattle.tm_change_entries.specs.Counting.{permissions_of}
use Rattle.tm_change_domains.proofs.Domains.{changed_here, counted_here, lent_here}
use Rattle.tm_change_domains.proofs.changing.add_line.Goals as goal

pub returns-in-Ok-clause-done : goal.returns-in-Ok-clause-done
returns-in-Ok-clause-done c domain e =
    let change : Domain → Domain = λ x. record x { entries = adding c.args.line x.entries } in
    let set : c.from_vec.result ≡ slice_set c.args.policy.now.domains c.args.number (record c.index_mut.result.now { entries = c.add_at.new.entries }) = search rules in
    let at : c.index_mut.result.now ≡ get_or c.args.policy.now.domains c.args.number c.index_mut.result.now = search rules in
    let after : c.add_at.new.entries ≡ adding c.args.line c.index_mut.result.now.entries = search rules in
    let same : (record c.index_mut.result.now { entries = c.add_at.new.entries }) ≡ change c.index_mut.result.now = ap (λ y. let x : Domain = record c.index_mut.result.now { entries = y } in x) after in
    changed_here c.args.policy.now c.args.number change domain c.index_mut.result.now (record c.index_mut.result.now { entries = c.add_at.new.entries }) c.from_vec.result e at set same

pub returns-in-Ok-clause-counted : goal.returns-in-Ok-clause-counted
returns-in-Ok-clause-counted c domain e =
    let added : c.add_at.new.entries ≡ adding c.args.line c.index_mut.result.now.entries = search rules in
    let at : c.index_mut.result.now ≡ get_or c.args.policy.now.domains c.args.number c.index_mut.result.now = search rules in
    let sums : sum_by permissions_of c.add_at.new.entries + c.in-Ok.change.before ≡ sum_by permissions_of c.index_mut.result.now.entries + c.in-Ok.change.after = search rules in
    counted_here c.args.policy.now c.args.number c.args.line domain c.index_mut.result.now c.add_at.new.entries c.in-Ok.change.before c.in-Ok.change.after e at added sums

pub add_at-requires : goal.add_at-requires
add_at-requires c =
    let at : c.index_mut.result.now ≡ get_or c.args.policy.now.domains c.args.number c.index_mut.result.now = search rules in
    c.requires.at c.index_mut.result.now (lent_here c.args.policy.now c.args.number c.index_mut.result.now c.requires.within at)
