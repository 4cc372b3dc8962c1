use Rattle.std.proofs.Common.{◌≡◌, get_or, slice_set, ◌∙◌, rules}
use Rattle.std.specs.List.{remove}
use Rattle.tm_rules.specs.Prelude.{without_permissions}
use Rattle.tm_change_entries.proofs.Edits.{left_entry, deleting_out, deleting_at}
use Rattle.tm_change_entries.proofs.take_at.Goals as goal

pub returns-then-left-eq0-clause-done : goal.returns-then-left-eq0-clause-done
returns-then-left-eq0-clause-done c =
    let read : c.index.result.now ≡ get_or c.args.entries.now c.args.place c.index.result.now = search rules in
    let made : c.from_vec.result ≡ remove c.args.entries.now c.args.place = search rules in
    made ∙ deleting_out c.args.line.now c.args.entries.now c.args.place c.index.result.now c.requires.found read c.if-left-eq0.true

pub returns-else-left-eq0-clause-done : goal.returns-else-left-eq0-clause-done
returns-else-left-eq0-clause-done c =
    let read : c.index.result.now ≡ get_or c.args.entries.now c.args.place c.index.result.now = search rules in
    let is : c.index_mut.result.now ≡ get_or c.args.entries.now c.args.place c.index_mut.result.now = search rules in
    let made : c.from_vec-else-left-eq0.result ≡ slice_set c.args.entries.now c.args.place (left_entry c.index_mut.result.now (without_permissions c.index.result.now.perms.bits c.args.line.now.perms.bits)) = search rules in
    made ∙ deleting_at c.args.line.now c.args.entries.now c.args.place c.index.result.now c.index_mut.result.now c.requires.found c.requires.within read is c.if-left-eq0.false
