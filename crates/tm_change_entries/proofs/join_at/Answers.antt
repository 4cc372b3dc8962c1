use Rattle.std.proofs.Common.{◌≡◌, slice_set, ◌∙◌, rules}
use Rattle.tm_change_entries.proofs.Edits.{joined_entry, adding_at}
use Rattle.tm_change_entries.proofs.join_at.Goals as goal

pub returns-clause-done : goal.returns-clause-done
returns-clause-done c =
    let made : c.from_vec.result ≡ slice_set c.args.entries.now c.args.place (joined_entry c.args.line.now c.index_mut.result.now) = search rules in
    made ∙ adding_at c.args.line.now c.args.entries.now c.args.place c.index_mut.result.now c.requires.found (search rules)
