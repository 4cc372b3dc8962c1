use Rattle.std.proofs.Common.{◌≡◌, None, sym, rules}
use Rattle.std.specs.List.{position_from}
use Rattle.tm_rules.specs.Types.{Entry}
use Rattle.tm_rules.specs.Prelude.{same_line}
use Rattle.tm_change_entries.proofs.Edits.{deleting_none}
use Rattle.tm_change_entries.proofs.remove.Goals as goal

pub returns-in_default-clause-done : goal.returns-in_default-clause-done
returns-in_default-clause-done c =
    let none : position_from (λ (entry : Entry). same_line entry c.args.line.now) 0 c.args.entries.now ≡ None = search rules in
    sym (deleting_none c.args.line.now c.args.entries.now none)
