use Rattle.std.proofs.Common.{◌≡◌, drop}
use Rattle.std.specs.List.{list_all}
use Rattle.tm_rules.specs.Prelude.{is_plain_entry}
use Rattle.tm_rerun.proofs.plainness.are_plain_entries.Given as goal

abbrev pub invariant-loop-entry : goal.invariant-loop-entry
invariant-loop-entry l = list_all is_plain_entry (drop l.entry-index l.entries) ≡ list_all is_plain_entry l.entries
