use Rattle.std.proofs.Common.{◌≡◌, drop}
use Rattle.tm_rules.specs.Prelude.{has_line}
use Rattle.tm_change_entries.proofs.has_line.Given as goal

-- the entries from here on have it where all have it
abbrev pub invariant-loop-entry : goal.invariant-loop-entry
invariant-loop-entry l = has_line l.line (drop l.entry-index l.entries) ≡ has_line l.line l.entries
