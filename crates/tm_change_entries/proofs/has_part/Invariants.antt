use Rattle.std.proofs.Common.{◌≡◌, drop}
use Rattle.tm_rules.specs.Prelude.{has_part}
use Rattle.tm_change_entries.proofs.has_part.Given as goal

-- the entries from here on have it where all have it
abbrev pub invariant-loop-entry : goal.invariant-loop-entry
invariant-loop-entry l = has_part l.line (drop l.entry-index l.entries) ≡ has_part l.line l.entries
