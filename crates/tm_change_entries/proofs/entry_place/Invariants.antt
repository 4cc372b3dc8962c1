use Rattle.std.proofs.Common.{◌≡◌, drop}
use Rattle.std.specs.List.{position_from}
use Rattle.tm_rules.specs.Types.{Entry}
use Rattle.tm_rules.specs.Prelude.{same_line}
use Rattle.tm_change_entries.proofs.entry_place.Given as goal

-- from here on it is found where it is found in all
abbrev pub invariant-loop-place : goal.invariant-loop-place
invariant-loop-place l = position_from (λ (entry : Entry). same_line entry l.line) l.place (drop l.place l.entries) ≡ position_from (λ (entry : Entry). same_line entry l.line) 0 l.entries
