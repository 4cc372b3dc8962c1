use Rattle.std.proofs.Common.{◌≡◌, ◌++◌, take}
use Rattle.std.specs.List.{flat_map}
use Rattle.tm_text.specs.ExceptionText.{acl_line}
use Rattle.tm_text.proofs.exceptions.push_group.Given as goal

-- the entries so far are there
abbrev pub invariant-loop-entry : goal.invariant-loop-entry
invariant-loop-entry l = l.out.items ≡ l.initial.out.items ++ flat_map (acl_line l.name l.number) (take l.entry-index l.entries)
