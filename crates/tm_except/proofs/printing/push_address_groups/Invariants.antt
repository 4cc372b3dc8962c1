use Rattle.std.proofs.Common.{◌≡◌, ◌++◌, take}
use Rattle.tm_except.specs.Printing.{address_groups_text}
use Rattle.tm_except.proofs.printing.push_address_groups.Given as goal

-- what was appended so far
abbrev pub invariant-loop-name : goal.invariant-loop-name
invariant-loop-name l = l.out.items ≡ l.initial.out.items ++ address_groups_text l.ns (take l.name-index l.groups)
