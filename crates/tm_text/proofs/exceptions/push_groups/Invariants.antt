use Rattle.std.proofs.Common.{◌≡◌, ◌++◌, take}
use Rattle.std.specs.List.{flat_map}
use Rattle.tm_text.specs.ExceptionText.{acl_lines}
use Rattle.tm_text.proofs.exceptions.push_groups.Given as goal

-- the groups so far are there
abbrev pub invariant-loop-number : goal.invariant-loop-number
invariant-loop-number l = l.out.items ≡ l.initial.out.items ++ flat_map (acl_lines l.name) (take l.number-index l.groups)
