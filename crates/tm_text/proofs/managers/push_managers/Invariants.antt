use Rattle.std.proofs.Common.{◌≡◌, ◌++◌, take}
use Rattle.std.specs.List.{flat_map}
use Rattle.tm_text.specs.ManagerText.{manager_line}
use Rattle.tm_text.proofs.managers.push_managers.Given as goal

abbrev pub invariant-loop-name : goal.invariant-loop-name
invariant-loop-name l = l.out.items ≡ l.initial.out.items ++ flat_map manager_line (take l.name-index l.managers)
