use Rattle.std.proofs.Common.{◌≡◌, ◌++◌, take}
use Rattle.std.specs.List.{flat_map}
use Rattle.tm_profile.specs.Printing.{slot_line}
use Rattle.tm_profile.proofs.printing.push_slots.Given as goal

-- the lines so far are there
abbrev pub invariant-loop-slot : goal.invariant-loop-slot
invariant-loop-slot l = l.out.items ≡ l.initial.out.items ++ flat_map (slot_line l.ns l.number) (take l.slot-index l.slots)
