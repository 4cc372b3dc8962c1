use Rattle.std.proofs.Common.{◌≡◌, drop}
use Rattle.std.specs.List.{list_any}
use Rattle.tm_profile.specs.Reading.{begins_slot}
use Rattle.tm_profile.proofs.slots.begins_any.Given as goal

-- from here on it finds what the whole finds
abbrev pub invariant-loop-slot : goal.invariant-loop-slot
invariant-loop-slot l = list_any (begins_slot l.word) (drop l.slot-index l.slots) ≡ list_any (begins_slot l.word) l.slots
