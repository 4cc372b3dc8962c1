use Rattle.std.proofs.Common.{◌≡◌, drop}
use Rattle.tm_profile.specs.Reading.{slot_in}
use Rattle.tm_profile.proofs.slots.slot_in.Given as goal

-- from here on it finds what the whole finds
abbrev pub invariant-loop-slot : goal.invariant-loop-slot
invariant-loop-slot l = slot_in (drop l.slot-index l.slots) l.word ≡ slot_in l.slots l.word
