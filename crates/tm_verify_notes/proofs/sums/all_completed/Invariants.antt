use Rattle.std.proofs.Common.{take}
use Rattle.tm_take.specs.Each.{EachWith}
use Rattle.tm_verify_notes.specs.Sums.{Completes}
use Rattle.tm_verify_notes.proofs.sums.all_completed.Given as goal

-- those so far are complete
abbrev pub invariant-loop-part : goal.invariant-loop-part
invariant-loop-part l = EachWith Completes (take l.part-index l.parts) l.notes.items
