use Rattle.std.proofs.Common.{◌≡◌, drop}
use Rattle.tm_io.specs.Memory.{is_listed}
use Rattle.tm_io.proofs.memory.is_listed.Given as goal

abbrev pub invariant-loop-fail : goal.invariant-loop-fail
invariant-loop-fail l = is_listed (drop l.fail-index l.fails) l.number ≡ is_listed l.fails l.number
