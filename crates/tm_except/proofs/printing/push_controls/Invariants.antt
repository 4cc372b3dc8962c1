use Rattle.std.proofs.Common.{◌≡◌, ◌++◌, take}
use Rattle.tm_except.specs.Printing.{controls_text}
use Rattle.tm_except.proofs.printing.push_controls.Given as goal

-- what was appended so far
abbrev pub invariant-loop-control : goal.invariant-loop-control
invariant-loop-control l = l.out.items ≡ l.initial.out.items ++ controls_text l.ns (take l.control-index l.controls)
