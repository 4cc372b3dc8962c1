use Rattle.std.proofs.Common.{◌≡◌, ◌+◌, drop}
use Rattle.tm_addr.specs.Printing.{zeros}
use Rattle.tm_addr.proofs.printing.zeros.Given as goal

-- so many zeros so far, and those that follow
abbrev pub invariant-loop-group : goal.invariant-loop-group
invariant-loop-group l = (l.count ≡ l.group-index) × (l.count + zeros (drop l.group-index l.groups) ≡ zeros l.groups)
