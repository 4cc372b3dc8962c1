use Rattle.std.proofs.Common.{◌≡◌, ◌+◌, ◌≤◌, length, drop}
use Rattle.tm_addr.specs.Printing.{run, longest}
use Rattle.tm_addr.proofs.printing.longest.Given as goal

abbrev pub invariant-loop-place : goal.invariant-loop-place
invariant-loop-place l = (longest l.best l.place (drop l.place l.groups) ≡ longest (run 0 0) 0 l.groups) × (l.best.place + l.best.length ≤ length l.groups)
