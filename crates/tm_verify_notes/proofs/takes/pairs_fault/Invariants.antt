use Rattle.std.proofs.Common.{◌≡◌, ◌+◌, ◌≤◌, drop}
use Rattle.tm_verify_laws.specs.Scans.{pairs_fault}
use Rattle.tm_verify_notes.proofs.takes.pairs_fault.Given as goal

-- from here on it finds what the whole finds
abbrev pub invariant-loop-take : goal.invariant-loop-take
invariant-loop-take l = (pairs_fault l.number (drop l.take-index l.takes) l.rest ≡ pairs_fault 1 l.takes l.pids) × (l.number ≤ l.take-index + 1)
