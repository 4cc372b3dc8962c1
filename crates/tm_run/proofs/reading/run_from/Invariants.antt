use Rattle.std.proofs.Common.{◌≡◌, ◌+◌, ◌≤◌, length}
use Rattle.tm_run.specs.Reading.{fresh, lines_of, run_from}
use Rattle.tm_run.proofs.reading.run_from.Given as goal

-- from here on it reads what the whole reads
abbrev pub invariant-loop-line : goal.invariant-loop-line
invariant-loop-line l =
    (run_from l.number l.reading (lines_of l.rest) ≡ run_from 2 fresh (lines_of l.text)) × (l.number + length l.rest ≤ length l.text + 2)

abbrev pub decreases-loop-line : goal.decreases-loop-line
decreases-loop-line l = length l.rest
