use Rattle.std.proofs.Common.{◌≡◌, ◌+◌, ◌++◌, ◌≤◌, length}
use Rattle.tm_word.specs.Prelude.{lines_of}
use Rattle.tm_vectors.specs.Reports.{agreeing, differing, all_said}
use Rattle.tm_vectors.proofs.rows.judge_lines.Given as goal

-- what is counted and said so far, and what is still to be, is the whole; there are no more rows
-- than bytes so far
abbrev pub invariant-loop-line : goal.invariant-loop-line
invariant-loop-line l =
    (l.agree + agreeing l.table (lines_of l.rest) ≡ agreeing l.table (lines_of l.text))
    × (l.differ + differing l.table (lines_of l.rest) ≡ differing l.table (lines_of l.text))
    × (l.out.items ++ all_said l.table l.number (lines_of l.rest) ≡ l.initial.out.items ++ all_said l.table 1 (lines_of l.text))
    × (l.agree + length l.rest ≤ length l.text)
    × (l.differ + length l.rest ≤ length l.text)
    × (l.number + length l.rest ≤ length l.text + 1)

abbrev pub decreases-loop-line : goal.decreases-loop-line
decreases-loop-line l = length l.rest
