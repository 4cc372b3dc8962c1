use Rattle.std.proofs.Common.{◌≤◌}
use Rattle.tm_rows.proofs.playing.judge_rows.Given as goal

-- no more rows differ than were played
abbrev pub invariant-loop-row : goal.invariant-loop-row
invariant-loop-row g l = l.differ ≤ l.row-index
