use Rattle.std.proofs.Common.{◌≡◌}
use Rattle.tm_seat.proofs.rows.line_up.Given as goal

abbrev pub invariant-loop-rows : goal.invariant-loop-rows
invariant-loop-rows l = l.lined.items ≡ l.yielded
