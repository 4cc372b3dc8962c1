use Rattle.tm_steal_rows.specs.Gathering.{RowsAreOfParts}
use Rattle.tm_steal_rows.proofs.rows.all_rows.Given as goal

abbrev pub invariant-loop-part : goal.invariant-loop-part
invariant-loop-part l = RowsAreOfParts l.fn.supervised l.yielded l.fn.ends.items l.rows.items l.ends.items
