use Rattle.std.proofs.Common.{◌≡◌, drop, map}
use Rattle.tm_word.specs.Prelude.{begins_row}
use Rattle.tm_word.proofs.closed.begins_in.Given as goal

abbrev pub invariant-loop-name : goal.invariant-loop-name
invariant-loop-name g l = begins_row (map (λ row. (row.0.now, row.1)) (drop l.name-index l.table)) l.front ≡ begins_row (map (λ row. (row.0.now, row.1)) l.table) l.front
