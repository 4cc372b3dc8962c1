use Rattle.std.proofs.Common.{◌≡◌, drop, map}
use Rattle.tm_word.specs.Prelude.{name_of}
use Rattle.tm_word.proofs.closed.name_of.Given as goal

abbrev pub invariant-loop-name : goal.invariant-loop-name
invariant-loop-name l = name_of (map (λ row. (row.0.now, row.1)) (drop l.name-index l.table)) l.number ≡ name_of (map (λ row. (row.0.now, row.1)) l.table) l.number
