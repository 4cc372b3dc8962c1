use Rattle.std.proofs.Common.{◌≡◌, drop}
use Rattle.std.specs.Prelude.{flat_map}
use Rattle.tm_legal.specs.Prelude.{raised, seen}
use Rattle.tm_take.proofs.raising.raised_by_looks.Given as goal

-- with the looks from here on it is raised by all of them
abbrev pub invariant-loop-look : goal.invariant-loop-look
invariant-loop-look l = raised l.low (flat_map seen (drop l.look-index l.looks)) ≡ raised l.floor (flat_map seen l.looks)
