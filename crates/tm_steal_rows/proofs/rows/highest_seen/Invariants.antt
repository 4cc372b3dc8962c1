use Rattle.std.proofs.Common.{◌≡◌, drop}
use Rattle.tm_legal.specs.Prelude.{raised}
use Rattle.tm_joint.specs.Played.{seen_by}
use Rattle.tm_steal_rows.proofs.rows.highest_seen.Given as goal

-- with the takes from here on it is raised by all of them
abbrev pub invariant-loop-take : goal.invariant-loop-take
invariant-loop-take l = raised l.highest (seen_by (drop l.take-index l.takes)) ≡ raised 0 (seen_by l.takes)
