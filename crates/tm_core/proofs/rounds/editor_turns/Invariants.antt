use Rattle.std.proofs.Common.{◌≡◌, map}
use Rattle.tm_rules.specs.Types.{Turn}
use Rattle.tm_legal.specs.Prelude.{numbers_to}
use Rattle.tm_core.proofs.rounds.editor_turns.Given as goal

abbrev pub invariant-loop-place : goal.invariant-loop-place
invariant-loop-place l = l.turns.items ≡ map Turn.Editor (numbers_to l.place)
