use Rattle.std.proofs.Common.{◌≡◌, ◌++◌, drop}
use Rattle.std.specs.Prelude.{option_map}
use Rattle.tm_vectors.specs.Answers.{controls_of}
use Rattle.tm_vectors.proofs.transitions.read_controls.Given as goal

-- the controls so far, and behind them those of the lines that are left
abbrev pub invariant-loop-line : goal.invariant-loop-line
invariant-loop-line l = option_map (λ others. l.controls ++ others) (controls_of (drop l.line-index l.lines)) ≡ controls_of l.lines
