use Rattle.std.proofs.Common.{◌≡◌, ℕ, List, drop}
use Rattle.std.specs.List.{find}
use Rattle.tm_rules.specs.Types.{Component}
use Rattle.tm_word.specs.Prelude.{matches}
use Rattle.tm_except.proofs.find_name.Given as goal

abbrev pub invariant-loop-first : goal.invariant-loop-first
invariant-loop-first l = find (λ (pair : List Component × List ℕ). matches pair.0 l.path) (drop l.first-index l.aggregators) ≡ find (λ (pair : List Component × List ℕ). matches pair.0 l.path) l.aggregators
