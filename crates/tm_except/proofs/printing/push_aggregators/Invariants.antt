use Rattle.std.proofs.Common.{◌≡◌, ◌++◌, take}
use Rattle.tm_except.specs.Printing.{aggregators_text}
use Rattle.tm_except.proofs.printing.push_aggregators.Given as goal

-- what was appended so far
abbrev pub invariant-loop-first : goal.invariant-loop-first
invariant-loop-first l = l.out.items ≡ l.initial.out.items ++ aggregators_text l.ns (take l.first-index l.aggregators)
