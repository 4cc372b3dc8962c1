use Rattle.std.proofs.Common.{◌≡◌, ◌==◌, drop}
use Rattle.std.specs.List.{list_any}
use Rattle.tm_sort.specs.declared.rules.Rule.{Rule}
use Rattle.tm_sort.proofs.parts.is_part.Given as goal

-- no rule so far names it
abbrev pub invariant-loop-rule : goal.invariant-loop-rule
invariant-loop-rule l = list_any (λ (rule : Rule). rule.dest == l.number) (drop l.rule-index l.rules) ≡ list_any (λ (rule : Rule). rule.dest == l.number) l.rules
