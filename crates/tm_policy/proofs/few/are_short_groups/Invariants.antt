use Rattle.std.proofs.Common.{◌≡◌, ℕ, List, length, drop}
use Rattle.std.specs.List.{list_all}
use Rattle.tm_rules.specs.Types.{Entry}
use Rattle.tm_policy.specs.FewTests.{is_short}
use Rattle.tm_policy.proofs.few.are_short_groups.Given as goal

abbrev pub invariant-loop-entries : goal.invariant-loop-entries
invariant-loop-entries l = list_all (λ (group : ℕ × List Entry). is_short (length group.1)) (drop l.entries-index l.groups) ≡ list_all (λ (group : ℕ × List Entry). is_short (length group.1)) l.groups
