use Rattle.std.proofs.Common.{◌≡◌, drop}
use Rattle.std.specs.List.{list_all}
use Rattle.tm_rules.specs.Prelude.{is_plain_entry}
use Rattle.tm_rerun.proofs.plainness.are_plain_groups.Given as goal

abbrev pub invariant-loop-group : goal.invariant-loop-group
invariant-loop-group l = list_all (λ group. list_all is_plain_entry group.1) (drop l.group-index l.groups) ≡ list_all (λ group. list_all is_plain_entry group.1) l.groups
