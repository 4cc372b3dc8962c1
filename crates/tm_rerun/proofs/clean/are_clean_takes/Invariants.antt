use Rattle.std.proofs.Common.{◌≡◌, drop}
use Rattle.std.specs.List.{list_all}
use Rattle.tm_rules.specs.Prelude.{is_clean_take}
use Rattle.tm_rerun.proofs.clean.are_clean_takes.Given as goal

abbrev pub invariant-loop-take : goal.invariant-loop-take
invariant-loop-take l = list_all is_clean_take (drop l.take-index l.takes) ≡ list_all is_clean_take l.takes
