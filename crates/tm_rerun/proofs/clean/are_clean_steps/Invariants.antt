use Rattle.std.proofs.Common.{◌≡◌, drop}
use Rattle.std.specs.List.{list_all}
use Rattle.tm_rules.specs.Prelude.{is_clean_step}
use Rattle.tm_rerun.proofs.clean.are_clean_steps.Given as goal

abbrev pub invariant-loop-step : goal.invariant-loop-step
invariant-loop-step l = list_all is_clean_step (drop l.step-index l.steps) ≡ list_all is_clean_step l.steps
