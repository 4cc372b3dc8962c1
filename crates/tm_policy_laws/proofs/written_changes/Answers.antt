use Rattle.tm_policy_laws.proofs.LineKeeps.{live_written, names_written, aggregators_written, line_written, learn_written, make_written, fail_written}
use Rattle.tm_policy_laws.proofs.StepKeeps.{new_written}
use Rattle.tm_policy_laws.proofs.written_changes.Goals as goal

pub returns : goal.returns
returns c = record {
  new = new_written;
  line = λ policy cursor line h fits. line_written policy cursor h line fits;
  learn = learn_written;
  make = make_written;
  fail = fail_written;
  live = live_written;
  names = names_written;
  aggregators = aggregators_written;
}
