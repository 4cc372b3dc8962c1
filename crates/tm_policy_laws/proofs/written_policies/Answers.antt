use Rattle.tm_policy_laws.proofs.StepKeeps.{text_written, step_written, steps_written, load_written}
use Rattle.tm_policy_laws.proofs.written_policies.Goals as goal

pub returns : goal.returns
returns c = record {
  text = text_written;
  stepped = step_written;
  after = steps_written;
  loaded = load_written;
}
