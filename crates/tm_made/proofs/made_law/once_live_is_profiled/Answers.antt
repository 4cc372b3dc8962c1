use Rattle.tm_made.proofs.Lasting.{once-live-is-profiled}
use Rattle.tm_made.proofs.made_law.once_live_is_profiled.Goals as goal

pub returns : goal.returns
returns c = once-live-is-profiled
