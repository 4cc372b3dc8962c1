use Rattle.std.proofs.Common.{◌∙◌}
use Rattle.tm_indexed.proofs.MakeLaws.{live_first}
use Rattle.tm_indexed.proofs.making.live_in.Goals as goal

pub returns : goal.returns
returns c policy e = c.first.ensures ∙ live_first c.args.index.now policy c.args.name.now c.live_noted.result.now e c.live_noted.ensures
