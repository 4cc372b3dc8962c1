use Rattle.tm_index.specs.Listing.{noting_rest, noting}
use Rattle.tm_index.proofs.list.ListIndex.take_last.Goals as goal

pub returns : goal.returns
unfolding noting
returns c before place h = c.take_rest.ensures before place (c.take_name.ensures (noting_rest c.args.label.now place before) place (rw c.as_ref.ensures.value h))
