use mathlib.Core.Path.{fun_ext}
use Rattle.tm_index.specs.Listing.{closed, listed}
use Rattle.tm_index.proofs.ListingLaws.{listed_equal}
use Rattle.tm_index.proofs.list.ListIndex.close.Goals as goal

pub returns : goal.returns
unfolding closed
returns c =
    listed_equal (listed (record { named = c.close.new.self; others = c.close-2.new.list; stemmed = c.close-3.new.self; rest = c.close-4.new.list; lines = c.close-5.new.self })) (closed c.args.place (listed c.args.self.now))
    (fun_ext c.close.ensures) c.close-2.ensures (fun_ext c.close-3.ensures) c.close-4.ensures (fun_ext c.close-5.ensures)
