use Rattle.tm_index.specs.Listing.{listed}
use Rattle.tm_indexed.proofs.WalkLaws.{Gives}
use Rattle.tm_indexed.proofs.search.soonest_of_name.Given as goal

abbrev pub invariant-loop-end : goal.invariant-loop-end
invariant-loop-end l = Gives l.asked l.entries (listed l.list).stemmed l.name l.fn.found l.end l.soonest
