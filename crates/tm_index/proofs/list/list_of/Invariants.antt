use Rattle.std.proofs.Common.{◌≡◌, take}
use Rattle.tm_index.specs.Listing.{listed, listing}
use Rattle.tm_index.proofs.list.list_of.Given as goal

abbrev pub invariant-loop-place : goal.invariant-loop-place
invariant-loop-place l = listed l.made ≡ listing (take l.place l.entries)
