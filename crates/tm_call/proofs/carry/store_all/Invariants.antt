use Rattle.std.proofs.Common.{◌≤◌, [], take}
use Rattle.tm_io.specs.Notes.{Noted}
use Rattle.tm_call.specs.Stores.{Leaves, names_of}
use Rattle.tm_call.proofs.carry.store_all.Given as goal

abbrev pub invariant-loop-name : goal.invariant-loop-name
invariant-loop-name g l =
    record {
      made : Leaves (take l.name-index l.stores) (g.S.Shelf.file l.fn.shelf) (g.S.Shelf.file l.shelf);
      counts : g.S.Shelf.faults l.fn.shelf ≤ g.S.Shelf.faults l.shelf;
      stored : Noted (names_of (take l.name-index l.stores)) (g.S.Shelf.stored l.fn.shelf) (g.S.Shelf.stored l.shelf);
      unfetched : Noted [] (g.S.Shelf.fetched l.fn.shelf) (g.S.Shelf.fetched l.shelf);
    }
