use Rattle.std.proofs.Common.{◌≤◌, [], take}
use Rattle.tm_io.specs.Files.{SameFiles}
use Rattle.tm_io.specs.Notes.{Noted}
use Rattle.tm_call.specs.Fetches.{AllGiven}
use Rattle.tm_call.specs.Calls.{wanted}
use Rattle.tm_call.proofs.fetches.fetch_all.Given as goal

abbrev pub invariant-loop-want : goal.invariant-loop-want
invariant-loop-want g l =
    record {
      given : AllGiven (g.S.Shelf.file l.fn.shelf) (take l.want-index l.wants) l.texts;
      kept : SameFiles (g.S.Shelf.file l.fn.shelf) (g.S.Shelf.file l.shelf);
      counts : g.S.Shelf.faults l.fn.shelf ≤ g.S.Shelf.faults l.shelf;
      fetched : Noted (wanted (take l.want-index l.wants)) (g.S.Shelf.fetched l.fn.shelf) (g.S.Shelf.fetched l.shelf);
      unstored : Noted [] (g.S.Shelf.stored l.fn.shelf) (g.S.Shelf.stored l.shelf);
    }
