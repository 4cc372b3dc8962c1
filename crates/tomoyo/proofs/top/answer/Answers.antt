use Rattle.tm_call.specs.Ends.{outside}
use Rattle.tomoyo.proofs.Called.{called-of, called-faulty}
use Rattle.tomoyo.proofs.top.answer.Goals as goal

pub returns-in-Err : goal.returns-in-Err
returns-in-Err g c = record { called = rw c.in-Err.is (called-faulty c.in-Err.place (outside g.S.Shelf g.K.Sink c.args.shelf.now c.args.out.now)) }

pub returns-in-Ok : goal.returns-in-Ok
returns-in-Ok g c =
    let h = c.perform.ensures in
    record {
      called = rw c.in-Ok.is
          (called-of c.in-Ok.command (outside g.S.Shelf g.K.Sink c.args.shelf.now c.args.out.now) (outside g.S.Shelf g.K.Sink c.perform.new.shelf c.perform.new.out) c.perform.result h.ends h.fetches h.stores h.stores_last);
    }
