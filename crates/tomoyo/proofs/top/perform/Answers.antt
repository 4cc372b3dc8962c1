use Rattle.std.proofs.Common.{refl, arith, ◌≤◌, inr}
use Rattle.tm_call.specs.Stores.{names_of}
use Rattle.tm_call.specs.Ends.{outside, Ends}
use Rattle.tomoyo.specs.Call.{read_by}
use Rattle.tm_call.proofs.Carried.{carried-after}
use Rattle.tomoyo.proofs.Named.{stores-made, stores-not-fetched, stores-refused}
use Rattle.tm_call.proofs.Calls.{none-after, fetches-carried, stores-after}
use Rattle.tomoyo.proofs.RefusedCalls.{fetches-refused}
use Rattle.tomoyo.proofs.top.perform.Goals as goal

pub returns-in-Err-clause-stores : goal.returns-in-Err-clause-stores
returns-in-Err-clause-stores g c =
    stores-not-fetched c.args.command (g.S.Shelf.file c.args.shelf.now) _ _ c.in-Err.status (g.S.Shelf.stored c.args.shelf.now) (g.S.Shelf.stored c.fetch_for.new.shelf) c.in-Err.ensures.stops c.in-Err.ensures.no_store

pub returns-in-Err-make-clause-ends : goal.returns-in-Err-make-clause-ends
returns-in-Err-make-clause-ends g c =
    Ends.Refused c.in-Ok.texts c.in-Ok.ensures.texts c.in-Err-make.ensures.refused (record { files = c.in-Ok.ensures.kept; written = refl })

pub returns-in-Err-make-clause-fetches : goal.returns-in-Err-make-clause-fetches
returns-in-Err-make-clause-fetches g c = fetches-refused c.args.command (read_by c.args.command) c.in-Ok.texts _ _ _ c.in-Err-make.ensures.refused c.in-Ok.ensures.all

pub returns-in-Err-make-clause-stores : goal.returns-in-Err-make-clause-stores
returns-in-Err-make-clause-stores g c =
    stores-refused c.args.command (g.S.Shelf.file c.args.shelf.now) c.in-Ok.texts c.in-Err-make.status (g.S.Shelf.stored c.args.shelf.now) (g.S.Shelf.stored c.fetch_for.new.shelf)
    c.in-Err-make.ensures.refused c.in-Ok.ensures.no_store

pub returns-in-Ok-make-clause-ends : goal.returns-in-Ok-make-clause-ends
returns-in-Ok-make-clause-ends g c =
    let same : g.K.Sink.faults c.args.out.now ≤ g.K.Sink.faults c.args.out.now = omega arith in
    let outcome = c.in-Ok-make.outcome in
    Ends.Made c.in-Ok.texts outcome c.in-Ok.ensures.texts c.in-Ok-make.ensures.made
    (carried-after outcome
    (outside g.S.Shelf g.K.Sink c.args.shelf.now c.args.out.now)
    (outside g.S.Shelf g.K.Sink c.fetch_for.new.shelf c.args.out.now)
    (outside g.S.Shelf g.K.Sink c.carry_out.new.shelf c.carry_out.new.out)
    c.carry_out.result (record { files = c.in-Ok.ensures.kept; written = refl; shelf = c.in-Ok.ensures.counts; sink = same }) c.carry_out.ensures.ends)

pub returns-in-Ok-make-clause-fetches : goal.returns-in-Ok-make-clause-fetches
returns-in-Ok-make-clause-fetches g c =
    fetches-carried (read_by c.args.command) c.in-Ok-make.outcome _ _ c.carry_out.result _ _ c.carry_out.ensures.ends
    (none-after _ _ _ (read_by c.args.command) c.in-Ok.ensures.all c.carry_out.ensures.no_fetch)

pub returns-in-Ok-make-clause-stores : goal.returns-in-Ok-make-clause-stores
returns-in-Ok-make-clause-stores g c =
    let outcome = c.in-Ok-make.outcome in
    stores-made c.args.command (g.S.Shelf.file c.args.shelf.now) c.in-Ok.texts outcome c.carry_out.result (g.S.Shelf.stored c.args.shelf.now) (g.S.Shelf.stored c.carry_out.new.shelf)
    c.in-Ok.ensures.texts c.in-Ok-make.ensures.made
    (stores-after (names_of outcome.stores) c.carry_out.result _ _ _ c.in-Ok.ensures.no_store c.carry_out.ensures.stores)

pub returns-in-Ok-make-clause-stores_last : goal.returns-in-Ok-make-clause-stores_last
returns-in-Ok-make-clause-stores_last g c = inr (none-after _ _ _ (read_by c.args.command) c.in-Ok.ensures.all c.carry_out.ensures.no_fetch)
