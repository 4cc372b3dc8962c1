use Rattle.std.proofs.Common.{◌<◌, ◌∙◌, true, length, arith}
use Rattle.tm_io.specs.declared.names.FileName.{FileName}
use Rattle.tm_call.specs.declared.fetches.Want.{Want}
use Rattle.tm_call.specs.declared.status.Status.{Status}
use Rattle.tm_call.specs.Calls.{wanted}
use Rattle.tm_call.specs.Fetches.{want}
use Rattle.tm_call.proofs.Steps.{stops-at, given-at}
use Rattle.tm_call.proofs.Calls.{none-after, last-at, noted-at, first-last, fetches-stopped}
use Rattle.tm_call.proofs.fetches.fetch_all.Goals as goal

pub returns-in-Err-clause-stops : goal.returns-in-Err-clause-stops
returns-in-Err-clause-stops g c =
    let lt : c.loop-want.want-index < length c.args.wants.now = omega arith in
    stops-at _ _ _ _ _ _ _ _ _ _ lt c.loop-want.invariant.given c.loop-want.invariant.kept c.loop-want.invariant.counts c.in-Err.ensures.stops

pub returns-in-Err-clause-last : goal.returns-in-Err-clause-last
returns-in-Err-clause-last g c =
    let lt : c.loop-want.want-index < length c.args.wants.now = omega arith in
    fetches-stopped (wanted c.args.wants.now) _ _ _ _ _ _ c.in-Err.ensures.stops (last-at (λ (want : Want). want.name) c.args.wants.now c.loop-want.want-index _ _ _ _ lt c.loop-want.invariant.fetched c.in-Err.ensures.fetches)

pub returns-in-Err-push-clause-stops : goal.returns-in-Err-push-clause-stops
returns-in-Err-push-clause-stops g c =
    let lt : c.loop-want.want-index < length c.args.wants.now = omega arith in
    stops-at (g.S.Shelf.file c.args.shelf.now) (g.S.Shelf.file c.loop-want.shelf) c.args.wants.now c.loop-want.want-index (want FileName.Profile true) c.loop-want.texts (g.S.Shelf.faults c.args.shelf.now) (g.S.Shelf.faults c.loop-want.shelf) _ Status.OutOfMemory lt c.loop-want.invariant.given c.loop-want.invariant.kept c.loop-want.invariant.counts tt

pub returns-in-Err-push-clause-last : goal.returns-in-Err-push-clause-last
returns-in-Err-push-clause-last g c =
    let lt : c.loop-want.want-index < length c.args.wants.now = omega arith in
    first-last (wanted c.args.wants.now) _ _ _ (last-at (λ (want : Want). want.name) c.args.wants.now c.loop-want.want-index _ _ _ _ lt c.loop-want.invariant.fetched c.in-Ok.ensures.fetches)

pub loop-want-preserved : goal.loop-want-preserved
loop-want-preserved g c =
    let lt : c.loop-want.want-index < length c.args.wants.now = omega arith in
    record {
      given = given-at (g.S.Shelf.file c.args.shelf.now) (g.S.Shelf.file c.loop-want.shelf) c.args.wants.now c.loop-want.want-index _ c.loop-want.texts c.push.new.self c.in-Ok.text lt c.loop-want.invariant.given c.loop-want.invariant.kept c.in-Ok.ensures.text c.in-Ok-push.ensures.ok;
      kept = λ name. c.in-Ok.ensures.kept name ∙ c.loop-want.invariant.kept name;
      counts = omega arith;
      fetched = noted-at (λ (want : Want). want.name) c.args.wants.now c.loop-want.want-index _ _ _ _ lt c.loop-want.invariant.fetched c.in-Ok.ensures.fetches;
      unstored = none-after _ _ _ _ c.loop-want.invariant.unstored c.in-Ok.ensures.no_store;
    }
