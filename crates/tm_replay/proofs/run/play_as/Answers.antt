use Rattle.std.proofs.Common.{◌<◌, ◌++◌, length, map, ap, sym, ◌∙◌, subst}
use Rattle.tm_rules.specs.Types.{Made, Reply, Start}
use Rattle.tm_legal.proofs.Walks.{All-map}
use Rattle.tm_desk.specs.Desks.{desk_book}
use Rattle.tm_seat.specs.Parts.{IsWorking, PartWaits, desk_parts}
use Rattle.tm_seat.proofs.Lists.{All-of}
use Rattle.tm_publish.specs.Words.{IsFresh}
use Rattle.tm_replay.specs.Jobs.{ArePlayed}
use Rattle.tm_replay.proofs.Given.{waits-working}
use Rattle.tm_replay.proofs.Ending.{all-played}
use Rattle.tm_replay.proofs.run.play_as.Goals as goal

pub open_engine-requires-clause-empty : goal.open_engine-requires-clause-empty
open_engine-requires-clause-empty g c = ap (map (λ (pair : Made × Reply). pair.0)) c.requires.made

pub play_at-requires-clause-fresh : goal.play_at-requires-clause-fresh
play_at-requires-clause-fresh g c κs within =
    (c.args.machine.start, All-of (IsFresh c.args.machine.start) _ c.in_ok-engine.ensures.fresh, c.requires.can, ap (λ (s : Start). s.desk) c.opening.ensures, c.requires.waits)

pub close-requires : goal.close-requires
close-requires g c =
    let start = c.args.machine.start in
    let ready = g.K.Work.ready c.args.way.now in
    let working = All-map (PartWaits ready start) IsWorking c.args.parts.items (waits-working ready start) c.requires.waits in
    let played = c.in_ok-passes.ensures start (All-of (IsFresh start) _ c.in_ok-engine.ensures.fresh) (ap (λ (s : Start). s.desk) c.opening.ensures) working in
    played.count ∙ sym c.requires.count ∙ sym c.requires.passes ∙ c.requires.named.is_parts

pub returns-in-Some : goal.returns-in-Some
returns-in-Some g c =
    let start = c.args.machine.start in
    let ready = g.K.Work.ready c.args.way.now in
    let did = g.K.Work.did c.args.way.now in
    let working = All-map (PartWaits ready start) IsWorking c.args.parts.items (waits-working ready start) c.requires.waits in
    let played = c.in_ok-passes.ensures start (All-of (IsFresh start) _ c.in_ok-engine.ensures.fresh) (ap (λ (s : Start). s.desk) c.opening.ensures) working in
    let some : 0 < length (c.args.parts.items ++ desk_parts start.desk) = subst (λ m. 0 < m) c.requires.count c.requires.some in
    rw c.into_vec.ensures
    (all-played did start (desk_book c.args.desk.now) c.args.parts.items c.in_ok-closed.closed.office c.in_ok-passes.passes.items c.in-Some.queues c.in_ok-closed.closed.own
    (subst (λ found. ArePlayed did start (desk_book c.args.desk.now) (c.args.parts.items ++ desk_parts start.desk) c.in_ok-passes.passes.items found) c.in-Some.is played)
    some c.in_ok-closed.ensures.counted c.in_ok-closed.ensures.own c.in_ok-closed.ensures.known c.in_ok-closed.ensures.opening)
