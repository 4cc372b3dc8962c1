use Rattle.tm_desk.specs.Desks.{desk_book}
use Rattle.tm_seat.specs.Parts.{PartWaits, IsWorking}
use Rattle.tm_legal.proofs.Walks.{All-map}
use Rattle.tm_replay.proofs.Given.{waits-working}
use Rattle.tm_replay.proofs.Playing.{if-ok}
use Rattle.tm_replay.proofs.Whole.{began-given, played-at}
use Rattle.tm_replay.proofs.run.play_at.Goals as goal

pub run_jobs-done-requires-clause-given : goal.run_jobs-done-requires-clause-given
run_jobs-done-requires-clause-given g c κs within =
    let (start, fresh, can, stands, waits) = c.requires.fresh in
    let ready = g.K.Work.ready c.args.way.now in
    let working = All-map (PartWaits ready start) IsWorking c.args.parts.items (waits-working ready start) waits in
    let (attached, come, starts) = c.in_ok-jobs.ensures.starts start fresh working in
    λ k d lt. began-given (λ job. job.part) (λ job. job.pass) ready start attached c.args.supervised c.args.parts.items c.in_ok-jobs.jobs.items k d can stands c.in_ok-jobs.ensures.parts_are waits starts lt

pub returns : goal.returns
returns g c =
    if-ok _ _ _ c.take_apart.result c.take_apart.ensures.passes c.take_apart.ensures.rows
    (λ r passes rows start fresh stands working.
    let (attached, come, starts) = c.in_ok-jobs.ensures.starts start fresh working in
    played-at (λ job. job.part) (λ job. job.pass) (g.K.Work.did c.args.way.now) (λ job. job.rows) start (desk_book c.args.desk.now) c.args.supervised c.args.parts.items attached c.in_ok-jobs.jobs.items c.run_jobs-done.result.items r.0.items r.1 stands c.in_ok-jobs.ensures.parts_are come starts c.run_jobs-done.ensures.count c.run_jobs-done.ensures.done passes rows)
