use Rattle.std.proofs.Common.{length, ◌∙◌, subst}
use Rattle.std.proofs.lemmas.Result.{IfOk-weaker}
use Rattle.tm_rules.specs.Types.{Start}
use Rattle.tm_publish.specs.Words.{known, made_of}
use Rattle.tm_seat.proofs.Opening.{begins-further}
use Rattle.tm_seat.specs.Parts.{deed}
use Rattle.tm_replay.specs.Seats.{home_of}
use Rattle.tm_replay.proofs.Playing.{goes-back, begins-long}
use Rattle.tm_replay.proofs.job.run_worker.Goals as goal

pub returns-clause-did : goal.returns-clause-did
returns-clause-did g c =
    let old = c.args.pass in
    let mid = c.arrive.new.self.pass in
    let new = c.work-rows.new.seat.pass in
    IfOk-weaker c.work-rows.result _ (λ rows. g.K.Work.did c.args.field.now.way.now (home_of old) (length (known old)) c.args.hand (deed (known new) (made_of new) rows.items))
    (λ rows did.
    subst (λ (start : Start). g.K.Work.did c.args.field.now.way.now start (length (known old)) c.args.hand (deed (known new) (made_of new) rows.items))
    c.arrive.ensures.opening
    (did (length (known old)) (begins-long (known old) (known mid) c.arrive.ensures.grows)))
    c.work-rows.ensures.did

pub returns-clause-back : goal.returns-clause-back
returns-clause-back g c =
    let old = c.args.pass in
    let mid = c.arrive.new.self.pass in
    let new = c.work-rows.new.seat.pass in
    goes-back old new (c.work-rows.ensures.opening ∙ c.arrive.ensures.opening) (begins-further (known old) (known mid) (known new) c.arrive.ensures.grows c.work-rows.ensures.grows) c.seen.ensures.known
