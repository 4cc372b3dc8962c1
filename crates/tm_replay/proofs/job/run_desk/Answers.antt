use Rattle.std.proofs.Common.{⊎_elim, inl, inr}
use Rattle.tm_desk.specs.Desks.{desk_book}
use Rattle.tm_publish.specs.Words.{known, made_of}
use Rattle.tm_replay.specs.Seats.{home_of}
use Rattle.tm_replay.proofs.Passes.{home-there}
use Rattle.tm_replay.proofs.Playing.{supervisor-done}
use Rattle.tm_replay.proofs.job.run_desk.Goals as goal

pub returns-in-Ok-clause-did : goal.returns-in-Ok-clause-did
returns-in-Ok-clause-did g c =
    let old = c.args.pass.now in
    let new = c.serve-served.new.pass in
    let served = c.in-Ok.ensures.served in
    supervisor-done (home_of old) (desk_book c.args.field.now.desk.now) (known old) (known new) (made_of old) (made_of new) c.in-Ok.field-0 served.answers served.left
    c.requires.come (c.seen-2.ensures.begins (known old) (c.serve-served.ensures.knows (known old) c.seen.ensures.known))
    served.made served.rising served.counted (served.each (home_of old) (home-there old)) served.leaves
    (⊎_elim inl (λ done. inr (done (home_of old) (home-there old))) served.due) served.few
