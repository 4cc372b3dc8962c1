use Rattle.std.proofs.Common.{subst}
use Rattle.tm_desk.specs.Desks.{desk_book}
use Rattle.tm_machine.specs.Office.{list_of}
use Rattle.tm_seat.specs.Replayed.{Replayed}
use Rattle.tm_replay.proofs.Whole.{replayed-run}
use Rattle.tm_replay.proofs.run.replay_all.Goals as goal

pub returns-clause-legal : goal.returns-clause-legal
returns-clause-legal g c =
    let start = c.args.machine.start in
    rw c.in_ok-steps.ensures
    (replayed-run c.replayed_runs_are_legal.ensures start c.args.trace.now (desk_book c.args.desk.now) c.args.workers c.in_ok-machine.machine c.in_ok-machine.rows.items c.in_ok-takes.takes c.in_ok-machine.ensures.opening c.requires.trees c.requires.written c.requires.can c.versions.ensures.replies (subst (λ trace. Replayed start trace (desk_book c.args.desk.now) c.args.workers (list_of c.in_ok-machine.machine) c.in_ok-machine.rows.items) c.in_ok-copy.ensures c.in_ok-machine.ensures.played) c.in_ok-takes.ensures).0

pub returns-clause-attached : goal.returns-clause-attached
returns-clause-attached g c =
    let start = c.args.machine.start in
    rw c.in_ok-steps.ensures
    (replayed-run c.replayed_runs_are_legal.ensures start c.args.trace.now (desk_book c.args.desk.now) c.args.workers c.in_ok-machine.machine c.in_ok-machine.rows.items c.in_ok-takes.takes c.in_ok-machine.ensures.opening c.requires.trees c.requires.written c.requires.can c.versions.ensures.replies (subst (λ trace. Replayed start trace (desk_book c.args.desk.now) c.args.workers (list_of c.in_ok-machine.machine) c.in_ok-machine.rows.items) c.in_ok-copy.ensures c.in_ok-machine.ensures.played) c.in_ok-takes.ensures).1
