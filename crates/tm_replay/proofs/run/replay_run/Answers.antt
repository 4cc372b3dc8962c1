use Rattle.std.proofs.Common.{sym, ◌∙◌}
use Rattle.tm_desk.specs.Desks.{desk_book}
use Rattle.tm_replay.proofs.Whole.{replayed-run, replayed-policy}
use Rattle.tm_replay.proofs.run.replay_run.Goals as goal

pub returns-clause-legal : goal.returns-clause-legal
returns-clause-legal g c =
    let start = c.args.machine.start in
    rw c.in_ok-steps.ensures.steps
    (replayed-run c.replayed_runs_are_legal.ensures start c.args.trace (desk_book c.args.desk.now) c.args.workers c.in_ok-machine.machine c.in_ok-machine.rows.items c.in_ok-takes.takes c.in_ok-machine.ensures.opening c.requires.trees c.requires.written c.requires.can c.versions.ensures.replies c.in_ok-machine.ensures.played c.in_ok-takes.ensures).0

pub returns-clause-attached : goal.returns-clause-attached
returns-clause-attached g c =
    let start = c.args.machine.start in
    rw c.in_ok-steps.ensures.steps
    (replayed-run c.replayed_runs_are_legal.ensures start c.args.trace (desk_book c.args.desk.now) c.args.workers c.in_ok-machine.machine c.in_ok-machine.rows.items c.in_ok-takes.takes c.in_ok-machine.ensures.opening c.requires.trees c.requires.written c.requires.can c.versions.ensures.replies c.in_ok-machine.ensures.played c.in_ok-takes.ensures).1

pub returns-clause-policy : goal.returns-clause-policy
returns-clause-policy g c =
    rw c.in_ok-steps.ensures.steps
    (replayed-policy c.args.machine.start c.args.trace (desk_book c.args.desk.now) c.in_ok-machine.machine c.in_ok-takes.takes c.in_ok-machine.ensures.opening c.requires.trees c.versions.ensures.after)
    ∙ sym c.in_ok-steps.ensures.policy
