use Rattle.tm_desk.specs.Desks.{desk_book}
use Rattle.tm_steal.proofs.Whole.{stolen-run}
use Rattle.tm_steal.proofs.run.steal_all.Goals as goal

pub returns-clause-legal : goal.returns-clause-legal
returns-clause-legal g c =
    rw c.in_ok-steps.ensures
    (stolen-run c.stolen_runs_are_legal.ensures c.args.machine.start c.args.trace.now (desk_book c.args.desk.now) c.in_ok-machine.machine c.in_ok-machine.rows.items c.in_ok-takes.takes c.in_ok-machine.ensures.opening c.requires.trees c.requires.can c.versions.ensures.replies c.in_ok-machine.ensures.played c.in_ok-takes.ensures).0

pub returns-clause-attached : goal.returns-clause-attached
returns-clause-attached g c =
    rw c.in_ok-steps.ensures
    (stolen-run c.stolen_runs_are_legal.ensures c.args.machine.start c.args.trace.now (desk_book c.args.desk.now) c.in_ok-machine.machine c.in_ok-machine.rows.items c.in_ok-takes.takes c.in_ok-machine.ensures.opening c.requires.trees c.requires.can c.versions.ensures.replies c.in_ok-machine.ensures.played c.in_ok-takes.ensures).1
