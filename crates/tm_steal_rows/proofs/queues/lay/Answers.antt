use Rattle.std.specs.Prelude.{flat_map}
use Rattle.tm_steal_rows.proofs.Laying.{lays-process, no-ends, no-takes}
use Rattle.tm_steal_rows.proofs.queues.lay.Goals as goal

pub returns-in-Process-clause-takes : goal.returns-in-Process-clause-takes
returns-in-Process-clause-takes c =
    lays-process c.fill.result (flat_map (λ queue. queue.items) c.args.queues.now.items) (flat_map (λ queue. queue.items) c.fill.new.queues.items) c.args.played c.in-Process.process c.in-Process.is c.fill.ensures

pub returns-in-Process-clause-ends : goal.returns-in-Process-clause-ends
returns-in-Process-clause-ends c = no-ends c.fill.result c.args.played c.in-Process.process c.args.ends.now.items c.in-Process.is

pub returns-in_ok-push_back-in-End-clause-takes : goal.returns-in_ok-push_back-in-End-clause-takes
returns-in_ok-push_back-in-End-clause-takes c = no-takes c.args.played c.in-End.tree c.in-End.number (flat_map (λ queue. queue.items) c.args.queues.now.items) c.in-End.is
