use Rattle.std.proofs.Common.{◌≡◌, ◌++◌, List, length}
use Rattle.tm_share.specs.Deques.{with_all_taken}
use Rattle.tm_share.proofs.deque.OwnOf+J+Fair.drain.Given as goal

-- so many jobs were taken
abbrev pub invariant-loop-job : goal.invariant-loop-job
invariant-loop-job g l =
    (jobs : List g.row.J.Denot) × (l.own ≡ with_all_taken l.fn.self jobs)
    × (l.left.items ≡ l.initial.left.items ++ jobs) × (length jobs ≡ l._job)
