use Rattle.std.proofs.Common.{◌≡◌, ◌-◌, length}
use Rattle.tm_log_processes.specs.Lists.{first_from, is_settled}
use Rattle.tm_log_processes.proofs.list.ProcessList.settled_in.Given as goal

-- no process so far
abbrev pub invariant-loop-p : goal.invariant-loop-p
invariant-loop-p l =
    first_from (is_settled l.self l.domain) l.p (length l.self.processes - l.p) ≡ first_from (is_settled l.self l.domain) 0 (length l.self.processes - 0)
