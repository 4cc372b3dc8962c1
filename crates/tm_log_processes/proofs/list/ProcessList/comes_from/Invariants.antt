use Rattle.std.proofs.Common.{◌≡◌, ◌-◌, length}
use Rattle.tm_log_processes.specs.Lists.{at, key_among}
use Rattle.tm_log_processes.proofs.list.ProcessList.comes_from.Given as goal

-- from here on it gives what the whole gives
abbrev pub invariant-loop-turn : goal.invariant-loop-turn
invariant-loop-turn l =
    key_among l.self l.next l.pid (length l.self.processes - l.turn) ≡ key_among l.self (at l.self l.p).origin.parent l.pid (length l.self.processes)
