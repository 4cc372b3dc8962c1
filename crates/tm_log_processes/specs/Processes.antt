-- Processes as a log tells them.
use Rattle.std.specs.Prelude.{ℕ, ◌^◌, ◌==◌, ◌&&◌, nat_lt, Bool, false, if◌then◌else◌, Option, Some, None}
use Rattle.tm_rules.specs.Types.{Ids}
use Rattle.tm_log_processes.specs.declared.process.Origin.{Origin}
use Rattle.tm_log_processes.specs.declared.process.Process.{Process}
use Rattle.tm_rules.specs.Prelude.{no_ids}

-- a new process: no execute was its last move, none was refused, and it wrote nowhere
abbrev pub born : Origin → ℕ → Ids → Process
born origin tree ids = record { origin = origin; tree = tree; ids = ids; is_open = false; is_writer = false; last_execute = None; was_refused = false }

-- what stands for a process that isn't there
abbrev pub nobody : Process
nobody = born (record { number = 0; key = 0; ppid = None; parent = None }) 0 no_ids

abbrev pub same_ids : Ids → Ids → Bool
same_ids a b =
    a.uid == b.uid && a.euid == b.euid && a.suid == b.suid && a.fsuid == b.fsuid && a.gid == b.gid && a.egid == b.egid && a.sgid == b.sgid && a.fsgid == b.fsgid

-- how many digits a number has
abbrev pub digits : ℕ → ℕ
digits n =
    if nat_lt n 10 then 1 else (if nat_lt n 100 then 2 else (if nat_lt n 1000 then 3 else (if nat_lt n 10000 then 4 else (if nat_lt n 100000 then 5 else
    (if nat_lt n 1000000 then 6 else (if nat_lt n 10000000 then 7 else (if nat_lt n 100000000 then 8 else (if nat_lt n 1000000000 then 9 else 10))))))))
