use Rattle.std.proofs.Common.{◌≡◌, true, map}
use Rattle.std.specs.Prelude.{Some}
use Rattle.tm_replay.proofs.jobs.take_apart.Given as goal

-- the passes of the jobs so far, and their rows where none has failed
abbrev pub invariant-loop-job : goal.invariant-loop-job
invariant-loop-job g l =
    (map Some l.passes.items ≡ map (λ job. job.pass) l.yielded)
    × (l.whole ≡ true → map Some l.all.items ≡ map (λ job. job.rows) l.yielded)
