use Rattle.tm_replay.specs.Beginnings.{AreGiven}
use Rattle.tm_replay.proofs.jobs.jobs_of.Given as goal

-- a job for each part so far
abbrev pub invariant-loop-part : goal.invariant-loop-part
invariant-loop-part g l = AreGiven (λ job. job.part) (λ job. job.pass) l.front l.fn.passes.items l.yielded l.left.items l.jobs.items
