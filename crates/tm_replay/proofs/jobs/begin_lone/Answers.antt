use Rattle.tm_replay.proofs.Playing.{if-ok}
use Rattle.tm_replay.proofs.Whole.{began-lone}
use Rattle.tm_replay.proofs.jobs.begin_lone.Goals as goal

pub returns : goal.returns
returns g c =
    if-ok _ _ _ c.jobs_of.result c.jobs_of.ensures.parts c.jobs_of.ensures.starts
    (λ jobs parts starts. began-lone (λ job. job.part) (λ job. job.pass) c.args.parts.items c.args.passes.items jobs.items parts starts)
