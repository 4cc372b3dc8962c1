use Rattle.tm_replay.proofs.Beginning.{given-next}
use Rattle.tm_replay.proofs.jobs.add_job.Goals as goal

pub returns : goal.returns
returns g c =
    λ done passes given. given-next (λ job. job.part) (λ job. job.pass) c.args.front.now done passes c.args.left.now.items c.pop_front.new.self.items c.args.jobs.now.items c.push.new.self.items c.args.part c.in-Some.pass c.job_of.result
    given c.in-Some.ensures.items c.in_ok-push.ensures.items c.job_of.ensures.part c.job_of.ensures.starts
