use Rattle.std.proofs.Common.{refl, ◌++◌, ◌∷◌, []}
use Rattle.tm_replay.proofs.Whole.{began-supervised}
use Rattle.tm_replay.proofs.jobs.begin_supervised.Goals as goal

pub returns : goal.returns
returns g c =
    began-supervised (λ job. job.part) (λ job. job.pass) c.args.parts.items (c.args.passes.items ++ c.args.supervisor ∷ []) c.args.passes.items c.args.supervisor c.begin.new.pass c.in_ok-come.come c.in_ok-jobs.jobs.items c.push.new.self.items _
    refl c.in_ok-come.ensures.come c.in_ok-come.ensures.board c.in_ok-come.ensures.opening c.in_ok-jobs.ensures.parts c.in_ok-jobs.ensures.starts c.in_ok-push.ensures.items refl refl
