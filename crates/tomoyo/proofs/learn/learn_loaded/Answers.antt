use Rattle.std.proofs.Common.{◌≡◌, sym, ap, subst}
use Rattle.tm_rules.specs.Prelude.{Trace}
use Rattle.tm_trace.specs.Written.{IsTrace}
use Rattle.tm_rules.specs.Types.{Start}
use Rattle.tomoyo.specs.Rerun.{CanRerun, Reruns}
use Rattle.tomoyo.proofs.Rerunning.{rerun-needs, learned-so}
use Rattle.tomoyo.proofs.learn.learn_loaded.Goals as goal

pub rerun_of-requires-clause-can : goal.rerun_of-requires-clause-can
rerun_of-requires-clause-can g c =
    subst (λ (trace : Trace). CanRerun c.in_ok-run.last trace) (sym c.in_ok-trace.ensures)
    (rerun-needs c.args.loaded c.in_ok-run.run' c.in_ok-run.last c.requires.playable.can c.in_ok-run.ensures.plays.ends)

pub rerun_of-requires-clause-written : goal.rerun_of-requires-clause-written
rerun_of-requires-clause-written g c = subst IsTrace (sym c.in_ok-trace.ensures) c.requires.playable.written

pub returns : goal.returns
returns g c =
    let how = c.args.how in
    let opening : c.in_ok-run.opening.policy ≡ c.args.loaded.policy = ap (λ (start : Start). start.policy) c.in_ok-run.ensures.opening in
    let reruns : Reruns how c.in_ok-run.last c.args.loaded.trace c.in_ok-run.run' c.in_ok-rerun.rerun =
    subst (λ (trace : Trace). Reruns how c.in_ok-run.last trace c.in_ok-run.run' c.in_ok-rerun.rerun) c.in_ok-trace.ensures c.in_ok-rerun.ensures in
    learned-so how c.args.loaded c.in_ok-run.run' c.in_ok-run.last c.in_ok-run.opening.policy c.in_ok-played.played c.in_ok-rerun.rerun c.clean_runs_grow.ensures c.learned_runs_repeat.ensures c.requires.playable.can c.in_ok-run.ensures.plays opening c.in_ok-played.ensures reruns
