use Rattle.std.proofs.Common.{◌≡◌, ap}
use Rattle.tm_rules.specs.Types.{Start}
use Rattle.tomoyo.proofs.Playing.{printed-so}
use Rattle.tomoyo.proofs.play.play_loaded.Goals as goal

pub returns : goal.returns
returns g c =
    let opening : c.in_ok-run.opening.policy ≡ c.args.loaded.policy = ap (λ (start : Start). start.policy) c.in_ok-run.ensures.opening in
    printed-so c.args.how c.args.loaded c.in_ok-run.run' c.in_ok-run.last c.in_ok-run.opening.policy c.texts_of.result c.in_ok-run.ensures.plays opening c.texts_of.ensures
