use Rattle.tm_gen_laws.proofs.Readings.{scene-read, judging-read, can-play}
use Rattle.tomoyo.proofs.verify.make_verify.Goals as goal

pub verify_outcome-requires-clause-can : goal.verify_outcome-requires-clause-can
verify_outcome-requires-clause-can c =
    let judging = c.in-Ok.judging in
    can-play c.args.texts judging.scene (scene-read c.args.texts judging.scene (judging-read c.args.texts judging c.in-Ok.ensures.exact).scene)
