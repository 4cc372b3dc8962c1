use Rattle.std.proofs.Common.{rules, ◌≡◌, ◌∷◌, ◌+◌, length, true, refl, ap, arith}
use Rattle.tm_verify_laws.specs.Looks.{goes_on, do_follow}
use Rattle.tm_verify_laws.proofs.LookLaws.{next_look}
use Rattle.tm_verify_notes.proofs.looks.do_follow.Goals as goal

pub loop-look-preserved : goal.loop-look-preserved
loop-look-preserved c =
    let cut : c.loop-look.rest.now ≡ c.in-Some.look.now ∷ c.in-Some.more.now = search rules in
    let goes : goes_on c.args.steps.now c.loop-look.retry c.in-Some.more.now c.in-Some.look.now ≡ true = search rules in
    let long = ap length cut in
    let few = c.loop-look.invariant.1 in (
      next_look c.args.steps.now c.loop-look.retry (c.loop-look.retry + 1) c.loop-look.rest.now c.in-Some.more.now c.in-Some.look.now (do_follow c.args.steps.now 0 c.args.looks.now) cut goes refl c.loop-look.invariant.0,
      omega (arith, long, few),
    )
