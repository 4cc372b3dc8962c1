use Rattle.std.proofs.Common.{◌∙◌, ap, sym}
use Rattle.std.specs.Option.{option_map}
use Rattle.tm_pattern.specs.Checking.{at_stage}
use Rattle.tm_pattern.proofs.CheckLaws.{starts, goes_on, stops, ends}
use Rattle.tm_pattern.proofs.checking.is_pattern.Goals as goal

pub loop-token-init : goal.loop-token-init
loop-token-init c = starts c.args.text.now

pub returns-in_default-led : goal.returns-in_default-led
returns-in_default-led c =
    sym (stops c.loop-token.left.now c.in-Some.rest.now c.in-Some.token (c.loop-token.at.stage, c.loop-token.at.repeat) c.in-Some.ensures (sym (ap (option_map at_stage) c.in_default-led.is) ∙ c.led.ensures)) ∙ c.loop-token.invariant

pub loop-token-preserved : goal.loop-token-preserved
loop-token-preserved c =
    sym (goes_on c.loop-token.left.now c.in-Some.rest.now c.in-Some.token (c.loop-token.at.stage, c.loop-token.at.repeat) (c.in-Some-led.next.stage, c.in-Some-led.next.repeat) c.in-Some.ensures
    c.in-Some-led.ensures) ∙ c.loop-token.invariant

pub returns : goal.returns
returns c =
    c.may_end.ensures ∙ sym (ends c.loop-token.left.now (c.loop-token.at.stage, c.loop-token.at.repeat) c.in_default.ensures) ∙ c.loop-token.invariant
