use Rattle.std.proofs.Common.{◌≡◌, drop, false, sym, ap, ◌∙◌}
use Rattle.std.proofs.lemmas.List.{take_rest}
use Rattle.tm_addr.specs.Reading.{is_gap}
use Rattle.tm_addr.proofs.Gaps.{gap_past}
use Rattle.tm_addr.proofs.reading.gap_in.Goals as goal

pub loop-place-preserved : goal.loop-place-preserved
loop-place-preserved c =
    let text = c.args.text.now in
    let place = c.loop-place.place in
    let none : is_gap (drop place text) ≡ false = sym (ap is_gap (take_rest text place)) ∙ sym c.is_gap.ensures.exact ∙ c.if-is_gap.false in
    sym (gap_past text place c.loop-place-test.true none) ∙ c.loop-place.invariant
