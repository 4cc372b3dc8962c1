use Rattle.std.proofs.Common.{◌∙◌}
use Rattle.tm_call.proofs.Taken.{taken-is, others-stay}
use Rattle.tm_call.proofs.fetches.take_in.Goals as goal

pub returns-clause-taken : goal.returns-clause-taken
returns-clause-taken c =
    let place = c.place_at-place.ensures in
    c.replace.ensures.value ∙ taken-is c.args.items.now c.place_at-place.result c.index-items-place.result c.args.name c.if-place-items.false place.here place.first

pub returns-clause-others : goal.returns-clause-others
returns-clause-others c = λ other differs.
    others-stay c.args.items.now c.place_at-place.result c.index-items-place.result c.replace.new.dest c.args.name other c.if-place-items.false c.place_at-place.ensures.here differs
