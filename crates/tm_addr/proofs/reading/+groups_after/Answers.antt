use Rattle.std.proofs.Common.{◌==◌, sym, ap, ◌∙◌}
use Rattle.std.specs.List.{slice_split}
use Rattle.tm_addr.specs.declared.reading.Groups.{Groups}
use Rattle.tm_addr.specs.Reading.{few, groups_after, with_group}
use Rattle.tm_addr.proofs.Groups.{no_group, one_more, too_many, few_some, few_none}
use Rattle.tm_addr.proofs.reading.+groups_after.Goals as goal

pub returns-in-None-clause-exact : goal.returns-in-None-clause-exact
unfolding groups_after
returns-in-None-clause-exact t c = rw c.in-None.ensures c.last.ensures.exact

pub returns-in-None-group-clause-exact : goal.returns-in-None-group-clause-exact
returns-in-None-group-clause-exact t c = sym (no_group c.args.dotted c.args.before c.in-Some.piece.now c.in-Some.rest.now _ c.in-Some.ensures.pieces_are (sym c.in-None-group.ensures))

pub returns-in-None-with_group-clause-exact : goal.returns-in-None-with_group-clause-exact
returns-in-None-with_group-clause-exact t c =
    let more = with_group c.args.before c.in-Some-group.group in
    sym
    (one_more c.args.dotted c.args.before c.in-Some.piece.now c.in-Some.rest.now _ c.in-Some-group.group c.in-Some.ensures.pieces_are (sym c.in-Some-group.ensures)
    ∙ too_many c.args.dotted more (slice_split (λ b. b == 58) c.in-Some.rest.now) (few_none more c.in-None-with_group.ensures.exact))

pub returns-in-Some-with_group-clause-exact : goal.returns-in-Some-with_group-clause-exact
returns-in-Some-with_group-clause-exact t c =
    let is = few_some (with_group c.args.before c.in-Some-group.group) c.in-Some-with_group.more c.in-Some-with_group.ensures.exact in
    c.groups_after.ensures.exact
    ∙ ap (λ (m : Groups). few (groups_after c.args.dotted m (slice_split (λ b. b == 58) c.in-Some.rest.now))) is
    ∙ sym (one_more c.args.dotted c.args.before c.in-Some.piece.now c.in-Some.rest.now _ c.in-Some-group.group c.in-Some.ensures.pieces_are (sym c.in-Some-group.ensures))
