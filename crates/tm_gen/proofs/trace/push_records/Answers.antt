use Rattle.std.proofs.Common.{◌≡◌, arith}
use Rattle.tm_gen.proofs.TraceLaws.{first_state, no_record, one_state_more, one_record_more, records_are, state_is}
use Rattle.tm_gen.proofs.trace.push_records.Goals as goal

pub loop-place-init : goal.loop-place-init
loop-place-init c = (no_record c.args.tree c.args.start c.args.out.now.items, first_state c.args.start)

pub loop-place-preserved : goal.loop-place-preserved
loop-place-preserved c =
    let known = c.loop-place.invariant in (
      one_record_more c.args.tree c.args.start c.loop-place.place c.loop-place.state c.args.out.now.items c.loop-place.out.items _ known.0 known.1 c.in_ok-state.ensures.line,
      one_state_more c.args.start c.loop-place.place c.loop-place.state _ known.1 c.in_ok-state.ensures.state,
    )

pub returns-clause-lines : goal.returns-clause-lines
returns-clause-lines c =
    let reached : c.loop-place.place ≡ 40 = omega arith in
    records_are c.args.tree c.args.start c.loop-place.place 40 c.args.out.now.items c.loop-place.out.items reached c.loop-place.invariant.0

pub returns-clause-state : goal.returns-clause-state
returns-clause-state c =
    let reached : c.loop-place.place ≡ 40 = omega arith in
    state_is c.args.start c.loop-place.place 40 c.loop-place.state reached c.loop-place.invariant.1
