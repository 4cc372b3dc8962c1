use Rattle.std.proofs.Common.{◌+◌, arith, refl}
use Rattle.std.specs.Fork.{AcceptsAt, ChangesAt}
use Rattle.tm_beside.proofs.Parts.{cut-front, cut-rest, glue, glue-long}
use Rattle.tm_beside.proofs.each.+parts.Goals as goal

pub call_parts-call_both-requires-clause-part : goal.call_parts-call_both-requires-clause-part
call_parts-call_both-requires-clause-part g t c κs within =
    let cut = c.split_at_mut-part in
    record { each = cut-front (AcceptsAt g.F.Fn c.args.call.now) c.args.begin c.args.left.now cut.result.0.now cut.result.1.now cut.ensures.value c.requires.accepts.each }

pub call_parts-call_both-requires-clause-rest : goal.call_parts-call_both-requires-clause-rest
call_parts-call_both-requires-clause-rest g t c κs within =
    let cut = c.split_at_mut-part in
    record { each = cut-rest (AcceptsAt g.F.Fn c.args.call.now) c.args.begin c.args.left.now cut.result.0.now cut.result.1.now cut.ensures.value c.requires.accepts.each (c.args.begin + c.args.size) (omega (arith, cut.ensures.front_len)) }

pub call_parts-returns : goal.call_parts-returns
call_parts-returns g t c =
    let cut = c.split_at_mut-part in
    let front = c.call_both.ensures.part in
    let rest = c.call_both.ensures.rest in
    record {
      long = glue-long c.args.left.now cut.result.0.now cut.result.1.now c.call_both.new.part c.call_both.new.rest cut.ensures.value front.long rest.long;
      each = glue (ChangesAt g.F.Fn c.args.call.now) c.args.begin (c.args.begin + c.args.size) c.args.left.now cut.result.0.now cut.result.1.now _ c.call_both.new.part c.call_both.new.rest
          cut.ensures.value refl front.long (omega (arith, cut.ensures.front_len)) front.each rest.each;
    }
