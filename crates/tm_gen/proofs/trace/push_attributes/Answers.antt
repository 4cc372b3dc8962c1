use Rattle.std.specs.Prelude.{codes}
use Rattle.std.proofs.lemmas.Result.{on_ok_weaker}
use Rattle.tm_gen.specs.Trace.{numbered}
use Rattle.tm_gen.proofs.TraceLaws.{three}
use Rattle.tm_gen.proofs.trace.push_attributes.Goals as goal

pub returns : goal.returns
returns c =
    on_ok_weaker c.push_end.result
    (three c.args.out.now.items (numbered (codes " exec.realpath=\"/p") c.args.program) (numbered (codes "\" exec.argv=\"p") c.args.program) (codes "\"\n") _ _ _
    c.in_ok-push_numbered.ensures c.in_ok-push_numbered-2.ensures)
    c.push_end.ensures
