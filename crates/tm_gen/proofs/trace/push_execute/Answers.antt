use Rattle.std.proofs.Common.{◌++◌, ap, ◌∙◌}
use Rattle.std.specs.Prelude.{codes}
use Rattle.std.proofs.lemmas.Result.{on_ok_weaker}
use Rattle.tm_gen.specs.Trace.{numbered, execute_attributes}
use Rattle.tm_gen.proofs.TraceLaws.{three}
use Rattle.tm_gen.proofs.trace.push_execute.Goals as goal

pub returns : goal.returns
returns c =
    on_ok_weaker c.push_attributes.result
    (three c.args.out.now.items (numbered (codes "do ") c.args.tree) (numbered (codes " file execute /p") c.args.program) (execute_attributes c.args.program) _ _ _
    (c.in_ok-push_numbered.ensures ∙ ap (λ n. c.args.out.now.items ++ numbered (codes "do ") n) c.from.ensures) c.in_ok-push_numbered-2.ensures)
    c.push_attributes.ensures
