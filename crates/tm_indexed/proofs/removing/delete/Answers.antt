use Rattle.std.proofs.Common.{ap, ◌∙◌}
use Rattle.tm_index.specs.Index.{taking_live}
use Rattle.tm_indexed.proofs.DeleteLaws.{delete_told}
use Rattle.tm_indexed.proofs.removing.delete.Goals as goal

pub returns-clause-index : goal.returns-clause-index
returns-clause-index c =
    c.take_live.ensures ∙ ap (taking_live c.args.name.now) c.requires.index
    ∙ delete_told c.args.policy.now c.delete_known-reply.new.policy c.args.cursor.now c.delete_known-reply.new.cursor c.delete_known-reply.result c.args.name.now c.delete_known-reply.ensures.done
