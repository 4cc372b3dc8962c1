use Rattle.std.proofs.Common.{ap, ◌∙◌}
use Rattle.tm_rules.specs.Prelude.{acl_group}
use Rattle.tm_change_namespaces.specs.AclGroups.{line_taken}
use Rattle.tm_change_namespaces.specs.Named.{named}
use Rattle.tm_indexed.specs.Gone.{gone_at}
use Rattle.tm_index.specs.Index.{telling}
use Rattle.tm_index.specs.Groups.{in_group}
use Rattle.tm_indexed.specs.Groups.{closed_if}
use Rattle.tm_indexed.proofs.GroupLaws.{at_line, taken_out, told_changed, telling_so}
use Rattle.tm_indexed.proofs.group_lines.remove_there.Goals as goal

pub returns-clause-index : goal.returns-clause-index
returns-clause-index c =
    let line = c.args.line.now in
    let ns = named c.args.line.now.namespace c.args.policy.now.namespaces in
    c.note_gone.ensures ∙ ap (in_group c.args.number line.group (closed_if c.gone_in_group-gone.result)) c.requires.index
    ∙ ap (λ o. in_group c.args.number line.group (closed_if o) (telling c.args.policy.now)) (c.gone_in_group-gone.ensures ∙ ap (λ at. gone_at (acl_group ns line.group) at line.entry) c.look_in_group-looked.ensures.looked.at)
    ∙ told_changed c.args.policy.now line.namespace (line_taken line) line.group c.args.number (closed_if (gone_at (acl_group ns line.group) (at_line line ns) line.entry)) c.requires.there (taken_out line ns c.remove_group_line.ensures.left)
    ∙ telling_so c.args.policy.now c.remove_group_line.new.namespaces _ c.remove_group_line.ensures.done
