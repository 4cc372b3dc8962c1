use Rattle.std.proofs.Common.{[], ap, ◌∙◌}
use Rattle.tm_change_namespaces.specs.AclGroups.{line_added}
use Rattle.tm_index.specs.declared.label.Label.{Label}
use Rattle.tm_index.specs.Labels.{label_of}
use Rattle.tm_index.specs.Listing.{listing, noting}
use Rattle.tm_index.specs.Index.{told}
use Rattle.tm_index.specs.Groups.{group_with, noting_lists}
use Rattle.tm_indexed.proofs.GroupLaws.{added_first, told_made, telling_so}
use Rattle.tm_indexed.proofs.group_lines.add_first.Goals as goal

pub returns-in-Ok-add_group_line-clause-index : goal.returns-in-Ok-add_group_line-clause-index
returns-in-Ok-add_group_line-clause-index c =
    c.in-Ok.ensures.done
    ∙ ap (λ (l : Label). noting_lists (group_with c.args.line.group (noting l 0) (λ number. listing [])) (told c.args.index.now)) c.requires.label
    ∙ ap (noting_lists (group_with c.args.line.group (noting (label_of c.args.line.entry) 0) (λ number. listing []))) c.requires.index
    ∙ told_made c.args.policy.now c.args.line.namespace (line_added c.args.line) (group_with c.args.line.group (noting (label_of c.args.line.entry) 0) (λ number. listing [])) c.requires.none (added_first c.args.line)
    ∙ telling_so c.args.policy.now c.add_group_line.new.namespaces _ c.in-Ok-add_group_line.ensures.done
