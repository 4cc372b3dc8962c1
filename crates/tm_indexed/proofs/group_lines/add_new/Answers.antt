use Rattle.std.proofs.Common.{sym, ap, ◌∙◌}
use Rattle.tm_change_namespaces.specs.AclGroups.{line_added}
use Rattle.tm_change_namespaces.specs.Named.{named}
use Rattle.tm_index.specs.declared.label.Label.{Label}
use Rattle.tm_index.specs.Labels.{label_of}
use Rattle.tm_index.specs.Listing.{noting}
use Rattle.tm_index.specs.Index.{telling}
use Rattle.tm_index.specs.Groups.{in_group}
use Rattle.tm_indexed.proofs.GroupLaws.{added_new, told_changed, telling_so}
use Rattle.tm_indexed.proofs.group_lines.add_new.Goals as goal

pub returns-in-Ok-add_group_line_at-clause-index : goal.returns-in-Ok-add_group_line_at-clause-index
returns-in-Ok-add_group_line_at-clause-index c =
    let ns = named c.args.line.namespace c.args.policy.now.namespaces in
    c.in-Ok.ensures.done ∙ ap (in_group c.args.number c.args.line.group (noting c.args.label.now c.args.looked.length)) c.requires.index
    ∙ ap (λ (l : Label). in_group c.args.number c.args.line.group (noting l c.args.looked.length) (telling c.args.policy.now)) c.requires.label
    ∙ ap (λ n. in_group c.args.number c.args.line.group (noting (label_of c.args.line.entry) n) (telling c.args.policy.now)) c.requires.looked.entries
    ∙ told_changed c.args.policy.now c.args.line.namespace (line_added c.args.line) c.args.line.group c.args.number (noting (label_of c.args.line.entry) _) c.requires.there (added_new c.args.line ns (sym c.requires.looked.at ∙ c.requires.new))
    ∙ telling_so c.args.policy.now c.add_group_line_at.new.namespaces _ c.in-Ok-add_group_line_at.ensures.done
