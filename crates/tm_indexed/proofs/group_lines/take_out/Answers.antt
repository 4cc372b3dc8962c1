use Rattle.std.proofs.Common.{◌≡◌, None, rules}
use Rattle.std.specs.List.{position_from}
use Rattle.tm_word.specs.Prelude.{texts_equal}
use Rattle.tm_rules.specs.Types.{Namespace}
use Rattle.tm_change_namespaces.proofs.GroupLaws.{part_somewhere}
use Rattle.tm_indexed.proofs.group_lines.take_out.Goals as goal

pub unreachable-requires : goal.unreachable-requires
unreachable-requires c =
    let none : position_from (λ (ns : Namespace). texts_equal ns.name c.args.line.now.namespace) 0 c.args.policy.now.namespaces ≡ None = search rules in
    part_somewhere c.args.line.now.group c.args.line.now.entry c.args.line.now.namespace c.args.policy.now.namespaces none c.requires.has
