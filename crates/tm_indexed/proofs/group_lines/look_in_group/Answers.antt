use Rattle.std.proofs.Common.{◌≡◌, sym, subst, ◌∙◌}
use Rattle.std.specs.Prelude.{Some, None}
use Rattle.tm_rules.specs.Types.{Namespace}
use Rattle.tm_change_namespaces.specs.Named.{named}
use Rattle.tm_change_namespaces.proofs.GroupLaws.{named_at, named_there}
use Rattle.tm_index.specs.Index.{told, groups_listed}
use Rattle.tm_indexed.specs.Groups.{IsInGroup}
use Rattle.tm_indexed.proofs.KnownLaws.{groups_seen, groups_somewhere}
use Rattle.tm_indexed.proofs.group_lines.look_in_group.Goals as goal

pub look_among-requires-clause-listed : goal.look_among-requires-clause-listed
look_among-requires-clause-listed c =
    groups_seen (told c.args.index.now) c.args.policy.now c.requires.index c.args.number c.in-Some.namespace.now (groups_listed c.in-Some-groups_noted.lists.now) (sym c.in-Some.ensures) c.in-Some-groups_noted.ensures.told

pub unreachable-requires : goal.unreachable-requires
unreachable-requires c = groups_somewhere (told c.args.index.now) c.args.policy.now c.requires.index c.args.number c.in-Some.namespace.now (sym c.in-Some.ensures) c.in-None-groups_noted.ensures.told

pub unreachable-requires-in-None : goal.unreachable-requires-in-None
unreachable-requires-in-None c =
    let both : None ≡ Some (named c.args.line.now.namespace c.args.policy.now.namespaces) = c.in-None.ensures ∙ named_there c.args.line.now.namespace c.args.policy.now.namespaces c.args.number c.requires.there in
    absurd cc

pub returns-clause-looked : goal.returns-clause-looked
returns-clause-looked c =
    subst (λ (ns : Namespace). IsInGroup c.look_among.result ns c.args.line.now) (sym (named_at c.args.line.now.namespace c.args.policy.now.namespaces c.args.number c.in-Some.namespace.now c.requires.there (sym c.in-Some.ensures))) c.look_among.ensures
