use Rattle.std.proofs.Common.{◌≡◌, List, sym, ap, subst, ◌∙◌}
use Rattle.std.specs.Prelude.{Some, None}
use Rattle.tm_rules.specs.Types.{Entry, Namespace}
use Rattle.tm_rules.specs.Prelude.{IsShort, acl_group}
use Rattle.tm_change_namespaces.specs.Named.{named}
use Rattle.tm_change_namespaces.proofs.GroupLaws.{named_at, named_there}
use Rattle.tm_indexed.specs.Gone.{gone_at}
use Rattle.tm_indexed.proofs.GroupLaws.{few_here, short_group}
use Rattle.tm_indexed.proofs.group_lines.gone_in_group.Goals as goal

pub gone_at-requires : goal.gone_at-requires
gone_at-requires c =
    let few = few_here c.args.policy.now.namespaces c.args.number c.in-Some.namespace.now c.requires.few.namespaces (sym c.in-Some.ensures) in
    subst (λ (entries : List Entry). IsShort entries) (sym c.entries_of.ensures) (short_group c.in-Some.namespace.now c.args.line.now.group few)

pub unreachable-requires : goal.unreachable-requires
unreachable-requires c =
    let both : None ≡ Some (named c.args.line.now.namespace c.args.policy.now.namespaces) = c.in-None.ensures ∙ named_there c.args.line.now.namespace c.args.policy.now.namespaces c.args.number c.requires.there in
    absurd cc

pub returns : goal.returns
returns c =
    let same : c.in-Some.namespace.now ≡ named c.args.line.now.namespace c.args.policy.now.namespaces = sym (named_at c.args.line.now.namespace c.args.policy.now.namespaces c.args.number c.in-Some.namespace.now c.requires.there (sym c.in-Some.ensures)) in
    c.gone_at.ensures ∙ ap (λ (entries : List Entry). gone_at entries c.args.at c.args.line.now.entry) c.entries_of.ensures
    ∙ ap (λ (ns : Namespace). gone_at (acl_group ns c.args.line.now.group) c.args.at c.args.line.now.entry) same
