use Rattle.std.proofs.Common.{◌≡◌, [], sym, subst, ap, ◌∙◌}
use Rattle.std.specs.Prelude.{IsSome, unwrap_or}
use Rattle.tm_rules.specs.Prelude.{at_key, put_key}
use Rattle.tm_change_namespaces.proofs.MapLaws.{gone, put_there}
use Rattle.tm_change_namespaces.proofs.groups.set_group.Goals as goal

pub returns-then-is_empty-clause-left : goal.returns-then-is_empty-clause-left
returns-then-is_empty-clause-left c =
    ap (λ groups. unwrap_or (at_key groups c.args.number) []) c.remove.ensures ∙ ap (λ found. unwrap_or found []) (gone c.args.number c.args.groups.now c.requires.rising) ∙ sym (c.is_empty.ensures.0 c.if-is_empty.true)

pub returns-else-is_empty-clause-left : goal.returns-else-is_empty-clause-left
returns-else-is_empty-clause-left c =
    let written : c.replace.new.self ≡ put_key c.args.number c.args.entries c.args.groups.now = c.replace.ensures.written (subst IsSome (sym c.replace.ensures.old) c.requires.there) in
    ap (λ groups. unwrap_or (at_key groups c.args.number) []) written ∙ ap (λ found. unwrap_or found []) (put_there c.args.number c.args.entries c.args.groups.now)
