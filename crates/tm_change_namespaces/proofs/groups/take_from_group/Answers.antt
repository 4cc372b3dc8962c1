use Rattle.std.proofs.Common.{◌≡◌, List, [], refl, sym, subst, ap, ◌∙◌}
use Rattle.std.specs.Prelude.{Option, Some, None, IsSome, unwrap_or}
use Rattle.tm_rules.specs.Types.{Entry}
use Rattle.tm_list.proofs.MapLaws.{Rises-put}
use Rattle.tm_rules.specs.Prelude.{at_key, deleting, put_group, put_key}
use Rattle.tm_change_namespaces.specs.AclGroups.{Rising}
use Rattle.tm_change_namespaces.proofs.MapLaws.{put_there}
use Rattle.tm_change_namespaces.proofs.GroupLaws.{group_none, group_set, none_left, short_at, short_set}
use Rattle.tm_change_namespaces.proofs.groups.take_from_group.Goals as goal

pub set_group-requires-clause-there : goal.set_group-requires-clause-there
set_group-requires-clause-there c =
    let first : c.replace.new.self ≡ put_key c.args.number c.args.empty c.args.groups.now = c.replace.ensures.written (subst IsSome (sym c.in-Some.is) refl) in
    subst IsSome (sym (ap (λ groups. at_key groups c.args.number) first ∙ put_there c.args.number c.args.empty c.args.groups.now)) refl

pub set_group-requires-clause-rising : goal.set_group-requires-clause-rising
set_group-requires-clause-rising c =
    let first : c.replace.new.self ≡ put_key c.args.number c.args.empty c.args.groups.now = c.replace.ensures.written (subst IsSome (sym c.in-Some.is) refl) in
    subst Rising (sym first) (Rises-put (λ n. n) c.args.number c.args.empty c.args.groups.now c.replace.ensures.rising)

pub returns-in-Some-clause-done : goal.returns-in-Some-clause-done
returns-in-Some-clause-done c =
    let there : Some c.in-Some.entries ≡ at_key c.args.groups.now c.args.number = sym c.in-Some.is ∙ c.replace.ensures.old in
    let first : c.replace.new.self ≡ put_key c.args.number c.args.empty c.args.groups.now = c.replace.ensures.written (subst IsSome (sym c.in-Some.is) refl) in
    let from : c.in-Some.entries ≡ unwrap_or (at_key c.args.groups.now c.args.number) [] = ap (λ (o : Option (List Entry)). unwrap_or o []) there in
    c.set_group.ensures.done ∙ ap (put_group c.args.number c.remove.new.entries) first
    ∙ group_set c.args.number c.args.empty c.in-Some.entries c.remove.new.entries c.args.groups.now c.replace.ensures.rising (sym there)
    ∙ ap (λ (t : List Entry). put_group c.args.number t c.args.groups.now) (c.remove.ensures.done ∙ ap (deleting c.args.line.now) from)

pub returns-in-Some-clause-few : goal.returns-in-Some-clause-few
returns-in-Some-clause-few c =
    let there : Some c.in-Some.entries ≡ at_key c.args.groups.now c.args.number = sym c.in-Some.is ∙ c.replace.ensures.old in
    let first : c.replace.new.self ≡ put_key c.args.number c.args.empty c.args.groups.now = c.replace.ensures.written (subst IsSome (sym c.in-Some.is) refl) in
    let made : c.set_group.new.groups ≡ put_group c.args.number c.remove.new.entries c.args.groups.now =
    c.set_group.ensures.done ∙ ap (put_group c.args.number c.remove.new.entries) first
    ∙ group_set c.args.number c.args.empty c.in-Some.entries c.remove.new.entries c.args.groups.now c.replace.ensures.rising (sym there) in
    λ each. short_set c.args.number c.remove.new.entries c.args.groups.now c.set_group.new.groups made (c.remove.ensures.short (short_at c.args.number c.in-Some.entries c.args.groups.now there each)) each

pub returns-in-None-clause-done : goal.returns-in-None-clause-done
returns-in-None-clause-done c =
    let none : at_key c.args.groups.now c.args.number ≡ None = sym c.replace.ensures.old ∙ c.in-None.is in
    c.replace.ensures.kept c.in-None.is ∙ group_none c.args.number c.args.line.now (at_key c.args.groups.now c.args.number) c.args.groups.now refl none

pub returns-in-None-clause-left : goal.returns-in-None-clause-left
returns-in-None-clause-left c =
    let none : at_key c.args.groups.now c.args.number ≡ None = sym c.replace.ensures.old ∙ c.in-None.is in
    ap (λ groups. unwrap_or (at_key groups c.args.number) []) (c.replace.ensures.kept c.in-None.is) ∙ none_left c.args.line.now (at_key c.args.groups.now c.args.number) none
