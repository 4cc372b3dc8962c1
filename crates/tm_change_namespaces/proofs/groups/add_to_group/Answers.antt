use Rattle.std.proofs.Common.{◌≡◌, List, [], refl, sym, subst, ap, ◌∙◌}
use Rattle.std.specs.Prelude.{Option, Some, None, IsSome, unwrap_or}
use Rattle.tm_rules.specs.Types.{Entry}
use Rattle.tm_rules.specs.Prelude.{at_key, put_key}
use Rattle.tm_change_namespaces.proofs.Outcomes.{done_so, either_so, kept_anyway}
use Rattle.tm_change_namespaces.specs.AclGroups.{AreShort}
use Rattle.tm_change_namespaces.proofs.MapLaws.{put_again, put_back}
use Rattle.tm_change_namespaces.proofs.GroupLaws.{group_with, none_short, short_at, short_put}
use Rattle.tm_change_namespaces.proofs.groups.add_to_group.Goals as goal

pub returns-in_err-outcome-in-Some-clause-kept : goal.returns-in_err-outcome-in-Some-clause-kept
returns-in_err-outcome-in-Some-clause-kept c =
    let there : Some c.in-Some.entries ≡ at_key c.args.groups.now c.args.number = sym c.in-Some.is ∙ c.replace.ensures.old in
    let first : c.replace.new.self ≡ put_key c.args.number c.new.result c.args.groups.now = c.replace.ensures.written (subst IsSome (sym c.in-Some.is) refl) in
    let second : c.replace-in-Some.new.self ≡ put_key c.args.number c.add_at-outcome.new.entries c.args.groups.now =
    put_again c.args.number c.new.result c.add_at-outcome.new.entries c.args.groups.now c.replace.new.self c.replace-in-Some.new.self c.replace-in-Some.result first c.replace-in-Some.ensures.old c.replace-in-Some.ensures.written in
    let same : c.add_at-outcome.new.entries ≡ c.in-Some.entries = c.in_err-outcome-in-Some.ensures.kept in
    let back : c.replace-in-Some.new.self ≡ c.args.groups.now =
    second ∙ ap (λ (t : List Entry). put_key c.args.number t c.args.groups.now) same ∙ put_back c.args.number c.in-Some.entries c.args.groups.now c.replace.ensures.rising (sym there) in
    kept_anyway c.from_residual.result back

pub returns-in_err-outcome-in-Some-clause-few : goal.returns-in_err-outcome-in-Some-clause-few
returns-in_err-outcome-in-Some-clause-few c =
    let there : Some c.in-Some.entries ≡ at_key c.args.groups.now c.args.number = sym c.in-Some.is ∙ c.replace.ensures.old in
    let first : c.replace.new.self ≡ put_key c.args.number c.new.result c.args.groups.now = c.replace.ensures.written (subst IsSome (sym c.in-Some.is) refl) in
    let second : c.replace-in-Some.new.self ≡ put_key c.args.number c.add_at-outcome.new.entries c.args.groups.now =
    put_again c.args.number c.new.result c.add_at-outcome.new.entries c.args.groups.now c.replace.new.self c.replace-in-Some.new.self c.replace-in-Some.result first c.replace-in-Some.ensures.old c.replace-in-Some.ensures.written in
    let same : c.add_at-outcome.new.entries ≡ c.in-Some.entries = c.in_err-outcome-in-Some.ensures.kept in
    let back : c.replace-in-Some.new.self ≡ c.args.groups.now =
    second ∙ ap (λ (t : List Entry). put_key c.args.number t c.args.groups.now) same ∙ put_back c.args.number c.in-Some.entries c.args.groups.now c.replace.ensures.rising (sym there) in
    λ each. subst AreShort (sym back) each

pub returns-in_ok-outcome-in-Some-clause-done : goal.returns-in_ok-outcome-in-Some-clause-done
returns-in_ok-outcome-in-Some-clause-done c =
    let there : Some c.in-Some.entries ≡ at_key c.args.groups.now c.args.number = sym c.in-Some.is ∙ c.replace.ensures.old in
    let first : c.replace.new.self ≡ put_key c.args.number c.new.result c.args.groups.now = c.replace.ensures.written (subst IsSome (sym c.in-Some.is) refl) in
    let second : c.replace-in-Some.new.self ≡ put_key c.args.number c.add_at-outcome.new.entries c.args.groups.now =
    put_again c.args.number c.new.result c.add_at-outcome.new.entries c.args.groups.now c.replace.new.self c.replace-in-Some.new.self c.replace-in-Some.result first c.replace-in-Some.ensures.old c.replace-in-Some.ensures.written in
    let from : c.in-Some.entries ≡ unwrap_or (at_key c.args.groups.now c.args.number) [] = ap (λ (o : Option (List Entry)). unwrap_or o []) there in
    group_with c.args.number c.args.line c.in-Some.entries c.add_at-outcome.new.entries (at_key c.args.groups.now c.args.number) c.args.groups.now c.replace-in-Some.new.self second c.in_ok-outcome-in-Some.ensures.done from

pub returns-in_ok-outcome-in-Some-clause-few : goal.returns-in_ok-outcome-in-Some-clause-few
returns-in_ok-outcome-in-Some-clause-few c =
    let there : Some c.in-Some.entries ≡ at_key c.args.groups.now c.args.number = sym c.in-Some.is ∙ c.replace.ensures.old in
    let first : c.replace.new.self ≡ put_key c.args.number c.new.result c.args.groups.now = c.replace.ensures.written (subst IsSome (sym c.in-Some.is) refl) in
    let second : c.replace-in-Some.new.self ≡ put_key c.args.number c.add_at-outcome.new.entries c.args.groups.now =
    put_again c.args.number c.new.result c.add_at-outcome.new.entries c.args.groups.now c.replace.new.self c.replace-in-Some.new.self c.replace-in-Some.result first c.replace-in-Some.ensures.old c.replace-in-Some.ensures.written in
    λ each.
    short_put c.args.number c.add_at-outcome.new.entries c.args.groups.now c.replace-in-Some.new.self second (c.in_ok-outcome-in-Some.ensures.short (short_at c.args.number c.in-Some.entries c.args.groups.now there each)) each

pub returns-in_ok-add_at-in-None-clause-done : goal.returns-in_ok-add_at-in-None-clause-done
returns-in_ok-add_at-in-None-clause-done c =
    let none : None ≡ at_key c.args.groups.now c.args.number = sym c.in-None.is ∙ c.replace.ensures.old in
    let from : c.new-entries.result ≡ unwrap_or (at_key c.args.groups.now c.args.number) [] = c.new-entries.ensures ∙ ap (λ (o : Option (List Entry)). unwrap_or o []) none in
    let same : c.replace.new.self ≡ c.args.groups.now = c.replace.ensures.kept c.in-None.is in
    done_so c.put.result
    (λ (h : c.put.new.self ≡ put_key c.args.number c.add_at.new.entries c.replace.new.self).
    group_with c.args.number c.args.line c.new-entries.result c.add_at.new.entries (at_key c.args.groups.now c.args.number) c.args.groups.now c.put.new.self (h ∙ ap (put_key c.args.number c.add_at.new.entries) same) c.in_ok-add_at-in-None.ensures.done from)
    c.put.ensures.ok

pub returns-in_ok-add_at-in-None-clause-few : goal.returns-in_ok-add_at-in-None-clause-few
returns-in_ok-add_at-in-None-clause-few c =
    let same : c.replace.new.self ≡ c.args.groups.now = c.replace.ensures.kept c.in-None.is in
    let short = c.in_ok-add_at-in-None.ensures.short (none_short c.new-entries.result c.new-entries.ensures) in
    λ each.
    either_so c.put.result
    (λ (h : c.put.new.self ≡ put_key c.args.number c.add_at.new.entries c.replace.new.self).
    short_put c.args.number c.add_at.new.entries c.args.groups.now c.put.new.self (h ∙ ap (put_key c.args.number c.add_at.new.entries) same) short each)
    (λ (h : c.put.new.self ≡ c.replace.new.self). subst AreShort (sym (h ∙ same)) each)
    c.put.ensures.ok
    c.put.ensures.err
