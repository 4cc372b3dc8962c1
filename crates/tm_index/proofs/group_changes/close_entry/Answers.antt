use Rattle.std.proofs.Common.{◌≡◌, refl, sym, ap, subst, ◌∙◌}
use Rattle.std.specs.Prelude.{Some, None, IsSome}
use Rattle.tm_rules.specs.Prelude.{at_key, put_key}
use Rattle.tm_change_namespaces.proofs.MapLaws.{put_again}
use Rattle.tm_index.specs.Listing.{closed}
use Rattle.tm_index.specs.Index.{groups_listed}
use Rattle.tm_index.proofs.GroupLists.{list_there, list_put, list_none, none_closed}
use Rattle.tm_index.proofs.group_changes.close_entry.Goals as goal

pub returns-in-Some : goal.returns-in-Some
returns-in-Some c =
    let there : Some c.in-Some.list ≡ at_key c.args.lists.now c.args.group = sym c.in-Some.is ∙ c.replace.ensures.old in
    let first : c.replace.new.self ≡ put_key c.args.group c.args.empty c.args.lists.now = c.replace.ensures.written (subst IsSome (sym c.in-Some.is) refl) in
    let second : c.replace-in-Some.new.self ≡ put_key c.args.group c.close.new.self c.args.lists.now =
    put_again c.args.group c.args.empty c.close.new.self c.args.lists.now c.replace.new.self c.replace-in-Some.new.self c.replace-in-Some.result first c.replace-in-Some.ensures.old c.replace-in-Some.ensures.written in
    list_put c.args.group c.close.new.self (closed c.args.place) c.args.lists.now c.replace-in-Some.new.self second (c.close.ensures ∙ ap (closed c.args.place) (list_there c.args.group c.in-Some.list c.args.lists.now there))

pub returns-in-None : goal.returns-in-None
returns-in-None c =
    let none : at_key c.args.lists.now c.args.group ≡ None = sym c.replace.ensures.old ∙ c.in-None.is in
    ap (λ lists. groups_listed lists) (c.replace.ensures.kept c.in-None.is) ∙ list_none c.args.group (closed c.args.place) c.args.lists.now none (none_closed c.args.place)
