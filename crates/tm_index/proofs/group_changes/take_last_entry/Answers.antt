use Rattle.std.proofs.Common.{◌≡◌, refl, sym, subst, ◌∙◌}
use Rattle.std.specs.Prelude.{Some, None, IsSome}
use Rattle.tm_rules.specs.Prelude.{at_key, put_key}
use Rattle.tm_change_namespaces.proofs.MapLaws.{put_again}
use Rattle.tm_index.specs.Listing.{noting}
use Rattle.tm_index.proofs.GroupLists.{list_back, noted_there}
use Rattle.tm_index.proofs.group_changes.take_last_entry.Goals as goal

pub returns-in-Some : goal.returns-in-Some
returns-in-Some c before place h =
    let there : Some c.in-Some.list ≡ at_key c.args.lists.now c.args.group = sym c.in-Some.is ∙ c.replace.ensures.old in
    let first : c.replace.new.self ≡ put_key c.args.group c.args.empty c.args.lists.now = c.replace.ensures.written (subst IsSome (sym c.in-Some.is) refl) in
    let second : c.replace-in-Some.new.self ≡ put_key c.args.group c.take_last.new.self c.args.lists.now =
    put_again c.args.group c.args.empty c.take_last.new.self c.args.lists.now c.replace.new.self c.replace-in-Some.new.self c.replace-in-Some.result first c.replace-in-Some.ensures.old c.replace-in-Some.ensures.written in
    list_back c.args.group c.take_last.new.self c.in-Some.list (noting c.args.label.now place) c.args.lists.now c.replace-in-Some.new.self before second there h (c.take_last.ensures (before c.args.group) place)

pub returns-in-None : goal.returns-in-None
returns-in-None c before place h =
    let none : at_key c.args.lists.now c.args.group ≡ None = sym c.replace.ensures.old ∙ c.in-None.is in
    absurd (noted_there c.args.group c.args.label.now place c.args.lists.now before none h)
