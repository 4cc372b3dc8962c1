use Rattle.std.proofs.Common.{◌≡◌, refl, sym, ap, subst, ◌∙◌}
use Rattle.std.specs.Prelude.{Some, None, IsSome}
use Rattle.tm_rules.specs.Prelude.{at_key, put_key}
use Rattle.tm_change_namespaces.proofs.MapLaws.{put_again}
use Rattle.tm_change_namespaces.proofs.Outcomes.{done_so, kept_so}
use Rattle.tm_index.specs.Listing.{listed, noting}
use Rattle.tm_index.specs.Index.{groups_listed}
use Rattle.tm_index.proofs.GroupLists.{list_there, list_nowhere, list_put, list_kept}
use Rattle.tm_index.proofs.group_changes.note_entry.Goals as goal

pub returns-in-Some-clause-done : goal.returns-in-Some-clause-done
returns-in-Some-clause-done c =
    let there : Some c.in-Some.list ≡ at_key c.args.lists.now c.args.group = sym c.in-Some.is ∙ c.replace.ensures.old in
    let first : c.replace.new.self ≡ put_key c.args.group c.new.result c.args.lists.now = c.replace.ensures.written (subst IsSome (sym c.in-Some.is) refl) in
    let second : c.replace-in-Some.new.self ≡ put_key c.args.group c.note-outcome.new.self c.args.lists.now =
    put_again c.args.group c.new.result c.note-outcome.new.self c.args.lists.now c.replace.new.self c.replace-in-Some.new.self c.replace-in-Some.result first c.replace-in-Some.ensures.old c.replace-in-Some.ensures.written in
    done_so c.note-outcome.result
    (λ (h : listed c.note-outcome.new.self ≡ noting c.args.label.now c.args.place (listed c.in-Some.list)).
    list_put c.args.group c.note-outcome.new.self (noting c.args.label.now c.args.place) c.args.lists.now c.replace-in-Some.new.self second
    (h ∙ ap (noting c.args.label.now c.args.place) (list_there c.args.group c.in-Some.list c.args.lists.now there)))
    c.note-outcome.ensures.done

pub returns-in-Some-clause-kept : goal.returns-in-Some-clause-kept
returns-in-Some-clause-kept c =
    let there : Some c.in-Some.list ≡ at_key c.args.lists.now c.args.group = sym c.in-Some.is ∙ c.replace.ensures.old in
    let first : c.replace.new.self ≡ put_key c.args.group c.new.result c.args.lists.now = c.replace.ensures.written (subst IsSome (sym c.in-Some.is) refl) in
    let second : c.replace-in-Some.new.self ≡ put_key c.args.group c.note-outcome.new.self c.args.lists.now =
    put_again c.args.group c.new.result c.note-outcome.new.self c.args.lists.now c.replace.new.self c.replace-in-Some.new.self c.replace-in-Some.result first c.replace-in-Some.ensures.old c.replace-in-Some.ensures.written in
    kept_so c.note-outcome.result
    (λ (h : listed c.note-outcome.new.self ≡ listed c.in-Some.list).
    list_kept c.args.group c.note-outcome.new.self c.args.lists.now c.replace-in-Some.new.self second (h ∙ list_there c.args.group c.in-Some.list c.args.lists.now there))
    c.note-outcome.ensures.kept

pub returns-in_ok-note-in-None-clause-done : goal.returns-in_ok-note-in-None-clause-done
returns-in_ok-note-in-None-clause-done c =
    let none : at_key c.args.lists.now c.args.group ≡ None = sym c.replace.ensures.old ∙ c.in-None.is in
    let same : c.replace.new.self ≡ c.args.lists.now = c.replace.ensures.kept c.in-None.is in
    let empty : listed c.new-list.result ≡ groups_listed c.args.lists.now c.args.group = c.new-list.ensures ∙ list_nowhere c.args.group c.args.lists.now none in
    done_so c.put.result
    (λ (h : c.put.new.self ≡ put_key c.args.group c.note.new.self c.replace.new.self).
    list_put c.args.group c.note.new.self (noting c.args.label.now c.args.place) c.args.lists.now c.put.new.self (h ∙ ap (put_key c.args.group c.note.new.self) same)
    (c.in_ok-note-in-None.ensures.done ∙ ap (noting c.args.label.now c.args.place) empty))
    c.put.ensures.ok
