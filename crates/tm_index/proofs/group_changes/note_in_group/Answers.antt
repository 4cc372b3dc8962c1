use Rattle.std.proofs.Common.{◌≡◌, ℕ, List, get_or, map, slice_set, refl, ap, ◌∙◌, rules}
use Rattle.tm_index.specs.declared.list.ListIndex.{ListIndex}
use Rattle.tm_index.specs.Listing.{noting}
use Rattle.tm_index.specs.Index.{told, groups_listed}
use Rattle.tm_index.specs.Groups.{group_with, in_group}
use Rattle.tm_index.proofs.TellingLaws.{seen_set, seen_same, told_equal}
use Rattle.tm_index.proofs.group_changes.note_in_group.Goals as goal

pub returns-in-Ok-clause-done : goal.returns-in-Ok-clause-done
returns-in-Ok-clause-done c =
    let x : List (ℕ × ListIndex) = c.index_mut.result.now in
    let y : List (ℕ × ListIndex) = c.note_entry.new.lists in
    let made : c.from_vec.result ≡ slice_set c.args.index.now.groups c.args.number y = search rules in
    let at : x ≡ get_or c.args.index.now.groups c.args.number x = search rules in
    told_equal (told (record { domains = c.args.index.now.domains; groups = c.from_vec.result; live = c.args.index.now.live })) (in_group c.args.number c.args.group (noting c.args.label.now c.args.place) (told c.args.index.now)) refl
    (ap (map groups_listed) made ∙ seen_set groups_listed (group_with c.args.group (noting c.args.label.now c.args.place)) c.args.index.now.groups c.args.number x y at c.in-Ok.ensures.done) refl

pub returns-in-Err-clause-kept : goal.returns-in-Err-clause-kept
returns-in-Err-clause-kept c =
    let x : List (ℕ × ListIndex) = c.index_mut.result.now in
    let y : List (ℕ × ListIndex) = c.note_entry.new.lists in
    let made : c.from_vec-in-Err.result ≡ slice_set c.args.index.now.groups c.args.number y = search rules in
    let at : x ≡ get_or c.args.index.now.groups c.args.number x = search rules in
    told_equal (told (record { domains = c.args.index.now.domains; groups = c.from_vec-in-Err.result; live = c.args.index.now.live })) (told c.args.index.now) refl
    (ap (map groups_listed) made ∙ seen_same groups_listed c.args.index.now.groups c.args.number x y at c.in-Err.ensures.kept) refl
