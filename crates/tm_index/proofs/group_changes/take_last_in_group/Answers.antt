use Rattle.std.proofs.Common.{◌≡◌, ℕ, List, get_or, map, slice_set, ap, ◌∙◌, rules}
use Rattle.tm_index.specs.declared.list.ListIndex.{ListIndex}
use Rattle.tm_index.specs.Listing.{noting}
use Rattle.tm_index.specs.Index.{Told, told, groups_listed}
use Rattle.tm_index.specs.Groups.{group_with}
use Rattle.tm_index.proofs.TellingLaws.{seen_back, told_equal}
use Rattle.tm_index.proofs.group_changes.take_last_in_group.Goals as goal

pub returns : goal.returns
returns c before place h =
    let x : List (ℕ × ListIndex) = c.index_mut.result.now in
    let y : List (ℕ × ListIndex) = c.take_last_entry.new.lists in
    let made : c.from_vec.result ≡ slice_set c.args.index.now.groups c.args.number y = search rules in
    let at : x ≡ get_or c.args.index.now.groups c.args.number x = search rules in
    told_equal (told (record { domains = c.args.index.now.domains; groups = c.from_vec.result; live = c.args.index.now.live })) before (ap (λ (t : Told). t.domains) h)
    (ap (map groups_listed) made
    ∙ seen_back groups_listed (group_with c.args.group (noting c.args.label.now place)) c.args.index.now.groups before.groups c.args.number x y c.requires at (ap (λ (t : Told). t.groups) h) (λ b e. c.take_last_entry.ensures b place e))
    (ap (λ (t : Told). t.live) h)
