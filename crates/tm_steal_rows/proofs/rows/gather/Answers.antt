use Rattle.std.proofs.Common.{rules, ◌≡◌, List, length, sym, subst}
use Rattle.tm_steal_rows.specs.declared.parts.TreePart.{TreePart}
use Rattle.tm_steal_rows.specs.declared.played.Played.{Played}
use Rattle.tm_steal_rows.specs.Gathering.{EachOwned, AreWalked}
use Rattle.tm_steal_rows.proofs.RowSteps.{written-back, gathered}
use Rattle.tm_steal_rows.proofs.rows.gather.Goals as goal

pub returns : goal.returns
returns g c =
    let a = c.args in
    let olds = c.in_ok-parts.parts.items in
    let news = c.walk_parts.new.parts in
    let count : c.in_ok-parts.parts.len ≡ length c.in_ok-parts.parts.items = search rules in
    let long : length c.walk_parts.new.parts ≡ length c.in_ok-parts.parts.items = search rules in
    gathered a.supervised a.trace.now a.homes.items a.given.items _ _ _ _ (λ v. v.items) c.all_rows.result c.in_ok-check_owners.ensures.0
    (subst (λ (given : List (List Played)). EachOwned c.in_ok-check_owners.ensures.0 0 given) c.as_slice.ensures.value c.in_ok-check_owners.ensures.1)
    c.in_ok-queues.ensures.takes c.in_ok-queues.ensures.ends c.in_ok-parts.ensures
    (subst (λ (all : List TreePart). AreWalked olds all) (sym (written-back olds news c.in_ok-parts.parts.len count long))
    (subst (λ (all : List TreePart). AreWalked all news) c.as_mut_slice.ensures.value c.walk_parts.ensures))
    c.all_rows.ensures
