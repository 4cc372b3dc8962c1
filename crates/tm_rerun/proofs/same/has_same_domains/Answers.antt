use Rattle.std.proofs.Common.{rules, ◌≡◌, ◌∙◌, ◌<◌, sym, length, true, false, arith}
use Rattle.std.specs.Prelude.{Some, slice_get}
use Rattle.tm_rerun.specs.Same.{take_names}
use Rattle.tm_rerun.proofs.Alike.{stands, same-at, same-next}
use Rattle.tm_rerun.proofs.same.has_same_domains.Goals as goal

pub returns-then-not-are_in_same_domains : goal.returns-then-not-are_in_same_domains
returns-then-not-are_in_same_domains c =
    let lt : c.loop-place.place < length c.as_slice-take-items.result.now = omega arith in
    let there : slice_get c.args.first.now.takes c.loop-place.place ≡ Some c.take-item.result = stands c.args.first.now.takes c.as_slice-take-items.result.now c.loop-place.place c.take-item.result c.as_slice-take-items.ensures lt c.take-item.is in
    let other : slice_get c.args.second.now.takes c.loop-place.place ≡ Some c.in-Some.other.now = search rules in (
      λ no. absurd cc,
      λ same.
          let yes : c.are_in_same_domains.result ≡ true = c.are_in_same_domains.ensures.1 (same-at (take_names c.args.first_final.now) (take_names c.args.second_final.now) c.args.first.now.takes c.args.second.now.takes c.loop-place.place c.take-item.result c.in-Some.other.now there other same) in
          let no : c.are_in_same_domains.result ≡ false = search rules in
          sym no ∙ yes,
    )

pub loop-place-preserved : goal.loop-place-preserved
loop-place-preserved c =
    let lt : c.loop-place.place < length c.as_slice-take-items.result.now = omega arith in
    let there : slice_get c.args.first.now.takes c.loop-place.place ≡ Some c.take-item.result = stands c.args.first.now.takes c.as_slice-take-items.result.now c.loop-place.place c.take-item.result c.as_slice-take-items.ensures lt c.take-item.is in
    let other : slice_get c.args.second.now.takes c.loop-place.place ≡ Some c.in-Some.other.now = search rules in
    let yes : c.are_in_same_domains.result ≡ true = search rules in
    same-next (take_names c.args.first_final.now) (take_names c.args.second_final.now) c.args.first.now.takes c.args.second.now.takes c.loop-place.place c.take-item.result c.in-Some.other.now there other c.loop-place.invariant (c.are_in_same_domains.ensures.0 yes)
