use Rattle.std.proofs.Common.{rules, ◌≡◌, [], ◌∷◌, None, Some, refl}
use Rattle.tm_take.specs.Situations.{situations}
use Rattle.tm_legal.specs.Prelude.{do_pids}
use Rattle.tm_take.specs.Passing.{PassesLine}
use Rattle.tm_take.proofs.Walking.{pass_more, pids_more, pass_met, no_pids, all_passed}
use Rattle.tm_take.proofs.lines.pass.Goals as goal

pub returns-then-not-has_request : goal.returns-then-not-has_request
returns-then-not-has_request c =
    let none : do_pids c.args.lines.now ≡ [] = no_pids (do_pids c.args.lines.now) (search rules) in
    record { none = none; past = λ g. all_passed g (situations c.args.known.now) c.args.lines.now none; same_at = refl; same_items = refl }

pub loop-item-preserved : goal.loop-item-preserved
loop-item-preserved c =
    let line : PassesLine None c.in-Some.item (situations c.loop-item.known) (situations c.pass_line.new.known) = search rules in
    let is : c.loop-item.lines ≡ c.in-Some.item ∷ c.next.new.self = search rules in (
      λ g. pass_more g (situations c.loop-item.known) (situations c.pass_line.new.known) (situations c.args.known.now) c.next.new.self c.loop-item.lines c.args.lines.now c.in-Some.item is ((line c.next.new.self).0 g) (c.loop-item.invariant.0 g),
      pids_more c.next.new.self c.loop-item.lines c.args.lines.now c.in-Some.item is (line c.next.new.self).1 c.loop-item.invariant.1,
    )

pub returns-in-Some-2 : goal.returns-in-Some-2
returns-in-Some-2 c =
    let line : PassesLine (Some c.in-Some-2.next) c.in-Some.item (situations c.loop-item.known) (situations c.pass_line.new.known) = search rules in
    let is : c.loop-item.lines ≡ c.in-Some.item ∷ c.next.new.self = search rules in
    λ g. pass_met g (situations c.loop-item.known) (situations c.pass_line.new.known) (situations c.args.known.now) c.next.new.self c.loop-item.lines c.args.lines.now c.in-Some.item c.in-Some-2.next.0 c.in-Some-2.next.1 is line.0 line.1 (c.loop-item.invariant.0 g)
