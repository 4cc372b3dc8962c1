use Rattle.std.proofs.Common.{◌≡◌, List, sym, ap, ◌∙◌, subst}
use Rattle.std.specs.Prelude.{map}
use Rattle.std.specs.List.{AllByRecursion}
use Rattle.tm_rules.specs.Types.{Made, Reply}
use Rattle.tm_legal.specs.Prelude.{State}
use Rattle.tm_made.specs.Made.{told_from}
use Rattle.tm_machine.specs.Machine.{Course}
use Rattle.tm_machine.specs.Office.{list_of}
use Rattle.tm_seat.specs.Rows.{IsReady}
use Rattle.tm_seat.specs.Seats.{FitsFrom}
use Rattle.tm_seat.specs.declared.tree.TreeToPlay.{TreeToPlay}
use Rattle.tm_seat.specs.Parts.{trees_from}
use Rattle.tm_seat.proofs.Plans.{trees-ready}
use Rattle.tm_tests_alone.proofs.alone.play_alone.Goals as goal

pub play_all-played-requires-clause-fitted : goal.play_all-played-requires-clause-fitted
unfolding told_from
play_all-played-requires-clause-fitted g c =
    subst (λ (m : Course). FitsFrom m.start (list_of m)) (sym c.new-seat.ensures.machine)
    (subst (λ (made : List (Made × Reply)). FitsFrom c.args.machine.start (map (λ (pair : Made × Reply). pair.0) made)) (sym c.requires.1.made) tt)

pub play_all-played-requires-clause-ready : goal.play_all-played-requires-clause-ready
play_all-played-requires-clause-ready g c =
    let can = c.requires.1 in
    let start = c.args.machine.start in
    subst (λ (m : Course). AllByRecursion (IsReady m.start) c.in_ok-trees.trees.items) (sym c.new-seat.ensures.machine)
    (subst (AllByRecursion (IsReady start)) (sym (c.in_ok-trees.ensures ∙ ap (λ (s : State). trees_from s.policy 1 c.args.trace) can.opened))
    (trees-ready start c.args.trace can.trees can.can.starts can.can.requests))
