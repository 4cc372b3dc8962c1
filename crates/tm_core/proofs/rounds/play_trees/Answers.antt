use Rattle.std.proofs.Common.{rules, ◌≡◌, ◌≤◌, ◌<◌, ◌+◌, ℕ, List, length, take, map, true, if◌then◌else◌, refl, sym, ◌∙◌, subst, arith}
use Rattle.std.specs.Ordering.{nat_cmp}
use Rattle.std.specs.List.Sorted.{IsStrictlySortedBy}
use Rattle.std.proofs.lemmas.List.{take_all}
use Rattle.tm_rules.specs.Types.{Turn}
use Rattle.tm_core.specs.Scenes.{scene_of}
use Rattle.tm_core.specs.Rounds.{HasPlayed}
use Rattle.tm_core.specs.Players.{course_of, player_of}
use Rattle.tm_core.proofs.RoundLaws.{goes-on}
use Rattle.tm_core.proofs.AwakeLaws.{led-of, tree-played, all-trees-played, number-there, no-tree-played}
use Rattle.tm_core.proofs.rounds.play_trees.Goals.{then-branch, else-branch}
use Rattle.tm_core.proofs.rounds.play_trees.Goals as goal

pub loop-number-init : goal.loop-number-init
loop-number-init g c =
    (c.requires.reached, λ trace book h. h, λ trace book h. no-tree-played (scene_of (course_of c.args.player.now).start trace book) (player_of c.args.player.now) c.as_slice-number-items.result.now, refl, c.requires.rest)

pub play_tree-requires-clause-some : goal.play_tree-requires-clause-some
play_tree-requires-clause-some g c =
    let within : c.loop-number.number-index < length c.as_slice-number-items.result.now = grind arith in
    let same : c.as_slice-number-items.result.now ≡ c.in_ok-numbers.numbers.items = search rules in
    (number-there (course_of c.args.player.now).start (player_of c.args.player.now) c.args.awake.now c.as_slice-number-items.result.now c.loop-number.number-index 0 c.requires.rest (same ∙ c.in_ok-numbers.ensures.all) within).0

pub play_tree-requires-clause-there : goal.play_tree-requires-clause-there
play_tree-requires-clause-there g c =
    let within : c.loop-number.number-index < length c.as_slice-number-items.result.now = grind arith in
    let same : c.as_slice-number-items.result.now ≡ c.in_ok-numbers.numbers.items = search rules in
    rw c.loop-number.invariant.3
    ((number-there (course_of c.args.player.now).start (player_of c.args.player.now) c.args.awake.now c.as_slice-number-items.result.now c.loop-number.number-index 0 c.requires.rest (same ∙ c.in_ok-numbers.ensures.all) within).1)

pub play_tree-requires-clause-reached : goal.play_tree-requires-clause-reached
play_tree-requires-clause-reached g c = c.loop-number.invariant.0

pub play_tree-requires-clause-rest : goal.play_tree-requires-clause-rest
play_tree-requires-clause-rest g c = c.loop-number.invariant.4

pub loop-number-preserved : goal.loop-number-preserved
loop-number-preserved g c =
    let within : c.loop-number.number-index < length c.as_slice-number-items.result.now = grind arith in
    let is : (if c.in_ok-play_tree.field-0 then true else c.loop-number.moved) ≡ c.if-branch.moved = elim c.if-branch.branch [ then-branch w ↦ search rules | else-branch w ↦ search rules ] in
    let inv = c.loop-number.invariant in
    let step = c.in_ok-play_tree.ensures in
    let (some_trace, some_book, reached) = inv.0 in (
      (
        some_trace,
        some_book,
        goes-on some_trace some_book (course_of c.loop-number.player) (course_of c.play_tree.new.player) (player_of c.loop-number.player) (player_of c.play_tree.new.player) _ c.in_ok-play_tree.field-0 step.start reached (step.event some_trace some_book),
      ),
      λ trace book h.
          goes-on trace book (course_of c.loop-number.player) (course_of c.play_tree.new.player) (player_of c.loop-number.player) (player_of c.play_tree.new.player) _ c.in_ok-play_tree.field-0 step.start (inv.1 trace book h) (step.event trace book),
      λ trace book h.
          subst (HasPlayed (scene_of (course_of c.args.player.now).start trace book) (player_of c.args.player.now) (player_of c.play_tree.new.player) (map Turn.Tree (take (c.loop-number.number-index + 1) c.as_slice-number-items.result.now))) is
          (tree-played trace book (course_of c.loop-number.player) (course_of c.args.player.now).start (player_of c.args.player.now) (player_of c.loop-number.player) (player_of c.play_tree.new.player) c.as_slice-number-items.result.now c.loop-number.number-index _
          c.loop-number.moved c.in_ok-play_tree.field-0 inv.3 within (inv.1 trace book h) (inv.2 trace book h) (step.event trace book)),
      step.start ∙ inv.3,
      step.rest,
    )

pub returns-clause-reached : goal.returns-clause-reached
returns-clause-reached g c = c.loop-number.invariant.1

pub returns-clause-start : goal.returns-clause-start
returns-clause-start g c = c.loop-number.invariant.3

pub returns-clause-rest : goal.returns-clause-rest
returns-clause-rest g c = c.loop-number.invariant.4

pub returns-clause-played : goal.returns-clause-played
returns-clause-played g c =
    let past : length c.as_slice-number-items.result.now ≤ c.loop-number.number-index = grind arith in
    let same : c.as_slice-number-items.result.now ≡ c.in_ok-numbers.numbers.items = search rules in
    let sorted : IsStrictlySortedBy nat_cmp c.as_slice-number-items.result.now = subst (IsStrictlySortedBy nat_cmp) (sym same) c.in_ok-numbers.ensures.sorted in
    λ trace book h.
    all-trees-played trace book (course_of c.args.player.now).start (player_of c.args.player.now) (player_of c.loop-number.player) c.args.awake.now c.as_slice-number-items.result.now c.loop-number.moved (led-of trace book (course_of c.args.player.now) (player_of c.args.player.now) h)
    (same ∙ c.in_ok-numbers.ensures.all) sorted c.requires.rest
    (subst (λ (numbers : List ℕ). HasPlayed (scene_of (course_of c.args.player.now).start trace book) (player_of c.args.player.now) (player_of c.loop-number.player) (map Turn.Tree numbers) c.loop-number.moved)
    (take_all c.loop-number.number-index c.as_slice-number-items.result.now past) (c.loop-number.invariant.2 trace book h))
