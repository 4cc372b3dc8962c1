use Rattle.std.proofs.Common.{rules, ◌≡◌, ◌≤◌, ◌<◌, ◌+◌, length, take, true, if◌then◌else◌, refl, ◌∙◌, subst, arith}
use Rattle.tm_desk.specs.Desks.{desk_book}
use Rattle.tm_core.specs.Scenes.{scene_of}
use Rattle.tm_core.specs.Rounds.{HasPlayed}
use Rattle.tm_core.specs.Players.{course_of, player_of}
use Rattle.tm_core.proofs.RoundLaws.{goes-on, none-played, one-played, all-played}
use Rattle.tm_core.proofs.rounds.play_turns.Goals.{then-branch, else-branch}
use Rattle.tm_core.proofs.rounds.play_turns.Goals as goal

pub loop-turn-init : goal.loop-turn-init
loop-turn-init g c = (c.requires.reached, λ trace h. h, λ trace h. none-played (scene_of (course_of c.args.player.now).start trace (desk_book c.args.desk.now)) (player_of c.args.player.now) c.args.turns.now, refl)

pub loop-turn-preserved : goal.loop-turn-preserved
loop-turn-preserved g c =
    let within : c.loop-turn.turn-index < length c.args.turns.now = grind arith in
    let is : (if c.in_ok-play_turn.field-0 then true else c.loop-turn.moved) ≡ c.if-branch.moved = elim c.if-branch.branch [ then-branch w ↦ search rules | else-branch w ↦ search rules ] in
    let inv = c.loop-turn.invariant in
    let same = inv.3 in
    let step = c.in_ok-play_turn.ensures in
    let some = inv.0 in (
      (some.0, goes-on some.0 (desk_book c.args.desk.now) (course_of c.loop-turn.player) (course_of c.play_turn.new.player) (player_of c.loop-turn.player) (player_of c.play_turn.new.player) _ c.in_ok-play_turn.field-0 step.start some.1 (step.event some.0)),
      λ trace h.
          goes-on trace (desk_book c.args.desk.now) (course_of c.loop-turn.player) (course_of c.play_turn.new.player) (player_of c.loop-turn.player) (player_of c.play_turn.new.player) _ c.in_ok-play_turn.field-0 step.start (inv.1 trace h)
          (step.event trace),
      λ trace h.
          subst (HasPlayed (scene_of (course_of c.args.player.now).start trace (desk_book c.args.desk.now)) (player_of c.args.player.now) (player_of c.play_turn.new.player) (take (c.loop-turn.turn-index + 1) c.args.turns.now)) is
          (one-played trace (desk_book c.args.desk.now) (course_of c.loop-turn.player) (course_of c.args.player.now).start (player_of c.args.player.now) (player_of c.loop-turn.player) (player_of c.play_turn.new.player) c.args.turns.now c.loop-turn.turn-index _
          c.loop-turn.moved c.in_ok-play_turn.field-0 same within (inv.1 trace h) (inv.2 trace h) (step.event trace)),
      step.start ∙ same,
    )

pub returns-clause-played : goal.returns-clause-played
returns-clause-played g c =
    let past : length c.args.turns.now ≤ c.loop-turn.turn-index = grind arith in
    λ trace h.
    all-played (scene_of (course_of c.args.player.now).start trace (desk_book c.args.desk.now)) (player_of c.args.player.now) (player_of c.loop-turn.player) c.args.turns.now c.loop-turn.turn-index c.loop-turn.moved past (c.loop-turn.invariant.2 trace h)
