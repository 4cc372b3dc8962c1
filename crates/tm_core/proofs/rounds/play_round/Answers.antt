use Rattle.std.proofs.Common.{◌≡◌, ◌||◌, length, true, refl, ap, ◌∙◌, subst}
use Rattle.std.specs.Prelude.{List, Some, is_some}
use Rattle.tm_rules.specs.Types.{Start, Turn}
use Rattle.tm_desk.specs.Desks.{desk_book}
use Rattle.tm_audit.specs.Tomoyo.{tomoyo_grammar}
use Rattle.tm_legal.specs.Prelude.{numbers_to, player_event}
use Rattle.tm_core.specs.Scenes.{scene_of}
use Rattle.tm_core.specs.Rounds.{HasPlayed}
use Rattle.tm_core.specs.Players.{course_of, player_of}
use Rattle.tm_core.specs.Resting.{is_awake, wakes}
use Rattle.tm_core.proofs.RoundLaws.{goes-on}
use Rattle.tm_core.proofs.AwakeLaws.{round-of, or-true, or-none, others-edited, others-on-desk, others-same, led-of}
use Rattle.tm_core.proofs.rounds.play_round.Goals as goal

pub play_trees-requires-clause-reached : goal.play_trees-requires-clause-reached
play_trees-requires-clause-reached g c = let (trace, reached) = c.requires.reached in (trace, desk_book c.args.desk.now, c.in_ok-edited.ensures.reached trace reached)

pub play_trees-requires-clause-rest : goal.play_trees-requires-clause-rest
play_trees-requires-clause-rest g c =
    let (trace, reached) = c.requires.reached in
    others-edited trace (desk_book c.args.desk.now) (course_of c.args.player.now) (course_of c.play_turns.new.player) (player_of c.args.player.now) (player_of c.play_turns.new.player) c.args.editors.now (numbers_to (length (course_of c.args.player.now).start.editors))
    c.in_ok-edited.edited c.args.awake.now reached c.in_ok-edited.ensures.start c.requires.editors (c.in_ok-edited.ensures.played trace reached) c.requires.rest

pub play_desk-requires-clause-reached : goal.play_desk-requires-clause-reached
play_desk-requires-clause-reached g c = let (trace, reached) = c.requires.reached in (trace, c.in_ok-went.ensures.reached trace (desk_book c.args.desk.now) (c.in_ok-edited.ensures.reached trace reached))

pub returns-in_ok-wake_after-in-Some-clause-reached : goal.returns-in_ok-wake_after-in-Some-clause-reached
returns-in_ok-wake_after-in-Some-clause-reached g c =
    λ trace h.
    goes-on trace (desk_book c.args.desk.now) (course_of c.play_trees.new.player) (course_of c.play_desk.new.player) (player_of c.play_trees.new.player) (player_of c.play_desk.new.player) Turn.Desk (is_some c.in_ok-turn.field-0) c.in_ok-turn.ensures.start (c.in_ok-went.ensures.reached trace (desk_book c.args.desk.now) (c.in_ok-edited.ensures.reached trace h)) (c.in_ok-turn.ensures.event trace)

pub returns-in_ok-wake_after-in-Some-clause-played : goal.returns-in_ok-wake_after-in-Some-clause-played
returns-in_ok-wake_after-in-Some-clause-played g c =
    λ trace h.
    round-of trace (desk_book c.args.desk.now) (course_of c.args.player.now) (course_of c.play_turns.new.player) (course_of c.play_trees.new.player) (player_of c.args.player.now) (player_of c.play_turns.new.player) (player_of c.play_trees.new.player) (player_of c.play_desk.new.player)
    c.in_ok-edited.edited c.in_ok-went.went (is_some c.in_ok-turn.field-0) true c.in_ok-edited.ensures.start c.in_ok-went.ensures.start
    (subst (λ (turns : List Turn). HasPlayed (scene_of (course_of c.args.player.now).start trace (desk_book c.args.desk.now)) (player_of c.args.player.now) (player_of c.play_turns.new.player) turns c.in_ok-edited.edited) c.requires.editors (c.in_ok-edited.ensures.played trace h))
    (c.in_ok-went.ensures.played trace (desk_book c.args.desk.now) (c.in_ok-edited.ensures.reached trace h)) (c.in_ok-went.ensures.reached trace (desk_book c.args.desk.now) (c.in_ok-edited.ensures.reached trace h)) (c.in_ok-turn.ensures.event trace) (rw c.in-Some.is (or-true (c.in_ok-edited.edited || c.in_ok-went.went)))

pub returns-in_ok-wake_after-in-Some-clause-rest : goal.returns-in_ok-wake_after-in-Some-clause-rest
returns-in_ok-wake_after-in-Some-clause-rest g c =
    let (trace, h) = c.requires.reached in
    let had : player_event tomoyo_grammar (player_of c.play_trees.new.player) (course_of c.play_trees.new.player).start.desk c.in-Some.turn ≡ Some (player_of c.play_desk.new.player) = rw c.in-Some.is at c.in_ok-turn.ensures.turn in
    let trees : c.opening.result.now.trees ≡ (course_of c.play_trees.new.player).start.trees = ap (λ (s : Start). s.trees) (c.opening.ensures ∙ ap (λ k. k.start) c.machine.ensures ∙ c.in_ok-turn.ensures.start) in
    others-on-desk trace (desk_book c.args.desk.now) (course_of c.play_trees.new.player).start (course_of c.play_desk.new.player).start (player_of c.play_trees.new.player) (player_of c.play_desk.new.player) c.in-Some.turn c.play_trees.new.awake c.wake_after.new.self (led-of trace (desk_book c.args.desk.now) (course_of c.play_trees.new.player) (player_of c.play_trees.new.player) (c.in_ok-went.ensures.reached trace (desk_book c.args.desk.now) (c.in_ok-edited.ensures.reached trace h))) c.in_ok-turn.ensures.start had
    (λ t. c.in_ok-wake_after-in-Some.ensures.awake t ∙ ap (λ n. is_awake c.play_trees.new.awake t || wakes c.in-Some.turn n c.play_trees.new.awake t) trees) c.in_ok-wake_after-in-Some.ensures.waiting c.in_ok-went.ensures.rest

pub returns-then-edited-clause-reached : goal.returns-then-edited-clause-reached
returns-then-edited-clause-reached g c =
    λ trace h.
    goes-on trace (desk_book c.args.desk.now) (course_of c.play_trees.new.player) (course_of c.play_desk.new.player) (player_of c.play_trees.new.player) (player_of c.play_desk.new.player) Turn.Desk (is_some c.in_ok-turn.field-0) c.in_ok-turn.ensures.start (c.in_ok-went.ensures.reached trace (desk_book c.args.desk.now) (c.in_ok-edited.ensures.reached trace h)) (c.in_ok-turn.ensures.event trace)

pub returns-then-edited-clause-played : goal.returns-then-edited-clause-played
returns-then-edited-clause-played g c =
    λ trace h.
    round-of trace (desk_book c.args.desk.now) (course_of c.args.player.now) (course_of c.play_turns.new.player) (course_of c.play_trees.new.player) (player_of c.args.player.now) (player_of c.play_turns.new.player) (player_of c.play_trees.new.player) (player_of c.play_desk.new.player)
    c.in_ok-edited.edited c.in_ok-went.went (is_some c.in_ok-turn.field-0) c.in_ok-edited.edited c.in_ok-edited.ensures.start c.in_ok-went.ensures.start
    (subst (λ (turns : List Turn). HasPlayed (scene_of (course_of c.args.player.now).start trace (desk_book c.args.desk.now)) (player_of c.args.player.now) (player_of c.play_turns.new.player) turns c.in_ok-edited.edited) c.requires.editors (c.in_ok-edited.ensures.played trace h))
    (c.in_ok-went.ensures.played trace (desk_book c.args.desk.now) (c.in_ok-edited.ensures.reached trace h)) (c.in_ok-went.ensures.reached trace (desk_book c.args.desk.now) (c.in_ok-edited.ensures.reached trace h)) (c.in_ok-turn.ensures.event trace) (rw c.if-edited.true refl)

pub returns-then-edited-clause-rest : goal.returns-then-edited-clause-rest
returns-then-edited-clause-rest g c =
    let (trace, h) = c.requires.reached in
    others-same (course_of c.play_trees.new.player).start (course_of c.play_desk.new.player).start (player_of c.play_trees.new.player) (player_of c.play_desk.new.player) c.play_trees.new.awake c.in_ok-turn.ensures.start (let still = rw c.in-None.is at (c.in_ok-turn.ensures.event trace) in still.1) c.in_ok-went.ensures.rest

pub returns-else-edited-clause-reached : goal.returns-else-edited-clause-reached
returns-else-edited-clause-reached g c =
    λ trace h.
    goes-on trace (desk_book c.args.desk.now) (course_of c.play_trees.new.player) (course_of c.play_desk.new.player) (player_of c.play_trees.new.player) (player_of c.play_desk.new.player) Turn.Desk (is_some c.in_ok-turn.field-0) c.in_ok-turn.ensures.start (c.in_ok-went.ensures.reached trace (desk_book c.args.desk.now) (c.in_ok-edited.ensures.reached trace h)) (c.in_ok-turn.ensures.event trace)

pub returns-else-edited-clause-played : goal.returns-else-edited-clause-played
returns-else-edited-clause-played g c =
    λ trace h.
    round-of trace (desk_book c.args.desk.now) (course_of c.args.player.now) (course_of c.play_turns.new.player) (course_of c.play_trees.new.player) (player_of c.args.player.now) (player_of c.play_turns.new.player) (player_of c.play_trees.new.player) (player_of c.play_desk.new.player)
    c.in_ok-edited.edited c.in_ok-went.went (is_some c.in_ok-turn.field-0) c.in_ok-went.went c.in_ok-edited.ensures.start c.in_ok-went.ensures.start
    (subst (λ (turns : List Turn). HasPlayed (scene_of (course_of c.args.player.now).start trace (desk_book c.args.desk.now)) (player_of c.args.player.now) (player_of c.play_turns.new.player) turns c.in_ok-edited.edited) c.requires.editors (c.in_ok-edited.ensures.played trace h))
    (c.in_ok-went.ensures.played trace (desk_book c.args.desk.now) (c.in_ok-edited.ensures.reached trace h)) (c.in_ok-went.ensures.reached trace (desk_book c.args.desk.now) (c.in_ok-edited.ensures.reached trace h)) (c.in_ok-turn.ensures.event trace) (rw (c.if-edited.false, c.in-None.is) (or-none c.in_ok-went.went))

pub returns-else-edited-clause-rest : goal.returns-else-edited-clause-rest
returns-else-edited-clause-rest g c =
    let (trace, h) = c.requires.reached in
    others-same (course_of c.play_trees.new.player).start (course_of c.play_desk.new.player).start (player_of c.play_trees.new.player) (player_of c.play_desk.new.player) c.play_trees.new.awake c.in_ok-turn.ensures.start (let still = rw c.in-None.is at (c.in_ok-turn.ensures.event trace) in still.1) c.in_ok-went.ensures.rest
