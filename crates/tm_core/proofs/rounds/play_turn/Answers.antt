use Rattle.std.proofs.Common.{refl}
use Rattle.tm_desk.specs.Desks.{desk_book}
use Rattle.tm_audit.specs.Tomoyo.{tomoyo_grammar}
use Rattle.tm_legal.specs.Prelude.{event, player_event}
use Rattle.tm_core.specs.Scenes.{scene_of}
use Rattle.tm_core.specs.Players.{course_of, player_of}
use Rattle.tm_core.proofs.RoundLaws.{tree-turn, editor-turn, event-as}
use Rattle.tm_core.proofs.PlayerLaws.{reached-goes}
use Rattle.tm_core.proofs.rounds.play_turn.Goals as goal

pub step-requires : goal.step-requires
step-requires g c = let (trace, reached) = c.requires.reached in reached-goes trace (desk_book c.args.desk.now) (course_of c.args.player.now) (player_of c.args.player.now) reached

pub step-requires-in-Editor : goal.step-requires-in-Editor
step-requires-in-Editor g c = let (trace, reached) = c.requires.reached in reached-goes trace (desk_book c.args.desk.now) (course_of c.args.player.now) (player_of c.args.player.now) reached

pub returns-in-Tree-clause-event : goal.returns-in-Tree-clause-event
returns-in-Tree-clause-event g c =
    event-as c.step.result (player_event tomoyo_grammar (player_of c.args.player.now) (course_of c.args.player.now).start.desk c.args.turn)
    (λ trace. event (scene_of (course_of c.args.player.now).start trace (desk_book c.args.desk.now)) (player_of c.args.player.now) c.args.turn) (player_of c.step.new.player) (player_of c.args.player.now)
    (λ trace. rw c.in-Tree.is (tree-turn (course_of c.args.player.now).start trace (desk_book c.args.desk.now) (player_of c.args.player.now) c.in-Tree.field-0)) c.step.ensures.event

pub returns-in-Editor-clause-event : goal.returns-in-Editor-clause-event
returns-in-Editor-clause-event g c =
    event-as c.step-in-Editor.result (player_event tomoyo_grammar (player_of c.args.player.now) (course_of c.args.player.now).start.desk c.args.turn)
    (λ trace. event (scene_of (course_of c.args.player.now).start trace (desk_book c.args.desk.now)) (player_of c.args.player.now) c.args.turn) (player_of c.step-in-Editor.new.player) (player_of c.args.player.now)
    (λ trace. rw c.in-Editor.is (editor-turn (course_of c.args.player.now).start trace (desk_book c.args.desk.now) (player_of c.args.player.now) c.in-Editor.field-0)) c.step-in-Editor.ensures.event

pub returns-in-Attach-clause-event : goal.returns-in-Attach-clause-event
unfolding event
returns-in-Attach-clause-event g c = λ trace. rw c.in-Attach.is (refl, refl)

pub returns-in-Answer-clause-event : goal.returns-in-Answer-clause-event
unfolding event
returns-in-Answer-clause-event g c = λ trace. rw c.in-Answer.is (refl, refl)

pub returns-in-Detach-clause-event : goal.returns-in-Detach-clause-event
unfolding event
returns-in-Detach-clause-event g c = λ trace. rw c.in-Detach.is (refl, refl)
