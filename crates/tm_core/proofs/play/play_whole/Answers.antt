use Rattle.std.proofs.Common.{subst}
use Rattle.tm_desk.specs.Desks.{desk_book}
use Rattle.tm_rules.specs.Types.{Start}
use Rattle.tm_legal.specs.Prelude.{Scene}
use Rattle.tm_core.specs.Scenes.{scene_of}
use Rattle.tm_core.specs.Rounds.{IsOver}
use Rattle.tm_core.specs.Players.{course_of, player_of}
use Rattle.tm_core.proofs.RoundLaws.{plays-of, legal-of, ends-with}
use Rattle.tm_core.proofs.play.play_whole.Goals as goal

pub play_rounds-requires-clause-reached : goal.play_rounds-requires-clause-reached
play_rounds-requires-clause-reached g c = (c.requires.reached.0, c.in_ok-play_turns.ensures.reached c.requires.reached.0 c.requires.reached.1)

pub returns-clause-plays : goal.returns-clause-plays
returns-clause-plays g c =
    λ trace h starts.
    let scene : Scene = scene_of (course_of c.args.player.now).start trace (desk_book c.args.desk.now) in
    let turned = c.in_ok-play_turns.ensures in
    let over : IsOver scene (player_of c.play_turns.new.player) (player_of c.play_rounds.new.player) = subst (λ (start : Start). IsOver (scene_of start trace (desk_book c.args.desk.now)) (player_of c.play_turns.new.player) (player_of c.play_rounds.new.player)) turned.start (c.in_ok-play_rounds.ensures.over trace (turned.reached trace h)) in
    plays-of scene (player_of c.args.player.now) (player_of c.play_turns.new.player) (player_of c.play_rounds.new.player) c.args.schedule.now starts (turned.played trace h).led over

pub returns-clause-legal : goal.returns-clause-legal
returns-clause-legal g c =
    λ trace h starts.
    let scene : Scene = scene_of (course_of c.args.player.now).start trace (desk_book c.args.desk.now) in
    let turned = c.in_ok-play_turns.ensures in
    let over : IsOver scene (player_of c.play_turns.new.player) (player_of c.play_rounds.new.player) = subst (λ (start : Start). IsOver (scene_of start trace (desk_book c.args.desk.now)) (player_of c.play_turns.new.player) (player_of c.play_rounds.new.player)) turned.start (c.in_ok-play_rounds.ensures.over trace (turned.reached trace h)) in
    legal-of scene (player_of c.args.player.now) (player_of c.play_turns.new.player) (player_of c.play_rounds.new.player) c.args.schedule.now h.can starts (turned.played trace h).led over

pub returns-clause-ends : goal.returns-clause-ends
unfolding player_of course_of
returns-clause-ends g c =
    λ trace h starts.
    let scene : Scene = scene_of (course_of c.args.player.now).start trace (desk_book c.args.desk.now) in
    let turned = c.in_ok-play_turns.ensures in
    let over : IsOver scene (player_of c.play_turns.new.player) (player_of c.play_rounds.new.player) = subst (λ (start : Start). IsOver (scene_of start trace (desk_book c.args.desk.now)) (player_of c.play_turns.new.player) (player_of c.play_rounds.new.player)) turned.start (c.in_ok-play_rounds.ensures.over trace (turned.reached trace h)) in
    ends-with scene (player_of c.args.player.now) (player_of c.play_turns.new.player) (player_of c.play_rounds.new.player) c.args.schedule.now h.can starts (turned.played trace h).led over
