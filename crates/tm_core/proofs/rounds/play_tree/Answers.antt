use Rattle.std.proofs.Common.{rules, ◌≡◌, true, false, subst}
use Rattle.tm_rules.specs.Types.{Turn}
use Rattle.tm_audit.specs.Tomoyo.{tomoyo_grammar}
use Rattle.tm_legal.specs.Prelude.{player_event}
use Rattle.tm_core.specs.Scenes.{Answers}
use Rattle.tm_core.specs.Players.{course_of, player_of}
use Rattle.tm_core.proofs.RoundLaws.{tree-has}
use Rattle.tm_core.proofs.AwakeLaws.{led-of, others-on-tree, lies-down}
use Rattle.tm_core.proofs.PlayerLaws.{reached-goes}
use Rattle.tm_core.proofs.rounds.play_tree.Goals as goal

pub step-requires : goal.step-requires
step-requires g c = let (trace, book, reached) = c.requires.reached in reached-goes trace book (course_of c.args.player.now) (player_of c.args.player.now) reached

pub returns-then-branch-clause-event : goal.returns-then-branch-clause-event
returns-then-branch-clause-event g c =
    let moved : c.in_ok-step.field-0 ≡ true = search rules in
    let had : Answers true (player_event tomoyo_grammar (player_of c.args.player.now) (course_of c.args.player.now).start.desk (Turn.Tree c.args.number)) (player_of c.step.new.player) (player_of c.args.player.now) =
    subst (λ m. Answers m (player_event tomoyo_grammar (player_of c.args.player.now) (course_of c.args.player.now).start.desk (Turn.Tree c.args.number)) (player_of c.step.new.player) (player_of c.args.player.now)) moved c.in_ok-step.ensures.event in
    λ trace book. tree-has (course_of c.args.player.now).start trace book (player_of c.args.player.now) (player_of c.step.new.player) c.args.number true had

pub returns-then-branch-clause-rest : goal.returns-then-branch-clause-rest
returns-then-branch-clause-rest g c =
    let moved : c.in_ok-step.field-0 ≡ true = search rules in
    let had : Answers true (player_event tomoyo_grammar (player_of c.args.player.now) (course_of c.args.player.now).start.desk (Turn.Tree c.args.number)) (player_of c.step.new.player) (player_of c.args.player.now) =
    subst (λ m. Answers m (player_event tomoyo_grammar (player_of c.args.player.now) (course_of c.args.player.now).start.desk (Turn.Tree c.args.number)) (player_of c.step.new.player) (player_of c.args.player.now)) moved c.in_ok-step.ensures.event in
    let (trace, book, reached) = c.requires.reached in
    others-on-tree trace book (course_of c.args.player.now).start (course_of c.step.new.player).start (player_of c.args.player.now) (player_of c.step.new.player) c.args.number c.args.awake.now
    (led-of trace book (course_of c.args.player.now) (player_of c.args.player.now) reached) c.in_ok-step.ensures.start
    (tree-has (course_of c.args.player.now).start trace book (player_of c.args.player.now) (player_of c.step.new.player) c.args.number true had) c.requires.rest

pub returns-clause-event : goal.returns-clause-event
returns-clause-event g c =
    let still : c.in_ok-step.field-0 ≡ false = search rules in
    let had : Answers false (player_event tomoyo_grammar (player_of c.args.player.now) (course_of c.args.player.now).start.desk (Turn.Tree c.args.number)) (player_of c.step.new.player) (player_of c.args.player.now) =
    subst (λ m. Answers m (player_event tomoyo_grammar (player_of c.args.player.now) (course_of c.args.player.now).start.desk (Turn.Tree c.args.number)) (player_of c.step.new.player) (player_of c.args.player.now)) still c.in_ok-step.ensures.event in
    λ trace book. tree-has (course_of c.args.player.now).start trace book (player_of c.args.player.now) (player_of c.step.new.player) c.args.number false had

pub returns-clause-rest : goal.returns-clause-rest
unfolding player_event
returns-clause-rest g c =
    let still : c.in_ok-step.field-0 ≡ false = search rules in
    let had : Answers false (player_event tomoyo_grammar (player_of c.args.player.now) (course_of c.args.player.now).start.desk (Turn.Tree c.args.number)) (player_of c.step.new.player) (player_of c.args.player.now) =
    subst (λ m. Answers m (player_event tomoyo_grammar (player_of c.args.player.now) (course_of c.args.player.now).start.desk (Turn.Tree c.args.number)) (player_of c.step.new.player) (player_of c.args.player.now)) still c.in_ok-step.ensures.event in
    lies-down (course_of c.args.player.now).start (course_of c.step.new.player).start (player_of c.args.player.now) (player_of c.step.new.player) c.args.number c.awaited_by.result c.args.awake.now c.lay_down.new.self
    c.in_ok-step.ensures.start had.1 had.0 c.requires.some c.requires.there c.awaited_by.ensures c.in_ok-lay_down.ensures c.requires.rest
