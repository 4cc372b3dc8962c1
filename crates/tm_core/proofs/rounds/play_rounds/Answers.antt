use Rattle.std.proofs.Common.{rules, ◌≡◌, false, suc, length, refl, ap, ◌∙◌, subst}
use Rattle.tm_desk.specs.Desks.{desk_book}
use Rattle.tm_rules.specs.Types.{Start}
use Rattle.tm_legal.specs.Prelude.{Scene, everybody}
use Rattle.tm_core.specs.Scenes.{scene_of}
use Rattle.tm_core.specs.Rounds.{HasPlayed, one_round}
use Rattle.tm_core.specs.Players.{course_of, player_of}
use Rattle.tm_core.specs.Resting.{is_tree}
use Rattle.tm_core.proofs.RoundLaws.{everybody-is, rounds-begin, rounds-next, rounds-end}
use Rattle.tm_core.proofs.AwakeLaws.{all-awake}
use Rattle.tm_core.proofs.rounds.play_rounds.Goals as goal

pub loop-awake-init : goal.loop-awake-init
loop-awake-init g c =
    let trees : c.opening.result.now.trees ≡ (course_of c.args.player.now).start.trees = search rules in (
      c.requires.reached,
      λ trace h. (0, h, rounds-begin (scene_of (course_of c.args.player.now).start trace (desk_book c.args.desk.now)) (player_of c.args.player.now)),
      refl,
      all-awake (course_of c.args.player.now).start (player_of c.args.player.now) c.in_ok-awake.awake (λ t. c.in_ok-awake.ensures.awake t ∙ ap (λ n. is_tree n t) trees) c.in_ok-awake.ensures.waiting,
    )

pub returns-then-not-branch-clause-over : goal.returns-then-not-branch-clause-over
returns-then-not-branch-clause-over g c =
    let still : c.in_ok-play_round.field-0 ≡ false = search rules in
    λ trace h.
    let before = c.loop-awake.invariant.1 trace h in
    let scene : Scene = scene_of (course_of c.args.player.now).start trace (desk_book c.args.desk.now) in
    let start : Start = (course_of c.args.player.now).start in
    let all : everybody scene ≡ one_round (length start.editors) start.trees = everybody-is trace (desk_book c.args.desk.now) (course_of c.args.player.now) (player_of c.args.player.now) h in
    rounds-end scene (player_of c.args.player.now) (player_of c.loop-awake.player) (player_of c.play_round.new.player) (one_round (length start.editors) start.trees) before.0 all before.2
    (subst (HasPlayed scene (player_of c.loop-awake.player) (player_of c.play_round.new.player) (one_round (length start.editors) start.trees)) still
    (subst (λ (s : Start). HasPlayed (scene_of s trace (desk_book c.args.desk.now)) (player_of c.loop-awake.player) (player_of c.play_round.new.player) (one_round (length s.editors) s.trees) c.in_ok-play_round.field-0) c.loop-awake.invariant.2 (c.in_ok-play_round.ensures.played trace before.1)))

pub loop-awake-preserved : goal.loop-awake-preserved
loop-awake-preserved g c =
    let some = c.loop-awake.invariant.0 in (
      (some.0, c.in_ok-play_round.ensures.reached some.0 some.1),
      λ trace h.
          let before = c.loop-awake.invariant.1 trace h in
          let scene : Scene = scene_of (course_of c.args.player.now).start trace (desk_book c.args.desk.now) in
          let start : Start = (course_of c.args.player.now).start in
          let all : everybody scene ≡ one_round (length start.editors) start.trees = everybody-is trace (desk_book c.args.desk.now) (course_of c.args.player.now) (player_of c.args.player.now) h in (
            suc before.0,
            c.in_ok-play_round.ensures.reached trace before.1,
            rounds-next scene (player_of c.args.player.now) (player_of c.loop-awake.player) (player_of c.play_round.new.player) (one_round (length start.editors) start.trees) before.0 c.in_ok-play_round.field-0 all before.2
                (subst (λ (s : Start). HasPlayed (scene_of s trace (desk_book c.args.desk.now)) (player_of c.loop-awake.player) (player_of c.play_round.new.player) (one_round (length s.editors) s.trees) c.in_ok-play_round.field-0) c.loop-awake.invariant.2
                (c.in_ok-play_round.ensures.played trace before.1)),
          ),
      c.in_ok-play_round.ensures.start ∙ c.loop-awake.invariant.2,
      c.in_ok-play_round.ensures.rest,
    )
