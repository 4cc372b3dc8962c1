use Rattle.std.proofs.Common.{rules, ◌≡◌, Bool, true, false, refl, sym, ◌∙◌, subst}
use Rattle.std.specs.Prelude.{None, Some}
use Rattle.tm_desk.specs.Desks.{desk_book}
use Rattle.tm_audit.specs.Tomoyo.{tomoyo_grammar}
use Rattle.tm_legal.specs.Prelude.{desk_turn, player_event}
use Rattle.tm_core.specs.Scenes.{Answers}
use Rattle.tm_core.specs.Players.{course_of, player_of}
use Rattle.tm_core.proofs.RoundLaws.{no-desk, desk-rests, desk-has}
use Rattle.tm_core.proofs.PlayerLaws.{reached-goes}
use Rattle.tm_core.proofs.rounds.play_desk.Goals as goal

pub step-requires : goal.step-requires
step-requires g c = let (trace, reached) = c.requires.reached in reached-goes trace (desk_book c.args.desk.now) (course_of c.args.player.now) (player_of c.args.player.now) reached

pub returns-then-not-opening-clause-event : goal.returns-then-not-opening-clause-event
returns-then-not-opening-clause-event g c =
    let off : (course_of c.args.player.now).start.desk ≡ false = search rules in
    λ trace. (no-desk (course_of c.args.player.now).start trace (desk_book c.args.desk.now) (player_of c.args.player.now) off, refl)

pub returns-in_default-clause-event : goal.returns-in_default-clause-event
returns-in_default-clause-event g c =
    let on : (course_of c.args.player.now).start.desk ≡ true = search rules in
    let rests : desk_turn tomoyo_grammar (player_of c.args.player.now) (desk_book c.args.desk.now) ≡ None = sym c.desk_turn.ensures ∙ c.in_default.is in
    λ trace. (desk-rests (course_of c.args.player.now).start trace (desk_book c.args.desk.now) (player_of c.args.player.now) on rests, refl)

pub returns-then-branch-clause-event : goal.returns-then-branch-clause-event
returns-then-branch-clause-event g c =
    let on : (course_of c.args.player.now).start.desk ≡ true = search rules in
    let next : desk_turn tomoyo_grammar (player_of c.args.player.now) (desk_book c.args.desk.now) ≡ Some c.in-Some.turn = sym c.desk_turn.ensures ∙ c.in-Some.is in
    let moved : c.in_ok-step.field-0 ≡ true = search rules in
    λ trace.
    desk-has (course_of c.args.player.now).start trace (desk_book c.args.desk.now) (player_of c.args.player.now) (player_of c.step.new.player) c.in-Some.turn true on next
    (subst (λ (m : Bool). Answers m (player_event tomoyo_grammar (player_of c.args.player.now) (course_of c.args.player.now).start.desk c.in-Some.turn) (player_of c.step.new.player) (player_of c.args.player.now)) moved c.in_ok-step.ensures.event)

pub returns-else-branch-clause-event : goal.returns-else-branch-clause-event
returns-else-branch-clause-event g c =
    let on : (course_of c.args.player.now).start.desk ≡ true = search rules in
    let next : desk_turn tomoyo_grammar (player_of c.args.player.now) (desk_book c.args.desk.now) ≡ Some c.in-Some.turn = sym c.desk_turn.ensures ∙ c.in-Some.is in
    let still : c.in_ok-step.field-0 ≡ false = search rules in
    λ trace.
    desk-has (course_of c.args.player.now).start trace (desk_book c.args.desk.now) (player_of c.args.player.now) (player_of c.step.new.player) c.in-Some.turn false on next
    (subst (λ (m : Bool). Answers m (player_event tomoyo_grammar (player_of c.args.player.now) (course_of c.args.player.now).start.desk c.in-Some.turn) (player_of c.step.new.player) (player_of c.args.player.now)) still c.in_ok-step.ensures.event)
