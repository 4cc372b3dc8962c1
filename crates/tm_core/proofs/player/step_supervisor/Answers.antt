use Rattle.std.proofs.Common.{◌≡◌, map, refl, sym, ◌∙◌, inr}
use Rattle.std.specs.Prelude.{Some, None}
use Rattle.tm_rules.specs.Types.{Made, Maker}
use Rattle.tm_audit.specs.Tomoyo.{tomoyo_grammar}
use Rattle.tm_legal.specs.Prelude.{supervisor_step}
use Rattle.tm_take.specs.Ways.{way_of}
use Rattle.tm_core.specs.Moves.{at_course}
use Rattle.tm_core.specs.Players.{course_of, player_of}
use Rattle.tm_core.proofs.PlayerLaws.{supervisor-fits, supervisor-answers, supervisor-still}
use Rattle.tm_core.proofs.player.step_supervisor.Goals as goal

pub settle-requires : goal.settle-requires
settle-requires g c =
    let is : supervisor_step tomoyo_grammar (at_course c.args.player.now.machine (map way_of c.args.player.now.trees.items) c.args.player.now.scripts.items) c.args.player.now.machine.start.desk c.args.turn ≡ Some c.in-Some.step =
    sym (c.supervisor_step.ensures (map way_of c.args.player.now.trees.items) c.args.player.now.scripts.items) ∙ c.in-Some.is in
    record { fits = supervisor-fits (at_course c.args.player.now.machine (map way_of c.args.player.now.trees.items) c.args.player.now.scripts.items) c.args.player.now.machine.start.desk c.args.turn c.in-Some.step c.args.player.now.machine.state is }

pub returns-in_ok-settle-in-Some-clause-event : goal.returns-in_ok-settle-in-Some-clause-event
unfolding course_of player_of
returns-in_ok-settle-in-Some-clause-event g c =
    let is : supervisor_step tomoyo_grammar (at_course c.args.player.now.machine (map way_of c.args.player.now.trees.items) c.args.player.now.scripts.items) c.args.player.now.machine.start.desk c.args.turn ≡ Some c.in-Some.step =
    sym (c.supervisor_step.ensures (map way_of c.args.player.now.trees.items) c.args.player.now.scripts.items) ∙ c.in-Some.is in
    supervisor-answers c.args.player.now.machine c.settle.new.self (map way_of c.args.player.now.trees.items) c.args.player.now.scripts.items c.args.player.now.machine.start.desk c.args.turn c.in-Some.step c.in_ok-settle-in-Some.field-0 is
    (record { done = c.in_ok-settle-in-Some.ensures.done; noted = c.in_ok-settle-in-Some.ensures.made; start = c.in_ok-settle-in-Some.ensures.start })

pub returns-in_ok-settle-in-Some-clause-start : goal.returns-in_ok-settle-in-Some-clause-start
unfolding course_of
returns-in_ok-settle-in-Some-clause-start g c = c.in_ok-settle-in-Some.ensures.start

pub returns-in_ok-settle-in-Some-clause-makers : goal.returns-in_ok-settle-in-Some-clause-makers
unfolding course_of
returns-in_ok-settle-in-Some-clause-makers g c =
    let made : Made = record { maker = Maker.Desk; step = c.in-Some.step } in
    inr (made, c.in_ok-settle-in-Some.field-0, c.in_ok-settle-in-Some.ensures.made, refl)

pub returns-in-None-clause-event : goal.returns-in-None-clause-event
unfolding course_of player_of
returns-in-None-clause-event g c =
    let is : supervisor_step tomoyo_grammar (at_course c.args.player.now.machine (map way_of c.args.player.now.trees.items) c.args.player.now.scripts.items) c.args.player.now.machine.start.desk c.args.turn ≡ None =
    sym (c.supervisor_step.ensures (map way_of c.args.player.now.trees.items) c.args.player.now.scripts.items) ∙ c.in-None.is in
    (supervisor-still (at_course c.args.player.now.machine (map way_of c.args.player.now.trees.items) c.args.player.now.scripts.items) c.args.player.now.machine.start.desk c.args.turn is, refl)
