use Rattle.std.proofs.Common.{refl}
use Rattle.tm_legal.specs.Prelude.{player_event, supervisor_step}
use Rattle.tm_core.proofs.player.step.Goals as goal

pub returns-in-Tree-clause-event : goal.returns-in-Tree-clause-event
unfolding player_event
returns-in-Tree-clause-event g c = rw c.in-Tree.is c.step_tree.ensures.event

pub returns-in-Tree-clause-makers : goal.returns-in-Tree-clause-makers
returns-in-Tree-clause-makers g c = rw c.in-Tree.is c.step_tree.ensures.makers

pub returns-in-Editor-clause-event : goal.returns-in-Editor-clause-event
unfolding player_event
returns-in-Editor-clause-event g c = rw c.in-Editor.is c.step_editor.ensures.event

pub returns-in-Editor-clause-makers : goal.returns-in-Editor-clause-makers
returns-in-Editor-clause-makers g c = rw c.in-Editor.is c.step_editor.ensures.makers

pub returns-in-Desk-clause-event : goal.returns-in-Desk-clause-event
unfolding player_event supervisor_step
returns-in-Desk-clause-event g c = rw c.in-Desk.is (refl, refl)

pub returns-in-Attach-clause-event : goal.returns-in-Attach-clause-event
unfolding player_event
returns-in-Attach-clause-event g c = rw c.in-Attach.is c.step_supervisor.ensures.event

pub returns-in-Attach-clause-makers : goal.returns-in-Attach-clause-makers
returns-in-Attach-clause-makers g c = rw c.in-Attach.is c.step_supervisor.ensures.makers

pub returns-in-Answer-clause-event : goal.returns-in-Answer-clause-event
unfolding player_event
returns-in-Answer-clause-event g c = rw c.in-Answer.is c.step_supervisor-in-Answer.ensures.event

pub returns-in-Answer-clause-makers : goal.returns-in-Answer-clause-makers
returns-in-Answer-clause-makers g c = rw c.in-Answer.is c.step_supervisor-in-Answer.ensures.makers

pub returns-in-Detach-clause-event : goal.returns-in-Detach-clause-event
unfolding player_event
returns-in-Detach-clause-event g c = rw c.in-Detach.is c.step_supervisor-in-Detach.ensures.event

pub returns-in-Detach-clause-makers : goal.returns-in-Detach-clause-makers
returns-in-Detach-clause-makers g c = rw c.in-Detach.is c.step_supervisor-in-Detach.ensures.makers
