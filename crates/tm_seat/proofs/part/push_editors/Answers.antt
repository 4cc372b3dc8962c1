use Rattle.tm_seat.proofs.Plans.{editors-more}
use Rattle.tm_seat.proofs.part.push_editors.Goals as goal

pub loop-editor-preserved : goal.loop-editor-preserved
loop-editor-preserved g c = editors-more _ _ _ _ _ _ _ c.loop-editor.invariant.0 c.loop-editor.invariant.1 c.in-Some-checked_add.ensures.1 c.in_ok-push.ensures.items
