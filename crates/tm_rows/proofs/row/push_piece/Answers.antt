use Rattle.tm_rows.proofs.CopyLaws.{no_copy, one_copy_more}
use Rattle.tm_rows.proofs.row.push_piece.Goals as goal

pub loop-before-init : goal.loop-before-init
loop-before-init c = no_copy c.args.piece.now c.args.out.now.items

pub loop-before-preserved : goal.loop-before-preserved
loop-before-preserved c =
    one_copy_more c.args.piece.now c.loop-before.before c.args.out.now.items c.loop-before.out.items _ c.loop-before.invariant c.in_ok-push_copy.ensures
