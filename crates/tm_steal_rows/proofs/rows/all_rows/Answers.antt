use Rattle.std.proofs.Common.{rules, ◌≡◌, ◌++◌, ◌∷◌, [], List, sym, subst}
use Rattle.tm_seat.specs.declared.tree.PlayedTree.{PlayedTree}
use Rattle.tm_steal_rows.specs.Gathering.{RowsAreOfParts}
use Rattle.tm_steal_rows.proofs.RowSteps.{rows-push}
use Rattle.tm_steal_rows.proofs.rows.all_rows.Goals as goal

pub loop-part-preserved : goal.loop-part-preserved
loop-part-preserved c =
    let a = c.args in
    let l = c.loop-part in
    let row = c.in_ok-row.row in
    let pushed : c.push.new.self.items ≡ c.loop-part.rows.items ++ c.in_ok-row.row ∷ [] = search rules in
    subst (λ (rows : List PlayedTree). RowsAreOfParts a.supervised (l.yielded ++ c.in-Some.part ∷ []) a.ends.items rows c.next_row.new.ends.items) (sym pushed)
    (rows-push a.supervised l.yielded a.ends.items l.rows.items l.ends.items c.in-Some.part row c.next_row.new.ends.items l.invariant c.in_ok-row.ensures)
