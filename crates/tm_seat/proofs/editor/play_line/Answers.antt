use Rattle.std.specs.Prelude.{◌≤◌, length}
use Rattle.std.proofs.Common.{refl, subst, sym}
use Rattle.tm_rules.specs.Types.{Start}
use Rattle.tm_seat.proofs.EditEvents.{edit-fits, edits-from}
use Rattle.tm_seat.proofs.editor.play_line.Goals as goal

pub settle-requires : goal.settle-requires
settle-requires g c =
    record {
      fits = edit-fits (g.S.Seat.opening c.begin.new.self) (g.S.Seat.at c.begin.new.self) c.args.editor c.args.file c.args.text c.requires.above
          (subst (λ (s : Start). c.args.editor ≤ length s.editors) (sym c.begin.ensures.opening) c.requires.inside);
    }

pub returns-clause-edited : goal.returns-clause-edited
returns-clause-edited g c =
    let e = c.in_ok-settle.ensures in
    edits-from (g.S.Seat.opening c.args.seat.now) (g.S.Seat.opening c.begin.new.self) (g.S.Seat.opening c.settle.new.self) c.args.editor (g.S.Seat.at c.args.seat.now) (g.S.Seat.at c.begin.new.self) (g.S.Seat.at c.settle.new.self) (g.S.Seat.own c.args.seat.now) (g.S.Seat.own c.begin.new.self) (g.S.Seat.own c.settle.new.self) c.args.file c.args.text _ _ _
    c.begin.ensures.opening c.begin.ensures.at c.begin.ensures.own e.opening refl e.settled e.fitted e.number e.noted
