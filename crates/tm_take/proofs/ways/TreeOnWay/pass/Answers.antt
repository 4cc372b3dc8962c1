use Rattle.std.proofs.Common.{rules, refl}
use Rattle.tm_take.specs.declared.ways.TreeOnWay.{TreeOnWay}
use Rattle.tm_take.specs.Situations.{situations}
use Rattle.tm_take.specs.Passing.{Passes}
use Rattle.tm_take.specs.Ways.{way_of}
use Rattle.tm_take.proofs.Walking.{way_passes}
use Rattle.tm_take.proofs.ways.TreeOnWay.pass.Goals as goal

pub returns : goal.returns
unfolding way_of
returns c =
    let old : TreeOnWay = c.args.self.now in
    let new : TreeOnWay = record { known = c.pass.new.known; lines = c.pass.new.lines; begun = old.begun; takes = old.takes } in
    let passes : Passes c.in_ok-next.next (situations old.known) old.lines (situations new.known) new.lines = search rules in
    way_passes c.in_ok-next.next (way_of old) (way_of new) passes refl
