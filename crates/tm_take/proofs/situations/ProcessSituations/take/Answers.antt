use Rattle.std.proofs.Common.{rules, ◌≡◌}
use Rattle.std.specs.Prelude.{flat_map}
use Rattle.tm_legal.specs.Prelude.{raised, seen}
use Rattle.tm_take.specs.Situations.{situations}
use Rattle.tm_take.proofs.RaisedLaws.{take_known}
use Rattle.tm_take.proofs.situations.ProcessSituations.take.Goals as goal

pub returns : goal.returns
returns c =
    let high : c.raised_by_looks-highest.result ≡ raised 0 (flat_map seen c.args.taken.now.looks) = search rules in
    take_known c.take_seen.result (situations c.args.self.now) (situations c.take_seen.new.self) c.args.pid c.raised_by_looks-highest.result c.args.taken.now high c.take_seen.ensures
