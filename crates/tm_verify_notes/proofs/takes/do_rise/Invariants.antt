use Rattle.std.proofs.Common.{◌≡◌, drop}
use Rattle.tm_verify_laws.specs.Scans.{do_rise}
use Rattle.tm_verify_notes.proofs.takes.do_rise.Given as goal

-- from here on they rise where all do
abbrev pub invariant-loop-look : goal.invariant-loop-look
invariant-loop-look l = do_rise l.count l.low (drop l.look-index l.looks) ≡ do_rise l.count l.floor l.looks
