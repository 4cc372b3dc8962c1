use Rattle.std.proofs.Common.{take, drop}
use Rattle.tm_verify_notes.specs.Given.{scene_of, history_of}
use Rattle.tm_take.specs.Each.{EachWith}
use Rattle.tm_verify_notes.specs.Noting.{all_looks, IsLookNote, IsTakeNote}
use Rattle.tm_verify_notes.proofs.sums.all_takes.Given as goal

-- the notes that are left are of the looks from here on; those so far are noted
abbrev pub invariant-loop-case : goal.invariant-loop-case
invariant-loop-case l =
    EachWith (IsLookNote (scene_of l.given) (history_of l.given)) (all_looks (drop l.case-index l.cases)) l.rest
    × EachWith (IsTakeNote (scene_of l.given) (history_of l.given)) (take l.case-index l.cases) l.takes.items
