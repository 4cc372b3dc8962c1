use Rattle.std.proofs.Common.{◌≡◌, ◌+◌}
use Rattle.tm_verify_notes.specs.Given.{scene_of, run_of}
use Rattle.tm_verify_steps.proofs.ActLaws.{IsPassing}
use Rattle.tm_verify_steps.proofs.supervised.fault_by_book.Given as goal

-- those so far may be made
abbrev pub invariant-loop-pair : goal.invariant-loop-pair
invariant-loop-pair l = IsPassing (scene_of l.given) (run_of l.given) l.book l.pair-index l.acts × (l.number ≡ l.pair-index + 1)
