use Rattle.std.proofs.Common.{◌≡◌}
use Rattle.tm_verify_steps.proofs.PlaceLaws.{IsUnderWay}
use Rattle.tm_verify_steps.proofs.places.first_misplaced.Given as goal

-- those so far are placed
abbrev pub invariant-loop-pair : goal.invariant-loop-pair
invariant-loop-pair l = IsUnderWay l.given l.pair-index l.had.items × (l.place ≡ l.pair-index)
