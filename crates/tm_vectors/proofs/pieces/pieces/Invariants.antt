use Rattle.std.proofs.Common.{◌≡◌, ◌++◌, length}
use Rattle.tm_word.specs.Prelude.{pieces}
use Rattle.tm_vectors.proofs.pieces.pieces.Given as goal

-- what has been cut off, and the pieces of the rest
abbrev pub invariant-loop-piece : goal.invariant-loop-piece
invariant-loop-piece l = l.found.items ++ pieces l.byte l.rest ≡ pieces l.byte l.text

abbrev pub decreases-loop-piece : goal.decreases-loop-piece
decreases-loop-piece l = length l.rest
