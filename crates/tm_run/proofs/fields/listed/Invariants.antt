use Rattle.std.proofs.Common.{◌≡◌, ◌++◌, length, map}
use Rattle.tm_word.specs.Prelude.{pieces}
use Rattle.tm_run.specs.Fields.{u64_of}
use Rattle.tm_run.proofs.fields.listed.Given as goal

-- what has been read, and the pieces of the rest
abbrev pub invariant-loop-piece : goal.invariant-loop-piece
invariant-loop-piece l = l.numbers ++ map u64_of (pieces 44 l.rest) ≡ map u64_of (pieces 44 l.word)

abbrev pub decreases-loop-piece : goal.decreases-loop-piece
decreases-loop-piece l = length l.rest
