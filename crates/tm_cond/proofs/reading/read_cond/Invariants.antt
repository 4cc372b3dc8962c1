use Rattle.std.proofs.Common.{◌≡◌, [], drop}
use Rattle.std.specs.Prelude.{None}
use Rattle.tm_cond.specs.Reading.{cond_with, cond_from}
use Rattle.tm_cond.proofs.reading.read_cond.Given as goal

-- the words that are left bring the conditions so far to the whole
abbrev pub invariant-loop-word : goal.invariant-loop-word
invariant-loop-word l = cond_from l.cond (drop l.word-index l.words) ≡ cond_from (cond_with [] None) l.words
