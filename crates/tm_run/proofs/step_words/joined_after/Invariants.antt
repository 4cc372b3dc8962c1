use Rattle.std.proofs.Common.{◌≡◌, ◌++◌, length}
use Rattle.tm_word.specs.Prelude.{words_of}
use Rattle.tm_line.specs.Lines.{spaced}
use Rattle.tm_run.proofs.step_words.joined_after.Given as goal

-- what is joined, and the words of the rest
abbrev pub invariant-loop-word : goal.invariant-loop-word
invariant-loop-word l = l.line.items ++ spaced (words_of l.rest) ≡ l.first ++ spaced (words_of l.text)

abbrev pub decreases-loop-word : goal.decreases-loop-word
decreases-loop-word l = length (words_of l.rest)
