use Rattle.std.proofs.Common.{◌≡◌, ◌++◌, take}
use Rattle.tm_line.specs.Lines.{spaced}
use Rattle.tm_line.proofs.words.joined_after.Given as goal

abbrev pub invariant-loop-word : goal.invariant-loop-word
invariant-loop-word l = l.text.items ≡ l.first ++ spaced (take l.word-index l.rest)
