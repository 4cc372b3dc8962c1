use Rattle.std.proofs.Common.{◌≡◌, ◌++◌, take}
use Rattle.tm_line.specs.Lines.{spaced}
use Rattle.tm_except.proofs.printing.push_words.Given as goal

-- what was appended so far
abbrev pub invariant-loop-word : goal.invariant-loop-word
invariant-loop-word l = l.out.items ≡ l.initial.out.items ++ spaced (take l.word-index l.words)
