use Rattle.std.proofs.Common.{◌≡◌, take}
use Rattle.tm_except.proofs.reading.copied.Given as goal

-- the words so far are there
abbrev pub invariant-loop-word : goal.invariant-loop-word
invariant-loop-word l = l.made ≡ take l.word-index l.words
