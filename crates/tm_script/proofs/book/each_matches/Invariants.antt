use Rattle.std.proofs.Common.{◌≡◌, drop}
use Rattle.tm_word.specs.Prelude.{words_left, words_of}
use Rattle.tm_rules.specs.Prelude.{each_matches}
use Rattle.tm_script.proofs.book.each_matches.Given as goal

-- from here on it gives what the whole gives
abbrev pub invariant-loop-pattern : goal.invariant-loop-pattern
invariant-loop-pattern l = each_matches l.any (drop l.pattern-index l.patterns) (words_left l.words) ≡ each_matches l.any l.patterns (words_of l.text)
