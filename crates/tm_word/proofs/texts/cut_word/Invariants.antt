use Rattle.std.proofs.Common.{◌≡◌, length}
use Rattle.tm_word.specs.Prelude.{words_of}
use Rattle.tm_word.proofs.texts.cut_word.Given as goal

-- no word has been passed
abbrev pub invariant-loop-rest : goal.invariant-loop-rest
invariant-loop-rest l = words_of l.rest ≡ words_of l.text

abbrev pub decreases-loop-rest : goal.decreases-loop-rest
decreases-loop-rest l = length l.rest
