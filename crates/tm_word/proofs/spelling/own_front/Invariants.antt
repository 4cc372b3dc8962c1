use Rattle.std.proofs.Common.{◌≡◌, true, take}
use Rattle.tm_word.specs.Prelude.{are_own_spellings}
use Rattle.tm_word.proofs.spelling.own_front.Given as goal

abbrev pub invariant-loop-place : goal.invariant-loop-place
invariant-loop-place l = are_own_spellings (take l.place l.text) ≡ true
