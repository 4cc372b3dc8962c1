use Rattle.std.proofs.Common.{◌≡◌, drop}
use Rattle.std.specs.List.{list_all}
use Rattle.tm_word.specs.Prelude.{is_own_spelling}
use Rattle.tm_word.proofs.spelling.are_own_spellings.Given as goal

abbrev pub invariant-loop-byte : goal.invariant-loop-byte
invariant-loop-byte l = list_all is_own_spelling (drop l.byte-index l.text) ≡ list_all is_own_spelling l.text
