use Rattle.std.proofs.Common.{◌≡◌, drop}
use Rattle.tm_word.specs.Prelude.{spell, texts_equal}
use Rattle.tm_word.proofs.texts.spells.Given as goal

abbrev pub invariant-loop-byte : goal.invariant-loop-byte
invariant-loop-byte l = texts_equal l.rest (spell (drop l.byte-index l.word)) ≡ texts_equal l.text (spell l.word)
