use Rattle.std.proofs.Common.{◌≡◌, ◌==◌, drop}
use Rattle.std.specs.List.{list_any}
use Rattle.tm_word.proofs.texts.has_byte.Given as goal

abbrev pub invariant-loop-found : goal.invariant-loop-found
invariant-loop-found l = list_any (λ b. b == l.byte) (drop l.found-index l.text) ≡ list_any (λ b. b == l.byte) l.text
