use Rattle.std.proofs.Common.{◌≡◌, take}
use Rattle.std.specs.List.{flat_map}
use Rattle.tomoyo.specs.Play.{audit_word}
use Rattle.tomoyo.proofs.play.audits_of.Given as goal

-- the texts so far are there
abbrev pub invariant-loop-take : goal.invariant-loop-take
invariant-loop-take l = l.text.items ≡ flat_map audit_word (take l.take-index l.takes)
