use Rattle.std.proofs.Common.{◌≡◌, drop}
use Rattle.tm_call.specs.Fetches.{content}
use Rattle.tm_call.proofs.fetches.text_at.Given as goal

abbrev pub invariant-loop-other : goal.invariant-loop-other
invariant-loop-other l = content (drop l.other-index l.other-items) l.name ≡ content l.texts l.name
