use Rattle.std.proofs.Common.{◌≡◌, drop}
use Rattle.tm_call.specs.Fetches.{content}
use Rattle.tm_call.proofs.fetches.place_at.Given as goal

abbrev pub invariant-loop-place : goal.invariant-loop-place
invariant-loop-place l = content (drop l.place l.texts) l.name ≡ content l.texts l.name
