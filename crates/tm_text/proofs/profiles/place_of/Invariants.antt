use Rattle.std.proofs.Common.{◌≡◌, ◌+◌, drop}
use Rattle.tm_text.specs.ProfileText.{lent, place_for}
use Rattle.tm_text.proofs.profiles.place_of.Given as goal

-- none so far has a name that comes after
abbrev pub invariant-loop-place : goal.invariant-loop-place
invariant-loop-place l = l.place + place_for l.ns (lent (drop l.place l.ordered)) ≡ place_for l.ns (lent l.ordered)
