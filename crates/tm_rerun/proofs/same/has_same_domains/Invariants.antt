use Rattle.std.proofs.Common.{◌≡◌, take}
use Rattle.std.specs.Prelude.{map}
use Rattle.tm_rerun.specs.Same.{take_names}
use Rattle.tm_rerun.proofs.same.has_same_domains.Given as goal

-- the takes before this one are in the same domains
abbrev pub invariant-loop-place : goal.invariant-loop-place
invariant-loop-place l = map (take_names l.first_final) (take l.place l.first.takes) ≡ map (take_names l.second_final) (take l.place l.second.takes)
