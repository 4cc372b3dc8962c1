use Rattle.std.proofs.Common.{◌≡◌, drop}
use Rattle.std.specs.List.{position_from}
use Rattle.tm_rules.specs.Prelude.{wants_profile}
use Rattle.tm_policy.proofs.loading.first_without_profile.Given as goal

-- from here on it finds what the whole finds
abbrev pub invariant-loop-place : goal.invariant-loop-place
invariant-loop-place l = position_from (wants_profile l.policy) l.place (drop l.place l.policy.domains) ≡ position_from (wants_profile l.policy) 0 l.policy.domains
