-- Where a Learn stands.
use Rattle.std.proofs.Common.{◌≡◌, ℕ, refl}
use Rattle.std.specs.Prelude.{Option, Some, None, IsSome, option_map}
use Rattle.std.specs.Option.{option_and_then}
use Rattle.tm_rules.specs.Types.{Domain, Entry, LearnReply, Policy, Profile}
use Rattle.tm_rules.specs.Prelude.{domain_at, learn, learn_reply, learned_domain, profile_of, with_domain}

module _ (policy : Policy) (d : ℕ) (line : Entry) where
  abbrev change : Domain → Profile → Policy × LearnReply
  change domain profile = (with_domain policy d (learned_domain (learn_reply profile domain line) domain line), learn_reply profile domain line)

  there : (o : Option Domain) → IsSome (option_and_then (λ domain. option_map (change domain) (profile_of policy domain)) o) → (domain : Domain) × (o ≡ Some domain)
  there None h = absurd cc
  there (Some domain) h = (domain, refl)

  -- a Learn that has a reply has its domain
  pub learns_there : IsSome (learn policy d line) → (domain : Domain) × (domain_at policy d ≡ Some domain)
  unfolding learn
  learns_there h = there (domain_at policy d) h
