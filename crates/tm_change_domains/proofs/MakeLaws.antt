-- What a Make and a Fail leave where they have a reply.
use Rattle.std.proofs.Common.{◌≡◌, ℕ, Bool, true, refl, ap, ◌∙◌}
use Rattle.std.specs.Prelude.{Option, Some, None, IsSome, option_map, not}
use Rattle.std.specs.Option.{option_and_then, option_map_or}
use Rattle.tm_rules.specs.Types.{Domain, MakeReply, Policy, Profile}
use Rattle.tm_rules.specs.Prelude.{DomainName, domain_at, fail, in_domain, live_domain, made_new, make, profile_of, with_domain}

module _ {A : Type 0} (policy : Policy) (change : Domain → Profile → A) where
  by-profile : (domain : Domain) (p : Option Profile) → IsSome (option_map (change domain) p) → (profile : Profile) × (option_map (change domain) p ≡ Some (change domain profile))
  by-profile domain None h = absurd cc
  by-profile domain (Some profile) h = (profile, refl)

  by-domain : (o : Option Domain) → IsSome (option_and_then (λ domain. option_map (change domain) (profile_of policy domain)) o)
      → (domain : Domain) × (profile : Profile) × (o ≡ Some domain) × (option_and_then (λ domain. option_map (change domain) (profile_of policy domain)) o ≡ Some (change domain profile))
  by-domain None h = absurd cc
  by-domain (Some domain) h = let found = by-profile domain (profile_of policy domain) h in (domain, found.0, refl, found.1)

  -- a change in a domain that is there, with its profile
  in-there : (d : ℕ) → IsSome (in_domain policy d change) → (domain : Domain) × (profile : Profile) × (domain_at policy d ≡ Some domain) × (in_domain policy d change ≡ Some (change domain profile))
  in-there d h = by-domain (domain_at policy d) h

-- the live domain of that name is the reply
abbrev pub taken_old : Policy → ℕ → Policy × MakeReply
taken_old policy n = (policy, MakeReply.Old n)

-- what a Make does where the look-up has answered
abbrev made_by : Policy → DomainName → Domain → Option ℕ → Policy × MakeReply
made_by policy name domain home = option_map_or (λ n. taken_old policy n) home (made_new policy name domain)

-- a Make that has a reply
pub record IsMade (policy : Policy) (d : ℕ) (name : DomainName) : Type 0 where
  pub domain : Domain
  pub at : domain_at policy d ≡ Some domain
  pub is : make policy d name ≡ Some (made_by policy name domain (live_domain policy name))

pub made : (policy : Policy) (d : ℕ) (name : DomainName) → IsSome (make policy d name) → IsMade policy d name
unfolding make
made policy d name h =
    let found = in-there policy (λ (domain : Domain) (profile : Profile). made_by policy name domain (live_domain policy name)) d h in
    record { domain = found.0; at = found.2; is = found.3 }

-- the live domain of that name is taken
pub made_old : (policy : Policy) (d : ℕ) (name : DomainName) (n : ℕ) → IsSome (make policy d name) → live_domain policy name ≡ Some n → make policy d name ≡ Some (taken_old policy n)
made_old policy d name n h e =
    let m = made policy d name h in
    m.is ∙ ap (λ (o : Option ℕ). Some (made_by policy name m.domain o)) e

-- else one is made
pub made_last : (policy : Policy) (d : ℕ) (name : DomainName) (domain : Domain) → IsSome (make policy d name) → live_domain policy name ≡ None → domain_at policy d ≡ Some domain
    → make policy d name ≡ Some (made_new policy name domain)
made_last policy d name domain h e at =
    let m = made policy d name h in
    let same : m.domain ≡ domain = cc (m.at, at) in
    m.is ∙ ap (λ (o : Option ℕ). Some (made_by policy name m.domain o)) e ∙ ap (λ (x : Domain). Some (made_new policy name x)) same

-- the flag stands afterwards, and the reply says whether it didn't before
abbrev pub failing : Policy → ℕ → Domain → Policy × Bool
failing policy d domain = (with_domain policy d (record domain { transition_failed = true }), not domain.transition_failed)

-- a Fail that has a reply
pub record IsFailed (policy : Policy) (d : ℕ) : Type 0 where
  pub domain : Domain
  pub at : domain_at policy d ≡ Some domain
  pub is : fail policy d ≡ Some (failing policy d domain)

pub failed : (policy : Policy) (d : ℕ) → IsSome (fail policy d) → IsFailed policy d
unfolding fail
failed policy d h =
    let found = in-there policy (λ (domain : Domain) (profile : Profile). failing policy d domain) d h in
    record { domain = found.0; at = found.2; is = found.3 }

-- the same of the domain that is there
pub failed_there : (policy : Policy) (d : ℕ) (domain : Domain) → IsSome (fail policy d) → domain_at policy d ≡ Some domain → fail policy d ≡ Some (failing policy d domain)
failed_there policy d domain h at =
    let f = failed policy d h in
    let same : f.domain ≡ domain = cc (f.at, at) in
    f.is ∙ ap (λ (x : Domain). Some (failing policy d x)) same
