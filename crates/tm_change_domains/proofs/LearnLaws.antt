-- What a Learn leaves, by its reply.
use Rattle.std.proofs.Common.{◌≡◌, ℕ, true, List, map, refl, sym, ap}
use Rattle.std.specs.Prelude.{Option, Some, None, option_map, unwrap_or}
use Rattle.std.specs.Option.{option_and_then}
use Rattle.tm_rules.specs.Types.{Domain, Entry, LearnReply, Policy, Profile}
use Rattle.tm_rules.specs.Prelude.{changed_at, count, domain_at, learn, learn_reply, learned_domain, profile_of, with_domain}
use Rattle.tm_change_domains.proofs.Lists.{same_there, map_changed, map_there}

-- a Learn that has this reply
pub record IsLearned (policy : Policy) (d : ℕ) (line : Entry) (reply : LearnReply) : Type 0 where
  pub domain : Domain
  pub at : domain_at policy d ≡ Some domain
  pub is : learn policy d line ≡ Some (with_domain policy d (learned_domain reply domain line), reply)

module _ (policy : Policy) (d : ℕ) (line : Entry) where
  abbrev change : Domain → Profile → Policy × LearnReply
  change domain profile = (with_domain policy d (learned_domain (learn_reply profile domain line) domain line), learn_reply profile domain line)

  by-profile : (reply : LearnReply) (domain : Domain) (p : Option Profile) → Some reply ≡ option_map (λ (done : Policy × LearnReply). done.1) (option_map (change domain) p)
      → option_map (change domain) p ≡ Some (with_domain policy d (learned_domain reply domain line), reply)
  by-profile reply domain None e = absurd cc
  by-profile reply domain (Some profile) e =
      let same : learn_reply profile domain line ≡ reply = sym (ap (λ (o : Option LearnReply). unwrap_or o reply) e) in
      ap (λ (r : LearnReply). let done : Policy × LearnReply = (with_domain policy d (learned_domain r domain line), r) in Some done) same

  by-domain : (reply : LearnReply) (o : Option Domain) → Some reply ≡ option_map (λ (done : Policy × LearnReply). done.1) (option_and_then (λ domain. option_map (change domain) (profile_of policy domain)) o)
      → (domain : Domain) × (o ≡ Some domain) × (option_and_then (λ domain. option_map (change domain) (profile_of policy domain)) o ≡ Some (with_domain policy d (learned_domain reply domain line), reply))
  by-domain reply None e = absurd cc
  by-domain reply (Some domain) e = (domain, refl, by-profile reply domain (profile_of policy domain) e)

  -- where a Learn has a reply, it does what the reply says
  pub learned : (reply : LearnReply) → Some reply ≡ option_map (λ (done : Policy × LearnReply). done.1) (learn policy d line) → IsLearned policy d line reply
  unfolding learn
  learned reply e = let found = by-domain reply (domain_at policy d) e in record { domain = found.0; at = found.1; is = found.2 }

-- a domain put in its own place
pub kept_here : (policy : Policy) (d : ℕ) (domain : Domain) → domain_at policy d ≡ Some domain → with_domain policy d domain ≡ policy
kept_here policy d domain e = ap (λ (ds : List Domain). let p : Policy = record policy { domains = ds } in p) (same_there policy.domains d domain e)

-- the counts after a change of a domain
pub counts_after : (policy new : Policy) (d : ℕ) (x : Domain) (n : ℕ) → new ≡ with_domain policy d x → n ≡ count x → map count new.domains ≡ changed_at d (λ m. n) (map count policy.domains)
counts_after policy new d x n e counted = rw (e, counted) (map_changed count policy.domains d x)

-- and where nothing has changed
pub counts_kept : (policy : Policy) (d : ℕ) (domain : Domain) (n : ℕ) → domain_at policy d ≡ Some domain → n ≡ count domain → map count policy.domains ≡ changed_at d (λ m. n) (map count policy.domains)
counts_kept policy d domain n e counted = rw counted (sym (same_there (map count policy.domains) d (count domain) (map_there count policy.domains d domain e)))

-- the flag counts for nothing
pub count_flag : (domain : Domain) → count (record domain { quota_exceeded = true }) ≡ count domain
unfolding count
count_flag domain = refl
