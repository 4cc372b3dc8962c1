-- What the index of a policy tells after a domain is made.
use Rattle.std.proofs.Common.{◌≡◌, ℕ, suc, ◌+◌, Bool, true, false, not, if◌then◌else◌, List, [], ◌∷◌, ◌++◌, map, length, refl, sym, ap, ◌∙◌, arith}
use Rattle.std.specs.Prelude.{Option, Some, None, Result, Ok, Err, IfOk, OnErr, slice_get, option_map, MatchOption}
use Rattle.std.specs.Option.{option_and_then, option_map_or}
use Rattle.std.specs.List.{position_from}
use Rattle.tm_rules.specs.Prelude.{DomainName, count, domain_at, fail, live_domain, made_new, make, new_domain, profile_of, with_domain}
use Rattle.tm_rules.specs.Types.{Domain, MakeReply, Policy, Profile}
use Rattle.tm_index.specs.declared.index.Index.{Index}
use Rattle.tm_index.specs.Listing.{listing, places_from}
use Rattle.tm_index.specs.Index.{Told, told, telling, IsIndexOf, domain_listing, is_live, noting_domain}
use Rattle.tm_index.proofs.DomainLaws.{map_more}
use Rattle.tm_index.proofs.IndexLaws.{live_more}
use Rattle.tm_index.proofs.TellingLaws.{told_equal}
use Rattle.tm_indexed.proofs.ChangeLaws.{telling_kept}

-- the first place is where the first stands that passes
pub first-place : {A : Type 0} (test : A → Bool) (n : ℕ) (xs : List A) → slice_get (places_from test n xs) 0 ≡ position_from test n xs
first-place test n [] = refl
first-place test n (x ∷ xs) = go (test x) (first-place test (suc n) xs)
  where
    go : (b : Bool) → slice_get (places_from test (suc n) xs) 0 ≡ position_from test (suc n) xs → slice_get (if b then n ∷ places_from test (suc n) xs else places_from test (suc n) xs) 0 ≡ (if b then Some n else position_from test (n + 1) xs)
    go true ih = refl
    go false ih = let step : suc n ≡ n + 1 = omega arith in ih ∙ ap (λ k. position_from test k xs) step

-- the first place under a name is the live domain of that name
pub live_first : (index : Index) (policy : Policy) (name : DomainName) (places : List ℕ) → IsIndexOf index policy → places ≡ (told index).live name → slice_get places 0 ≡ live_domain policy name
unfolding telling live_domain
live_first index policy name places e is = ap (λ t. slice_get t 0) (is ∙ ap (λ (t : Told). t.live name) e) ∙ first-place (is_live name) 0 policy.domains

-- a policy with a domain more, last
abbrev pub grown : Policy → Domain → Policy
grown policy domain = record policy { domains = policy.domains ++ domain ∷ [] }

pub telling_grown : (policy : Policy) (name : DomainName) (profile : ℕ) (groups : List (ℕ × Unit {0})) → noting_domain name (length policy.domains) (telling policy) ≡ telling (grown policy (new_domain name profile groups))
unfolding telling count
telling_grown policy name profile groups =
    let domain : Domain = new_domain name profile groups in
    told_equal (noting_domain name (length policy.domains) (telling policy)) (telling (grown policy domain)) (sym (map_more domain_listing policy.domains domain)) refl (live_more domain policy.domains)

-- what a Make leaves
abbrev Made : Type 0
Made = Policy × MakeReply

made-of : (policy new : Policy) (number : ℕ) (name : DomainName) (reply : MakeReply) (home : Option ℕ) → live_domain policy name ≡ home → make policy number name ≡ Some (new, reply)
    → (domain : Domain) × (option_map_or {U = Made} (λ n. (policy, MakeReply.Old n)) home (made_new policy name domain) ≡ (new, reply))
unfolding make
made-of policy new number name reply home is e = go (domain_at policy number) (rw is at e)
  where
    inner : (domain : Domain) (p : Option Profile) → option_map {U = Made} (λ profile. option_map_or {U = Made} (λ n. (policy, MakeReply.Old n)) home (made_new policy name domain)) p ≡ Some (new, reply)
        → option_map_or {U = Made} (λ n. (policy, MakeReply.Old n)) home (made_new policy name domain) ≡ (new, reply)
    inner domain None f = absurd cc
    inner domain (Some p) f = cc

    go : (o : Option Domain) → option_and_then (λ domain. option_map {U = Made} (λ profile. option_map_or {U = Made} (λ n. (policy, MakeReply.Old n)) home (made_new policy name domain)) (profile_of policy domain)) o ≡ Some (new, reply)
        → (domain : Domain) × (option_map_or {U = Made} (λ n. (policy, MakeReply.Old n)) home (made_new policy name domain) ≡ (new, reply))
    go None f = absurd cc
    go (Some domain) f = (domain, inner domain (profile_of policy domain) f)

-- where a live domain has the name the policy stays
pub make_old : (policy new : Policy) (number home : ℕ) (name : DomainName) (reply : MakeReply) → live_domain policy name ≡ Some home → make policy number name ≡ Some (new, reply) → policy ≡ new
make_old policy new number home name reply is e = let made = made-of policy new number name reply (Some home) is e in ap (λ (m : Made). m.0) made.1

-- where none has, a domain is made and noted
pub make_new : (policy new : Policy) (number : ℕ) (name : DomainName) (reply : MakeReply) → live_domain policy name ≡ None → make policy number name ≡ Some (new, reply) → noting_domain name (length policy.domains) (telling policy) ≡ telling new
make_new policy new number name reply is e =
    let made = made-of policy new number name reply None is e in
    telling_grown policy name made.0.profile made.0.groups ∙ ap (λ (m : Made). telling m.0) made.1

-- a failed transition changes nothing that is noted
pub fail_told : (policy new : Policy) (number : ℕ) (first : Bool) → fail policy number ≡ Some (new, first) → telling policy ≡ telling new
unfolding fail count
fail_told policy new number first e = go (domain_at policy number) refl e
  where
    after : Domain → Domain
    after domain = record domain { transition_failed = true }

    inner : (domain : Domain) (p : Option Profile) → domain_at policy number ≡ Some domain
        → option_map {U = Policy × Bool} (λ profile. (with_domain policy number (record domain { transition_failed = true }), not domain.transition_failed)) p ≡ Some (new, first) → telling policy ≡ telling new
    inner domain None there f = absurd cc
    inner domain (Some p) there f =
        let left : Policy × Bool = (with_domain policy number (record domain { transition_failed = true }), not domain.transition_failed) in
        let right : Policy × Bool = (new, first) in
        let both : left ≡ right = cc in
        telling_kept policy number domain (record domain { transition_failed = true }) there refl refl refl ∙ ap (λ (p : Policy × Bool). telling p.0) both

    go : (o : Option Domain) → domain_at policy number ≡ o
        → option_and_then (λ domain. option_map {U = Policy × Bool} (λ profile. (with_domain policy number (record domain { transition_failed = true }), not domain.transition_failed)) (profile_of policy domain)) o ≡ Some (new, first)
        → telling policy ≡ telling new
    go None there f = absurd cc
    go (Some domain) there f = inner domain (profile_of policy domain) there f

-- whether there was memory or not
pub make_either : {E : Type 0} (r : Result MakeReply E) (policy new : Policy) (number home : ℕ) (name : DomainName) → live_domain policy name ≡ Some home → IfOk r (λ reply. make policy number name ≡ Some (new, reply)) → OnErr r (new ≡ policy) → telling policy ≡ telling new
make_either (Ok reply) policy new number home name is done kept = ap telling (make_old policy new number home name reply is done)
make_either (Err fault) policy new number home name is done kept = ap telling (sym kept)
