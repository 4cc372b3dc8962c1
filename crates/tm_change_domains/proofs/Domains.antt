-- A change of a domain in its place.
use Rattle.std.proofs.Common.{◌≡◌, ℕ, ◌+◌, ◌<◌, get_or, List, length, sum_by, sym, ap, ◌∙◌}
use Rattle.std.specs.Prelude.{◌&&◌, Some, slice_set}
use Rattle.tm_word.specs.Prelude.{texts_equal}
use Rattle.tm_rules.specs.Types.{Domain, Entry, Policy}
use Rattle.tm_rules.specs.Prelude.{DomainName, adding, changed_at, count, dead, domain_at, live_domain, with_domain}
use Rattle.tm_change_entries.specs.Counting.{permissions_of}
use Rattle.tm_change_domains.proofs.Lists.{get_there, stands, set_changed, get_changed, found_within}

-- the policy with other domains
abbrev pub with_domains : Policy → List Domain → Policy
with_domains policy domains = record policy { domains = domains }

-- a domain is changed in its place
pub changed_here : (policy : Policy) (k : ℕ) (f : Domain → Domain) (domain d made : Domain) (domains : List Domain) → domain_at policy k ≡ Some domain → d ≡ get_or policy.domains k d
    → domains ≡ slice_set policy.domains k made → made ≡ f d → with_domains policy domains ≡ with_domain policy k (f domain)
changed_here policy k f domain d made domains e is set change =
    let same : made ≡ f domain = change ∙ ap f (is ∙ get_there policy.domains k domain d e) in
    ap (with_domains policy) (set ∙ ap (slice_set policy.domains k) same ∙ set_changed policy.domains k (f domain))

-- a domain dies in its place
pub dead_here : (policy : Policy) (k : ℕ) (d made : Domain) (domains : List Domain) → d ≡ get_or policy.domains k d → domains ≡ slice_set policy.domains k made → made ≡ dead d
    → with_domains policy domains ≡ with_domains policy (changed_at k dead policy.domains)
dead_here policy k d made domains is set change = ap (with_domains policy) (set ∙ ap (slice_set policy.domains k) (change ∙ ap dead is) ∙ get_changed dead policy.domains k d)

-- the domain that is lent at a place stands there
pub lent_here : (policy : Policy) (k : ℕ) (d : Domain) → k < length policy.domains → d ≡ get_or policy.domains k d → domain_at policy k ≡ Some d
lent_here policy k d less is = stands policy.domains k d less ∙ ap Some (sym is)

-- one domain stands at a place
pub one_domain : (policy : Policy) (k : ℕ) (x y : Domain) → domain_at policy k ≡ Some x → domain_at policy k ≡ Some y → x ≡ y
one_domain policy k x y e f = cc

-- how a line changes the number of permissions
pub counted_here : (policy : Policy) (k : ℕ) (line : Entry) (domain d : Domain) (made : List Entry) (before after : ℕ) → domain_at policy k ≡ Some domain → d ≡ get_or policy.domains k d → made ≡ adding line d.entries
    → sum_by permissions_of made + before ≡ sum_by permissions_of d.entries + after → count (record domain { entries = adding line domain.entries }) + before ≡ count domain + after
unfolding count
counted_here policy k line domain d made before after e is change sums =
    let same : d ≡ domain = is ∙ get_there policy.domains k domain d e in
    rw (sym same) (rw (sym change) sums)

-- the live domain of a name is there
pub live_within : (policy : Policy) (name : DomainName) (k : ℕ) → live_domain policy name ≡ Some k → k < length policy.domains
unfolding live_domain
live_within policy name k e = found_within (λ (domain : Domain). domain.live && texts_equal domain.name name) policy.domains k e
