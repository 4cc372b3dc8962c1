-- What a change keeps few.
use Rattle.std.proofs.Common.{◌≡◌, ℕ, [], ◌∷◌, ◌++◌}
use Rattle.std.specs.Prelude.{Some, slice_get}
use Rattle.tm_rules.specs.Types.{Domain, Policy}
use Rattle.tm_rules.specs.Prelude.{IsFew, IsShort}
use Rattle.tm_change_domains.proofs.Lists.{each_at, each_last}

-- the entries of a domain of a policy that is few
pub short_entries : (policy : Policy) (k : ℕ) (domain : Domain) → slice_get policy.domains k ≡ Some domain → IsFew policy → IsShort domain.entries
short_entries policy k domain e few = each_at (λ (d : Domain). IsShort d.entries) policy.domains k domain few.entries e

-- a policy with one more domain
pub few_with_domain : (policy : Policy) (domain : Domain) → IsFew policy → IsShort (policy.domains ++ domain ∷ []) → IsShort domain.entries → IsFew (record policy { domains = policy.domains ++ domain ∷ [] })
few_with_domain policy domain few short own =
    record { domains = short; entries = each_last (λ (d : Domain). IsShort d.entries) policy.domains domain few.entries own; namespaces = few.namespaces }
