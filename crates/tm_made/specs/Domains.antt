-- What a step leaves of each domain.
use Rattle.std.specs.Prelude.{◌≡◌, ℕ, ◌==◌, Bool, false, Some}
use Rattle.tm_rules.specs.Types.{Domain, Policy, Step}
use Rattle.tm_rules.specs.Prelude.{Grammar, domain_at}
use Rattle.tm_legal.specs.Prelude.{State, apply}

-- a line is learned in that domain
abbrev pub is_learn_in : ℕ → Step → Bool
is_learn_in d (Step.Learn e entry) = e == d
is_learn_in d _ = false

-- a transition fails in that domain
abbrev pub is_fail_in : ℕ → Step → Bool
is_fail_in d (Step.Fail e) = e == d
is_fail_in d _ = false

-- the name stays; a domain that isn't live stays so, with its profile and its groups, and but for a
-- Learn or a Fail in it with its entries and its flags
pub record DomainKept (step : Step) (d : ℕ) (x y : Domain) : Type 0 where
  pub name : y.name ≡ x.name
  pub dead : x.live ≡ false → y.live ≡ false
  pub head : x.live ≡ false → (y.profile ≡ x.profile) × (y.groups ≡ x.groups)
  pub entries : x.live ≡ false → is_learn_in d step ≡ false → y.entries ≡ x.entries
  pub quota : x.live ≡ false → is_learn_in d step ≡ false → y.quota_exceeded ≡ x.quota_exceeded
  pub failed : x.live ≡ false → is_fail_in d step ≡ false
      → y.transition_failed ≡ x.transition_failed

-- the domain with that number is there in that policy, kept so
abbrev pub IsKeptIn : Policy → Step → ℕ → Domain → Type 0
IsKeptIn policy step d x = (y : Domain) × (domain_at policy d ≡ Some y) × DomainKept step d x y

-- of every domain and every step
abbrev pub DomainsAreKept : Type 0
DomainsAreKept =
    (g : Grammar) (s : State) (step : Step) (d : ℕ) (x : Domain) → domain_at s.policy d ≡ Some x
    → IsKeptIn (apply g s step).state.policy step d x
