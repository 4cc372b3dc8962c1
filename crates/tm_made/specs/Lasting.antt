-- What lasts of a domain once it was live.
use Rattle.std.specs.Prelude.{◌≡◌, ℕ, true, List, ◌++◌, Some, IsSome}
use Rattle.tm_rules.specs.Types.{Domain, Policy, Step}
use Rattle.tm_rules.specs.Prelude.{Grammar, IsGrammar, domain_at, profile_of}
use Rattle.tm_legal.specs.Prelude.{IsOpened, State, after}

-- the domain with that number is there, with that domain's name and a profile that is defined
abbrev pub IsProfiled : Policy → ℕ → Domain → Type 0
IsProfiled policy d x =
    (y : Domain) × (domain_at policy d ≡ Some y) × (y.name ≡ x.name) × IsSome (profile_of policy y)

-- whatever was live once since an opened policy is so from then on, live or not
abbrev pub OnceLiveIsProfiled : Type 0
OnceLiveIsProfiled =
    (g : Grammar) (start : State) (steps more : List Step) (d : ℕ) (x : Domain) → IsGrammar g
    → IsOpened start.policy → domain_at (after g start steps).policy d ≡ Some x → x.live ≡ true
    → IsProfiled (after g start (steps ++ more)).policy d x
