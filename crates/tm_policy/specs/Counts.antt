-- How much of a policy is live.
use Rattle.std.specs.Prelude.{ℕ, ◌+◌, List, [], ◌∷◌, length, filter}
use Rattle.tm_rules.specs.Types.{Domain, Policy}

-- the domains that are live
abbrev pub live_domains : List Domain → List Domain
live_domains domains = filter (λ (domain : Domain). domain.live) domains

-- how many entries these domains have
abbrev pub entries_of : List Domain → ℕ
entries_of [] = 0
entries_of (domain ∷ domains) = length domain.entries + entries_of domains

-- how many domains are live, and how many entries these have
abbrev pub counted : Policy → ℕ × ℕ
counted policy = (length (live_domains policy.domains), entries_of (live_domains policy.domains))
