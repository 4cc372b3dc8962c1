-- Lines of the domain file that write what a domain has beside its name and its entries.
use Rattle.std.specs.Prelude.{Bool, true, false}
use Rattle.tm_rules.specs.Types.{DomainRule}

-- a profile, ACL groups and flags of the chosen domain
abbrev pub is_property : DomainRule → Bool
is_property (DomainRule.UseProfile n) = true
is_property (DomainRule.UseGroup delete n) = true
is_property (DomainRule.QuotaExceeded delete) = true
is_property (DomainRule.TransitionFailed delete) = true
is_property _ = false
