use Rattle.std.proofs.Common.{◌≡◌, length, drop}
use Rattle.std.specs.List.{list_all}
use Rattle.tm_rules.specs.Types.{Domain}
use Rattle.tm_policy.specs.FewTests.{is_short}
use Rattle.tm_policy.proofs.few.have_short_entries.Given as goal

abbrev pub invariant-loop-domain : goal.invariant-loop-domain
invariant-loop-domain l = list_all (λ (domain : Domain). is_short (length domain.entries)) (drop l.domain-index l.domains) ≡ list_all (λ (domain : Domain). is_short (length domain.entries)) l.domains
