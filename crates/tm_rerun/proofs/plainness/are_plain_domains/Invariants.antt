use Rattle.std.proofs.Common.{◌≡◌, drop}
use Rattle.std.specs.List.{list_all}
use Rattle.tm_rules.specs.Prelude.{is_plain_domain}
use Rattle.tm_rerun.proofs.plainness.are_plain_domains.Given as goal

abbrev pub invariant-loop-domain : goal.invariant-loop-domain
invariant-loop-domain l = list_all is_plain_domain (drop l.domain-index l.domains) ≡ list_all is_plain_domain l.domains
