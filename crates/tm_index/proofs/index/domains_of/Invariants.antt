use Rattle.std.proofs.Common.{◌≡◌, map, take}
use Rattle.tm_index.specs.Index.{domain_listed, domain_listing}
use Rattle.tm_index.proofs.index.domains_of.Given as goal

abbrev pub invariant-loop-domain : goal.invariant-loop-domain
invariant-loop-domain l = map domain_listed l.made ≡ map domain_listing (take l.domain-index l.domains)
