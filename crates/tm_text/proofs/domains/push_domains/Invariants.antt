use Rattle.std.proofs.Common.{◌≡◌, ◌++◌, take}
use Rattle.std.specs.List.{flat_map}
use Rattle.tm_text.specs.DomainText.{live_text}
use Rattle.tm_text.proofs.domains.push_domains.Given as goal

abbrev pub invariant-loop-domain : goal.invariant-loop-domain
invariant-loop-domain l = l.out.items ≡ l.initial.out.items ++ flat_map live_text (take l.domain-index l.domains)
