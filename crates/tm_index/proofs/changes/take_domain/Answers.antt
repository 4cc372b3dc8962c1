use Rattle.tm_index.specs.Buckets.{places_at}
use Rattle.tm_index.proofs.DomainLaws.{domain_taken}
use Rattle.tm_index.proofs.changes.take_domain.Goals as goal

pub returns : goal.returns
returns c before place h =
    domain_taken c.args.index.now c.args.name.now place before c.pop.new.self c.pop.result (places_at c.take_last.new.self) h c.pop.ensures.taken c.pop.ensures.empty (rw c.bytes.ensures at c.take_last.ensures)
