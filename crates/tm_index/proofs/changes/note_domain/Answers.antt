use Rattle.std.proofs.Common.{map, refl, ap}
use Rattle.tm_index.specs.declared.index.DomainIndex.{DomainIndex}
use Rattle.tm_index.specs.Buckets.{places_at}
use Rattle.tm_index.specs.Index.{told, domain_listed}
use Rattle.tm_index.proofs.TellingLaws.{told_equal}
use Rattle.tm_index.proofs.DomainLaws.{domain_popped}
use Rattle.tm_index.proofs.changes.note_domain.Goals as goal

pub returns-in-Err-clause-kept : goal.returns-in-Err-clause-kept
returns-in-Err-clause-kept c =
    let made : DomainIndex = record { own = c.new.result; permissions = 0 } in
    told_equal (told (record c.args.index.now { domains = c.pop.new.self; live = c.note.new.self })) (told c.args.index.now)
    (ap (map domain_listed) (domain_popped made c.args.index.now.domains c.push.new.self c.pop.new.self c.pop.result c.in_ok-push.ensures.ok c.pop.ensures.taken c.pop.ensures.empty)) refl
    (ap places_at c.in-Err.ensures.kept)
