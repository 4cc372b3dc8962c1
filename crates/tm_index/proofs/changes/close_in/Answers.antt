use Rattle.std.proofs.Common.{◌≡◌, ℕ, get_or, map, slice_set, refl, ap, ◌∙◌, rules}
use Rattle.tm_index.specs.declared.index.DomainIndex.{DomainIndex}
use Rattle.tm_index.specs.Listing.{Listed, closed}
use Rattle.tm_index.specs.Index.{told, domain_listed, closing_in}
use Rattle.tm_index.proofs.TellingLaws.{seen_set, told_equal}
use Rattle.tm_index.proofs.changes.close_in.Goals as goal

pub returns-clause-done : goal.returns-clause-done
returns-clause-done c =
    let x : DomainIndex = c.index_mut.result.now in
    let y : DomainIndex = record { own = c.close.new.self; permissions = c.index_mut.result.now.permissions } in
    let made : c.from_vec.result ≡ slice_set c.args.index.now.domains c.args.number y = search rules in
    let at : x ≡ get_or c.args.index.now.domains c.args.number x = search rules in
    told_equal (told (record { domains = c.from_vec.result; groups = c.args.index.now.groups; live = c.args.index.now.live })) (closing_in c.args.number c.args.place (told c.args.index.now))
    (ap (map domain_listed) made ∙ seen_set domain_listed (λ (d : Listed × ℕ). (closed c.args.place d.0, d.1)) c.args.index.now.domains c.args.number x y at (ap (λ (t : Listed). (t, x.permissions)) c.close.ensures)) refl refl
