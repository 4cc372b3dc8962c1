use Rattle.std.proofs.Common.{◌≡◌, ℕ, get_or, map, slice_set, refl, ap, ◌∙◌, rules}
use Rattle.tm_index.specs.declared.index.DomainIndex.{DomainIndex}
use Rattle.tm_index.specs.Listing.{Listed}
use Rattle.tm_index.specs.Index.{told, domain_listed, counting_in}
use Rattle.tm_index.proofs.TellingLaws.{seen_set, told_equal}
use Rattle.tm_index.proofs.changes.count_in.Goals as goal

pub returns : goal.returns
returns c =
    let x : DomainIndex = c.index_mut.result.now in
    let y : DomainIndex = record { own = c.index_mut.result.now.own; permissions = c.args.permissions } in
    let made : c.from_vec.result ≡ slice_set c.args.index.now.domains c.args.number y = search rules in
    let at : x ≡ get_or c.args.index.now.domains c.args.number x = search rules in
    told_equal (told (record { domains = c.from_vec.result; groups = c.args.index.now.groups; live = c.args.index.now.live })) (counting_in c.args.number c.args.permissions (told c.args.index.now))
    (ap (map domain_listed) made ∙ seen_set domain_listed (λ (d : Listed × ℕ). (d.0, c.args.permissions)) c.args.index.now.domains c.args.number x y at refl) refl refl
