use Rattle.std.proofs.Common.{◌≡◌, ℕ, get_or, map, slice_set, refl, ap, ◌∙◌, rules}
use Rattle.tm_index.specs.declared.index.DomainIndex.{DomainIndex}
use Rattle.tm_index.specs.Listing.{Listed, noting}
use Rattle.tm_index.specs.Index.{told, domain_listed, noting_in}
use Rattle.tm_index.proofs.TellingLaws.{seen_set, seen_same, told_equal}
use Rattle.tm_index.proofs.changes.note_in.Goals as goal

pub returns-in-Ok-clause-done : goal.returns-in-Ok-clause-done
returns-in-Ok-clause-done c =
    let x : DomainIndex = c.index_mut.result.now in
    let y : DomainIndex = record { own = c.note.new.self; permissions = c.index_mut.result.now.permissions } in
    let made : c.from_vec.result ≡ slice_set c.args.index.now.domains c.args.number y = search rules in
    let at : x ≡ get_or c.args.index.now.domains c.args.number x = search rules in
    told_equal (told (record { domains = c.from_vec.result; groups = c.args.index.now.groups; live = c.args.index.now.live })) (noting_in c.args.number c.args.label.now c.args.place (told c.args.index.now))
    (ap (map domain_listed) made ∙ seen_set domain_listed (λ (d : Listed × ℕ). (noting c.args.label.now c.args.place d.0, d.1)) c.args.index.now.domains c.args.number x y at (ap (λ (t : Listed). (t, x.permissions)) c.in-Ok.ensures.done)) refl refl

pub returns-in-Err-clause-kept : goal.returns-in-Err-clause-kept
returns-in-Err-clause-kept c =
    let x : DomainIndex = c.index_mut.result.now in
    let y : DomainIndex = record { own = c.note.new.self; permissions = c.index_mut.result.now.permissions } in
    let made : c.from_vec-in-Err.result ≡ slice_set c.args.index.now.domains c.args.number y = search rules in
    let at : x ≡ get_or c.args.index.now.domains c.args.number x = search rules in
    told_equal (told (record { domains = c.from_vec-in-Err.result; groups = c.args.index.now.groups; live = c.args.index.now.live })) (told c.args.index.now)
    (ap (map domain_listed) made ∙ seen_same domain_listed c.args.index.now.domains c.args.number x y at (ap (λ (t : Listed). (t, x.permissions)) c.in-Err.ensures.kept)) refl refl
