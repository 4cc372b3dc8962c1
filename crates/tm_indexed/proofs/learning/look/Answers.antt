use Rattle.std.proofs.Common.{◌≡◌, ℕ, length, sym, ap, ◌∙◌}
use Rattle.std.specs.Prelude.{Some}
use Rattle.std.specs.List.{position_from}
use Rattle.tm_rules.specs.Types.{Domain, Entry}
use Rattle.tm_rules.specs.Prelude.{count, has_line, same_line}
use Rattle.tm_index.specs.Listing.{Listed, listing}
use Rattle.tm_index.specs.Index.{told, domain_listed}
use Rattle.tm_indexed.proofs.KnownLaws.{noted_somewhere, own_noted}
use Rattle.tm_indexed.proofs.learning.look.Goals as goal

pub line_place-at-requires-clause-listed : goal.line_place-at-requires-clause-listed
line_place-at-requires-clause-listed c =
    ap (λ (d : Listed × ℕ). d.0) (own_noted (told c.args.index.now) c.args.policy.now c.requires.index c.args.number c.in-Some.domain.now (domain_listed c.in-Some-domain_noted.noted.now) (sym c.in-Some.ensures) c.in-Some-domain_noted.ensures.told)
    ∙ ap listing (sym c.as_slice-entries.ensures)

pub unreachable-requires : goal.unreachable-requires
unreachable-requires c = noted_somewhere (told c.args.index.now) c.args.policy.now c.requires.index c.args.number c.in-Some.domain.now (sym c.in-Some.ensures) c.in-None-domain_noted.ensures.told

pub returns-clause-looked : goal.returns-clause-looked
returns-clause-looked c domain h =
    let same : c.in-Some.domain.now ≡ domain = (let both : Some c.in-Some.domain.now ≡ Some domain = c.in-Some.ensures ∙ h in cc) in
    let noted = own_noted (told c.args.index.now) c.args.policy.now c.requires.index c.args.number c.in-Some.domain.now (domain_listed c.in-Some-domain_noted.noted.now) (sym c.in-Some.ensures) c.in-Some-domain_noted.ensures.told in
    record {
      entries = ap length c.as_slice-entries.ensures ∙ ap (λ (d : Domain). length d.entries) same;
      permissions = ap (λ (d : Listed × ℕ). d.1) noted ∙ ap count same;
      at =
          c.line_place-at.ensures.found ∙ ap (position_from (λ (entry : Entry). same_line entry c.args.line.now) 0) c.as_slice-entries.ensures
          ∙ ap (λ (d : Domain). position_from (λ (entry : Entry). same_line entry c.args.line.now) 0 d.entries) same;
      there = c.line_place-at.ensures.there ∙ ap (has_line c.args.line.now) c.as_slice-entries.ensures ∙ ap (λ (d : Domain). has_line c.args.line.now d.entries) same;
    }
