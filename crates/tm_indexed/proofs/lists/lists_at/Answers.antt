use Rattle.std.proofs.Common.{◌≡◌, Some, None, sym, ap, ◌∙◌}
use Rattle.tm_index.specs.Index.{told}
use Rattle.tm_indexed.proofs.KnownLaws.{noted_somewhere, known_there, known_nowhere}
use Rattle.tm_indexed.proofs.lists.lists_at.Goals as goal

pub unreachable-requires : goal.unreachable-requires
unreachable-requires c = noted_somewhere (told c.args.index.now) c.args.policy.now c.requires.index c.args.number c.args.domain.now c.requires.there c.in-None.ensures.told

pub returns-in-Some-place : goal.returns-in-Some-place
returns-in-Some-place c =
    known_there (told c.args.index.now) c.args.policy.now c.requires.index c.args.number c.args.domain.now c.requires.there c.in-Some.noted.now c.in-Some.ensures.told c.in-Some-place.place _
    (sym c.requires.place ∙ c.in-Some-place.is) c.groups_noted.ensures.told

pub returns-in-None-place : goal.returns-in-None-place
returns-in-None-place c =
    known_nowhere (told c.args.index.now) c.args.policy.now c.requires.index c.args.number c.args.domain.now c.requires.there c.in-Some.noted.now c.in-Some.ensures.told (sym c.requires.place ∙ c.in-None-place.is)
