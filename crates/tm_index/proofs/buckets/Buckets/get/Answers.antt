use Rattle.std.proofs.Common.{◌≡◌, [], sym, subst, ◌∙◌}
use Rattle.tm_index.specs.Buckets.{places_at}
use Rattle.tm_index.proofs.BucketLaws.{found_places, no_places}
use Rattle.tm_index.proofs.buckets.Buckets.get.Goals as goal

pub returns-in-Some : goal.returns-in-Some
returns-in-Some c =
    subst (λ pairs. c.as_slice.result.now ≡ places_at pairs c.args.key.now) c.self.view_is
    (c.as_slice.ensures ∙ found_places (λ k. k.items) c.args.key.now c.self.inside.lists.entries c.in-Some.list.now (sym c.in-Some.ensures.value))

pub returns-in-None : goal.returns-in-None
returns-in-None c =
    subst (λ pairs. [] ≡ places_at pairs c.args.key.now) c.self.view_is
    (no_places (λ k. k.items) c.args.key.now c.self.inside.lists.entries (sym c.in-None.ensures.value))
