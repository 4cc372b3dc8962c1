use Rattle.std.proofs.Common.{sym, ap, ◌∙◌}
use Rattle.tm_index.specs.Buckets.{front}
use Rattle.tm_index.specs.Places.{places_of}
use Rattle.tm_index.proofs.BucketLaws.{front_popped}
use Rattle.tm_index.proofs.places.Places.take_last.Goals as goal

pub returns-in-Many : goal.returns-in-Many
returns-in-Many c =
    front_popped c.pop.result _ c.pop.new.self c.pop.ensures.taken c.pop.ensures.empty
    ∙ ap front (ap places_of (sym c.in-Many.is) ∙ c.self.view_is)
