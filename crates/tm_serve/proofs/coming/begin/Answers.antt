-- The step is the pass's own, and the front goes on from it.
use Rattle.std.proofs.Common.{◌∙◌}
use Rattle.tm_publish.specs.Words.{known}
use Rattle.tm_serve.proofs.Answering.{numbered_later}
use Rattle.tm_serve.proofs.coming.begin.Goals as goal

pub make-requires : goal.make-requires
make-requires g c = record { fits = λ p xs. rw c.attach_step.ensures (g.met.H.DeskHall.attach_fits p xs) }

pub returns-clause-come : goal.returns-clause-come
returns-clause-come g c =
    let made = c.in_ok-make.ensures.made in
    record {
      number = c.in_ok-make.field-0;
      made = c.front-front.ensures.made ∙ made.made;
      after = made.after;
      there = numbered_later _ _ c.in_ok-make.field-0 _ (c.front-front.ensures.begins _ c.seen.ensures.known) (rw c.attach_step.ensures at made.there);
      knows = c.front-front.ensures.known;
    }
