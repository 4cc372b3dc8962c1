use Rattle.std.proofs.Common.{refl, rules}
use Rattle.tm_index.specs.Buckets.{places_at}
use Rattle.tm_index.proofs.IndexLaws.{live_next, none_live}
use Rattle.tm_index.proofs.index.live_of.Goals as goal

pub loop-place-init : goal.loop-place-init
unfolding places_at
loop-place-init c = none_live (places_at c.new-live.result) (λ name. rw c.new-live.ensures refl)

pub loop-place-preserved : goal.loop-place-preserved
loop-place-preserved c =
    live_next c.args.domains.now c.loop-place.place c.index-domains-place.result (places_at c.loop-place.live) (places_at c.note_live.new.live) c.loop-place-test.true (search rules) c.loop-place.invariant c.in_ok-note_live.ensures.done
