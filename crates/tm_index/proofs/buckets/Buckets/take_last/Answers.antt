use Rattle.std.proofs.Common.{refl, sym, ap, ◌∙◌}
use Rattle.std.specs.Option.{option_copied_mut}
use Rattle.tm_index.specs.Buckets.{front}
use Rattle.tm_index.proofs.BucketLaws.{changed_there, changed_none, front_popped}
use Rattle.tm_index.proofs.buckets.Buckets.take_last.Goals as goal
use Rattle.tm_index.proofs.buckets.Buckets.take_last.Goals.{in-Some, in_default}

pub returns : goal.returns
returns c =
    elim c.match-get_mut.branch [
      | in-Some w ↦
          changed_there (λ k. k.items) front c.args.key.now c.self.inside.lists.entries c.match-get_mut.self-inside.lists.entries w.in-Some.list.now w.take_last.new.self c.args.self.now
          (sym w.in-Some.ensures.value) (ap (λ s. s.lists.entries) w.self-inside-is ∙ (c.get_mut.follows.holds w.take_last.new.self).0)
          w.take_last.ensures c.self.view_is
      | in_default w ↦
          changed_none (λ k. k.items) front c.args.key.now c.self.inside.lists.entries c.match-get_mut.self-inside.lists.entries c.args.self.now
          (sym c.get_mut.ensures.value ∙ ap option_copied_mut w.in_default.is) (ap (λ s. s.lists.entries) w.self-inside-is ∙ ap (λ m. m.entries) c.get_mut.follows.holds-at-none) refl c.self.view_is
    ]
