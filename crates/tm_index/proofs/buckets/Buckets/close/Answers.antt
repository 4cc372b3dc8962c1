use Rattle.std.proofs.Common.{◌≡◌, length, refl, sym, ap, ◌∙◌, arith}
use Rattle.std.specs.Option.{option_copied_mut}
use Rattle.tm_index.specs.Buckets.{closing}
use Rattle.tm_index.proofs.ListLaws.{on_value, value_next, none_next, all_changed}
use Rattle.tm_index.proofs.BucketLaws.{places_changed}
use Rattle.tm_index.proofs.buckets.Buckets.close.Goals as goal
use Rattle.tm_index.proofs.buckets.Buckets.close.Goals.{in-Some, in_default}

pub loop-number-preserved : goal.loop-number-preserved
loop-number-preserved c =
    elim c.match-get_index_mut.branch [
      | in-Some w ↦
          value_next (closing c.args.place) c.loop-number.number c.self.inside.lists.entries c.loop-number.self-inside.lists.entries c.match-get_index_mut.self-inside.lists.entries
          w.in-Some.list.now w.close.new.self c.loop-number.invariant (sym w.in-Some.ensures.value) w.close.ensures (ap (λ s. s.lists.entries) w.self-inside-is)
      | in_default w ↦
          none_next (closing c.args.place) c.loop-number.number c.self.inside.lists.entries c.loop-number.self-inside.lists.entries c.match-get_index_mut.self-inside.lists.entries
          c.loop-number.invariant (sym c.get_index_mut.ensures.value ∙ ap option_copied_mut w.in_default.is) (ap (λ s. s.lists.entries) w.self-inside-is)
    ]

pub returns : goal.returns
returns c key =
    let all : c.loop-number.number ≡ length c.self.inside.lists.entries = omega arith in
    places_changed (λ k. k.items) (closing c.args.place) key c.self.inside.lists.entries c.loop-number.self-inside.lists.entries c.args.self.now refl
    (c.loop-number.invariant ∙ all_changed (on_value (closing c.args.place)) c.loop-number.number c.self.inside.lists.entries all) c.self.view_is
