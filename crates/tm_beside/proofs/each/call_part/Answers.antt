use borrow.Author.Count.{below_more}
use Rattle.std.proofs.Common.{ℕ, ◌+◌, ◌<◌, length, get_or, slice_set, sym, subst, ◌∙◌, arith}
use Rattle.std.proofs.lemmas.List.{get_or-set_same, get_or-set_other, get_or_default}
use Rattle.std.specs.Fork.{ChangesAt}
use Rattle.tm_beside.proofs.each.call_part.Goals as goal

pub loop-k-preserved : goal.loop-k-preserved
loop-k-preserved g c =
    let k = c.loop-k.k in
    let old = c.args.part.now in
    let now = c.loop-k.part in
    let left = c.call_at.new.one in
    let Changes : ℕ → g.row.T.Denot → g.row.T.Denot → Type 0 = λ j. ChangesAt g.F.Fn c.args.call.now (c.args.begin + j) in
    let inside : k < length now = omega arith in (
      λ j d h. get_or-set_other now k j left d (λ e. omega arith) ∙ c.loop-k.invariant.0 j d (omega arith),
      λ j d h. below_more (λ i. Changes i (get_or old i d) (get_or (slice_set now k left) i d)) k
          (λ i u. subst (Changes i (get_or old i d)) (sym (get_or-set_other now k i left d (λ e. omega arith))) (c.loop-k.invariant.1 i d u))
          (subst (Changes k (get_or old k d)) (sym (get_or-set_same now k left d inside))
          (subst (λ x. Changes k x left) (get_or_default now k _ d inside ∙ c.loop-k.invariant.0 k d (omega arith)) c.call_at.ensures))
          j h,
    )
