use Rattle.std.proofs.Common.{ℕ, refl, subst, arith}
use Rattle.std.specs.Prelude.{slice_index_or}
use Rattle.std.specs.Fork.{ChangesAt}
use Rattle.tm_beside.proofs.each.for_each_beside.Goals as goal

pub returns : goal.returns
returns g c i d lt =
    (refl, subst (λ (k : ℕ). ChangesAt g.F.Fn c.args.call.now k (slice_index_or c.args.list.now i d) (slice_index_or c.call_parts.new.left i d)) (omega arith) (c.call_parts.ensures.each i d lt))
