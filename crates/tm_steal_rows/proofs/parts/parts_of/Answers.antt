use Rattle.std.proofs.Common.{rules, ◌≡◌, ◌<◌, ◌+◌, ◌++◌, ◌∷◌, ◌∙◌, ℕ, suc, [], length, drop, refl, sym, ap, subst}
use Rattle.std.specs.Prelude.{flat_map}
use Rattle.std.proofs.lemmas.List.{at_drop_more}
use Rattle.std.proofs.Math.ListN.{drop_of_length-le}
use Rattle.tm_rules.specs.Types.{Tree}
use Rattle.tm_rules.specs.Prelude.{Trace}
use Rattle.tm_steal_rows.proofs.RowSteps.{PartsSoFar, parts-more, parts-end}
use Rattle.tm_steal_rows.proofs.parts.parts_of.Goals as goal

pub loop-tree-preserved : goal.loop-tree-preserved
loop-tree-preserved c =
    let a = c.args in
    let l = c.loop-tree in
    let rest = drop (c.loop-tree.tree-index + 1) c.args.trace.now in
    let within : c.loop-tree.tree-index < length c.args.trace.now = search rules in
    let at : drop c.loop-tree.tree-index c.args.trace.now ≡ c.tree-item.result ∷ rest =
    at_drop_more (λ trees. trees) c.args.trace.now c.loop-tree.tree-index c.tree-item.result within ∙ ap (λ (tree : Tree). tree ∷ drop (c.loop-tree.tree-index + 1) c.args.trace.now) (sym c.tree-item.is) in
    let number : c.in-Some.number ≡ suc c.loop-tree.before = search rules in
    let first : c.loop-tree.homes.items ≡ c.in-Some-pop_front.home ∷ c.pop_front.new.self.items = search rules in
    let pushed : c.push.new.self.items ≡ c.loop-tree.parts.items ++ c.in_ok-part.part ∷ [] = search rules in
    parts-more a.trace.now a.homes.items (flat_map (λ queue. queue.items) a.queues.items) l.parts.items c.push.new.self.items c.in-Some.number c.tree-item.result rest c.in-Some-pop_front.home l.homes.items c.pop_front.new.self.items (flat_map (λ queue. queue.items) l.queues.items) (flat_map (λ queue. queue.items) c.part_of.new.queues.items) c.in_ok-part.part
    first pushed c.in_ok-part.ensures
    (subst (λ (n : ℕ). PartsSoFar a.trace.now a.homes.items (flat_map (λ queue. queue.items) a.queues.items) l.parts.items n (c.tree-item.result ∷ rest) l.homes.items (flat_map (λ queue. queue.items) l.queues.items)) (sym number)
    (subst (λ (trees : Trace). PartsSoFar a.trace.now a.homes.items (flat_map (λ queue. queue.items) a.queues.items) l.parts.items (suc l.before) trees l.homes.items (flat_map (λ queue. queue.items) l.queues.items)) at l.invariant))

pub returns-then-none_left : goal.returns-then-none_left
returns-then-none_left c =
    let a = c.args in
    let l = c.loop-tree in
    let past : drop c.loop-tree.tree-index c.args.trace.now ≡ [] = drop_of_length-le c.args.trace.now (search rules) in
    let none : flat_map (λ queue. queue.items) c.loop-tree.queues.items ≡ [] = let none : c.loop-tree.queues.items ≡ [] = search rules in rw none refl in
    parts-end a.trace.now a.homes.items (flat_map (λ queue. queue.items) a.queues.items) l.parts.items (suc l.before) (drop l.tree-index a.trace.now) l.homes.items (flat_map (λ queue. queue.items) l.queues.items) past none l.invariant
