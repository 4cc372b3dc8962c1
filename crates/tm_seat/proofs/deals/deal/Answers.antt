use Rattle.std.proofs.Common.{rules, ◌≡◌, ◌-◌, ◌%◌, ℕ, subst}
use Rattle.tm_seat.specs.Dealing.{Gives}
use Rattle.tm_seat.proofs.Hands.{hands-more}
use Rattle.tm_seat.proofs.deals.deal.Goals as goal

pub loop-tree-preserved : goal.loop-tree-preserved
loop-tree-preserved c =
    let less : c.saturating_sub.result ≡ c.in-Some.tree.number - 1 = search rules in
    hands-more c.args.workers c.loop-tree.yielded c.in-Some.tree c.loop-tree.hands.items c.give.new.hands.items c.loop-tree.invariant
    (subst (λ (n : ℕ). Gives c.loop-tree.hands.items (n % c.args.workers) c.in-Some.tree c.give.new.hands.items) less c.in_ok-give.ensures)
