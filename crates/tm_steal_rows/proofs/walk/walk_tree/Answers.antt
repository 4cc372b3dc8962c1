use Rattle.std.proofs.Common.{rules, ◌≡◌, ◌<◌, ◌+◌, ◌∷◌, ◌∙◌, ℕ, suc, [], List, length, drop, sym, ap, subst}
use Rattle.std.specs.Prelude.{flat_map}
use Rattle.std.proofs.lemmas.List.{at_drop_more, drop_all}
use Rattle.tm_rules.specs.Types.{Item}
use Rattle.tm_take.specs.Situations.{situations}
use Rattle.tm_steal_rows.specs.Gathering.{IsWalking}
use Rattle.tm_steal_rows.proofs.Walking.{walk-starts, walk-ends}
use Rattle.tm_steal_rows.proofs.walk.walk_tree.Goals as goal

pub loop-item-init : goal.loop-item-init
loop-item-init c =
    let none : c.in_ok-takes.takes.items ≡ [] = search rules in
    rw (c.new-known.ensures, none) (walk-starts c.args.tree c.args.home c.args.records.now (flat_map (λ queue. queue.items) c.args.queues.now.items))

pub loop-item-preserved : goal.loop-item-preserved
loop-item-preserved c =
    let a = c.args in
    let l = c.loop-item in
    let old = flat_map (λ queue. queue.items) c.args.queues.now.items in
    let left = flat_map (λ queue. queue.items) c.loop-item.queues.items in
    let rest = drop (c.loop-item.item-index + 1) c.args.records.now in
    let within : c.loop-item.item-index < length c.args.records.now = search rules in
    let number : c.in-Some.number ≡ suc c.loop-item.before = search rules in
    let at : drop c.loop-item.item-index c.args.records.now ≡ c.item-item.result ∷ rest =
    at_drop_more (λ items. items) c.args.records.now c.loop-item.item-index c.item-item.result within ∙ ap (λ (item : Item). item ∷ drop (c.loop-item.item-index + 1) c.args.records.now) (sym c.item-item.is) in
    let here : IsWalking a.tree a.home a.records.now old c.in-Some.number (situations l.known) (c.item-item.result ∷ rest) l.takes.items left =
    subst (λ (n : ℕ). IsWalking a.tree a.home a.records.now old n (situations l.known) (c.item-item.result ∷ rest) l.takes.items left) (sym number)
    (subst (λ (items : List Item). IsWalking a.tree a.home a.records.now old (suc l.before) (situations l.known) items l.takes.items left) at l.invariant) in
    c.in_ok-walk_record.ensures a.home a.records.now old rest here

pub returns : goal.returns
returns c =
    let a = c.args in
    let l = c.loop-item in
    let past : drop c.loop-item.item-index c.args.records.now ≡ [] = drop_all c.loop-item.item-index c.args.records.now (search rules) in
    walk-ends a.tree (suc l.before) a.home a.records.now (flat_map (λ queue. queue.items) a.queues.now.items) (situations l.known) l.takes.items (flat_map (λ queue. queue.items) l.queues.items)
    (subst (λ (items : List Item). IsWalking a.tree a.home a.records.now (flat_map (λ queue. queue.items) a.queues.now.items) (suc l.before) (situations l.known) items l.takes.items (flat_map (λ queue. queue.items) l.queues.items)) past l.invariant)
