use Rattle.std.proofs.Common.{rules, ◌≡◌, ◌∷◌, [], refl, ◌∙◌, subst, List}
use Rattle.tm_rules.specs.Types.{Item}
use Rattle.tm_take.specs.Situations.{situations}
use Rattle.tm_seat.specs.Playing.{Walk, IsPlayingTree}
use Rattle.tm_seat.proofs.TreeEvents.{tree-starts, tree-same, tree-carries, tree-ends}
use Rattle.tm_seat.proofs.tree.play_records.Goals as goal

pub loop-item-init : goal.loop-item-init
loop-item-init g c = (
  refl,
  rw (c.new-lines.ensures, c.in_ok-takes.ensures.items)
      (tree-starts (g.S.Seat.opening c.args.seat.now) (g.S.Seat.at c.args.seat.now) (g.S.Seat.own c.args.seat.now) c.args.home c.args.records (situations c.new-known.result) c.requires.opened c.new-known.ensures c.requires.fitted c.requires.asked c.requires.home),
)

pub play_record-requires-clause-tree : goal.play_record-requires-clause-tree
play_record-requires-clause-tree g c =
    let is : c.loop-item.lines ≡ c.in-Some.item ∷ c.next.new.self = search rules in
    let walk : Walk = record { records = c.args.records; home = c.args.home; known = g.S.Seat.at c.args.seat.now; before = g.S.Seat.own c.args.seat.now } in (
      walk,
      c.next.new.self,
      tree-same (g.S.Seat.opening c.args.seat.now) (g.S.Seat.opening c.loop-item.seat) walk (g.S.Seat.at c.loop-item.seat) (g.S.Seat.own c.loop-item.seat) (situations c.loop-item.known) (c.in-Some.item ∷ c.next.new.self) c.loop-item.takes.items c.loop-item.invariant.0
          (subst (λ (lines : List Item). IsPlayingTree (g.S.Seat.opening c.args.seat.now) walk (g.S.Seat.at c.loop-item.seat) (g.S.Seat.own c.loop-item.seat) (situations c.loop-item.known) lines c.loop-item.takes.items) is c.loop-item.invariant.1),
    )

pub loop-item-preserved : goal.loop-item-preserved
loop-item-preserved g c =
    let is : c.loop-item.lines ≡ c.in-Some.item ∷ c.next.new.self = search rules in
    let walk : Walk = record { records = c.args.records; home = c.args.home; known = g.S.Seat.at c.args.seat.now; before = g.S.Seat.own c.args.seat.now } in (
      c.in_ok-play_record.ensures.opening ∙ c.loop-item.invariant.0,
      tree-carries (g.S.Seat.opening c.args.seat.now) (g.S.Seat.opening c.loop-item.seat) walk (g.S.Seat.at c.loop-item.seat) (g.S.Seat.at c.play_record.new.seat) (g.S.Seat.own c.loop-item.seat) (g.S.Seat.own c.play_record.new.seat) (situations c.loop-item.known) (situations c.play_record.new.known) (c.in-Some.item ∷ c.next.new.self) c.next.new.self c.loop-item.takes.items c.play_record.new.takes.items c.loop-item.invariant.0
          (c.in_ok-play_record.ensures.tree c.next.new.self)
          (subst (λ (lines : List Item). IsPlayingTree (g.S.Seat.opening c.args.seat.now) walk (g.S.Seat.at c.loop-item.seat) (g.S.Seat.own c.loop-item.seat) (situations c.loop-item.known) lines c.loop-item.takes.items) is c.loop-item.invariant.1),
    )

pub returns-clause-played : goal.returns-clause-played
returns-clause-played g c =
    let none : c.loop-item.lines ≡ [] = search rules in
    let walk : Walk = record { records = c.args.records; home = c.args.home; known = g.S.Seat.at c.args.seat.now; before = g.S.Seat.own c.args.seat.now } in
    tree-ends (g.S.Seat.opening c.args.seat.now) walk (g.S.Seat.at c.loop-item.seat) (g.S.Seat.own c.loop-item.seat) (situations c.loop-item.known) c.loop-item.takes.items
    (subst (λ (lines : List Item). IsPlayingTree (g.S.Seat.opening c.args.seat.now) walk (g.S.Seat.at c.loop-item.seat) (g.S.Seat.own c.loop-item.seat) (situations c.loop-item.known) lines c.loop-item.takes.items) none c.loop-item.invariant.1)
