use Rattle.std.proofs.Common.{◌≡◌, ◌∙◌, sym, ap, subst, ◌∷◌}
use Rattle.std.specs.Prelude.{Some, None}
use Rattle.tm_rules.specs.Types.{Item}
use Rattle.tm_legal.specs.Prelude.{DomainIn, Situation}
use Rattle.tm_legal.proofs.Trees.{same_number}
use Rattle.tm_take.specs.Situations.{situations}
use Rattle.tm_seat.specs.Seats.{state_of}
use Rattle.tm_seat.proofs.TreeEvents.{tree-there, tree-asked, tree-takes}
use Rattle.tm_seat.proofs.tree.next_take.Goals as goal

pub play_take-requires-clause-asked : goal.play_take-requires-clause-asked
play_take-requires-clause-asked g c =
    let (walk, left, takes, h) = c.requires.tree in
    tree-asked (g.S.Seat.opening c.args.seat.now) walk (g.S.Seat.at c.args.seat.now) (g.S.Seat.own c.args.seat.now) (situations c.args.known.now) left takes c.args.pid c.args.request h

pub play_take-requires-clause-there : goal.play_take-requires-clause-there
play_take-requires-clause-there g c =
    let (walk, left, takes, h) = c.requires.tree in
    let found = tree-there (g.S.Seat.opening c.args.seat.now) c.requires.opened walk (g.S.Seat.at c.args.seat.now) (g.S.Seat.own c.args.seat.now) (situations c.args.known.now) (Item.Do c.args.pid c.args.request ∷ left) takes c.args.pid h in
    let same : found.0 ≡ c.in-Some.domain = same_number found.0 c.in-Some.domain (sym found.1 ∙ ap (λ (s : Situation). s.domain) (sym c.at-now.ensures) ∙ c.in-Some.is) in
    subst (DomainIn (state_of (g.S.Seat.opening c.args.seat.now) (g.S.Seat.at c.args.seat.now)).policy) same found.2

pub unreachable-requires : goal.unreachable-requires
unreachable-requires g c =
    let (walk, left, takes, h) = c.requires.tree in
    let found = tree-there (g.S.Seat.opening c.args.seat.now) c.requires.opened walk (g.S.Seat.at c.args.seat.now) (g.S.Seat.own c.args.seat.now) (situations c.args.known.now) (Item.Do c.args.pid c.args.request ∷ left) takes c.args.pid h in
    let none : Some found.0 ≡ None = sym found.1 ∙ ap (λ (s : Situation). s.domain) (sym c.at-now.ensures) ∙ c.in-None.is in
    cc

pub returns-in-Ok-clause-tree : goal.returns-in-Ok-clause-tree
returns-in-Ok-clause-tree g c left takes walk h =
    let done = c.in_ok-take-in-Some.ensures in
    let ended = done.ended in
    tree-takes (g.S.Seat.opening c.args.seat.now) (g.S.Seat.at c.args.seat.now) (g.S.Seat.at c.play_take.new.seat) (g.S.Seat.own c.args.seat.now) (g.S.Seat.own c.play_take.new.seat) (situations c.args.known.now) (situations c.move_to.new.self) c.args.pid c.in-Some.domain c.at-now.result c.args.request c.in_ok-take-in-Some.take
    c.requires.opened c.at-now.ensures c.in-Some.is done.grows ended.fitted ended.legal ended.there ended.made ended.makers ended.fresh ended.pid c.in-Ok.ensures left takes walk h
