use Rattle.std.proofs.Common.{rules, ◌≡◌, ◌++◌, ◌∷◌, [], List, refl, sym, ap, ◌∙◌, subst, append_assoc, append-nil}
use Rattle.std.specs.List.{AllByRecursion}
use Rattle.tm_seat.specs.declared.tree.TreeToPlay.{TreeToPlay}
use Rattle.tm_seat.specs.Seats.{MadeBy}
use Rattle.tm_seat.specs.Rows.{Shift, IsReady, makers_all}
use Rattle.tm_seat.proofs.WorkerEvents.{worker-starts, worker-carries}
use Rattle.tm_seat.proofs.worker.play_trees.Goals as goal

pub loop-tree-init : goal.loop-tree-init
loop-tree-init g c =
    let lined : c.from-left.result.items ≡ c.args.trees.items = search rules in (
      refl,
      rw lined c.requires.ready,
      record {
        done = [];
        all = lined;
        works = rw c.new-rows.ensures.items (worker-starts (g.S.Seat.opening c.args.seat.now) c.args.supervised (g.S.Seat.at c.args.seat.now) (g.S.Seat.own c.args.seat.now) c.requires.fitted);
      },
    )

pub loop-tree-preserved : goal.loop-tree-preserved
loop-tree-preserved g c =
    let is : c.loop-tree.left.items ≡ c.in-Some.tree ∷ c.pop_front.new.self.items = search rules in
    let shift : Shift = record { known = g.S.Seat.at c.args.seat.now; before = g.S.Seat.own c.args.seat.now } in
    let w = c.loop-tree.invariant.2 in (
      c.in_ok-play_next.ensures.opening ∙ c.loop-tree.invariant.0,
      (subst (AllByRecursion (IsReady (g.S.Seat.opening c.args.seat.now))) is c.loop-tree.invariant.1).1,
      record {
        done = w.done ++ c.in-Some.tree ∷ [];
        all = append_assoc w.done (c.in-Some.tree ∷ []) c.pop_front.new.self.items ∙ ap (λ (ts : List TreeToPlay). w.done ++ ts) (sym is) ∙ w.all;
        works = worker-carries (g.S.Seat.opening c.args.seat.now) (g.S.Seat.opening c.loop-tree.seat) c.args.supervised shift (g.S.Seat.at c.loop-tree.seat) (g.S.Seat.at c.play_next.new.seat) (g.S.Seat.own c.loop-tree.seat) (g.S.Seat.own c.play_next.new.seat) w.done c.loop-tree.rows.items c.play_next.new.rows.items c.in-Some.tree c.loop-tree.invariant.0 c.in_ok-play_next.ensures.works w.works;
      },
    )

pub returns-clause-makers : goal.returns-clause-makers
returns-clause-makers g c =
    let none : c.loop-tree.left.items ≡ [] = search rules in
    let w = c.loop-tree.invariant.2 in
    let all : w.done ≡ c.args.trees.items = sym (append-nil w.done) ∙ ap (λ (ts : List TreeToPlay). w.done ++ ts) (sym none) ∙ w.all in
    subst (λ (ts : List TreeToPlay). MadeBy (makers_all ts) (g.S.Seat.at c.args.seat.now) (g.S.Seat.own c.args.seat.now) (g.S.Seat.at c.loop-tree.seat) (g.S.Seat.own c.loop-tree.seat)) all w.works.makers
