use Rattle.std.proofs.Common.{◌≡◌, ◌<◌, List, [], ◌∷◌, ℕ, length, subst, sym, arith, refl}
use Rattle.tm_io.specs.declared.names.FileName.{FileName}
use Rattle.tm_io.specs.Files.{changed}
use Rattle.tm_io.specs.Notes.{Noted}
use Rattle.tm_call.specs.Stores.{names_of}
use Rattle.tm_call.specs.Calls.{LastCall}
use Rattle.tm_call.proofs.Steps.{rose-earlier, stopped-at, leaves-at}
use Rattle.tm_call.proofs.Calls.{none-after, last-at, noted-at, first-last}
use Rattle.tm_call.proofs.carry.store_all.Goals as goal

pub returns-in-Failed-clause-stops : goal.returns-in-Failed-clause-stops
returns-in-Failed-clause-stops g c =
    let lt : c.loop-name.name-index < length c.args.stores.now = omega arith in (
      stopped-at c.args.stores.now c.loop-name.name-index c.loop-name-item.result (g.S.Shelf.file c.args.shelf.now) (g.S.Shelf.file c.loop-name.shelf) (g.S.Shelf.file c.store.new.self) lt c.loop-name-item.is c.loop-name.invariant.made c.in-Failed.ensures.leaves,
      rose-earlier _ _ _ c.loop-name.invariant.counts (c.in-Failed.ensures.cause refl),
    )

pub returns-in-Failed-clause-last : goal.returns-in-Failed-clause-last
returns-in-Failed-clause-last g c =
    let lt : c.loop-name.name-index < length c.args.stores.now = omega arith in
    subst (λ (item : FileName × List ℕ). LastCall (names_of c.args.stores.now) item.0 (g.S.Shelf.stored c.args.shelf.now) (g.S.Shelf.stored c.store.new.self)) (sym c.loop-name-item.is)
    (last-at (λ (store : FileName × List ℕ). store.0) c.args.stores.now c.loop-name.name-index c.loop-name-item.result _ _ _ lt c.loop-name.invariant.stored
    (subst (λ (item : FileName × List ℕ). Noted (item.0 ∷ []) (g.S.Shelf.stored c.loop-name.shelf) (g.S.Shelf.stored c.store.new.self)) c.loop-name-item.is c.in-Failed.ensures.notes))

pub returns-in-NoMemory-clause-last : goal.returns-in-NoMemory-clause-last
returns-in-NoMemory-clause-last g c =
    let lt : c.loop-name.name-index < length c.args.stores.now = omega arith in
    first-last (names_of c.args.stores.now) _ _ _
    (last-at (λ (store : FileName × List ℕ). store.0) c.args.stores.now c.loop-name.name-index c.loop-name-item.result _ _ _ lt c.loop-name.invariant.stored
    (subst (λ (item : FileName × List ℕ). Noted (item.0 ∷ []) (g.S.Shelf.stored c.loop-name.shelf) (g.S.Shelf.stored c.store.new.self)) c.loop-name-item.is c.in-NoMemory.ensures.notes))

pub loop-name-preserved : goal.loop-name-preserved
loop-name-preserved g c =
    let lt : c.loop-name.name-index < length c.args.stores.now = omega arith in
    let item = c.loop-name-item.result in
    record {
      made = leaves-at c.args.stores.now c.loop-name.name-index item (g.S.Shelf.file c.args.shelf.now) (g.S.Shelf.file c.loop-name.shelf) (g.S.Shelf.file c.store.new.self) lt c.loop-name-item.is c.loop-name.invariant.made
          (subst (λ (bytes : List ℕ). (name : FileName) → g.S.Shelf.file c.store.new.self name ≡ changed item.0 bytes name (g.S.Shelf.file c.loop-name.shelf name)) c.bytes.ensures c.in-Done.ensures.leaves);
      counts = omega arith;
      stored = noted-at (λ (store : FileName × List ℕ). store.0) c.args.stores.now c.loop-name.name-index item _ _ _ lt c.loop-name.invariant.stored
          (subst (λ (item : FileName × List ℕ). Noted (item.0 ∷ []) (g.S.Shelf.stored c.loop-name.shelf) (g.S.Shelf.stored c.store.new.self)) c.loop-name-item.is c.in-Done.ensures.notes);
      unfetched = none-after _ _ _ _ c.loop-name.invariant.unfetched c.in-Done.ensures.no_fetch;
    }
