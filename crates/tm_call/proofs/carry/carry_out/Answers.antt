use Rattle.std.proofs.Common.{length, subst, sym}
use Rattle.std.proofs.Math.Seq.{take-length}
use Rattle.tm_io.specs.Notes.{Noted}
use Rattle.tm_call.specs.Fetches.{Texts}
use Rattle.tm_call.specs.Stores.{Leaves, names_of}
use Rattle.tm_call.proofs.Calls.{first-all}
use Rattle.tm_call.proofs.carry.carry_out.Goals as goal

pub returns-in-NoMemory-clause-ends : goal.returns-in-NoMemory-clause-ends
returns-in-NoMemory-clause-ends g c =
    let stores = c.args.outcome.now.stores in
    ((length stores, subst (λ (xs : Texts). Leaves xs (g.S.Shelf.file c.args.shelf.now) (g.S.Shelf.file c.store_all.new.shelf)) (sym (take-length stores)) (subst (λ (xs : Texts). Leaves xs (g.S.Shelf.file c.args.shelf.now) (g.S.Shelf.file c.store_all.new.shelf)) c.as_slice.ensures c.in-Ok.ensures.done)), c.in-NoMemory.ensures.leaves)

pub returns-in-NoMemory-clause-stores : goal.returns-in-NoMemory-clause-stores
returns-in-NoMemory-clause-stores g c =
    first-all (names_of c.args.outcome.now.stores) _ _
    (subst (λ (xs : Texts). Noted (names_of xs) (g.S.Shelf.stored c.args.shelf.now) (g.S.Shelf.stored c.store_all.new.shelf)) c.as_slice.ensures c.in-Ok.ensures.all)
