-- The trees of a worker, one after another.
use Rattle.std.proofs.Common.{◌≡◌, ◌≤◌, ℕ, List, [], ◌∷◌, ◌++◌, length, Bool, refl, sym, ap, ◌∙◌, subst, append_assoc, append-nil}
use Rattle.std.specs.Prelude.{Some, flat_map}
use Rattle.std.specs.List.{AllByRecursion}
use Rattle.std.proofs.lemmas.Grind.{flat_map-append}
use Rattle.tm_rules.specs.Types.{Made, Maker, Start}
use Rattle.tm_rules.specs.Prelude.{DomainName, live_domain}
use Rattle.tm_joint.specs.Played.{Row, row_own}
use Rattle.tm_joint.proofs.Later.{row-later}
use Rattle.tm_seat.specs.declared.tree.TreeToPlay.{TreeToPlay}
use Rattle.tm_seat.specs.declared.tree.PlayedTree.{PlayedTree}
use Rattle.tm_seat.specs.Seats.{scene_of, FitsFrom, Begins, MadeBy}
use Rattle.tm_seat.specs.Rows.{RowIsPlayed, EachIsPlayed, RowSince, Shift, IsWorking, WorksOn, rows_own, row_of, row_seen, tree_makers, makers_all}
use Rattle.tm_seat.proofs.Opening.{begins-further}
use Rattle.tm_seat.proofs.Claiming.{by-both, by-nobody}
use Rattle.tm_seat.proofs.Rising.{begun-within, row-sees, row-since-lower, within-push, rises-push}

-- a row that was played stays so
pub row-stays : (start : Start) (tree : TreeToPlay) (supervised : Bool) (xs ys : List Made) (row : Row) → Begins xs ys → RowIsPlayed start tree supervised xs row → RowIsPlayed start tree supervised ys row
row-stays start tree supervised xs ys row begins h trace book its trees stands records home =
    rw begins.1 (row-later (scene_of start trace book) xs begins.0 tree.number its row (h trace book its trees stands records home))

pub rows-stay : (start : Start) (supervised : Bool) (xs ys : List Made) (trees : List TreeToPlay) (rows : List PlayedTree) → Begins xs ys → EachIsPlayed start supervised xs trees rows → EachIsPlayed start supervised ys trees rows
rows-stay start supervised xs ys [] [] begins h = tt
rows-stay start supervised xs ys [] (row ∷ rows) begins h = h
rows-stay start supervised xs ys (tree ∷ trees) [] begins h = h
rows-stay start supervised xs ys (tree ∷ trees) (row ∷ rows) begins h = (h.0, row-stays start tree supervised xs ys (row_of row) begins h.1, rows-stay start supervised xs ys trees rows begins h.2)

rows-push : (start : Start) (supervised : Bool) (list : List Made) (trees : List TreeToPlay) (rows : List PlayedTree) (tree : TreeToPlay) (row : PlayedTree) → EachIsPlayed start supervised list trees rows → row.number ≡ tree.number → RowIsPlayed start tree supervised list (row_of row) → EachIsPlayed start supervised list (trees ++ tree ∷ []) (rows ++ row ∷ [])
rows-push start supervised list [] [] tree row each number is = (number, is, tt)
rows-push start supervised list [] (r ∷ rows) tree row each number is = absurd each
rows-push start supervised list (t ∷ trees) [] tree row each number is = absurd each
rows-push start supervised list (t ∷ trees) (r ∷ rows) tree row each number is = (each.0, each.1, rows-push start supervised list trees rows tree row each.2 number is)

-- at its beginning
pub worker-starts : (start : Start) (supervised : Bool) (list : List Made) (own : List ℕ) → FitsFrom start list → IsWorking start supervised (record { known = list; before = own }) list own [] []
worker-starts start supervised list own fitted =
    record {
      fitted = fitted;
      begins = ([], sym (append-nil list));
      each = tt;
      made = sym (append-nil own);
      makers = by-nobody [] list list own own ([], sym (append-nil list)) refl;
      seen = tt;
      rises = tt;
    }

-- a tree more
pub worker-plays : (start : Start) (supervised : Bool) (xs ys : List Made) (own own' : List ℕ) (rows : List PlayedTree) (tree : TreeToPlay) (row : PlayedTree) (more : List PlayedTree) → more ≡ rows ++ row ∷ [] → FitsFrom start ys → Begins xs ys → row.number ≡ tree.number → RowIsPlayed start tree supervised ys (row_of row) → own' ≡ own ++ row_own (row_of row) → MadeBy (tree_makers tree) xs own ys own' → RowSince (length xs) row → (name : DomainName) × (live_domain start.policy name ≡ Some tree.home) → WorksOn start supervised xs own rows tree ys own' more
worker-plays start supervised xs ys own own' rows tree row more pushed fitted begins number is noted by since home shift done h =
    rw pushed (record {
      fitted = fitted;
      begins = begins-further shift.known xs ys h.begins begins;
      each = rows-push start supervised ys done rows tree row (rows-stay start supervised xs ys done rows begins h.each) number is;
      made = noted ∙ ap (λ (ns : List ℕ). ns ++ row_own (row_of row)) h.made ∙ append_assoc shift.before (rows_own rows) (row_own (row_of row)) ∙ ap (λ (ns : List ℕ). shift.before ++ ns) (sym (flat_map-append (λ (r : PlayedTree). row_own (row_of r)) rows (row ∷ []) ∙ ap (λ (ns : List ℕ). rows_own rows ++ ns) (append-nil (row_own (row_of row)))));
      makers = subst (λ (makers : List Maker). MadeBy makers shift.known shift.before ys own') (sym (flat_map-append tree_makers done (tree ∷ []) ∙ ap (λ (ms : List Maker). makers_all done ++ ms) (append-nil (tree_makers tree))))
          (by-both (makers_all done) (tree_makers tree) shift.known xs ys shift.before own own' h.makers by);
      seen = within-push RowSince row_seen row-since-lower xs ys rows row begins h.seen (row-sees start tree supervised ys row home is);
      rises = rises-push RowSince row_seen row-since-lower (length shift.known) (length xs) rows row (begun-within shift.known xs h.begins) h.seen since h.rises;
    })

-- a call that keeps it keeps it for an equal opening
pub worker-carries : (start start' : Start) (supervised : Bool) (shift : Shift) (xs ys : List Made) (own own' : List ℕ) (done : List TreeToPlay) (rows more : List PlayedTree) (tree : TreeToPlay) → start' ≡ start → WorksOn start' supervised xs own rows tree ys own' more → IsWorking start supervised shift xs own done rows → IsWorking start supervised shift ys own' (done ++ tree ∷ []) more
worker-carries start start' supervised shift xs ys own own' done rows more tree same keeps = subst (λ (s : Start). WorksOn s supervised xs own rows tree ys own' more) same keeps shift done

-- all trees of a worker, those that are left behind those that were played
pub record Worked (start : Start) (supervised : Bool) (shift : Shift) (list : List Made) (own : List ℕ) (trees left : List TreeToPlay) (rows : List PlayedTree) : Type 0 where
  pub done : List TreeToPlay
  pub all : done ++ left ≡ trees
  pub works : IsWorking start supervised shift list own done rows
