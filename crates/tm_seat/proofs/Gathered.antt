-- The gathered rows are the rows of the trace's trees, in order.
use Rattle.std.proofs.Common.{◌≡◌, ◌≤◌, ◌<◌, ℕ, zero, suc, ◌+◌, List, [], ◌∷◌, ◌++◌, length, map, Bool, true, refl, sym, ap, ◌∙◌, subst, arith}
use Rattle.std.specs.Prelude.{Option, Some, None, IsSome, is_some, slice_get, unwrap_or, flat_map, take, ◌==◌}
use Rattle.std.specs.List.{AllByRecursion}
use Rattle.tm_rules.specs.Types.{Book, Look, Made, Start, Take, Tree}
use Rattle.tm_rules.specs.Prelude.{Trace, live_domain}
use Rattle.tm_legal.specs.Prelude.{times}
use Rattle.tm_joint.specs.Joint.{takes_in}
use Rattle.tm_joint.specs.Played.{Row, row_own, RowHolds, EachRow}
use Rattle.tm_joint.proofs.Rows.{All-flat}
use Rattle.tm_seat.specs.declared.tree.PlayedTree.{PlayedTree}
use Rattle.tm_seat.specs.declared.tree.TreeToPlay.{TreeToPlay}
use Rattle.tm_seat.specs.Seats.{scene_of}
use Rattle.tm_seat.specs.Playing.{LooksSince}
use Rattle.tm_seat.specs.Rows.{RowIsPlayed, EachIsPlayed, RowSince, row_seen, rows_own, row_of}
use Rattle.tm_seat.proofs.Rising.{row-since-lower, rises-since}
use Rattle.tm_seat.specs.Dealing.{dealt_to, hand_of, queues_own, IsAmong, IsGathered}
use Rattle.tm_take.specs.Each.{EachWith}
use Rattle.tm_seat.specs.Parts.{trees_from, Deed, deed, WorkerDid}
use Rattle.tm_seat.specs.Replayed.{AreDealt}
use Rattle.tm_seat.proofs.Lists.{All-at, All-of, All-filter, All-mapped, get-mapped, length-mapped, length-to, number-to, get-map}
use Rattle.tm_seat.proofs.Plans.{IsOfTrace, trees-of-trace}
use Rattle.tm_seat.proofs.Each.{each-at}
use Rattle.tm_seat.proofs.Moving.{deed_at}

-- a row that was played at its place, with its tree
played-at : (start : Start) (supervised : Bool) (list : List Made) (trees : List TreeToPlay) (rows : List PlayedTree) (p : ℕ) (row : PlayedTree) → EachIsPlayed start supervised list trees rows → slice_get rows p ≡ Some row → (tree : TreeToPlay) × (slice_get trees p ≡ Some tree) × (row.number ≡ tree.number) × RowIsPlayed start tree supervised list (row_of row)
played-at start supervised list [] [] p row h at = absurd cc
played-at start supervised list [] (r ∷ rows) p row h at = absurd h
played-at start supervised list (tree ∷ trees) [] p row h at = absurd h
played-at start supervised list (tree ∷ trees) (r ∷ rows) zero row h at = let same : r ≡ row = cc in (tree, refl, subst (λ (x : PlayedTree). x.number ≡ tree.number) same h.0, subst (λ (x : PlayedTree). RowIsPlayed start tree supervised list (row_of x)) same h.1)
played-at start supervised list (tree ∷ trees) (r ∷ rows) (suc p) row h at = played-at start supervised list trees rows p row h.2 at

module _ (start : Start) (trace : Trace) (book : Option Book) (stands : is_some book ≡ start.desk) (trees : length trace ≡ start.trees) (homes : AllByRecursion (λ (tree : Tree). IsSome (live_domain start.policy tree.start)) trace) (workers floor : ℕ) (list : List Made) (hands : List (List TreeToPlay)) (dealt : AreDealt start trace workers hands) (deeds : List (Deed PlayedTree)) (each : EachWith (λ hand done. WorkerDid start floor hand (deed_at list done)) hands deeds) (rows : List PlayedTree) (gathered : IsGathered (length trace) (map (λ (done : Deed PlayedTree). done.rows) deeds) rows) where
  inside : {A : Type 0} (xs : List A) (k : ℕ) (x : A) → slice_get xs k ≡ Some x → k < length xs
  inside [] k x at = absurd cc
  inside (y ∷ xs) zero x at = omega arith
  inside (y ∷ xs) (suc k) x at = let rest = inside xs k x at in omega (arith, rest)

  some-of : (found : Option ℕ) → IsSome found → found ≡ Some (unwrap_or found 0)
  some-of None is = absurd cc
  some-of (Some x) is = refl

  -- the worker's deed in which a row stands
  pub record Source (row : PlayedTree) : Type 0 where
    pub worker : ℕ
    pub hand : List TreeToPlay
    pub done : Deed PlayedTree
    pub is_hand : hand ≡ hand_of workers worker (trees_from start.policy 1 trace)
    pub did : WorkerDid start floor hand (deed_at list done)
    pub place : ℕ
    pub at : slice_get done.rows place ≡ Some row

  source : (k : ℕ) (row : PlayedTree) → slice_get rows k ≡ Some row → Source row
  source k row at =
      let among : IsAmong (map (λ (done : Deed PlayedTree). done.rows) deeds) row = gathered.among k row at in
      let (done, there, is) = get-mapped (λ (d : Deed PlayedTree). d.rows) deeds among.worker among.queue among.there in
      let (hand, hand_at, did) = each-at (λ hand d. WorkerDid start floor hand (deed_at list d)) hands deeds among.worker done each there in
      let lt : among.worker < workers = subst (λ n. among.worker < n) dealt.count (inside hands among.worker hand hand_at) in
      let both : Some hand ≡ Some (hand_of workers among.worker (trees_from start.policy 1 trace)) = sym hand_at ∙ dealt.each among.worker lt in
      record {
        worker = among.worker;
        hand = hand;
        done = done;
        is_hand = cc;
        did = did;
        place = among.place;
        at = subst (λ (queue : List PlayedTree). slice_get queue among.place ≡ Some row) (sym is) among.at;
      }

  numbers-at : (k : ℕ) (row : PlayedTree) → slice_get rows k ≡ Some row → row.number ≡ suc k
  numbers-at k row at =
      number-to (length trace) k row.number (subst (λ (ns : List ℕ). slice_get ns k ≡ Some row.number) gathered.numbers (get-map (λ (r : PlayedTree). r.number) rows k row at))

  -- a row is the one of the tree of its number
  holds-at : (k : ℕ) (row : PlayedTree) (its : Tree) → slice_get rows k ≡ Some row → slice_get trace k ≡ Some its → RowHolds (scene_of start trace book) list (suc k) its (row_of row)
  holds-at k row its at there =
      let from = source k row at in
      let (tree, tree_at, number, played) = played-at start start.desk list from.hand from.done.rows from.place row from.did.each from.at in
      let (of, mine) = All-at (λ (t : TreeToPlay). IsOfTrace start.policy trace t × ((dealt_to workers t.number == from.worker) ≡ true)) (hand_of workers from.worker (trees_from start.policy 1 trace)) from.place tree
      (All-filter (IsOfTrace start.policy trace) (λ (t : TreeToPlay). dealt_to workers t.number == from.worker) (trees_from start.policy 1 trace) (trees-of-trace start.policy trace))
      (subst (λ (l : List TreeToPlay). slice_get l from.place ≡ Some tree) from.is_hand tree_at) in
      let tree_number : tree.number ≡ suc of.place = ap (λ (t : TreeToPlay). t.number) of.is in
      let row_number : row.number ≡ suc k = numbers-at k row at in
      let place : of.place ≡ k = let mid = number in omega (arith, tree_number, row_number, mid) in
      let both : Some of.its ≡ Some its = sym of.there ∙ ap (slice_get trace) place ∙ there in
      let same : of.its ≡ its = cc in
      let records : its.records ≡ tree.records = sym (ap (λ (t : TreeToPlay). t.records) of.is ∙ ap (λ (x : Tree). x.records) same) in
      let home : live_domain start.policy its.start ≡ Some tree.home =
      some-of (live_domain start.policy its.start) (All-at (λ (t : Tree). IsSome (live_domain start.policy t.start)) trace k its homes there)
      ∙ ap Some (sym (ap (λ (t : TreeToPlay). t.home) of.is ∙ ap (λ (x : Tree). unwrap_or (live_domain start.policy x.start) 0) same)) in
      let t_is : tree.number ≡ suc k = sym number ∙ row_number in
      subst (λ t. RowHolds (scene_of start trace book) list t its (row_of row)) t_is (played trace book its trees stands records home)

  -- lists of one length, by their places
  each-row : (P : ℕ → Tree → Row → Type 0) (t : ℕ) (its : Trace) (more : List PlayedTree) → length more ≡ length its → ((k : ℕ) (row : PlayedTree) (tree : Tree) → slice_get more k ≡ Some row → slice_get its k ≡ Some tree → P (t + k) tree (row_of row)) → EachRow P t its (map row_of more)
  each-row P t [] [] long h = tt
  each-row P t [] (row ∷ more) long h = absurd (omega (arith, long))
  each-row P t (tree ∷ its) [] long h = absurd (omega (arith, long))
  each-row P t (tree ∷ its) (row ∷ more) long h = (
    subst (λ n. P n tree (row_of row)) (omega arith) (h 0 row tree refl refl),
    each-row P (suc t) its more (omega (arith, long)) (λ k r i at there. subst (λ n. P n i (row_of r)) (omega arith) (h (suc k) r i at there)),
  )

  rows-long : length rows ≡ length trace
  rows-long = sym (length-mapped (λ (r : PlayedTree). r.number) rows) ∙ ap (λ (ns : List ℕ). length ns) gathered.numbers ∙ length-to (length trace)

  pub rows-hold : EachRow (RowHolds (scene_of start trace book) list) 1 trace (map row_of rows)
  rows-hold = each-row (RowHolds (scene_of start trace book) list) 1 trace rows rows-long (λ k row tree at there. subst (λ n. RowHolds (scene_of start trace book) list n tree (row_of row)) (omega arith) (holds-at k row tree at there))

  -- no look of theirs is older than the floor
  pub rows-fresh : AllByRecursion (λ (t : Take). AllByRecursion (λ (look : Look). floor ≤ look.version) t.looks) (takes_in (map row_of rows))
  rows-fresh =
      All-flat (λ (t : Take). AllByRecursion (λ (look : Look). floor ≤ look.version) t.looks) (λ (row : Row). row.takes) (map row_of rows)
      (All-mapped (λ (row : Row). AllByRecursion (LooksSince floor) row.takes) row_of rows
      (All-of (RowSince floor) rows (λ k row at. let from = source k row at in All-at (RowSince floor) from.done.rows from.place row (rises-since RowSince row_seen row-since-lower floor from.done.rows from.did.rises) from.at)))

  -- the workers' steps are those of the rows
  flat-own : (those : List PlayedTree) → flat_map row_own (map row_of those) ≡ rows_own those
  flat-own [] = refl
  flat-own (row ∷ those) = ap (λ (ns : List ℕ). row_own (row_of row) ++ ns) (flat-own those)

  own-queues : (hs : List (List TreeToPlay)) (ds : List (Deed PlayedTree)) → EachWith (λ hand done. WorkerDid start floor hand (deed_at list done)) hs ds → flat_map (λ (ns : List ℕ). ns) (map (λ (done : Deed PlayedTree). done.own) ds) ≡ queues_own (map (λ (done : Deed PlayedTree). done.rows) ds)
  own-queues [] [] h = refl
  own-queues [] (d ∷ ds) h = absurd h
  own-queues (hand ∷ hs) [] h = absurd h
  own-queues (hand ∷ hs) (d ∷ ds) h = rw (h.0.own_is, own-queues hs ds h.1) refl

  pub rows-counted : (n : ℕ) → times n (flat_map (λ (ns : List ℕ). ns) (map (λ (done : Deed PlayedTree). done.own) deeds)) ≡ times n (flat_map row_own (map row_of rows))
  rows-counted n = ap (times n) (own-queues hands deeds each) ∙ gathered.counted n ∙ ap (times n) (sym (flat-own rows))
