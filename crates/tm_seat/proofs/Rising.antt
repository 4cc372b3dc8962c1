-- How what a worker plays rises: by the versions that each has seen.
use Rattle.std.proofs.Common.{◌≡◌, ◌≤◌, arith, ℕ, zero, suc, List, [], ◌∷◌, ◌++◌, length, Bool, true, false, refl, sym, ap, ◌∙◌, subst, append-nil}
use Rattle.std.specs.Prelude.{Option, Some, None, max, flat_map, is_some, option_to_list, option_map, slice_get}
use Rattle.std.specs.Option.{IfSome}
use Rattle.std.specs.List.{AllByRecursion}
use Rattle.std.proofs.lemmas.Grind.{flat_map-append}
use Rattle.std.proofs.lemmas.List.{length-append}
use Rattle.tm_rules.specs.Types.{Book, Look, Made, Request, Start, Step, Take, Tree}
use Rattle.tm_rules.specs.Prelude.{DomainName, Trace, live_domain, numbered}
use Rattle.tm_legal.specs.Prelude.{IsLegalTake, LookDone, Scene, Situation, raised, seen, subject_of}
use Rattle.tm_legal.proofs.Asked.{All-append}
use Rattle.tm_legal.proofs.Histories.{raised-le}
use Rattle.tm_legal.proofs.Walks.{All-map}
use Rattle.tm_made.specs.Made.{history_made, made_step}
use Rattle.tm_made.proofs.Telling.{made-length}
use Rattle.tm_joint.specs.Played.{Row, seen_by, RowHolds}
use Rattle.tm_joint.proofs.Rows.{All-left, All-right, All-flat}
use Rattle.tm_joint.proofs.TreeLaws.{played-sees}
use Rattle.tm_seat.specs.declared.tree.PlayedTree.{PlayedTree}
use Rattle.tm_seat.specs.declared.tree.TreeToPlay.{TreeToPlay}
use Rattle.tm_seat.specs.Seats.{scene_of, Begins}
use Rattle.tm_seat.specs.Playing.{TakeIsLegal, LooksSince, Rises}
use Rattle.tm_seat.specs.Rows.{RowIsPlayed, RowSince, row_of, row_seen}
use Rattle.tm_seat.proofs.Opening.{some-trace}

-- Versions

-- versions of a list are versions of every longer one
pub within-later : (xs ys : List Made) (versions : List ℕ) → Begins xs ys → AllByRecursion (λ version. version ≤ length xs) versions → AllByRecursion (λ version. version ≤ length ys) versions
within-later xs ys versions begins h =
    let long : length xs ≤ length ys = rw begins.1 (let all = length-append xs begins.0 in omega arith) in
    All-map (λ version. version ≤ length xs) (λ version. version ≤ length ys) versions (λ version le. omega (arith, long, le)) h

pub begun-within : (xs ys : List Made) → Begins xs ys → length xs ≤ length ys
begun-within xs ys begins = rw begins.1 (let all = length-append xs begins.0 in omega arith)

-- what is raised is no lower
pub raised-above : (floor : ℕ) (versions : List ℕ) → floor ≤ raised floor versions
raised-above floor [] = omega arith
raised-above floor (version ∷ versions) = let le : max floor version ≤ raised (max floor version) versions = raised-above (max floor version) versions in omega arith

-- what is raised from a higher floor is no lower
pub raised-both : (low high : ℕ) (versions : List ℕ) → low ≤ high → raised low versions ≤ raised high versions
raised-both low high [] le = le
raised-both low high (version ∷ versions) le = raised-both (max low version) (max high version) versions (omega arith)

-- Takes

-- looks that are no older than a version are no older than one before it
pub looks-since-lower : (low high : ℕ) (take : Take) → low ≤ high → LooksSince high take → LooksSince low take
looks-since-lower low high take le h = All-map (λ (look : Look). high ≤ look.version) (λ (look : Look). low ≤ look.version) take.looks (λ look at. omega (arith, le, at)) h

-- all that a legal take has seen is of the list
pub legal-sees : (start : Start) (known list : List Made) (now : Situation) (request : Request) (take : Take) → TakeIsLegal start known list now request take → AllByRecursion (λ version. version ≤ length list) (flat_map seen take.looks)
legal-sees start known list now request take legal =
    let some = some-trace start.trees in
    let scene : Scene = scene_of start some.0 None in
    let at_zero : Situation = record now { floor = 0 } in
    let is_legal = legal some.0 None 1 at_zero some.1 refl refl (omega arith) in
    rw (made-length scene list) at
    (All-flat (λ version. version ≤ length (history_made scene list)) seen take.looks
    (All-map (LookDone scene (history_made scene list) (subject_of (record { tree = 1; now = at_zero; request = request; taken = take }))) (λ (look : Look). AllByRecursion (λ version. version ≤ length (history_made scene list)) (seen look)) take.looks (λ look done. done.sees) is_legal.looks))

-- Rows

-- a step that is there is of the list
pub made-within : (list : List Made) (number : ℕ) (step : Step) → made_step list number ≡ Some step → number ≤ length list
made-within list zero step h = omega arith
made-within list (suc n) step h = below list n h
  where
    below : (made : List Made) (k : ℕ) → option_map (λ (m : Made). m.step) (slice_get made k) ≡ Some step → suc k ≤ length made
    below [] k there = absurd cc
    below (m ∷ made) zero there = omega arith
    below (m ∷ made) (suc k) there = omega (arith, below made k there)

-- all that a row has seen is of the list
pub row-sees : (start : Start) (tree : TreeToPlay) (supervised : Bool) (list : List Made) (played : PlayedTree) → (name : DomainName) × (live_domain start.policy name ≡ Some tree.home) → RowIsPlayed start tree supervised list (row_of played) → AllByRecursion (λ version. version ≤ length list) (row_seen played)
row-sees start tree supervised list played (name, live) h =
    All-append (λ version. version ≤ length list) (seen_by played.takes) (option_to_list played.end)
    (rw (made-length scene list) at (played-sees scene (history_made scene list) tree.number its played.takes holds.played))
    (of-end played.end holds.end_is)
  where
    book_of : (b : Bool) → (book : Option Book) × (is_some book ≡ b)
    book_of true = (Some (record { rules = []; stop = None }), refl)
    book_of false = (None, refl)

    some : (trace : Trace) × (length trace ≡ start.trees)
    some = some-trace start.trees

    its : Tree
    its = record { pid = 0; start = name; records = tree.records }

    scene : Scene
    scene = scene_of start some.0 (book_of supervised).0

    holds : RowHolds scene list tree.number its (row_of played)
    holds = h some.0 (book_of supervised).0 its some.1 (book_of supervised).1 refl live

    of-end : (end : Option ℕ) → IfSome end (λ n. made_step list n ≡ Some (Step.End tree.number)) → AllByRecursion (λ version. version ≤ length list) (option_to_list end)
    of-end None is = tt
    of-end (Some n) is = (made-within list n (Step.End tree.number) is, tt)

-- Lists that rise

-- a row that is no older than a version is no older than one before it
pub row-since-lower : (low high : ℕ) (row : PlayedTree) → low ≤ high → RowSince high row → RowSince low row
row-since-lower low high row le h = All-map (LooksSince high) (LooksSince low) row.takes (λ take looks. looks-since-lower low high take le looks) h

module _ {A : Type 0} (Since : ℕ → A → Type 0) (sees : A → List ℕ) (lower : (low high : ℕ) (x : A) → low ≤ high → Since high x → Since low x) where
  -- what rises from a floor rises from every lower one
  pub rises-lower : (low high : ℕ) (xs : List A) → low ≤ high → Rises Since sees high xs → Rises Since sees low xs
  rises-lower low high [] le h = tt
  rises-lower low high (x ∷ xs) le h = (lower low high x le h.0, rises-lower (raised low (sees x)) (raised high (sees x)) xs (raised-both low high (sees x) le) h.1)

  -- one more, which is no older than all that those before have seen
  pub rises-push : (floor newest : ℕ) (xs : List A) (last : A) → floor ≤ newest → AllByRecursion (λ version. version ≤ newest) (flat_map sees xs) → Since newest last → Rises Since sees floor xs → Rises Since sees floor (xs ++ last ∷ [])
  rises-push floor newest [] last le within since h = (lower floor newest last le since, tt)
  rises-push floor newest (x ∷ xs) last le within since h = (
    h.0,
    rises-push (raised floor (sees x)) newest xs last
        (raised-le floor newest (sees x) le (All-left (λ version. version ≤ newest) (sees x) (flat_map sees xs) within))
        (All-right (λ version. version ≤ newest) (sees x) (flat_map sees xs) within)
        since h.1,
  )

  -- each of what rises from a floor is no older than it
  pub rises-since : (floor : ℕ) (xs : List A) → Rises Since sees floor xs → AllByRecursion (Since floor) xs
  rises-since floor [] h = tt
  rises-since floor (x ∷ xs) h = (h.0, rises-since floor xs (rises-lower floor (raised floor (sees x)) xs (raised-above floor (sees x)) h.1))

  -- what both have seen
  pub within-push : (old new : List Made) (xs : List A) (last : A) → Begins old new → AllByRecursion (λ version. version ≤ length old) (flat_map sees xs) → AllByRecursion (λ version. version ≤ length new) (sees last) → AllByRecursion (λ version. version ≤ length new) (flat_map sees (xs ++ last ∷ []))
  within-push old new xs last begins h more =
      subst (AllByRecursion (λ version. version ≤ length new)) (sym (flat_map-append sees xs (last ∷ []) ∙ ap (λ (ns : List ℕ). flat_map sees xs ++ ns) (append-nil (sees last))))
      (All-append (λ version. version ≤ length new) (flat_map sees xs) (sees last) (within-later old new (flat_map sees xs) begins h) more)
