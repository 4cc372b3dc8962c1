-- The gathered rows hold for the trees of the trace, in order.
use Rattle.std.proofs.Common.{◌≡◌, ◌≤◌, ◌+◌, ℕ, zero, suc, List, [], ◌∷◌, ◌++◌, length, map, refl, sym, ap, ◌∙◌, subst, arith}
use Rattle.std.specs.Prelude.{Option, Some, None, IfSome, is_some, slice_get, option_to_list}
use Rattle.std.specs.List.{AllByRecursion}
use Rattle.tm_rules.specs.Types.{Book, Made, Request, Start, Step, Take, Tree}
use Rattle.tm_rules.specs.Prelude.{Trace, live_domain}
use Rattle.tm_legal.specs.Prelude.{Case, History, IsLegalTake, at_start, tree_cases}
use Rattle.tm_made.specs.Made.{history_made, made_step}
use Rattle.tm_joint.specs.Played.{RowHolds, EachRow}
use Rattle.tm_joint.proofs.Rows.{All-left, All-right}
use Rattle.tm_seat.specs.declared.tree.PlayedTree.{PlayedTree}
use Rattle.tm_seat.specs.Seats.{scene_of}
use Rattle.tm_seat.specs.Rows.{row_of}
use Rattle.tm_steal_rows.specs.declared.played.PlayedTake.{PlayedTake}
use Rattle.tm_steal_rows.specs.declared.records.RecordPlace.{RecordPlace}
use Rattle.tm_steal_rows.specs.Playing.{TakeIsPlayed}
use Rattle.tm_steal_rows.specs.Records.{numbered, request_at}
use Rattle.tm_steal_rows.specs.Gathering.{EachStands, TakesRow, RowsAreOf, homes_of}
use Rattle.tm_steal_rows.proofs.RecordLaws.{case-asks}

-- what is at a place of a mapped list
pub get-mapped : {A B : Type 0} (f : A → B) (xs : List A) (k : ℕ) (x : A) → slice_get xs k ≡ Some x → slice_get (map f xs) k ≡ Some (f x)
get-mapped f [] k x at = absurd cc
get-mapped f (y ∷ xs) zero x at = let same : y ≡ x = cc in ap (λ z. Some (f z)) same
get-mapped f (y ∷ xs) (suc k) x at = get-mapped f xs k x at

module _ (start : Start) (trace : Trace) (book : Option Book) (stands : is_some book ≡ start.desk) (trees : length trace ≡ start.trees) (list : List Made) where
  history : History
  history = history_made (scene_of start trace book) list

  abbrev pub EndIsMade : ℕ × ℕ → Type 0
  EndIsMade end = made_step list end.1 ≡ Some (Step.End end.0)

  -- a take that stands at its place is legal there
  case-legal : (c : Case) (played : PlayedTake) → c.taken ≡ played.take → (let now = c.now in (now.process ≡ played.stood.process) × (now.domain ≡ played.stood.domain) × (now.floor ≤ played.since)) → request_at trace played.place ≡ Some c.request → TakeIsPlayed start trace list played → IsLegalTake (scene_of start trace book) (history_made (scene_of start trace book) list) c
  case-legal c played took (process, domain, floor) asked p =
      let both : Some p.request ≡ Some c.request = sym p.asked ∙ asked in
      let same : p.request ≡ c.request = cc in
      let long = p.since in
      let is = p.legal trace book c.tree c.now trees process domain (omega (arith, floor, long)) in
      subst (λ (k : Take). IsLegalTake (scene_of start trace book) (history_made (scene_of start trace book) list) (record { tree = c.tree; now = c.now; request = c.request; taken = k })) (sym took)
      (subst (λ (r : Request). IsLegalTake (scene_of start trace book) (history_made (scene_of start trace book) list) (record { tree = c.tree; now = c.now; request = r; taken = played.take })) same is)

  cases-legal : (cases : List Case) (own : List PlayedTake) → EachStands cases own → ((k : ℕ) (c : Case) (played : PlayedTake) → slice_get cases k ≡ Some c → slice_get own k ≡ Some played → request_at trace played.place ≡ Some c.request) → AllByRecursion (TakeIsPlayed start trace list) own → AllByRecursion (IsLegalTake (scene_of start trace book) (history_made (scene_of start trace book) list)) cases
  cases-legal [] [] each asked played = tt
  cases-legal [] (one ∷ own) each asked played = absurd each
  cases-legal (c ∷ cases) [] each asked played = absurd each
  cases-legal (c ∷ cases) (one ∷ own) each asked played =
      let there = each.1 in (
        case-legal c one each.0 (there.process, there.domain, there.floor) (asked 0 c one refl refl) played.0,
        cases-legal cases own each.2 (λ k other more is at. asked (suc k) other more is at) played.1,
      )

  end-made : (t : ℕ) (end : Option ℕ) (left : List (ℕ × ℕ)) → AllByRecursion (λ (e : ℕ × ℕ). made_step list e.1 ≡ Some (Step.End e.0)) (map (λ number. (t, number)) (option_to_list end) ++ left) → IfSome end (λ number. made_step list number ≡ Some (Step.End t))
  end-made t None left h = tt
  end-made t (Some number) left h = h.0

  -- the next row
  row-holds : (t : ℕ) (tree : Tree) (takes : List PlayedTake) (ends : List (ℕ × ℕ)) (row : PlayedTree) (takes_left : List PlayedTake) (ends_left : List (ℕ × ℕ)) → numbered trace t ≡ Some tree → AllByRecursion (TakeIsPlayed start trace list) takes → AllByRecursion (λ (e : ℕ × ℕ). made_step list e.1 ≡ Some (Step.End e.0)) ends → TakesRow start.desk t tree (live_domain start.policy tree.start) takes ends row takes_left ends_left → RowHolds (scene_of start trace book) list t tree (row_of row)
  row-holds t tree takes ends row takes_left ends_left there played made r =
      let own = r.of_tree.own in
      record {
        played =
            record {
              pids = r.of_tree.are.pids;
              cases =
                  cases-legal (tree_cases t (at_start start.policy tree) tree.records row.takes) own r.of_tree.are.stand
                  (λ k c one is at.
                  case-asks trace t 1 tree tree.records there
                  (λ j item has. let same : suc j ≡ 1 + j = omega arith in subst (λ (i : ℕ). numbered tree.records i ≡ Some item) same has)
                  (at_start start.policy tree) row.takes k c one.place is
                  (subst (λ (l : List RecordPlace). slice_get l k ≡ Some one.place) r.of_tree.are.places (get-mapped (λ (p : PlayedTake). p.place) own k one at)))
                  (All-left (TakeIsPlayed start trace list) own takes_left (subst (AllByRecursion (TakeIsPlayed start trace list)) r.of_tree.all played));
            };
        ended = r.end.0 ∙ sym stands;
        end_is = end-made t row.end ends_left (subst (λ (l : List (ℕ × ℕ)). AllByRecursion (λ (e : ℕ × ℕ). made_step list e.1 ≡ Some (Step.End e.0)) l) r.end.1 made);
        above = r.above;
      }

  pub rows-hold : (t : ℕ) (its : Trace) (takes : List PlayedTake) (ends : List (ℕ × ℕ)) (rows : List PlayedTree) → ((j : ℕ) (tree : Tree) → slice_get its j ≡ Some tree → numbered trace (t + j) ≡ Some tree) → AllByRecursion (TakeIsPlayed start trace list) takes → AllByRecursion (λ (e : ℕ × ℕ). made_step list e.1 ≡ Some (Step.End e.0)) ends → RowsAreOf start.desk t its (homes_of start.policy its) takes ends rows → EachRow (RowHolds (scene_of start trace book) list) t its (map row_of rows)
  rows-hold t [] takes ends [] each played made h = tt
  rows-hold t [] takes ends (row ∷ rows) each played made h = absurd h
  rows-hold t (tree ∷ its) takes ends [] each played made h = absurd h
  rows-hold t (tree ∷ its) takes ends (row ∷ rows) each played made (takes_left, ends_left, r, rest) = (
    row-holds t tree takes ends row takes_left ends_left
        (subst (λ (i : ℕ). numbered trace i ≡ Some tree) (omega arith) (each 0 tree refl)) played made r,
    rows-hold (suc t) its takes_left ends_left rows
        (λ j other is. subst (λ (i : ℕ). numbered trace i ≡ Some other) (omega arith) (each (suc j) other is))
        (All-right (TakeIsPlayed start trace list) r.of_tree.own takes_left (subst (AllByRecursion (TakeIsPlayed start trace list)) r.of_tree.all played))
        (All-right (λ (e : ℕ × ℕ). made_step list e.1 ≡ Some (Step.End e.0)) (map (λ number. (t, number)) (option_to_list row.end)) ends_left (subst (λ (l : List (ℕ × ℕ)). AllByRecursion (λ (e : ℕ × ℕ). made_step list e.1 ≡ Some (Step.End e.0)) l) r.end.1 made))
        rest,
  )
