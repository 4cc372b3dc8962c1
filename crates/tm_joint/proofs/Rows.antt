-- The rows of all trees: their takes are the run's, their own steps and their ends are of their
-- kinds, and each tree ends above all that it has seen.
use Rattle.std.proofs.Common.{◌≡◌, ℕ, zero, suc, ◌+◌, List, [], ◌∷◌, ◌++◌, length, map, take, drop, Bool, true, false, refl, sym, ap, ◌∙◌, subst, arith}
use Rattle.std.specs.Prelude.{Option, Some, None, if◌then◌else◌, slice_get, flat_map, is_some, option_to_list, IfSome}
use Rattle.std.specs.List.{AllByRecursion}
use Rattle.std.proofs.lemmas.Bool.{eq-eqb}
use Rattle.std.proofs.lemmas.List.{length-map, map-append}
use Rattle.std.proofs.lemmas.Grind.{flat_map-append}
use Rattle.tm_rules.specs.Types.{Entry, Item, Look, Made, Mode, Move, NamePlace, Reason, Step, Take, Tree, Verdict}
use Rattle.tm_rules.specs.Prelude.{DomainName, Grammar, Trace}
use Rattle.tm_legal.specs.Prelude.{Case, IsLegalTake, LookDone, Scene, Situations, Subject, after_take, all_do_pids, at_start, cases_from, do_pids, forked, is_end, is_own, look_grants, own_numbers, retry_written, step_at, steps_asked, steps_of_line, steps_of_move, subject_of, times, tree_cases, with_ids, with_situation}
use Rattle.tm_legal.proofs.Laws.{times-append}
use Rattle.tm_legal.proofs.Asked.{All-append}
use Rattle.tm_legal.proofs.Walks.{All-map}
use Rattle.tm_made.specs.Made.{history_made, made_step}
use Rattle.tm_joint.specs.Played.{Row, row_own, RowHolds, EachRow}
use Rattle.tm_joint.specs.Joint.{takes_in}
use Rattle.tm_made.proofs.Telling.{step_at-made}
use Rattle.tm_joint.proofs.NumberKinds.{OfKind, EachKind}

-- Lists

pub All-left : {A : Type 0} (P : A → Type 0) (xs ys : List A) → AllByRecursion P (xs ++ ys) → AllByRecursion P xs
All-left P [] ys h = tt
All-left P (x ∷ xs) ys h = (h.0, All-left P xs ys h.1)

pub All-right : {A : Type 0} (P : A → Type 0) (xs ys : List A) → AllByRecursion P (xs ++ ys) → AllByRecursion P ys
All-right P [] ys h = h
All-right P (x ∷ xs) ys h = All-right P xs ys h.1

pub All-flat : {A B : Type 0} (P : B → Type 0) (f : A → List B) (xs : List A) → AllByRecursion (λ x. AllByRecursion P (f x)) xs → AllByRecursion P (flat_map f xs)
All-flat P f [] h = tt
All-flat P f (x ∷ xs) h = All-append P (f x) (flat_map f xs) h.0 (All-flat P f xs h.1)

take-front : {A : Type 0} (xs ys : List A) → take (length xs) (xs ++ ys) ≡ xs
take-front [] ys = refl
take-front (x ∷ xs) ys = ap (λ zs. x ∷ zs) (take-front xs ys)

drop-front : {A : Type 0} (xs ys : List A) → drop (length xs) (xs ++ ys) ≡ ys
drop-front [] ys = refl
drop-front (x ∷ xs) ys = drop-front xs ys

-- Steps that are asked are own steps

line-own : (g : Grammar) (d retry : ℕ) (mode : Option Mode) (reason : Reason) (name : NamePlace) (step : Move) (target : Option DomainName) (line : Option Entry) → (let v : Verdict = record { mode = mode; reason = reason; name = name; step = step; target = target; line = line } in AllByRecursion (λ s. is_own s ≡ true) (steps_of_line g d retry v))
line-own g d retry mode Reason.Learn name step target (Some line) = (refl, tt)
line-own g d retry mode Reason.Learn name step target None = tt
line-own g d retry mode Reason.Ask name step target (Some line) = (refl, tt)
line-own g d retry mode Reason.Ask name step target None = tt
line-own g d retry mode (Reason.Entry place) name step target line = tt
line-own g d retry mode Reason.Disabled name step target line = tt
line-own g d retry mode Reason.Permissive name step target line = tt
line-own g d retry mode Reason.Quota name step target line = tt
line-own g d retry mode Reason.NoEntry name step target line = tt
line-own g d retry mode Reason.NotReady name step target line = tt
line-own g d retry mode Reason.NoManual name step target line = tt

move-own : (d : ℕ) (mode : Option Mode) (reason : Reason) (name : NamePlace) (step : Move) (target : Option DomainName) (line : Option Entry) → (let v : Verdict = record { mode = mode; reason = reason; name = name; step = step; target = target; line = line } in AllByRecursion (λ s. is_own s ≡ true) (steps_of_move d v))
move-own d mode reason name Move.Stay target line = tt
move-own d mode reason name (Move.Enter n) target line = tt
move-own d mode reason name Move.Make (Some made) line = (refl, tt)
move-own d mode reason name Move.Make None line = tt
move-own d mode reason name Move.Fail target line = (refl, tt)

pub asked-own : (g : Grammar) (d retry : ℕ) (v : Verdict) (granted : Bool) → AllByRecursion (λ s. is_own s ≡ true) (steps_asked g d retry v granted)
unfolding steps_asked
asked-own g d retry v granted =
    All-append (λ s. is_own s ≡ true) (steps_of_line g d retry v) (if granted then steps_of_move d v else [])
    (line-own g d retry v.mode v.reason v.name v.step v.target v.line) (go granted)
  where
    go : (b : Bool) → AllByRecursion (λ s. is_own s ≡ true) (if b then steps_of_move d v else [])
    go true = move-own d v.mode v.reason v.name v.step v.target v.line
    go false = tt

-- numbers whose steps are these
looked-up : (at : ℕ → Option Step) (ns : List ℕ) (steps : List Step) → map at ns ≡ map Some steps → AllByRecursion (λ s. is_own s ≡ true) steps → AllByRecursion (λ n. (step : Step) × (at n ≡ Some step) × (is_own step ≡ true)) ns
looked-up at [] steps h own = tt
looked-up at (n ∷ ns) [] h own = absurd cc
looked-up at (n ∷ ns) (step ∷ steps) h own =
    let first : at n ≡ Some step = cc in
    let rest : map at ns ≡ map Some steps = cc in
    ((step, first, own.0), looked-up at ns steps rest own.1)

-- the own steps of a look that is done
look-own : (scene : Scene) (list : List Made) (s : Subject) (look : Look) → LookDone scene (history_made scene list) s look → OfKind is_own list look.own
look-own scene list s look h =
    let asked = rw h.holds.1 at h.owns.asked in
    All-map (λ n. (step : Step) × (step_at (history_made scene list) n ≡ Some step) × (is_own step ≡ true)) (λ n. (step : Step) × (made_step list n ≡ Some step) × (is_own step ≡ true)) look.own
    (λ n found. (found.0, sym (step_at-made scene list n) ∙ found.1, found.2))
    (looked-up (step_at (history_made scene list)) look.own (steps_asked scene.grammar s.domain (retry_written (history_made scene list) look) h.holds.0 (look_grants look)) asked
    (asked-own scene.grammar s.domain (retry_written (history_made scene list) look) h.holds.0 (look_grants look)))

-- the numbers of the own steps of a take
abbrev pub own_of : Take → List ℕ
own_of t = flat_map (λ (look : Look). look.own) t.looks

take-own : (scene : Scene) (list : List Made) (c : Case) → IsLegalTake scene (history_made scene list) c → OfKind is_own list (own_of c.taken)
take-own scene list c h =
    All-flat (λ n. (step : Step) × (made_step list n ≡ Some step) × (is_own step ≡ true)) (λ (look : Look). look.own) c.taken.looks
    (All-map (LookDone scene (history_made scene list) (subject_of c)) (λ (look : Look). OfKind is_own list look.own) c.taken.looks (look-own scene list (subject_of c)) h.looks)

-- Takes by their lines

-- what the lines say of their takes holds of all takes
pub cases-takes : (Q : Case → Type 0) (P : Take → Type 0) → ((c : Case) → Q c → P c.taken) → (t : ℕ) (at : Situations) (items : List Item) (takes : List Take) → length takes ≡ length (do_pids items) → AllByRecursion Q (tree_cases t at items takes) → AllByRecursion P takes
unfolding tree_cases
cases-takes Q P f t at [] [] e h = tt
cases-takes Q P f t at [] (k ∷ takes) e h = absurd (omega arith)
cases-takes Q P f t at (Item.Ids pid ids ∷ items) takes e h = cases-takes Q P f t (with_situation at pid (with_ids (at pid) ids)) items takes e h
cases-takes Q P f t at (Item.Fork pid child ∷ items) takes e h = cases-takes Q P f t (with_situation at child (forked (at pid) child)) items takes e h
cases-takes Q P f t at (Item.Do pid request ∷ items) [] e h = absurd (omega arith)
cases-takes Q P f t at (Item.Do pid request ∷ items) (k ∷ takes) e h =
    (f (let c : Case = record { tree = t; now = at pid; request = request; taken = k } in c) h.0, cases-takes Q P f t (with_situation at pid (after_take (at pid) k)) items takes (omega arith) h.1)

-- what holds of all takes holds of those of the lines, with the number of their tree
pub takes-cases : (P : Take → Type 0) (t : ℕ) (at : Situations) (items : List Item) (takes : List Take) → AllByRecursion P takes → AllByRecursion (λ (c : Case). (c.tree ≡ t) × P c.taken) (tree_cases t at items takes)
unfolding tree_cases
takes-cases P t at [] takes h = tt
takes-cases P t at (Item.Ids pid ids ∷ items) takes h = takes-cases P t (with_situation at pid (with_ids (at pid) ids)) items takes h
takes-cases P t at (Item.Fork pid child ∷ items) takes h = takes-cases P t (with_situation at child (forked (at pid) child)) items takes h
takes-cases P t at (Item.Do pid request ∷ items) [] h = tt
takes-cases P t at (Item.Do pid request ∷ items) (k ∷ takes) h = ((refl, h.0), takes-cases P t (with_situation at pid (after_take (at pid) k)) items takes h.1)

-- All rows

-- the row of a tree
pub row-at : (P : ℕ → Tree → Row → Type 0) (t : ℕ) (trees : Trace) (rows : List Row) (n : ℕ) (tree : Tree) → EachRow P t trees rows → slice_get trees n ≡ Some tree → (row : Row) × (slice_get rows n ≡ Some row) × P (t + n) tree row
row-at P t [] [] n tree each at = absurd cc
row-at P t [] (r ∷ rows) n tree each at = absurd each
row-at P t (x ∷ trees) [] n tree each at = absurd each
row-at P t (x ∷ trees) (r ∷ rows) zero tree each at =
    let same : x ≡ tree = cc in
    let number : t + 0 ≡ t = omega arith in
    (r, refl, rw number (subst (λ y. P t y r) same each.0))
row-at P t (x ∷ trees) (r ∷ rows) (suc n) tree each at =
    let rest = row-at P (suc t) trees rows n tree each.1 at in
    let number : t + suc n ≡ suc t + n = omega arith in
    (rest.0, rest.1, rw number rest.2)

-- the ends of all rows, one list a row
abbrev pub ends_in : List Row → List (List ℕ)
ends_in rows = map (λ (row : Row). option_to_list row.end) rows

both-sums : (x p q r t u w c e : ℕ) → x ≡ p + q → p ≡ r + t → c ≡ r + u → e ≡ t + w → q ≡ u + w → x ≡ c + e
both-sums x p q r t u w c e h1 h2 h3 h4 h5 = omega arith

-- what the trees have made are the own steps of all takes, and the ends
pub dealt-rows : (n : ℕ) (rows : List Row) → times n (flat_map row_own rows) ≡ times n (own_numbers (takes_in rows)) + times n (flat_map (λ (ns : List ℕ). ns) (ends_in rows))
dealt-rows n [] = omega arith
dealt-rows n (row ∷ rows) =
    both-sums (times n (flat_map row_own (row ∷ rows))) (times n (row_own row)) (times n (flat_map row_own rows)) (times n (own_numbers row.takes)) (times n (option_to_list row.end)) (times n (own_numbers (takes_in rows))) (times n (flat_map (λ (ns : List ℕ). ns) (ends_in rows))) (times n (own_numbers (takes_in (row ∷ rows)))) (times n (flat_map (λ (ns : List ℕ). ns) (ends_in (row ∷ rows))))
    (times-append n (row_own row) (flat_map row_own rows))
    (times-append n (own_numbers row.takes) (option_to_list row.end))
    (ap (times n) (flat_map-append own_of row.takes (takes_in rows)) ∙ times-append n (own_numbers row.takes) (own_numbers (takes_in rows)))
    (times-append n (option_to_list row.end) (flat_map (λ (ns : List ℕ). ns) (ends_in rows)))
    (dealt-rows n rows)

module _ (scene : Scene) (list : List Made) where
  row-long : (t : ℕ) (tree : Tree) (row : Row) → RowHolds scene list t tree row → length row.takes ≡ length (do_pids tree.records)
  row-long t tree row h = sym (length-map row.takes (λ (k : Take). k.pid)) ∙ ap length h.played.pids

  -- of all takes
  pub rows-takes : (P : Take → Type 0) → ((c : Case) → IsLegalTake scene (history_made scene list) c → P c.taken) → (t : ℕ) (trees : Trace) (rows : List Row) → EachRow (RowHolds scene list) t trees rows → AllByRecursion P (takes_in rows)
  rows-takes P f t [] [] each = tt
  rows-takes P f t [] (row ∷ rows) each = absurd each
  rows-takes P f t (tree ∷ trees) [] each = absurd each
  rows-takes P f t (tree ∷ trees) (row ∷ rows) each =
      All-append P row.takes (takes_in rows)
      (cases-takes (IsLegalTake scene (history_made scene list)) P f t (at_start scene.policy tree) tree.records row.takes (row-long t tree row each.0) each.0.played.cases)
      (rows-takes P f (suc t) trees rows each.1)

  -- of all lines
  pub rows-cases : (Q : Case → Type 0) → ((t : ℕ) (tree : Tree) (row : Row) → RowHolds scene list t tree row → AllByRecursion Q (tree_cases t (at_start scene.policy tree) tree.records row.takes)) → (t : ℕ) (trees : Trace) (rows : List Row) → EachRow (RowHolds scene list) t trees rows → AllByRecursion Q (cases_from t scene.policy trees (takes_in rows))
  unfolding cases_from
  rows-cases Q f t [] [] each = tt
  rows-cases Q f t [] (row ∷ rows) each = absurd each
  rows-cases Q f t (tree ∷ trees) [] each = absurd each
  rows-cases Q f t (tree ∷ trees) (row ∷ rows) each =
      let long : length (do_pids tree.records) ≡ length row.takes = sym (row-long t tree row each.0) in
      let own : take (length (do_pids tree.records)) (row.takes ++ takes_in rows) ≡ row.takes = rw long (take-front row.takes (takes_in rows)) in
      let later : drop (length (do_pids tree.records)) (row.takes ++ takes_in rows) ≡ takes_in rows = rw long (drop-front row.takes (takes_in rows)) in
      All-append Q (tree_cases t (at_start scene.policy tree) tree.records (take (length (do_pids tree.records)) (row.takes ++ takes_in rows))) (cases_from (suc t) scene.policy trees (drop (length (do_pids tree.records)) (row.takes ++ takes_in rows)))
      (rw own (f t tree row each.0))
      (rw later (rows-cases Q f (suc t) trees rows each.1))

  pub rows-pids : (t : ℕ) (trees : Trace) (rows : List Row) → EachRow (RowHolds scene list) t trees rows → map (λ (k : Take). k.pid) (takes_in rows) ≡ all_do_pids trees
  rows-pids t [] [] each = refl
  rows-pids t [] (row ∷ rows) each = absurd each
  rows-pids t (tree ∷ trees) [] each = absurd each
  rows-pids t (tree ∷ trees) (row ∷ rows) each = rw (map-append (λ (k : Take). k.pid) row.takes (takes_in rows), each.0.played.pids, rows-pids (suc t) trees rows each.1) refl

  -- the numbers of own steps name own steps
  pub rows-own : (t : ℕ) (trees : Trace) (rows : List Row) → EachRow (RowHolds scene list) t trees rows → OfKind is_own list (own_numbers (takes_in rows))
  rows-own t trees rows each =
      All-flat (λ n. (step : Step) × (made_step list n ≡ Some step) × (is_own step ≡ true)) own_of (takes_in rows) (rows-takes (λ (k : Take). OfKind is_own list (own_of k)) (take-own scene list) t trees rows each)

  -- each row's end is its tree's
  pub rows-ends : (t : ℕ) (trees : Trace) (rows : List Row) → EachRow (RowHolds scene list) t trees rows → EachKind is_end list t (ends_in rows)
  rows-ends t [] [] each = tt
  rows-ends t [] (row ∷ rows) each = absurd each
  rows-ends t (tree ∷ trees) [] each = absurd each
  rows-ends t (tree ∷ trees) (row ∷ rows) each = (one row.end each.0.end_is, rows-ends (suc t) trees rows each.1)
    where
      one : (o : Option ℕ) → IfSome o (λ n. made_step list n ≡ Some (Step.End t)) → OfKind (is_end t) list (option_to_list o)
      one None is = tt
      one (Some n) is = ((Step.End t, is, eq-eqb t t refl), tt)

  -- without a book no tree has an end
  pub rows-lone : (t : ℕ) (trees : Trace) (rows : List Row) → EachRow (RowHolds scene list) t trees rows → is_some scene.book ≡ false → flat_map (λ (ns : List ℕ). ns) (ends_in rows) ≡ []
  rows-lone t [] [] each none = refl
  rows-lone t [] (row ∷ rows) each none = absurd each
  rows-lone t (tree ∷ trees) [] each none = absurd each
  rows-lone t (tree ∷ trees) (row ∷ rows) each none = one row.end (each.0.ended ∙ none) (rows-lone (suc t) trees rows each.1 none)
    where
      one : (o : Option ℕ) → is_some o ≡ false → flat_map (λ (ns : List ℕ). ns) (ends_in rows) ≡ [] → option_to_list o ++ flat_map (λ (ns : List ℕ). ns) (ends_in rows) ≡ []
      one None e rest = rest
      one (Some n) e rest = absurd cc
