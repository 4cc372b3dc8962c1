-- Where nobody can move: nothing is left to do, and the run is legal.
use Rattle.std.proofs.Common.{◌≡◌, ◌≤◌, ◌<◌, ℕ, zero, suc, ◌+◌, List, [], ◌∷◌, ◌++◌, length, map, true, true≢false, refl, sym, ap, ◌∙◌, subst, arith, inl, inr, ◌⊎◌, le_refl}
use Rattle.std.specs.Prelude.{Option, Some, None, is_some, slice_get, IsSome}
use Rattle.std.specs.List.{AllByRecursion}
use Rattle.std.specs.Option.{option_and_then}
use Rattle.std.proofs.lemmas.List.{map-append}
use Rattle.std.proofs.lemmas.Option.{slice_get_within}
use Rattle.std.proofs.lemmas.Bool.{cases_lt, eq-eqb}
use Rattle.tm_word.specs.Prelude.{Text}
use Rattle.tm_rules.specs.Types.{Book, Editor, FileKind, Turn}
use Rattle.tm_rules.specs.Prelude.{first_query, numbered}
use Rattle.tm_legal.specs.Prelude.{CanPlay, HasEnded, IsFinished, IsLegalTake, Legal, NobodyCanMove, Player, Scene, Supervised, SupervisorActs, TreesEnd, Way, cases_from, desk_turn, do_pids, editor_event, event, is_answer, is_of_supervisor, is_some_end, lines_of_editor, numbers_to, places, player_event, run_of, state_at, tree_event}
use Rattle.tm_legal.proofs.Histories.{All-push}
use Rattle.tm_legal.proofs.Walks.{All-map, is_over, WayHolds}
use Rattle.tm_legal.proofs.Counts.{way-at}
use Rattle.tm_legal.proofs.Desks.{Supervises, AfterDetach, AllOver}
use Rattle.tm_legal.proofs.Scripts.{script-editor, scripts-done, over_count, counted-all}
use Rattle.tm_legal.proofs.Players.{DeskHolds, PlayHolds}
use Rattle.tm_legal.proofs.Trees.{Idle, TreeMoves}
use Rattle.tm_legal.proofs.TakeEvents.{tree-moves}
use Rattle.tm_legal.proofs.Others.{EditorMoves, editor-moves}
use Rattle.tm_legal.proofs.DeskEvents.{DeskStill, DeskMoves, desk-moves}
use Rattle.tm_legal.proofs.Legality.{IsDone, takes_of, legal-of, all-cases, all-pids, all-own, tree-at, ended-of, Below, below-done, seen-below}

-- Lists

All-left : {A : Type 0} (P : A → Type 0) (xs ys : List A) → AllByRecursion P (xs ++ ys) → AllByRecursion P xs
All-left P [] ys h = tt
All-left P (x ∷ xs) ys h = (h.0, All-left P xs ys h.1)

All-right : {A : Type 0} (P : A → Type 0) (xs ys : List A) → AllByRecursion P (xs ++ ys) → AllByRecursion P ys
All-right P [] ys h = h
All-right P (x ∷ xs) ys h = All-right P xs ys h.1

All-number : (P : Turn → Type 0) (f : ℕ → Turn) (k n : ℕ) → n < k → AllByRecursion P (map f (numbers_to k)) → P (f (suc n))
All-number P f zero n lt all = absurd (omega arith)
All-number P f (suc k) n lt all = go (cases_lt n k) (All-number P f k n)
  where
    both : AllByRecursion P (map f (numbers_to k) ++ f (suc k) ∷ [])
    both = rw (map-append f (numbers_to k) (suc k ∷ [])) at all

    go : (n < k) ⊎ (k ≤ n) → (n < k → AllByRecursion P (map f (numbers_to k)) → P (f (suc n))) → P (f (suc n))
    go (inl less) front = front less (All-left P (map f (numbers_to k)) (f (suc k) ∷ []) both)
    go (inr most) front = subst (λ m. P (f (suc m))) (let same : k ≡ n = omega arith in same) (All-right P (map f (numbers_to k)) (f (suc k) ∷ []) both).0

all-from-get : {A : Type 0} (P : A → Type 0) (xs : List A) → ((n : ℕ) (x : A) → slice_get xs n ≡ Some x → P x) → AllByRecursion P xs
all-from-get P [] f = tt
all-from-get P (x ∷ xs) f = (f 0 x refl, all-from-get P xs (λ n y at. f (suc n) y at))

all-numbers : (P : ℕ → Type 0) (k : ℕ) → ((n : ℕ) → 0 < n → n ≤ k → P n) → AllByRecursion P (numbers_to k)
all-numbers P zero f = tt
all-numbers P (suc k) f = All-push P (numbers_to k) (suc k) (all-numbers P k (λ n pos le. f n pos (omega (arith, le)))) (f (suc k) (omega arith) (le_refl (suc k)))

some-at : {A : Type 0} (xs : List A) (k : ℕ) → k < length xs → (x : A) × (slice_get xs k ≡ Some x)
some-at [] k lt = absurd (omega arith)
some-at (x ∷ xs) zero lt = (x, refl)
some-at (x ∷ xs) (suc k) lt = some-at xs k (omega arith)

no-move : {A : Type 0} (x : A) (o : Option A) → o ≡ Some x → o ≡ None → ⊥
no-move x o is none = let both : Some x ≡ None = sym is ∙ none in cc

module _ (scene : Scene) (can : CanPlay scene) (player : Player) (h : PlayHolds scene player) (nobody : NobodyCanMove scene player) where
  -- Who has no event

  editors-still : AllByRecursion (λ who. event scene player who ≡ None) (map Turn.Editor (numbers_to (length scene.editors)))
  editors-still =
      All-left (λ who. event scene player who ≡ None) (map Turn.Editor (numbers_to (length scene.editors))) (map Turn.Tree (numbers_to (length scene.trace)))
      (All-left (λ who. event scene player who ≡ None) (map Turn.Editor (numbers_to (length scene.editors)) ++ map Turn.Tree (numbers_to (length scene.trace))) (Turn.Desk ∷ []) nobody)

  trees-still : AllByRecursion (λ who. event scene player who ≡ None) (map Turn.Tree (numbers_to (length scene.trace)))
  trees-still =
      All-right (λ who. event scene player who ≡ None) (map Turn.Editor (numbers_to (length scene.editors))) (map Turn.Tree (numbers_to (length scene.trace)))
      (All-left (λ who. event scene player who ≡ None) (map Turn.Editor (numbers_to (length scene.editors)) ++ map Turn.Tree (numbers_to (length scene.trace))) (Turn.Desk ∷ []) nobody)

  desk-still : event scene player Turn.Desk ≡ None
  desk-still = (All-right (λ who. event scene player who ≡ None) (map Turn.Editor (numbers_to (length scene.editors)) ++ map Turn.Tree (numbers_to (length scene.trace))) (Turn.Desk ∷ []) nobody).0

  no-tree : (n : ℕ) (way : Way) → slice_get player.ways n ≡ Some way → event scene player (Turn.Tree (suc n)) ≡ None
  no-tree n way at =
      let t = way-at (WayHolds scene player.steps player.state) 1 scene.trace player.ways n way h.ways at in
      let within : n < length scene.trace = slice_get_within scene.trace n t.tree t.there in
      All-number (λ who. event scene player who ≡ None) Turn.Tree (length scene.trace) n within trees-still

  no-line : (e : ℕ) (lines : List (FileKind × Text)) → slice_get player.scripts e ≡ Some lines → event scene player (Turn.Editor (suc e)) ≡ None
  no-line e lines at =
      let editor = script-editor player.steps 1 e lines scene.editors player.scripts at h.scripts in
      let within : e < length scene.editors = slice_get_within scene.editors e editor.0 editor.1 in
      All-number (λ who. event scene player who ≡ None) Turn.Editor (length scene.editors) e within editors-still

  -- The desk

  desk-is : (book : Book) → scene.book ≡ Some book → DeskStill scene player book
  unfolding event
  desk-is book is = go (desk-moves scene can.answers player h book is)
    where
      none : option_and_then (player_event scene.grammar player true) (desk_turn scene.grammar player book) ≡ None
      none = subst (λ (o : Option Book). option_and_then (λ b. option_and_then (player_event scene.grammar player true) (desk_turn scene.grammar player b)) o ≡ None) is desk-still

      go : DeskMoves scene player book (option_and_then (player_event scene.grammar player true) (desk_turn scene.grammar player book)) → DeskStill scene player book
      go (inl moved) = absurd (no-move moved.next (option_and_then (player_event scene.grammar player true) (desk_turn scene.grammar player book)) moved.is none)
      go (inr still) = still.1

  -- no query is held
  pub no-query : first_query player.state.queries ≡ None
  unfolding first_query
  no-query = by_book scene.book refl
    where
      lone : (o : Option Book) → o ≡ None → DeskHolds scene player.steps player.state o → player.state.queries.all ≡ []
      lone None e held = held.2
      lone (Some book) e held = absurd cc

      by_still : (book : Book) → DeskStill scene player book → first_query player.state.queries ≡ None
      by_still book (DeskStill.Left a) = a.unasked
      by_still book (DeskStill.Open none e) = none

      by_book : (o : Option Book) → scene.book ≡ o → first_query player.state.queries ≡ None
      by_book None is = rw (lone scene.book is h.base.desk) refl
      by_book (Some book) is = by_still book (desk-is book is)

  -- Trees

  tree-idle : (n : ℕ) (way : Way) → slice_get player.ways n ≡ Some way → Idle scene player n way
  unfolding event player_event
  tree-idle n way at = go (tree-moves scene can.grammar player n way h at (is_some scene.book) refl)
    where
      by_still : Idle scene player n way ⊎ IsSome (first_query player.state.queries) → Idle scene player n way
      by_still (inl idle) = idle
      by_still (inr held) = absurd (true≢false (sym held ∙ rw no-query refl))

      go : TreeMoves scene player n way (tree_event scene.grammar player (is_some scene.book) (suc n)) → Idle scene player n way
      go (inl moved) = absurd (no-move moved.next (tree_event scene.grammar player (is_some scene.book) (suc n)) moved.is (no-tree n way at))
      go (inr still) = by_still still.1

  all-done : AllByRecursion IsDone player.ways
  all-done = all-from-get IsDone player.ways (λ n way at. let idle = tree-idle n way at in record { idle = idle.idle; empty = idle.empty })

  -- every tree has ended, where there is a book
  all-over : is_some scene.book ≡ true → AllOver player.state
  all-over desk zero pos le = absurd (omega arith)
  all-over desk (suc n) pos le =
      let lt : n < length scene.trace = rw h.base.trees at le in
      let tree = some-at scene.trace n lt in
      let way = tree-at (WayHolds scene player.steps player.state) 1 scene.trace player.ways n tree.0 h.ways tree.1 in
      (tree-idle n way.0 way.1).over desk

  -- Editors

  line-done : (e : ℕ) (lines : List (FileKind × Text)) → slice_get player.scripts e ≡ Some lines → lines ≡ []
  unfolding event player_event
  line-done e lines at = go (editor-moves scene can.grammar player h e)
    where
      go : EditorMoves scene player e (editor_event scene.grammar player (suc e)) → lines ≡ []
      go (inl moved) = absurd (no-move moved.next (editor_event scene.grammar player (suc e)) moved.is (no-line e lines at))
      go (inr still) = still.1 lines at

  all-lines : AllByRecursion (λ (lines : List (FileKind × Text)). lines ≡ []) player.scripts
  all-lines = all-from-get (λ (lines : List (FileKind × Text)). lines ≡ []) player.scripts line-done

  -- nothing is left to do
  pub finished : IsFinished (is_some scene.book) player
  finished =
      record {
        takes = All-map IsDone (λ (way : Way). way.begun ≡ None) player.ways (λ way done. done.idle) all-done;
        requests = All-map IsDone (λ (way : Way). do_pids way.items ≡ []) player.ways (λ way done. done.empty) all-done;
        lines = all-lines;
        queries = no-query;
        ends = λ desk. all-numbers (HasEnded player.state) player.state.trees (all-over desk);
      }

  -- no turn has an event
  pub nobody-moves : (who : Turn) → event scene player who ≡ None
  unfolding event player_event tree_event
  nobody-moves (Turn.Tree zero) = refl
  nobody-moves (Turn.Tree (suc n)) = by_way (slice_get player.ways n) refl
    where
      by_way : (o : Option Way) → slice_get player.ways n ≡ o → event scene player (Turn.Tree (suc n)) ≡ None
      by_way None at = rw at refl
      by_way (Some way) at = no-tree n way at
  nobody-moves (Turn.Editor zero) = refl
  nobody-moves (Turn.Editor (suc e)) = by_lines (slice_get player.scripts e) refl
    where
      by_lines : (o : Option (List (FileKind × Text))) → slice_get player.scripts e ≡ o → event scene player (Turn.Editor (suc e)) ≡ None
      by_lines None at = rw at refl
      by_lines (Some lines) at = no-line e lines at
  nobody-moves Turn.Desk = desk-still
  nobody-moves Turn.Attach = refl
  nobody-moves (Turn.Answer serial code) = refl
  nobody-moves Turn.Detach = refl

  -- The supervisor has left

  has-left : (book : Book) → scene.book ≡ Some book → AfterDetach scene player.steps player.state book
  has-left book is = go (desk-is book is)
    where
      desk : is_some scene.book ≡ true
      desk = ap is_some is

      go : DeskStill scene player book → AfterDetach scene player.steps player.state book
      go (DeskStill.Left a) = a
      go (DeskStill.Open none e) =
          let full : over_count (length scene.trace) player.state.ended ≡ length scene.trace = counted-all (length scene.trace) player.state.ended (λ t pos le. all-over desk t pos (rw h.base.trees le)) in
          let same : length player.state.ended ≡ player.state.trees = h.base.ends ∙ full ∙ sym h.base.trees in
          absurd (true≢false (sym (eq-eqb (length player.state.ended) player.state.trees same) ∙ e))

  supervised : (book : Book) → Supervises scene player.steps player.state book → AfterDetach scene player.steps player.state book → Supervised scene player.steps book
  supervised book did a =
      record {
        attach = a.attach;
        detach = a.detach;
        attached_once = a.attached_once;
        detached_once = a.detached_once;
        attached_first = a.attached_first;
        answers_between = a.answers_between;
        answers_enough = did.enough;
        by_book = did.by_book;
        due = was_due a.due;
      }
    where
      was_due : (book.stop ≡ Some (length (places is_answer player.steps))) ⊎ (AllByRecursion (λ end. end < a.detach) (places is_some_end player.steps) × ((version : ℕ) → suc version ≡ a.detach → first_query (state_at scene player.steps version).queries ≡ None) × AllOver player.state) → (book.stop ≡ Some (length (places is_answer player.steps))) ⊎ (AllByRecursion (λ end. end < a.detach) (places is_some_end player.steps) × ((version : ℕ) → suc version ≡ a.detach → first_query (state_at scene player.steps version).queries ≡ None))
      was_due (inl stop) = inl stop
      was_due (inr (before, none, over)) = inr (before, none)

  -- each tree has one end, above all that it has seen
  trees-end : is_some scene.book ≡ true → TreesEnd scene (run_of player)
  trees-end desk zero tree there = absurd cc
  trees-end desk (suc n) tree there =
      let way = tree-at (WayHolds scene player.steps player.state) 1 scene.trace player.ways n tree h.ways there in
      let number : 1 + n ≡ suc n = omega arith in
      let holds : WayHolds scene player.steps player.state (suc n) tree way.0 = subst (λ k. WayHolds scene player.steps player.state k tree way.0) number way.2 in
      let over : is_over (suc n) player.state.ended ≡ true = (tree-idle n way.0 way.1).over desk in
      let ended = ended-of scene player.steps player.state (suc n) tree way.0 holds over in (
        ended.end,
        ended.once,
        seen-below (suc n) ended.end (cases_from 1 scene.policy scene.trace (takes_of player.ways))
            (all-cases scene player.steps player.state (Below (suc n) ended.end) (below-done scene player.steps player.state (suc n) ended.end ended.once over) 1 scene.trace player.ways h.ways all-done),
      )

  acts : SupervisorActs scene (run_of player)
  acts = by_book scene.book refl
    where
      lone : (o : Option Book) → o ≡ None → DeskHolds scene player.steps player.state o → places is_of_supervisor player.steps ≡ []
      lone None e held = held.0
      lone (Some book) e held = absurd cc

      did : (o : Option Book) (book : Book) → o ≡ Some book → DeskHolds scene player.steps player.state o → Supervises scene player.steps player.state book
      did None book e held = absurd cc
      did (Some other) book e held = subst (Supervises scene player.steps player.state) (let same : other ≡ book = cc in same) held

      by_book : (o : Option Book) → scene.book ≡ o → SupervisorActs scene (run_of player)
      by_book None is = subst (λ (o : Option Book). SupervisorActs (record scene { book = o }) (run_of player)) (sym is) (lone scene.book is h.base.desk)
      by_book (Some book) is =
          let all : Supervised scene player.steps book = supervised book (did scene.book book is h.base.desk) (has-left book is) in
          let ends : TreesEnd scene (run_of player) = trees-end (ap is_some is) in
          let other : Supervised (record scene { book = Some book }) player.steps book = record {
            attach = all.attach;
            detach = all.detach;
            attached_once = all.attached_once;
            detached_once = all.detached_once;
            attached_first = all.attached_first;
            answers_between = all.answers_between;
            answers_enough = all.answers_enough;
            by_book = all.by_book;
            due = all.due;
          } in
          subst (λ (o : Option Book). SupervisorActs (record scene { book = o }) (run_of player)) (sym is) (other, ends)

  -- the run is legal
  pub legal : Legal scene (run_of player)
  legal =
      legal-of scene (run_of player) (all-pids scene player.steps player.state 1 scene.trace player.ways h.ways all-done)
      (all-cases scene player.steps player.state (IsLegalTake scene player.steps) (λ t tree way held. held.ended) 1 scene.trace player.ways h.ways all-done)
      (record { own = λ n. all-own n player.ways all-done ∙ h.counted n; edits = edits; replies = h.base.sane.true_to.replies })
      acts
    where
      edits : (e : ℕ) (editor : Editor) → numbered scene.editors e ≡ Some editor → lines_of_editor e player.steps ≡ editor.lines
      edits zero editor there = absurd cc
      edits (suc n) editor there = let number : suc n ≡ 1 + n = omega arith in rw number (scripts-done player.steps 1 n editor scene.editors player.scripts all-lines there h.scripts)
