-- What the events of the code's player are.
use Rattle.std.proofs.Common.{◌≡◌, ℕ, zero, suc, ◌-◌, ◌<◌, ◌≤◌, Bool, true, false, not, List, [], ◌∷◌, ◌++◌, length, map, refl, sym, ap, ◌∙◌, subst, inl, inr, arith}
use Rattle.std.specs.Prelude.{Option, Some, None, Result, Ok, Err, IfOk, OnOk, IsSome, option_map, is_some, slice_get, slice_set, slice_index_or, unwrap_or, if◌then◌else◌}
use Rattle.std.specs.Option.{option_and_then, option_map_or}
use Rattle.tm_word.specs.Prelude.{Text}
use Rattle.tm_rules.specs.Prelude.{Cursor, Trace, is_manager, numbered, when}
use Rattle.tm_rules.specs.Types.{Book, Editor, FileKind, Maker, Reply, Start, Step, Turn}
use Rattle.tm_audit.specs.Tomoyo.{tomoyo_grammar}
use Rattle.tm_legal.specs.Prelude.{Applied, CanGoOn, CanPlay, Needs, Player, Scene, State, Way, apply, edit_step, editor_event, line_event, opening, own_turn, own_turns, player_event, start_of, supervisor_step, tree_event, unfit}
use Rattle.tm_legal.proofs.NeedsLaws.{can-go-on, own-turns-can}
use Rattle.tm_machine.specs.Machine.{Course}
use Rattle.tm_take.specs.Ways.{awaited}
use Rattle.tm_core.specs.Scenes.{scene_of, IsReached, IsLed, Answers}
use Rattle.tm_core.specs.Moves.{at_course, Makes, IsMadeByTree, AddsAtMost, IsMadeBy, TreeMoves}
use Rattle.tm_core.specs.Players.{way_at_start, supervisor_event}
use Rattle.tm_core.proofs.TreeLaws.{settled}

-- Lists

pub map-get : {A B : Type 0} (f : A → B) (xs : List A) (k : ℕ) (x : A) → slice_get xs k ≡ Some x → slice_get (map f xs) k ≡ Some (f x)
map-get f [] k x at = absurd cc
map-get f (y ∷ ys) zero x at = let e : y ≡ x = cc in rw e refl
map-get f (y ∷ ys) (suc k) x at = map-get f ys k x at

map-set : {A B : Type 0} (f : A → B) (xs : List A) (k : ℕ) (x : A) → map f (slice_set xs k x) ≡ slice_set (map f xs) k (f x)
map-set f [] k x = refl
map-set f (y ∷ ys) zero x = refl
map-set f (y ∷ ys) (suc k) x = ap (λ t. f y ∷ t) (map-set f ys k x)

pub get-index : {A : Type 0} (xs : List A) (k : ℕ) (x : A) → k < length xs → x ≡ slice_index_or xs k x → slice_get xs k ≡ Some x
get-index [] k x lt is = absurd (omega arith)
get-index (y ∷ ys) zero x lt is = ap (λ z. Some z) (sym is)
get-index (y ∷ ys) (suc k) x lt is = get-index ys k x (omega arith) is

get-past : {A : Type 0} (xs : List A) (k : ℕ) → length xs ≤ k → slice_get xs k ≡ None
get-past [] k le = refl
get-past (y ∷ ys) zero le = absurd (omega arith)
get-past (y ∷ ys) (suc k) le = get-past ys k (omega arith)

map-length : {A B : Type 0} (f : A → B) (xs : List A) → length (map f xs) ≡ length xs
map-length f [] = refl
map-length f (x ∷ xs) = ap suc (map-length f xs)

-- Results

-- The beginning

pub starts-so : (course : Course) (trace : Trace) (book : Book) (ways : List Way) (scripts : List (List (FileKind × Text))) → course.made ≡ [] → course.state ≡ opening course.start → length trace ≡ course.start.trees
    → ways ≡ map (way_at_start course.state.policy) trace → scripts ≡ map (λ (editor : Editor). editor.lines) course.start.editors → at_course course ways scripts ≡ start_of (scene_of course.start trace book)
starts-so course trace book ways scripts made opened trees w s = rw (w, s, made, opened, trees) refl

-- Whatever turns have led to it, a player can go on

pub reached-goes : (trace : Trace) (book : Book) (course : Course) (player : Player) → IsReached trace book course player → CanGoOn tomoyo_grammar player
reached-goes trace book course player h = subst (CanGoOn tomoyo_grammar) (sym h.led) (can-go-on (scene_of course.start trace book) h.schedule h.can)

-- a supervisor stands where the scene has a book
desk-stands : (desk : Bool) (book : Book) → is_some (if desk then Some book else None) ≡ desk
desk-stands true book = refl
desk-stands false book = refl

-- the same whoever has answered
pub led-goes : (trace : Trace) (book : Book) (course : Course) (player : Player) → IsLed trace book course player → CanGoOn tomoyo_grammar player
led-goes trace book course player h =
    let scene : Scene = scene_of course.start trace book in
    let own : player ≡ own_turns tomoyo_grammar (is_some scene.book) (start_of scene) h.list = h.led ∙ ap (λ desk. own_turns tomoyo_grammar desk (start_of scene) h.list) (sym (desk-stands course.start.desk book)) in
    subst (CanGoOn tomoyo_grammar) (sym own) (own-turns-can scene h.list h.can)

-- one turn more, after others
own-append : (desk : Bool) (player : Player) (list : List Turn) (who : Turn) → own_turns tomoyo_grammar desk player (list ++ who ∷ []) ≡ own_turn tomoyo_grammar desk (own_turns tomoyo_grammar desk player list) who
unfolding own_turns
own-append desk player [] who = refl
own-append desk player (first ∷ rest) who = own-append desk (own_turn tomoyo_grammar desk player first) rest who

-- where it has had its event, or had none
own-turn-is : (desk : Bool) (player next : Player) (who : Turn) (moved : Bool) → Answers moved (player_event tomoyo_grammar player desk who) next player → next ≡ own_turn tomoyo_grammar desk player who
unfolding own_turn
own-turn-is desk player next who true had = rw had refl
own-turn-is desk player next who false had = rw had.0 had.1

led-on : (trace : Trace) (book : Book) (course later : Course) (player next : Player) (who : Turn) (moved : Bool) → later.start ≡ course.start → Answers moved (player_event tomoyo_grammar player course.start.desk who) next player
    → IsLed trace book course player → IsLed trace book later next
led-on trace book course later player next who moved same had h =
    let scene : Start → Scene = λ start. scene_of start trace book in
    let own : next ≡ own_turns tomoyo_grammar course.start.desk (start_of (scene course.start)) (h.list ++ who ∷ []) =
    own-turn-is course.start.desk player next who moved had ∙ ap (λ p. own_turn tomoyo_grammar course.start.desk p who) h.led
    ∙ sym (own-append course.start.desk (start_of (scene course.start)) h.list who) in
    record {
      trees = h.trees ∙ ap (λ (start : Start). start.trees) (sym same);
      can = subst (λ (start : Start). CanPlay (scene start)) (sym same) h.can;
      list = h.list ++ who ∷ [];
      led = own ∙ ap (λ (start : Start). own_turns tomoyo_grammar start.desk (start_of (scene start)) (h.list ++ who ∷ [])) (sym same);
    }

-- further turns of its own lead to what is led to by such turns
pub stays-led : {E : Type 0} (course later : Course) (player next : Player) (who : Turn) (r : Result Bool E) → OnOk r (later.start ≡ course.start) → IfOk r (λ moved. Answers moved (player_event tomoyo_grammar player course.start.desk who) next player)
    → OnOk r ((trace : Trace) (book : Book) → IsLed trace book course player → IsLed trace book later next)
stays-led course later player next who (Ok moved) same had = λ trace book h. led-on trace book course later player next who moved same had h
stays-led course later player next who (Err fault) same had = tt

-- Trees

-- trees are numbered from 1
pub no-tree : (player : Player) (desk : Bool) (number : ℕ) → number ≡ 0 → tree_event tomoyo_grammar player desk number ≡ None
unfolding tree_event
no-tree player desk number is = rw is refl

pub past-trees : {T : Type 0} (way_of : T → Way) (course : Course) (trees : List T) (scripts : List (List (FileKind × Text))) (desk : Bool) (number : ℕ) → (number ≡ 0 → ⊥) → length trees ≤ number - 1
    → tree_event tomoyo_grammar (at_course course (map way_of trees) scripts) desk number ≡ None
unfolding tree_event
past-trees way_of course trees scripts desk number some past =
    let is : suc (number - 1) ≡ number = omega arith in
    subst (λ n. tree_event tomoyo_grammar (at_course course (map way_of trees) scripts) desk n ≡ None) is (none (number - 1) (get-past (map way_of trees) (number - 1) (rw (map-length way_of trees) past)))
  where
    none : (t : ℕ) → slice_get (map way_of trees) t ≡ None → tree_event tomoyo_grammar (at_course course (map way_of trees) scripts) desk (suc t) ≡ None
    none t at = rw at refl

pub tree-needs : {T : Type 0} (way_of : T → Way) (course : Course) (trees : List T) (scripts : List (List (FileKind × Text))) (place : ℕ) (tree : T) → CanGoOn tomoyo_grammar (at_course course (map way_of trees) scripts) → slice_get trees place ≡ Some tree → Needs tomoyo_grammar course.state (way_of tree)
tree-needs way_of course trees scripts place tree can at = can.ways place (way_of tree) (map-get way_of trees place tree at)

pub tree-within : {T : Type 0} (way_of : T → Way) (course : Course) (trees : List T) (scripts : List (List (FileKind × Text))) (number : ℕ) → CanGoOn tomoyo_grammar (at_course course (map way_of trees) scripts) → number - 1 < length trees → number ≤ course.state.trees
tree-within way_of course trees scripts number can lt = let same : length trees ≡ course.state.trees = sym (map-length way_of trees) ∙ can.trees in omega arith

pub tree-answers : {T E : Type 0} (way_of : T → Way) (course later : Course) (trees : List T) (scripts : List (List (FileKind × Text))) (desk : Bool) (number : ℕ) (tree new : T) (result : Result Bool E) → (number ≡ 0 → ⊥) → slice_get trees (number - 1) ≡ Some tree
    → IfOk result (λ moved. TreeMoves desk (number - 1) moved course (way_of tree) later (way_of new))
    → IfOk result (λ moved. Answers moved (tree_event tomoyo_grammar (at_course course (map way_of trees) scripts) desk number) (at_course later (map way_of (slice_set trees (number - 1) new)) scripts) (at_course course (map way_of trees) scripts))
tree-answers way_of course later trees scripts desk number tree new (Ok moved) some at h =
    let is : suc (number - 1) ≡ number = omega arith in
    let event = h.event (map way_of trees) scripts (map-get way_of trees (number - 1) tree at) in
    subst (λ n. Answers moved (tree_event tomoyo_grammar (at_course course (map way_of trees) scripts) desk n) (at_course later (map way_of (slice_set trees (number - 1) new)) scripts) (at_course course (map way_of trees) scripts)) is
    (subst (λ (ways : List Way). Answers moved (tree_event tomoyo_grammar (at_course course (map way_of trees) scripts) desk (suc (number - 1))) (at_course later ways scripts) (at_course course (map way_of trees) scripts)) (sym (map-set way_of trees (number - 1) new)) event)
tree-answers way_of course later trees scripts desk number tree new (Err e) some at h = tt

pub tree-start : {E : Type 0} (course later : Course) (desk : Bool) (t : ℕ) (old new : Way) (result : Result Bool E) → IfOk result (λ moved. TreeMoves desk t moved course old later new) → OnOk result (later.start ≡ course.start)
tree-start course later desk t old new (Ok moved) h = h.start
tree-start course later desk t old new (Err e) h = tt

pub tree-makers : {T E : Type 0} (way_of : T → Way) (course later : Course) (trees : List T) (scripts : List (List (FileKind × Text))) (desk : Bool) (number : ℕ) (tree new : T) (result : Result Bool E) → (number ≡ 0 → ⊥) → slice_get trees (number - 1) ≡ Some tree
    → IfOk result (λ moved. TreeMoves desk (number - 1) moved course (way_of tree) later (way_of new)) → OnOk result (AddsAtMost (IsMadeBy (Turn.Tree number) (at_course course (map way_of trees) scripts)) course later)
tree-makers way_of course later trees scripts desk number tree new (Ok moved) some at h =
    let is : suc (number - 1) ≡ number = omega arith in
    subst (λ n. AddsAtMost (IsMadeBy (Turn.Tree n) (at_course course (map way_of trees) scripts)) course later) is (by_made h.makers)
  where
    by_made : AddsAtMost (IsMadeByTree (suc (number - 1)) (way_of tree)) course later → AddsAtMost (IsMadeBy (Turn.Tree (suc (number - 1))) (at_course course (map way_of trees) scripts)) course later
    by_made (inl none) = inl none
    by_made (inr (made, reply, noted, by)) = inr (made, reply, noted, rw (map-get way_of trees (number - 1) tree at) by)
tree-makers way_of course later trees scripts desk number tree new (Err e) some at h = tt

get-map : {A B : Type 0} (f : A → B) (xs : List A) (k : ℕ) → slice_get (map f xs) k ≡ option_map f (slice_get xs k)
get-map f [] k = refl
get-map f (x ∷ xs) zero = refl
get-map f (x ∷ xs) (suc k) = get-map f xs k

-- the query whose answer a tree waits for
pub awaited-at : {T : Type 0} (way_of : T → Way) (trees : List T) (number : ℕ) (o : Option T) → (number ≡ 0 → ⊥) → slice_get trees (number - 1) ≡ o → option_and_then awaited (numbered (map way_of trees) number) ≡ option_and_then (λ tree. awaited (way_of tree)) o
awaited-at {T} way_of trees zero o some at = absurd (some refl)
awaited-at {T} way_of trees (suc n) o some at =
    let is : suc n - 1 ≡ n = omega arith in
    ap (option_and_then awaited) (get-map way_of trees n ∙ ap (option_map way_of) (ap (slice_get trees) (sym is) ∙ at)) ∙ in-two o
  where
    in-two : (o : Option T) → option_and_then awaited (option_map way_of o) ≡ option_and_then (λ tree. awaited (way_of tree)) o
    in-two None = refl
    in-two (Some tree) = refl

-- Editors

pub no-editor : (player : Player) (number : ℕ) → number ≡ 0 → editor_event tomoyo_grammar player number ≡ None
no-editor player number is = rw is refl

pub past-editors : (course : Course) (ways : List Way) (scripts : List (List (FileKind × Text))) (number : ℕ) → (number ≡ 0 → ⊥) → length scripts ≤ number - 1 → editor_event tomoyo_grammar (at_course course ways scripts) number ≡ None
past-editors course ways scripts number some past =
    let is : suc (number - 1) ≡ number = omega arith in
    subst (λ n. editor_event tomoyo_grammar (at_course course ways scripts) n ≡ None) is (rw (get-past scripts (number - 1) past) refl)

either-replied : (b : Bool) (x y : Applied) → IsSome x.reply → IsSome y.reply → IsSome (if b then x else y).reply
either-replied true x y h k = h
either-replied false x y h k = k

edit-replied : (s : State) (e : ℕ) (file : FileKind) (line : Text) (cursor : Cursor) (o : Option Editor) → IsSome o → IsSome (option_map_or (λ editor. edit_step tomoyo_grammar s e file line editor cursor) o (unfit s)).reply
unfolding edit_step
edit-replied s e file line cursor None h = absurd cc
edit-replied s e file line cursor (Some editor) h = either-replied (not (is_manager s.policy editor)) _ _ refl refl

pub editor-fits : (course : Course) (ways : List Way) (scripts : List (List (FileKind × Text))) (number : ℕ) (file : FileKind) (line : Text) (lines : List (FileKind × Text)) → CanGoOn tomoyo_grammar (at_course course ways scripts) → (number ≡ 0 → ⊥)
    → slice_get scripts (number - 1) ≡ Some lines → IsSome (apply tomoyo_grammar course.state (Step.Edit number file line)).reply
unfolding apply
editor-fits course ways scripts number file line lines can some at =
    let is : suc (number - 1) ≡ number = omega arith in
    subst (λ n. IsSome (apply tomoyo_grammar course.state (Step.Edit n file line)).reply) is
    (edit-replied course.state (number - 1) file line (unwrap_or (slice_get course.state.cursors (number - 1)) None) (slice_get course.state.editors (number - 1)) (can.editors (number - 1) lines at))

pub editor-answers : (course later : Course) (ways : List Way) (scripts : List (List (FileKind × Text))) (number : ℕ) (file : FileKind) (line : Text) (left : List (FileKind × Text)) (reply : Reply) → (number ≡ 0 → ⊥)
    → slice_get scripts (number - 1) ≡ Some ((file, line) ∷ left) → Makes course (record { maker = Maker.Editor number; step = Step.Edit number file line }) reply later
    → editor_event tomoyo_grammar (at_course course ways scripts) number ≡ Some (at_course later ways (slice_set scripts (number - 1) left))
unfolding line_event
editor-answers course later ways scripts number file line left reply some at makes =
    let is : suc (number - 1) ≡ number = omega arith in
    subst (λ n. Makes course (record { maker = Maker.Editor n; step = Step.Edit n file line }) reply later → editor_event tomoyo_grammar (at_course course ways scripts) n ≡ Some (at_course later ways (slice_set scripts (number - 1) left))) is
    (inner (number - 1) at) makes
  where
    inner : (e : ℕ) → slice_get scripts e ≡ Some ((file, line) ∷ left) → Makes course (record { maker = Maker.Editor (suc e); step = Step.Edit (suc e) file line }) reply later
        → editor_event tomoyo_grammar (at_course course ways scripts) (suc e) ≡ Some (at_course later ways (slice_set scripts e left))
    inner e at makes = rw (at, settled course later (record { maker = Maker.Editor (suc e); step = Step.Edit (suc e) file line }) reply ways scripts makes) refl

pub editor-still : (course : Course) (ways : List Way) (scripts : List (List (FileKind × Text))) (number : ℕ) → (number ≡ 0 → ⊥) → slice_get scripts (number - 1) ≡ Some [] → editor_event tomoyo_grammar (at_course course ways scripts) number ≡ None
unfolding line_event
editor-still course ways scripts number some at =
    let is : suc (number - 1) ≡ number = omega arith in
    subst (λ n. editor_event tomoyo_grammar (at_course course ways scripts) n ≡ None) is (inner (number - 1) at)
  where
    inner : (e : ℕ) → slice_get scripts e ≡ Some [] → editor_event tomoyo_grammar (at_course course ways scripts) (suc e) ≡ None
    inner e at = rw at refl

set-same : {A : Type 0} (xs : List A) (k : ℕ) (x : A) → slice_get xs k ≡ Some x → slice_set xs k x ≡ xs
set-same [] k x at = refl
set-same (y ∷ ys) zero x at = let e : y ≡ x = cc in rw e refl
set-same (y ∷ ys) (suc k) x at = ap (λ t. y ∷ t) (set-same ys k x at)

pub script-same : (course : Course) (ways : List Way) (scripts : List (List (FileKind × Text))) (place : ℕ) (old new : List (FileKind × Text)) → slice_get scripts place ≡ Some old → new ≡ old → at_course course ways (slice_set scripts place new) ≡ at_course course ways scripts
script-same course ways scripts place old new at same = rw same (ap (at_course course ways) (set-same scripts place old at))

-- The supervisor

when-some : (b : Bool) (x y : Step) → when b (Some x) ≡ Some y → x ≡ y
when-some true x y e = cc
when-some false x y e = absurd cc

pub supervisor-fits : (player : Player) (desk : Bool) (turn : Turn) (step : Step) (s : State) → supervisor_step tomoyo_grammar player desk turn ≡ Some step → IsSome (apply tomoyo_grammar s step).reply
unfolding supervisor_step apply
supervisor-fits player desk Turn.Attach step s is = subst (λ (x : Step). IsSome (apply tomoyo_grammar s x).reply) (when-some _ Step.Attach step is) refl
supervisor-fits player desk (Turn.Answer serial code) step s is = subst (λ (x : Step). IsSome (apply tomoyo_grammar s x).reply) (when-some _ (Step.Answer serial code) step is) refl
supervisor-fits player desk Turn.Detach step s is = subst (λ (x : Step). IsSome (apply tomoyo_grammar s x).reply) (when-some _ Step.Detach step is) refl
supervisor-fits player desk Turn.Desk step s is = absurd cc
supervisor-fits player desk (Turn.Tree t) step s is = absurd cc
supervisor-fits player desk (Turn.Editor e) step s is = absurd cc

pub supervisor-answers : (course later : Course) (ways : List Way) (scripts : List (List (FileKind × Text))) (desk : Bool) (turn : Turn) (step : Step) (reply : Reply) → supervisor_step tomoyo_grammar (at_course course ways scripts) desk turn ≡ Some step
    → Makes course (record { maker = Maker.Desk; step = step }) reply later → supervisor_event (at_course course ways scripts) desk turn ≡ Some (at_course later ways scripts)
supervisor-answers course later ways scripts desk turn step reply is makes = rw (is, settled course later (record { maker = Maker.Desk; step = step }) reply ways scripts makes) refl

pub supervisor-still : (player : Player) (desk : Bool) (turn : Turn) → supervisor_step tomoyo_grammar player desk turn ≡ None → supervisor_event player desk turn ≡ None
supervisor-still player desk turn is = rw is refl
