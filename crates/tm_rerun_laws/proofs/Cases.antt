-- Each take of a legal run is that of one case, and each case's request stands in the trace.
use Rattle.std.proofs.Common.{◌≡◌, ◌≤◌, ℕ, suc, ◌+◌, List, [], ◌∷◌, length, take, drop, map, Bool, true, false, refl, sym, ap, ◌∙◌, subst, arith}
use Rattle.std.specs.Prelude.{IsTrue, ◌==◌, if◌then◌else◌, flat_map}
use Rattle.std.specs.List.{AllByRecursion, list_all}
use Rattle.std.proofs.lemmas.Bool.{and_parts, eqb-true}
use Rattle.std.proofs.lemmas.List.{map-append, length-append, length-map, length-take-le, length-drop, take-append-drop}
use Rattle.tm_word.specs.Prelude.{Text}
use Rattle.tm_rules.specs.Types.{Item, Look, Policy, Run, Take, Tree}
use Rattle.tm_rules.specs.Prelude.{Trace, is_request, item_is_request}
use Rattle.tm_legal.specs.Prelude.{CanPlay, Case, EachCase, Scene, Situations, TakesInOrder, after_take, all_do_pids, at_start, cases_from, cases_of, do_pids, forked, own_numbers, times, tree_cases, with_ids, with_situation}
use Rattle.tm_legal.proofs.Asked.{All-append}

-- the take of a case
abbrev taken_of : Case → Take
taken_of c = c.taken

taken-tree : (t : ℕ) (now : Situations) (items : List Item) (takes : List Take) → length takes ≡ length (do_pids items) → map taken_of (tree_cases t now items takes) ≡ takes
unfolding tree_cases
taken-tree t now [] [] e = refl
taken-tree t now [] (x ∷ takes) e = absurd (omega arith)
taken-tree t now (Item.Ids pid ids ∷ items) takes e = taken-tree t (with_situation now pid (with_ids (now pid) ids)) items takes e
taken-tree t now (Item.Fork pid child ∷ items) takes e = taken-tree t (with_situation now child (forked (now pid) child)) items takes e
taken-tree t now (Item.Do pid request ∷ items) [] e = absurd (omega arith)
taken-tree t now (Item.Do pid request ∷ items) (x ∷ takes) e = ap (λ (ts : List Take). x ∷ ts) (taken-tree t (with_situation now pid (after_take (now pid) x)) items takes (omega arith))

-- the takes of all cases are those of the run
pub taken-all : (t : ℕ) (policy : Policy) (trees : Trace) (takes : List Take) → length takes ≡ length (all_do_pids trees) → map taken_of (cases_from t policy trees takes) ≡ takes
unfolding cases_from
taken-all t policy [] [] e = refl
taken-all t policy [] (x ∷ takes) e = absurd (omega arith)
taken-all t policy (tree ∷ trees) takes e =
    let own : ℕ = length (do_pids tree.records) in
    let long : length takes ≡ own + length (all_do_pids trees) = e ∙ length-append (do_pids tree.records) (all_do_pids trees) in
    let within : own ≤ length takes = omega arith in
    let rest : length (drop own takes) ≡ length (all_do_pids trees) = omega (arith, length-drop own takes) in
    map-append taken_of (tree_cases t (at_start policy tree) tree.records (take own takes)) (cases_from (suc t) policy trees (drop own takes))
    ∙ rw (taken-tree t (at_start policy tree) tree.records (take own takes) (length-take-le own takes within), taken-all (suc t) policy trees (drop own takes) rest) (take-append-drop own takes)

All-mapped : (P : Take → Type 0) (cs : List Case) → AllByRecursion (λ (c : Case). P c.taken) cs → AllByRecursion P (map taken_of cs)
All-mapped P [] all = tt
All-mapped P (c ∷ cs) all = (all.0, All-mapped P cs all.1)

-- what holds of the take of each case holds of each take
pub each-take : (scene : Scene) (run : Run) → TakesInOrder scene run → (P : Take → Type 0) → EachCase scene run (λ c. P c.taken) → AllByRecursion P run.takes
each-take scene run order P all =
    let long : length run.takes ≡ length (all_do_pids scene.trace) = sym (length-map run.takes (λ (t : Take). t.pid)) ∙ ap length order.pids in
    subst (AllByRecursion P) (taken-all 1 scene.policy scene.trace run.takes long) (All-mapped P (cases_of scene run) all)

All-unmapped : (P : Take → Type 0) (cs : List Case) → AllByRecursion P (map taken_of cs) → AllByRecursion (λ (c : Case). P c.taken) cs
All-unmapped P [] all = tt
All-unmapped P (c ∷ cs) all = (all.0, All-unmapped P cs all.1)

-- and what holds of each take holds of that of each case
pub each-case : (scene : Scene) (run : Run) → TakesInOrder scene run → (P : Take → Type 0) → AllByRecursion P run.takes → EachCase scene run (λ c. P c.taken)
each-case scene run order P all =
    let long : length run.takes ≡ length (all_do_pids scene.trace) = sym (length-map run.takes (λ (t : Take). t.pid)) ∙ ap length order.pids in
    All-unmapped P (cases_of scene run) (subst (AllByRecursion P) (sym (taken-all 1 scene.policy scene.trace run.takes long)) all)

-- Requests

-- the trace can hold the case's request
abbrev pub IsAsked : (Text → Bool) → Case → Type 0
IsAsked is_path c = is_request is_path c.request ≡ true

tree-asked : (is_path : Text → Bool) (t : ℕ) (now : Situations) (items : List Item) (takes : List Take) → list_all (item_is_request is_path) items ≡ true → AllByRecursion (IsAsked is_path) (tree_cases t now items takes)
unfolding tree_cases
tree-asked is_path t now [] takes h = tt
tree-asked is_path t now (Item.Ids pid ids ∷ items) takes h = tree-asked is_path t (with_situation now pid (with_ids (now pid) ids)) items takes h
tree-asked is_path t now (Item.Fork pid child ∷ items) takes h = tree-asked is_path t (with_situation now child (forked (now pid) child)) items takes h
tree-asked is_path t now (Item.Do pid request ∷ items) [] h = tt
tree-asked is_path t now (Item.Do pid request ∷ items) (x ∷ takes) h =
    let parts = and_parts (is_request is_path request) (list_all (item_is_request is_path) items) h in
    (parts.0, tree-asked is_path t (with_situation now pid (after_take (now pid) x)) items takes parts.1)

all-asked : (is_path : Text → Bool) (t : ℕ) (policy : Policy) (trees : Trace) (takes : List Take) → AllByRecursion (λ (tree : Tree). IsTrue (list_all (item_is_request is_path) tree.records)) trees → AllByRecursion (IsAsked is_path) (cases_from t policy trees takes)
unfolding cases_from
all-asked is_path t policy [] takes h = tt
all-asked is_path t policy (tree ∷ trees) takes h =
    All-append (IsAsked is_path) (tree_cases t (at_start policy tree) tree.records (take (length (do_pids tree.records)) takes)) (cases_from (suc t) policy trees (drop (length (do_pids tree.records)) takes))
    (tree-asked is_path t (at_start policy tree) tree.records (take (length (do_pids tree.records)) takes) h.0)
    (all-asked is_path (suc t) policy trees (drop (length (do_pids tree.records)) takes) h.1)

pub each-asked : (scene : Scene) (run : Run) → CanPlay scene → EachCase scene run (IsAsked scene.grammar.is_path)
each-asked scene run can = all-asked scene.grammar.is_path 1 scene.policy scene.trace run.takes can.requests

-- Own steps

-- what holds of each number holds of one that stands among them
times-holds : (P : ℕ → Type 0) (n : ℕ) (ns : List ℕ) → AllByRecursion P ns → times n ns ≡ 1 → P n
times-holds P n [] all e = absurd (omega arith)
times-holds P n (m ∷ ms) all e = go (m == n) refl e (times-holds P n ms all.1)
  where
    go : (b : Bool) → (m == n) ≡ b → (if b then suc (times n ms) else times n ms) ≡ 1 → (times n ms ≡ 1 → P n) → P n
    go true same h later = subst P (eqb-true m n same) all.0
    go false other h later = later h

-- of each number that each look owns
abbrev pub EachOwn : (ℕ → Type 0) → Take → Type 0
EachOwn P t = AllByRecursion (λ (look : Look). AllByRecursion P look.own) t.looks

All-looks : (P : ℕ → Type 0) (looks : List Look) → AllByRecursion (λ (look : Look). AllByRecursion P look.own) looks → AllByRecursion P (flat_map (λ (look : Look). look.own) looks)
All-looks P [] all = tt
All-looks P (look ∷ looks) all = All-append P look.own (flat_map (λ (l : Look). l.own) looks) all.0 (All-looks P looks all.1)

All-own : (P : ℕ → Type 0) (takes : List Take) → AllByRecursion (EachOwn P) takes → AllByRecursion P (own_numbers takes)
All-own P [] all = tt
All-own P (t ∷ takes) all = All-append P (flat_map (λ (look : Look). look.own) t.looks) (own_numbers takes) (All-looks P t.looks all.0) (All-own P takes all.1)

pub own-holds : (P : ℕ → Type 0) (n : ℕ) (takes : List Take) → AllByRecursion (EachOwn P) takes → times n (own_numbers takes) ≡ 1 → P n
own-holds P n takes all e = times-holds P n (own_numbers takes) (All-own P takes all) e
