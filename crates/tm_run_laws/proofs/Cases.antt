-- The `do` lines of a read trace with their takes: each asks a request that a trace can hold.
use Rattle.std.proofs.Common.{◌≡◌, ℕ, suc, true, ◌&&◌, List, [], ◌∷◌, ◌++◌, length, take, drop}
use Rattle.std.specs.List.{AllByRecursion, list_all}
use Rattle.tm_rules.specs.Prelude.{Trace, is_domain_name}
use Rattle.tm_rules.specs.Types.{Item, Policy, Run, Take, Tree}
use Rattle.tm_trace.specs.Trees.{made_by}
use Rattle.tm_trace.specs.Written.{is_trace_request, is_item, are_items, is_tree}
use Rattle.tm_domain.specs.Names.{is_path}
use Rattle.tm_trace.specs.Written.{is_pid}
use Rattle.tm_line.proofs.Steps.{both}
use Rattle.tm_legal.specs.Prelude.{Case, Scene, Situations, after_take, at_start, cases_from, cases_of, do_pids, forked, tree_cases, with_ids, with_situation}
use Rattle.tm_legal.proofs.Asked.{All-append}

-- a `do` line asks a request that a trace can hold
abbrev pub AsksRight : Item → Type 0
AsksRight (Item.Ids pid ids) = Unit {0}
AsksRight (Item.Fork pid child) = Unit {0}
AsksRight (Item.Do pid request) = is_trace_request request ≡ true

item_asks : (own : List ℕ) (item : Item) → is_item own item ≡ true → AsksRight item
item_asks own (Item.Ids pid ids) h = tt
item_asks own (Item.Fork pid child) h = tt
item_asks own (Item.Do pid request) h = (both _ (is_trace_request request) h).1

items_ask : (own : List ℕ) (items : List Item) → are_items own items ≡ true → AllByRecursion AsksRight items
items_ask own [] h = tt
items_ask own (item ∷ items) h =
    let t = both (is_item own item) (are_items (own ++ made_by item) items) h in
    (item_asks own item t.0, items_ask (own ++ made_by item) items t.1)

tree_asks : (tree : Tree) → is_tree tree ≡ true → AllByRecursion AsksRight tree.records
unfolding is_tree
tree_asks tree h = items_ask (tree.pid ∷ []) tree.records (both (is_pid tree.pid && is_domain_name is_path tree.start) (are_items (tree.pid ∷ []) tree.records) h).1

-- its request is such a one
abbrev pub IsAsked : Case → Type 0
IsAsked c = is_trace_request c.request ≡ true

tree_asked : (t : ℕ) (now : Situations) (items : List Item) (takes : List Take) → AllByRecursion AsksRight items → AllByRecursion IsAsked (tree_cases t now items takes)
unfolding tree_cases
tree_asked t now [] takes h = tt
tree_asked t now (Item.Ids pid ids ∷ items) takes h = tree_asked t (with_situation now pid (with_ids (now pid) ids)) items takes h.1
tree_asked t now (Item.Fork pid child ∷ items) takes h = tree_asked t (with_situation now child (forked (now pid) child)) items takes h.1
tree_asked t now (Item.Do pid request ∷ items) [] h = tt
tree_asked t now (Item.Do pid request ∷ items) (taken ∷ takes) h = (h.0, tree_asked t (with_situation now pid (after_take (now pid) taken)) items takes h.1)

all_asked : (t : ℕ) (policy : Policy) (trees : Trace) (takes : List Take) → list_all is_tree trees ≡ true → AllByRecursion IsAsked (cases_from t policy trees takes)
unfolding cases_from
all_asked t policy [] takes h = tt
all_asked t policy (tree ∷ trees) takes h =
    let p = both (is_tree tree) (list_all is_tree trees) h in
    let own : ℕ = length (do_pids tree.records) in
    All-append IsAsked (tree_cases t (at_start policy tree) tree.records (take own takes)) (cases_from (suc t) policy trees (drop own takes)) (tree_asked t (at_start policy tree) tree.records (take own takes) (tree_asks tree p.0))
    (all_asked (suc t) policy trees (drop own takes) p.1)

pub cases_ask : (scene : Scene) (run : Run) → list_all is_tree scene.trace ≡ true → AllByRecursion IsAsked (cases_of scene run)
cases_ask scene run h = all_asked 1 scene.policy scene.trace run.takes h

-- the take of a `do` line
abbrev pub take_of : Case → Take
take_of c = c.taken
