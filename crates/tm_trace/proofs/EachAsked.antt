-- Each request of a trace can be asked of the engine.
use Rattle.std.proofs.Common.{◌≡◌, ℕ, true, ◌&&◌, List, [], ◌∷◌, ◌++◌, refl}
use Rattle.std.specs.List.{list_all}
use Rattle.tm_rules.specs.Types.{Item, Request, Tree}
use Rattle.tm_rules.specs.Prelude.{Trace, is_domain_name, is_request, item_is_request}
use Rattle.tm_line.specs.Names.{is_path}
use Rattle.tm_line.proofs.Steps.{both, all}
use Rattle.tm_trace.specs.Trees.{made_by, is_among}
use Rattle.tm_trace.specs.Written.{is_pid, is_trace_request, is_item, are_items, is_tree, IsTrace, EachAsked}
use Rattle.tm_trace.proofs.Askable.{said}

-- a request of a trace can be asked
pub askable : (r : Request) → is_trace_request r ≡ true → is_request is_path r ≡ true
askable r h = (said r h).request

item_bounded : (own : List ℕ) (item : Item) → is_item own item ≡ true → item_is_request is_path item ≡ true
item_bounded own (Item.Ids pid ids) h = refl
item_bounded own (Item.Fork pid child) h = refl
item_bounded own (Item.Do pid request) h = askable request (both (is_among own pid) (is_trace_request request) h).1

items_bounded : (own : List ℕ) (items : List Item) → are_items own items ≡ true → list_all (item_is_request is_path) items ≡ true
items_bounded own [] h = refl
items_bounded own (item ∷ items) h =
    let t = both (is_item own item) (are_items (own ++ made_by item) items) h in
    all (item_is_request is_path item) (list_all (item_is_request is_path) items) (item_bounded own item t.0) (items_bounded (own ++ made_by item) items t.1)

tree_items : (tree : Tree) → is_tree tree ≡ true → are_items (tree.pid ∷ []) tree.records ≡ true
unfolding is_tree
tree_items tree h = (both (is_pid tree.pid && is_domain_name is_path tree.start) (are_items (tree.pid ∷ []) tree.records) h).1

each_bounded : (trees : List Tree) → list_all is_tree trees ≡ true → EachAsked (item_is_request is_path) trees
each_bounded [] h = tt
each_bounded (tree ∷ trees) h =
    let t = both (is_tree tree) (list_all is_tree trees) h in
    (items_bounded (tree.pid ∷ []) tree.records (tree_items tree t.0), each_bounded trees t.1)

pub requests_bounded : (t : Trace) → IsTrace t → EachAsked (item_is_request is_path) t
requests_bounded t h = each_bounded t h.trees
