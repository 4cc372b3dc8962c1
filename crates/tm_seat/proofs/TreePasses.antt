-- In a trace that was read each process of a `do` line is of its tree, and of no other.
use Rattle.std.proofs.Common.{◌≡◌, ℕ, zero, suc, List, [], ◌∷◌, ◌++◌, Bool, true, sym, ap, ◌∙◌, subst, append_assoc}
use Rattle.std.specs.Prelude.{Some, ◌||◌, slice_get, flat_map}
use Rattle.std.specs.List.{AllByRecursion, list_all}
use Rattle.std.proofs.lemmas.Bool.{and_parts}
use Rattle.tm_rules.specs.Types.{Item, Maker, Tree}
use Rattle.tm_rules.specs.Prelude.{Trace}
use Rattle.tm_legal.specs.Prelude.{do_pids}
use Rattle.tm_legal.proofs.Walks.{All-map}
use Rattle.tm_take.specs.Trees.{made_by, tree_pids, is_among}
use Rattle.tm_take.specs.Written.{is_item, are_items, is_tree, IsTrace}
use Rattle.tm_joint.specs.Workers.{is_in, pass_of}
use Rattle.tm_joint.proofs.Workers.{in-append, pass-of-process}

in-front : (pid : ℕ) (own more : List ℕ) → is_among own pid ≡ true → is_in pid (own ++ more) ≡ true
in-front pid own more h = in-append pid own more ∙ ap (λ (b : Bool). b || is_in pid more) h

-- the processes of `do` lines are those that stood there before, or that the lines made
do-pids-in : (own : List ℕ) (items : List Item) → are_items own items ≡ true → AllByRecursion (λ pid. is_in pid (own ++ flat_map made_by items) ≡ true) (do_pids items)
do-pids-in own [] h = tt
do-pids-in own (item ∷ items) h =
    let parts = and_parts (is_item own item) (are_items (own ++ made_by item) items) h in
    let whole : (own ++ made_by item) ++ flat_map made_by items ≡ own ++ flat_map made_by (item ∷ items) = append_assoc own (made_by item) (flat_map made_by items) in
    go item parts.0 (subst (λ (pids : List ℕ). AllByRecursion (λ pid. is_in pid pids ≡ true) (do_pids items)) whole (do-pids-in (own ++ made_by item) items parts.1))
  where
    Rest : Item → Type 0
    Rest x = AllByRecursion (λ pid. is_in pid (own ++ flat_map made_by (x ∷ items)) ≡ true) (do_pids items)

    go : (x : Item) → is_item own x ≡ true → Rest x → AllByRecursion (λ pid. is_in pid (own ++ flat_map made_by (x ∷ items)) ≡ true) (do_pids (x ∷ items))
    go (Item.Ids pid ids) ok later = later
    go (Item.Fork pid child) ok later = later
    go (Item.Do pid request) ok later = (in-front pid own (flat_map made_by items) (and_parts (is_among own pid) _ ok).0, later)

all-at : {A : Type 0} (test : A → Bool) (xs : List A) (n : ℕ) (x : A) → list_all test xs ≡ true → slice_get xs n ≡ Some x → test x ≡ true
all-at test [] n x h at = absurd cc
all-at test (y ∷ xs) zero x h at = let same : y ≡ x = cc in ap test (sym same) ∙ (and_parts (test y) (list_all test xs) h).0
all-at test (y ∷ xs) (suc n) x h at = all-at test xs n x (and_parts (test y) (list_all test xs) h).1 at

pub processes-have-their-pass : (deal : ℕ → ℕ) (workers editors : ℕ) (trace : Trace) (n : ℕ) (tree : Tree) → IsTrace trace → slice_get trace n ≡ Some tree → AllByRecursion (λ pid. pass_of tree_pids deal workers editors trace (Maker.Process pid) ≡ Some (deal (suc n))) (do_pids tree.records)
unfolding is_tree
processes-have-their-pass deal workers editors trace n tree read at =
    let right : is_tree tree ≡ true = all-at is_tree trace n tree read.trees at in
    let items : are_items (tree.pid ∷ []) tree.records ≡ true = (and_parts _ (are_items (tree.pid ∷ []) tree.records) right).1 in
    All-map (λ pid. is_in pid (tree_pids tree) ≡ true) (λ pid. pass_of tree_pids deal workers editors trace (Maker.Process pid) ≡ Some (deal (suc n))) (do_pids tree.records)
    (λ pid there. pass-of-process tree_pids deal workers editors trace n tree pid read.once at there)
    (do-pids-in (tree.pid ∷ []) tree.records items)
