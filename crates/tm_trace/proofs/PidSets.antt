-- Sets of pids beside the trees.
use Rattle.std.proofs.Common.{◌≡◌, ℕ, ◌==◌, ◌||◌, Bool, List, [], ◌∷◌, ◌++◌, sym, ap, subst, ◌∙◌}
use Rattle.std.specs.Prelude.{Option, Some, option_to_list}
use Rattle.std.specs.BTreeSet.{BTreeSet}
use Rattle.std.proofs.lemmas.List.Folds.{list_any-append}
use Rattle.tm_rules.specs.Types.{Item, Tree}
use Rattle.tm_rules.specs.Prelude.{DomainName}
use Rattle.tm_trace.specs.Trees.{new_tree, tree_pids, trace_pids, is_among, with_item}
use Rattle.tm_trace.specs.Steps.{Holds, HasMore, IsOnly, last_pids}
use Rattle.tm_trace.proofs.Pids.{item_pids}
use Rattle.tm_trace.proofs.Pids as pids

-- one set holds the pids of all trees, the other those of the last one
abbrev pub Both : BTreeSet ℕ → BTreeSet ℕ → List Tree → Option Tree → Type 0
Both made own before last = Holds made (trace_pids (before ++ option_to_list last)) × Holds own (last_pids last)

holds_more : (set next : BTreeSet ℕ) (child : ℕ) (these those : List ℕ) → those ≡ these ++ child ∷ [] → Holds set these → HasMore set next child → Holds next those
unfolding HasMore
holds_more set next child these those e holds more = λ pid.
    more pid ∙ ap (λ (b : Bool). b || is_among (child ∷ []) pid) (holds pid) ∙ sym (list_any-append (λ m. m == pid) these (child ∷ [])) ∙ ap (λ (ps : List ℕ). is_among ps pid) (sym e)

-- a tree without records
pub tree_holds : (made more other own : BTreeSet ℕ) (before : List Tree) (last : Option Tree) (all : List Tree) (tree : Tree) (pid : ℕ) (start : DomainName)
    → all ≡ before ++ option_to_list last → tree ≡ new_tree pid start → HasMore made more pid → IsOnly own pid → Both made other before last → Both more own all (Some tree)
unfolding IsOnly
tree_holds made more other own before last all tree pid start e f h k both =
    let now : Holds made (trace_pids all) = subst (λ (trees : List Tree). Holds made (trace_pids trees)) (sym e) both.0 in
    subst (λ (t : Tree). Both more own all (Some t)) (sym f) (holds_more made more pid (trace_pids all) (trace_pids (all ++ new_tree pid start ∷ [])) (pids.pids_more all (new_tree pid start)) now h, k)

-- a child
pub child_holds : (made own more_made more_own : BTreeSet ℕ) (before : List Tree) (last : Option Tree) (tree next : Tree) (pid child : ℕ)
    → last ≡ Some tree → next ≡ with_item tree (Item.Fork pid child) → HasMore made more_made child → HasMore own more_own child → Both made own before last → Both more_made more_own before (Some next)
child_holds made own more_made more_own before last tree next pid child at e h k both =
    let now : Both made own before (Some tree) = subst (Both made own before) at both in
    let item : Item = Item.Fork pid child in
    subst (λ (t : Tree). Both more_made more_own before (Some t)) (sym e) (
      holds_more made more_made child (trace_pids (before ++ tree ∷ [])) (trace_pids (before ++ with_item tree item ∷ [])) (pids.last_pids before tree item) now.0 h,
      holds_more own more_own child (tree_pids tree) (tree_pids (with_item tree item)) (item_pids tree item) now.1 k,
    )
