-- Each `do` line of a trace asks a request.
use Rattle.std.proofs.Common.{◌≡◌, ℕ, suc, List, [], ◌∷◌, length, map, take, drop, true, sym, ap, subst, ◌∙◌}
use Rattle.std.specs.List.{AllByRecursion, list_all}
use Rattle.std.proofs.lemmas.Bool.{and_parts}
use Rattle.tm_rules.specs.Types.{Item, Look, Policy, Take}
use Rattle.tm_rules.specs.Prelude.{Trace, is_request, item_is_request}
use Rattle.tm_core.specs.Tomoyo.{tomoyo_grammar}
use Rattle.tm_legal.specs.Prelude.{Case, Situations, after_take, at_start, cases, cases_from, cases_of, do_pids, forked, tree_cases, with_ids, with_situation}
use Rattle.tm_legal.proofs.Asked.{All-append}
use Rattle.tm_verify_notes.specs.declared.given.Given.{Given}
use Rattle.tm_verify_notes.specs.declared.notes.LookNote.{LookNote}
use Rattle.tm_verify_notes.specs.declared.notes.PartNote.{PartNote}
use Rattle.tm_verify_notes.specs.Given.{scene_of, history_of, run_of}
use Rattle.tm_take.specs.Each.{EachWith}
use Rattle.tm_verify_notes.specs.Noting.{Asks, LookOn, looks_on, all_looks, IsPartNote, IsLookNote}
use Rattle.tm_verify_notes.specs.Sums.{Completes}
use Rattle.tm_verify_notes.proofs.SumLaws.{completed_notes}
use Rattle.tm_verify.specs.Asking.{IsAsking}

in_tree : (t : ℕ) (now : Situations) (items : List Item) (takes : List Take) → list_all (item_is_request tomoyo_grammar.is_path) items ≡ true → AllByRecursion Asks (tree_cases t now items takes)
unfolding tree_cases
in_tree t now [] takes h = tt
in_tree t now (Item.Ids pid ids ∷ items) takes h = in_tree t (with_situation now pid (with_ids (now pid) ids)) items takes h
in_tree t now (Item.Fork pid child ∷ items) takes h = in_tree t (with_situation now child (forked (now pid) child)) items takes h
in_tree t now (Item.Do pid request ∷ items) [] h = tt
in_tree t now (Item.Do pid request ∷ items) (x ∷ takes) h =
    let parts = and_parts (is_request tomoyo_grammar.is_path request) (list_all (item_is_request tomoyo_grammar.is_path) items) h in
    (parts.0, in_tree t (with_situation now pid (after_take (now pid) x)) items takes parts.1)

in_trees : (t : ℕ) (policy : Policy) (trees : Trace) (takes : List Take) → IsAsking trees → AllByRecursion Asks (cases_from t policy trees takes)
unfolding cases_from
in_trees t policy [] takes h = tt
in_trees t policy (tree ∷ trees) takes h =
    All-append Asks (tree_cases t (at_start policy tree) tree.records (take (length (do_pids tree.records)) takes)) (cases_from (suc t) policy trees (drop (length (do_pids tree.records)) takes))
    (in_tree t (at_start policy tree) tree.records (take (length (do_pids tree.records)) takes) h.0)
    (in_trees (suc t) policy trees (drop (length (do_pids tree.records)) takes) h.1)

pub all_ask : (policy : Policy) (trace : Trace) (takes : List Take) → IsAsking trace → AllByRecursion Asks (cases policy trace takes)
all_ask policy trace takes h = in_trees 1 policy trace takes h

-- so do the looks that belong to them
pub looks_ask : (cs : List Case) → AllByRecursion Asks cs → AllByRecursion (λ (on : LookOn). Asks on.0) (all_looks cs)
looks_ask [] h = tt
looks_ask (c ∷ cs) h = All-append (λ (on : LookOn). Asks on.0) (looks_on c) (all_looks cs) (own_looks c.taken.looks) (looks_ask cs h.1)
  where
    own_looks : (looks : List Look) → AllByRecursion (λ (on : LookOn). Asks on.0) (map (λ (look : Look). (c, look)) looks)
    own_looks [] = tt
    own_looks (look ∷ looks) = (h.0, own_looks looks)

-- of the looks of all takes
pub looks_asked : (given : Given) (cs : List Case) (looks : List LookOn) → IsAsking given.trace.now → cs ≡ cases_of (scene_of given) (run_of given) → looks ≡ all_looks cs → AllByRecursion (λ (on : LookOn). Asks on.0) looks
looks_asked given cs looks asks c l =
    subst (λ (ls : List LookOn). AllByRecursion (λ (on : LookOn). Asks on.0) ls) (sym (l ∙ ap all_looks c))
    (looks_ask (cases_of (scene_of given) (run_of given)) (all_ask given.opening.now given.trace.now given.takes.now asks))

-- what was noted of the looks of all takes
pub noted_looks : (given : Given) (cs : List Case) (looks : List LookOn) (parts : List PartNote) (notes : List LookNote) → looks ≡ all_looks cs → EachWith (IsPartNote (scene_of given) (history_of given)) looks parts → EachWith Completes parts notes
    → EachWith (IsLookNote (scene_of given) (history_of given)) (all_looks cs) notes
noted_looks given cs looks parts notes l h k =
    subst (λ (ls : List LookOn). EachWith (IsLookNote (scene_of given) (history_of given)) ls notes) l (completed_notes (scene_of given) (history_of given) looks parts notes h k)
