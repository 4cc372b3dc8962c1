-- The trees of a trace as they are to be played, and the parts of all threads.
use Rattle.std.proofs.Common.{◌≡◌, ◌<◌, ℕ, zero, suc, ◌+◌, List, [], ◌∷◌, ◌++◌, length, refl, sym, ap, ◌∙◌, subst, arith, append_assoc}
use Rattle.std.proofs.lemmas.List.{length-append}
use Rattle.std.specs.Prelude.{◌≤◌, Option, Some, None, IsSome, IsTrue, true, map, slice_get, unwrap_or, ◌==◌}
use Rattle.std.specs.List.{AllByRecursion, list_all}
use Rattle.tm_rules.specs.Types.{Editor, Policy, Start, Tree}
use Rattle.tm_rules.specs.Prelude.{Trace, item_is_request, live_domain}
use Rattle.tm_take.specs.Tomoyo.{tomoyo_grammar}
use Rattle.tm_legal.proofs.Asked.{All-append}
use Rattle.tm_legal.proofs.Walks.{All-map}
use Rattle.tm_seat.specs.declared.tree.TreeToPlay.{TreeToPlay}
use Rattle.tm_seat.specs.declared.part.Part.{Part}
use Rattle.tm_seat.specs.Rows.{IsReady}
use Rattle.tm_seat.specs.Dealing.{dealt_to, hand_of}
use Rattle.tm_seat.specs.Parts.{tree_to_play, trees_from, editor_parts, working_parts, PartWaits}
use Rattle.tm_seat.specs.Replayed.{AreDealt}
use Rattle.tm_seat.proofs.Lists.{All-at, All-of, All-filter}

-- a tree is to be played as the tree of its number in the trace
pub record IsOfTrace (policy : Policy) (trace : Trace) (tree : TreeToPlay) : Type 0 where
  pub place : ℕ
  pub its : Tree
  pub there : slice_get trace place ≡ Some its
  pub is : tree ≡ tree_to_play policy (suc place) its

-- where the first tree of the rest has number t
trees-rest : (policy : Policy) (all : Trace) (t : ℕ) (rest : Trace) → ((k : ℕ) (tree : Tree) → slice_get rest k ≡ Some tree → slice_get all (t + k) ≡ Some tree) → AllByRecursion (IsOfTrace policy all) (trees_from policy (suc t) rest)
trees-rest policy all t [] h = tt
trees-rest policy all t (tree ∷ rest) h = (
  record { place = t; its = tree; there = subst (λ i. slice_get all i ≡ Some tree) (omega arith) (h 0 tree refl); is = refl },
  trees-rest policy all (suc t) rest (λ k its at. subst (λ i. slice_get all i ≡ Some its) (omega arith) (h (suc k) its at)),
)

pub trees-of-trace : (policy : Policy) (trace : Trace) → AllByRecursion (IsOfTrace policy trace) (trees_from policy 1 trace)
trees-of-trace policy trace = trees-rest policy trace 0 trace (λ k tree at. subst (λ i. slice_get trace i ≡ Some tree) (omega arith) at)

-- one tree more at the end
pub trees-push : (policy : Policy) (t : ℕ) (trees : Trace) (tree : Tree) → trees_from policy t (trees ++ tree ∷ []) ≡ trees_from policy t trees ++ tree_to_play policy (t + length trees) tree ∷ []
trees-push policy t [] tree = ap (λ n. tree_to_play policy n tree ∷ []) (omega arith)
trees-push policy t (first ∷ trees) tree = ap (λ (l : List TreeToPlay). tree_to_play policy t first ∷ l) (trees-push policy (suc t) trees tree ∙ ap (λ n. trees_from policy (suc t) trees ++ tree_to_play policy n tree ∷ []) (omega arith))

-- one editor more at the end
pub editors-push : {H : Type 0} (e : ℕ) (editors : List Editor) (editor : Editor) → editor_parts {H = H} e (editors ++ editor ∷ []) ≡ editor_parts e editors ++ Part.Editor (e + length editors) editor.lines ∷ []
editors-push e [] editor = ap (λ n. Part.Editor n editor.lines ∷ []) (omega arith)
editors-push e (first ∷ editors) editor = ap (λ (l : List (Part _)). Part.Editor e first.lines ∷ l) (editors-push (suc e) editors editor ∙ ap (λ n. editor_parts (suc e) editors ++ Part.Editor n editor.lines ∷ []) (omega arith))

-- the same, of the parts so far
pub editors-more : {H : Type 0} (old parts new : List (Part H)) (done : List Editor) (editor : Editor) (number next : ℕ) → parts ≡ old ++ editor_parts 1 done → number ≡ length done → next ≡ number + 1 → new ≡ parts ++ Part.Editor next editor.lines ∷ [] → (new ≡ old ++ editor_parts 1 (done ++ editor ∷ [])) × (next ≡ length (done ++ editor ∷ []))
editors-more old parts new done editor number next is count more pushed =
    let place : 1 + length done ≡ next = omega (arith, count, more) in
    let long = length-append done (editor ∷ []) in (
      pushed
          ∙ ap (λ (l : List (Part _)). l ++ Part.Editor next editor.lines ∷ []) is
          ∙ append_assoc old (editor_parts 1 done) (Part.Editor next editor.lines ∷ [])
          ∙ ap (λ (l : List (Part _)). old ++ l) (sym (editors-push 1 done editor ∙ ap (λ n. editor_parts 1 done ++ Part.Editor n editor.lines ∷ []) place)),
      omega (arith, count, more, long),
    )

-- the same, of the trees so far
pub trees-more : (policy : Policy) (trees new : List TreeToPlay) (done : Trace) (tree : Tree) (number next : ℕ) → trees ≡ trees_from policy 1 done → number ≡ length done → next ≡ number + 1 → new ≡ trees ++ tree_to_play policy next tree ∷ [] → (new ≡ trees_from policy 1 (done ++ tree ∷ [])) × (next ≡ length (done ++ tree ∷ []))
trees-more policy trees new done tree number next is count more pushed =
    let place : 1 + length done ≡ next = omega (arith, count, more) in
    let long = length-append done (tree ∷ []) in (
      pushed
          ∙ ap (λ (l : List TreeToPlay). l ++ tree_to_play policy next tree ∷ []) is
          ∙ sym (trees-push policy 1 done tree ∙ ap (λ n. trees_from policy 1 done ++ tree_to_play policy n tree ∷ []) place),
      omega (arith, count, more, long),
    )

-- Readiness

module _ (start : Start) (trace : Trace) (trees : length trace ≡ start.trees) (homes : AllByRecursion (λ (tree : Tree). IsSome (live_domain start.policy tree.start)) trace) (asked : AllByRecursion (λ (tree : Tree). IsTrue (list_all (item_is_request tomoyo_grammar.is_path) tree.records)) trace) where
  within : {A : Type 0} (xs : List A) (k : ℕ) (x : A) → slice_get xs k ≡ Some x → k < length xs
  within [] k x at = absurd cc
  within (y ∷ xs) zero x at = omega arith
  within (y ∷ xs) (suc k) x at = let rest = within xs k x at in omega (arith, rest)

  there-is : (found : Option ℕ) → IsSome found → found ≡ Some (unwrap_or found 0)
  there-is None is = absurd cc
  there-is (Some x) is = refl

  -- a tree of the trace can be played
  tree-ready : (tree : TreeToPlay) → IsOfTrace start.policy trace tree → IsReady start tree
  tree-ready tree of =
      let low : of.place < length trace = within trace of.place of.its of.there in
      subst (λ (t : TreeToPlay). IsReady start t) (sym of.is)
      (record {
        above = omega arith;
        inside = omega (arith, low, trees);
        home = (of.its.start, there-is (live_domain start.policy of.its.start) (All-at (λ (t : Tree). IsSome (live_domain start.policy t.start)) trace of.place of.its homes of.there));
        asked = All-at (λ (t : Tree). IsTrue (list_all (item_is_request tomoyo_grammar.is_path) t.records)) trace of.place of.its asked of.there;
      })

  pub trees-ready : AllByRecursion (IsReady start) (trees_from start.policy 1 trace)
  trees-ready = All-map (IsOfTrace start.policy trace) (IsReady start) (trees_from start.policy 1 trace) tree-ready (trees-of-trace start.policy trace)

  hand-ready : (workers worker : ℕ) → AllByRecursion (IsReady start) (hand_of workers worker (trees_from start.policy 1 trace))
  hand-ready workers worker =
      All-map (λ (t : TreeToPlay). IsReady start t × ((dealt_to workers t.number == worker) ≡ true)) (IsReady start) (hand_of workers worker (trees_from start.policy 1 trace)) (λ t both. both.0)
      (All-filter (IsReady start) (λ (t : TreeToPlay). dealt_to workers t.number == worker) (trees_from start.policy 1 trace) trees-ready)

  -- every worker's hand
  pub hands-ready : (workers : ℕ) (hands : List (List TreeToPlay)) → AreDealt start trace workers hands → AllByRecursion (λ (hand : List TreeToPlay). AllByRecursion (IsReady start) hand) hands
  hands-ready workers hands dealt =
      All-of (λ (hand : List TreeToPlay). AllByRecursion (IsReady start) hand) hands
      (λ k hand at.
      let lt : k < workers = subst (λ n. k < n) dealt.count (within hands k hand at) in
      let both : Some hand ≡ Some (hand_of workers k (trees_from start.policy 1 trace)) = sym at ∙ dealt.each k lt in
      let same : hand ≡ hand_of workers k (trees_from start.policy 1 trace) = cc in
      subst (λ (l : List TreeToPlay). AllByRecursion (IsReady start) l) (sym same) (hand-ready workers k))

module _ {H : Type 0} (Ready : Start → H → Type 0) (start : Start) where
  hands-wait : (hands : List H) → AllByRecursion (Ready start) hands → AllByRecursion (PartWaits Ready start) (map Part.Worker hands)
  hands-wait [] h = tt
  hands-wait (hand ∷ hands) h = (h.0, hands-wait hands h.1)

  editors-wait : (e : ℕ) (editors : List Editor) → e + length editors ≤ length start.editors → AllByRecursion (PartWaits Ready start) (editor_parts (suc e) editors)
  editors-wait e [] le = tt
  editors-wait e (editor ∷ editors) le = ((omega arith, omega (arith, le)), editors-wait (suc e) editors (omega (arith, le)))

  -- every worker's and every editor's part
  pub parts-wait : (hands : List H) → AllByRecursion (Ready start) hands → AllByRecursion (PartWaits Ready start) (working_parts hands start.editors)
  parts-wait hands ready =
      All-append (PartWaits Ready start) (map Part.Worker hands) (editor_parts 1 start.editors)
      (hands-wait hands ready) (editors-wait 0 start.editors (omega arith))
