-- The walk of a tree that a worker plays: line by line, at a history that grows by others' steps.
use Rattle.std.proofs.Common.{◌≡◌, ◌≤◌, ℕ, List, [], ◌∷◌, ◌++◌, length, map, refl, sym, ap, ◌∙◌, subst, arith, append_assoc, append-nil}
use Rattle.std.specs.Prelude.{Some, IsSome, flat_map}
use Rattle.std.specs.List.{AllByRecursion}
use Rattle.std.proofs.lemmas.List.{length-map, map-append}
use Rattle.tm_rules.specs.Types.{Ids, Item, Request, Take, Tree}
use Rattle.tm_rules.specs.Prelude.{IsGrammar, live_domain}
use Rattle.tm_legal.specs.Prelude.{Case, DomainIn, History, IsLegalTake, IsOpened, Scene, Situation, Situations, TreePlayed, after, after_take, at_start, do_pids, forked, newest, passed, seen, tree_cases, with_ids, with_situation}
use Rattle.tm_legal.proofs.Kept.{live_in, some_of}
use Rattle.tm_legal.proofs.Asked.{All-append}
use Rattle.tm_legal.proofs.Histories.{All-push, raised-le}
use Rattle.tm_legal.proofs.Looked.{longer}
use Rattle.tm_legal.proofs.Walks.{All-map, AllAgree-later, AllAgree-with, IsLegalTake-later}
use Rattle.tm_legal.proofs.Takes.{take-sees}
use Rattle.tm_legal.proofs.Legality.{All-taken, tree-taken, tree_cases-none}
use Rattle.tm_joint.specs.UnderWay.{IsReplied, IsWalked}
use Rattle.tm_joint.proofs.Growing.{sound-of, history-grows}

-- Lines that make no step

module _ (scene : Scene) (t : ℕ) (tree : Tree) where
  -- an `ids` line
  pub walk-ids : (history : History) (at : Situations) (pid : ℕ) (ids : Ids) (items : List Item) (takes : List Take) → IsWalked scene history t tree at (Item.Ids pid ids ∷ items) takes → IsWalked scene history t tree (with_situation at pid (with_ids (at pid) ids)) items takes
  unfolding tree_cases
  walk-ids history at pid ids items takes h =
      let a = h.agree pid in
      record {
        walked = with_situation h.walked pid (with_ids (h.walked pid) ids);
        done = h.done;
        cases = h.cases;
        pids = h.pids;
        agree =
            AllAgree-with (newest scene history).policy (length history) h.walked at pid (with_ids (h.walked pid) ids) (with_ids (at pid) ids)
            (record { process = rw a.process refl; domain = a.domain; floor = a.floor; pid_is = a.pid_is; number = a.number; numbered = a.numbered; there = a.there })
            h.agree;
        legal = h.legal;
      }

  -- a `fork` line
  pub walk-fork : (history : History) (at : Situations) (pid child : ℕ) (items : List Item) (takes : List Take) → IsWalked scene history t tree at (Item.Fork pid child ∷ items) takes → IsWalked scene history t tree (with_situation at child (forked (at pid) child)) items takes
  unfolding tree_cases
  walk-fork history at pid child items takes h =
      let a = h.agree pid in
      record {
        walked = with_situation h.walked child (forked (h.walked pid) child);
        done = h.done;
        cases = h.cases;
        pids = h.pids;
        agree =
            AllAgree-with (newest scene history).policy (length history) h.walked at child (forked (h.walked pid) child) (forked (at pid) child)
            (record { process = rw a.process refl; domain = a.domain; floor = a.floor; pid_is = refl; number = a.number; numbered = a.numbered; there = a.there })
            h.agree;
        legal = h.legal;
      }

  -- all lines before the next request
  pub walk-passes : (history : History) (at : Situations) (items : List Item) (takes : List Take) → IsWalked scene history t tree at items takes → IsWalked scene history t tree (passed scene.grammar at items).0 (passed scene.grammar at items).1 takes
  walk-passes history at [] takes h = h
  walk-passes history at (Item.Ids pid ids ∷ items) takes h = walk-passes history (with_situation at pid (with_ids (at pid) ids)) items takes (walk-ids history at pid ids items takes h)
  walk-passes history at (Item.Fork pid child ∷ items) takes h = walk-passes history (with_situation at child (forked (at pid) child)) items takes (walk-fork history at pid child items takes h)
  walk-passes history at (Item.Do pid request ∷ items) takes h = h

  -- the process of the next request stands in a domain that is there
  pub walk-stands : (history : History) (at : Situations) (left : List Item) (takes : List Take) (pid : ℕ) → IsWalked scene history t tree at left takes → (d : ℕ) × ((at pid).domain ≡ Some d) × DomainIn (newest scene history).policy d
  walk-stands history at left takes pid h = let a = h.agree pid in (a.number, a.numbered, a.there)

  -- no request is left
  pub walk-ends : (history : History) (at : Situations) (left : List Item) (takes : List Take) → do_pids left ≡ [] → IsWalked scene history t tree at left takes → TreePlayed scene history t tree takes
  walk-ends history at left takes none h =
      let are : tree_cases t (at_start scene.policy tree) tree.records takes ≡ h.done =
      ap (tree_cases t (at_start scene.policy tree) tree.records) (sym (append-nil takes)) ∙ h.cases [] ∙ rw (tree_cases-none t h.walked left) (append-nil h.done) in
      record {
        pids = sym (append-nil (map (λ (m : Take). m.pid) takes)) ∙ rw none at h.pids;
        cases = rw are h.legal;
      }

-- Beside others

-- at version 0 the live domain of a tree's name is there
first-there : (scene : Scene) → IsOpened scene.policy → (tree : Tree) (n : ℕ) → live_domain scene.policy tree.start ≡ Some n → DomainIn (newest scene []).policy n
unfolding after
first-there scene opened tree n is = live_in scene.policy tree.start n (sound-of scene.policy opened) is

module _ (scene : Scene) (grammar : IsGrammar scene.grammar) (opened : IsOpened scene.policy) (t : ℕ) (tree : Tree) where
  -- a tree stays where it is while others make steps
  pub walk-grows : (history more : History) (at : Situations) (left : List Item) (takes : List Take) → IsReplied scene (history ++ more) → IsWalked scene history t tree at left takes → IsWalked scene (history ++ more) t tree at left takes
  walk-grows history more at left takes replied h =
      record {
        walked = h.walked;
        done = h.done;
        cases = h.cases;
        pids = h.pids;
        agree =
            AllAgree-later (newest scene history).policy (newest scene (history ++ more)).policy (length history) (length (history ++ more)) h.walked at (history-grows scene grammar opened history more replied).keeps (longer history more)
            h.agree;
        legal = All-map (IsLegalTake scene history) (IsLegalTake scene (history ++ more)) h.done (IsLegalTake-later scene history more) h.legal;
      }

  -- it begins with every process in the live domain of its name
  first-walk : IsSome (live_domain scene.policy tree.start) → IsWalked scene [] t tree (at_start scene.policy tree) tree.records []
  first-walk starts =
      let live = some_of (live_domain scene.policy tree.start) starts in
      record {
        walked = at_start scene.policy tree;
        done = [];
        cases = λ more. refl;
        pids = refl;
        agree = λ pid. record { process = refl; domain = refl; floor = omega arith; pid_is = refl; number = live.0; numbered = live.1; there = first-there scene opened tree live.0 live.1 };
        legal = tt;
      }

  pub walk-begins : (history : History) → IsReplied scene history → IsSome (live_domain scene.policy tree.start) → IsWalked scene history t tree (at_start scene.policy tree) tree.records []
  walk-begins history replied starts = walk-grows [] history (at_start scene.policy tree) tree.records [] replied (first-walk starts)

  -- a request whose take has ended meanwhile; that take is legal from each floor that is no newer
  -- than the history before it
  pub walk-take : (history more : History) (at : Situations) (pid : ℕ) (request : Request) (items : List Item) (takes : List Take) (k : Take) → IsReplied scene (history ++ more) → IsWalked scene history t tree at (Item.Do pid request ∷ items) takes → k.pid ≡ (at pid).process.pid → ((now : Situation) → now.process ≡ (at pid).process → now.domain ≡ (at pid).domain → now.floor ≤ length history → IsLegalTake scene (history ++ more) (record { tree = t; now = now; request = request; taken = k })) → DomainIn (newest scene (history ++ more)).policy k.after → IsWalked scene (history ++ more) t tree (with_situation at pid (record (at pid) { domain = Some k.after })) items (takes ++ k ∷ [])
  unfolding tree_cases walk-grows
  walk-take history more at pid request items takes k replied before is legal there =
      let h = walk-grows history more at (Item.Do pid request ∷ items) takes replied before in
      let a = before.agree pid in
      let c : Case = record { tree = t; now = before.walked pid; request = request; taken = k } in
      let good : IsLegalTake scene (history ++ more) c = legal (before.walked pid) a.process a.domain a.floor in
      let sees : AllByRecursion (λ n. n ≤ length (history ++ more)) (flat_map seen k.looks) = take-sees scene (history ++ more) c good in
      let low : (before.walked pid).floor ≤ length (history ++ more) = (h.agree pid).floor in
      let same : k.pid ≡ pid = is ∙ a.pid_is in
      record {
        walked = with_situation before.walked pid (after_take (before.walked pid) k);
        done = before.done ++ c ∷ [];
        cases = λ others. rw (append_assoc takes (k ∷ []) others, append_assoc before.done (c ∷ []) (tree_cases t (with_situation before.walked pid (after_take (before.walked pid) k)) items others)) (before.cases (k ∷ others));
        pids = rw (map-append (λ (m : Take). m.pid) takes (k ∷ []), append_assoc (map (λ (m : Take). m.pid) takes) (k.pid ∷ []) (do_pids items), same) before.pids;
        agree =
            AllAgree-with (newest scene (history ++ more)).policy (length (history ++ more)) before.walked at pid (after_take (before.walked pid) k) (record (at pid) { domain = Some k.after })
            (record { process = a.process; domain = refl; floor = raised-le (before.walked pid).floor (length (history ++ more)) (flat_map seen k.looks) low sees; pid_is = a.pid_is; number = k.after; numbered = refl; there = there })
            h.agree;
        legal = All-push (IsLegalTake scene (history ++ more)) before.done c h.legal good;
      }

-- A tree that is played

-- it stays so
pub played-grows : (scene : Scene) (history more : History) (t : ℕ) (tree : Tree) (takes : List Take) → TreePlayed scene history t tree takes → TreePlayed scene (history ++ more) t tree takes
played-grows scene history more t tree takes h =
    record {
      pids = h.pids;
      cases = All-map (IsLegalTake scene history) (IsLegalTake scene (history ++ more)) (tree_cases t (at_start scene.policy tree) tree.records takes) (IsLegalTake-later scene history more) h.cases;
    }

all-flat : (n : ℕ) (takes : List Take) → AllByRecursion (λ (k : Take). AllByRecursion (λ v. v ≤ n) (flat_map seen k.looks)) takes → AllByRecursion (λ v. v ≤ n) (flat_map (λ (k : Take). flat_map seen k.looks) takes)
all-flat n [] all = tt
all-flat n (k ∷ takes) all = All-append (λ v. v ≤ n) (flat_map seen k.looks) (flat_map (λ (m : Take). flat_map seen m.looks) takes) all.0 (all-flat n takes all.1)

-- all that its takes have seen is of the history, so that an end above the history stands above it
pub played-sees : (scene : Scene) (history : History) (t : ℕ) (tree : Tree) (takes : List Take) → TreePlayed scene history t tree takes → AllByRecursion (λ v. v ≤ length history) (flat_map (λ (k : Take). flat_map seen k.looks) takes)
played-sees scene history t tree takes h =
    let cases : List Case = tree_cases t (at_start scene.policy tree) tree.records takes in
    let many : length takes ≡ length (do_pids tree.records) = sym (length-map takes (λ (k : Take). k.pid)) ∙ ap length h.pids in
    let are : map (λ (c : Case). c.taken) cases ≡ takes = tree-taken t (at_start scene.policy tree) tree.records takes (omega (arith, many)) in
    all-flat (length history) takes
    (subst (AllByRecursion (λ (k : Take). AllByRecursion (λ v. v ≤ length history) (flat_map seen k.looks))) are
    (All-taken scene history (λ (k : Take). AllByRecursion (λ v. v ≤ length history) (flat_map seen k.looks)) (take-sees scene history) cases h.cases))
