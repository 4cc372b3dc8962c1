-- The takes of a tree's processes, merged in the order of its `do` lines, are the takes of the
-- tree.
use Rattle.std.proofs.Common.{◌≡◌, ℕ, List, [], ◌∷◌, map, Bool, true, false, true≢false, refl, sym, ap, ◌∙◌, subst}
use Rattle.std.specs.Prelude.{if◌then◌else◌, ◌==◌}
use Rattle.std.specs.List.{AllByRecursion}
use Rattle.std.proofs.lemmas.Bool.{eqb-true, eq-eqb}
use Rattle.tm_rules.specs.Types.{Ids, Item, Request, Take, Tree}
use Rattle.tm_legal.specs.Prelude.{Case, History, IsLegalTake, Scene, Situation, Situations, TreePlayed, after_take, at_start, do_pids, forked, tree_cases, with_ids, with_situation}
use Rattle.tm_joint.specs.Processes.{lines_of, ProcessPlayed, Queues, with_queue, next_take, merged, with_process, LinesAreOfTree}
use Rattle.tm_rules.specs.Prelude.{pid_of_line}

-- Whether two numbers are equal

other-way : (a b : ℕ) → (a == b) ≡ false → (b == a) ≡ false
other-way a b e = go (b == a) refl
  where
    go : (c : Bool) → (b == a) ≡ c → (b == a) ≡ false
    go false is = is
    go true is = absurd (true≢false (sym (eq-eqb a b (sym (eqb-true b a is))) ∙ e))

-- a process that is there isn't one that isn't
not-there : (there : ℕ → Bool) (pid child : ℕ) → there pid ≡ true → there child ≡ false → (pid == child) ≡ false
not-there there pid child is isnt = go (pid == child) refl
  where
    go : (c : Bool) → (pid == child) ≡ c → (pid == child) ≡ false
    go false e = e
    go true e = absurd (true≢false (sym is ∙ ap there (eqb-true pid child e) ∙ isnt))

-- A process's own lines

own-line : (item : Item) (items : List Item) → lines_of (pid_of_line item) (item ∷ items) ≡ item ∷ lines_of (pid_of_line item) items
own-line item items = rw (eq-eqb (pid_of_line item) (pid_of_line item) refl) refl

other-line : (pid : ℕ) (item : Item) (items : List Item) → (pid == pid_of_line item) ≡ false → lines_of pid (item ∷ items) ≡ lines_of pid items
other-line pid item items e = rw (other-way pid (pid_of_line item) e) refl

module _ (P : Case → Type 0) (t : ℕ) (start : ℕ → Situation) where
  -- where a process stands: as its parent has left it, until it is there
  abbrev stands : (ℕ → Bool) → Situations → ℕ → Situation
  stands there at pid = if there pid then at pid else start pid

  -- each process, with the lines and the takes that it has left
  abbrev AllPlayed : (ℕ → Bool) → Situations → List Item → Queues → Type 0
  AllPlayed there at items queue = (pid : ℕ) → ProcessPlayed P t start (stands there at pid) (lines_of pid items) (queue pid)

  -- the process of the next line
  own-played : (there : ℕ → Bool) (at : Situations) (item : Item) (items : List Item) (queue : Queues) → there (pid_of_line item) ≡ true → AllPlayed there at (item ∷ items) queue → ProcessPlayed P t start (at (pid_of_line item)) (item ∷ lines_of (pid_of_line item) items) (queue (pid_of_line item))
  own-played there at item items queue is each =
      subst (λ (lines : List Item). ProcessPlayed P t start (at (pid_of_line item)) lines (queue (pid_of_line item))) (own-line item items)
      (subst (λ (b : Bool). ProcessPlayed P t start (if b then at (pid_of_line item) else start (pid_of_line item)) (lines_of (pid_of_line item) (item ∷ items)) (queue (pid_of_line item))) is (each (pid_of_line item)))

  -- the others
  other-played : (there : ℕ → Bool) (at : Situations) (item : Item) (items : List Item) (queue : Queues) (pid : ℕ) → (pid == pid_of_line item) ≡ false → AllPlayed there at (item ∷ items) queue → ProcessPlayed P t start (stands there at pid) (lines_of pid items) (queue pid)
  other-played there at item items queue pid e each = subst (λ (lines : List Item). ProcessPlayed P t start (stands there at pid) lines (queue pid)) (other-line pid item items e) (each pid)

  -- after an `ids` line
  after-ids : (there : ℕ → Bool) (at : Situations) (pid : ℕ) (ids : Ids) (items : List Item) (queue : Queues) → there pid ≡ true → AllPlayed there at (Item.Ids pid ids ∷ items) queue → AllPlayed there (with_situation at pid (with_ids (at pid) ids)) items queue
  after-ids there at pid ids items queue is each other = go (other == pid) refl
    where
      go : (b : Bool) → (other == pid) ≡ b → ProcessPlayed P t start (if there other then (if b then with_ids (at pid) ids else at other) else start other) (lines_of other items) (queue other)
      go false e = other-played there at (Item.Ids pid ids) items queue other e each
      go true e =
          subst (λ (k : ℕ). ProcessPlayed P t start (if there k then with_ids (at pid) ids else start k) (lines_of k items) (queue k)) (sym (eqb-true other pid e))
          (subst (λ (b : Bool). ProcessPlayed P t start (if b then with_ids (at pid) ids else start pid) (lines_of pid items) (queue pid)) (sym is) (own-played there at (Item.Ids pid ids) items queue is each))

  -- after a `fork` line
  after-fork : (there : ℕ → Bool) (at : Situations) (pid child : ℕ) (items : List Item) (queue : Queues) → there pid ≡ true → there child ≡ false → AllPlayed there at (Item.Fork pid child ∷ items) queue → AllPlayed (with_process there child) (with_situation at child (forked (at pid) child)) items queue
  after-fork there at pid child items queue is isnt each other = go (other == child) refl
    where
      parent : (start child ≡ forked (at pid) child) × ProcessPlayed P t start (at pid) (lines_of pid items) (queue pid)
      parent = own-played there at (Item.Fork pid child) items queue is each

      -- the child
      born : ProcessPlayed P t start (start child) (lines_of child items) (queue child)
      born =
          subst (λ (b : Bool). ProcessPlayed P t start (if b then at child else start child) (lines_of child items) (queue child)) isnt
          (other-played there at (Item.Fork pid child) items queue child (other-way pid child (not-there there pid child is isnt)) each)

      -- the others
      stays : (b : Bool) → (other == pid) ≡ b → ProcessPlayed P t start (stands there at other) (lines_of other items) (queue other)
      stays false e = other-played there at (Item.Fork pid child) items queue other e each
      stays true e =
          subst (λ (k : ℕ). ProcessPlayed P t start (stands there at k) (lines_of k items) (queue k)) (sym (eqb-true other pid e))
          (subst (λ (b : Bool). ProcessPlayed P t start (if b then at pid else start pid) (lines_of pid items) (queue pid)) (sym is) parent.1)

      go : (b : Bool) → (other == child) ≡ b → ProcessPlayed P t start (if (if b then true else there other) then (if b then forked (at pid) child else at other) else start other) (lines_of other items) (queue other)
      go false e = stays (other == pid) refl
      go true e =
          subst (λ (k : ℕ). ProcessPlayed P t start (forked (at pid) child) (lines_of k items) (queue k)) (sym (eqb-true other child e))
          (subst (λ (now : Situation). ProcessPlayed P t start now (lines_of child items) (queue child)) parent.0 born)

  -- after a `do` line, whose process had this take left
  after-do : (there : ℕ → Bool) (at : Situations) (pid : ℕ) (request : Request) (items : List Item) (queue : Queues) (k : Take) (takes : List Take) → there pid ≡ true → AllPlayed there at (Item.Do pid request ∷ items) queue → ProcessPlayed P t start (after_take (at pid) k) (lines_of pid items) takes → AllPlayed there (with_situation at pid (after_take (at pid) k)) items (with_queue queue pid takes)
  after-do there at pid request items queue k takes is each own other = go (other == pid) refl
    where
      go : (b : Bool) → (other == pid) ≡ b → ProcessPlayed P t start (if there other then (if b then after_take (at pid) k else at other) else start other) (lines_of other items) (if b then takes else queue other)
      go false e = other-played there at (Item.Do pid request) items queue other e each
      go true e =
          subst (λ (m : ℕ). ProcessPlayed P t start (if there m then after_take (at pid) k else start m) (lines_of m items) takes) (sym (eqb-true other pid e))
          (subst (λ (b : Bool). ProcessPlayed P t start (if b then after_take (at pid) k else start pid) (lines_of pid items) takes) (sym is) own)

  -- so what holds of each process's takes by itself holds of the takes of the tree
  pub merged-cases : (items : List Item) (there : ℕ → Bool) (at : Situations) (queue : Queues) → LinesAreOfTree there items → AllPlayed there at items queue → AllByRecursion P (tree_cases t at items (merged items queue)) × (map (λ (k : Take). k.pid) (merged items queue) ≡ do_pids items)
  unfolding tree_cases merged
  merged-cases [] there at queue of_tree each = (tt, refl)
  merged-cases (Item.Ids pid ids ∷ items) there at queue of_tree each =
      merged-cases items there (with_situation at pid (with_ids (at pid) ids)) queue of_tree.1 (after-ids there at pid ids items queue of_tree.0 each)
  merged-cases (Item.Fork pid child ∷ items) there at queue of_tree each =
      merged-cases items (with_process there child) (with_situation at child (forked (at pid) child)) queue of_tree.2 (after-fork there at pid child items queue of_tree.0 of_tree.1 each)
  merged-cases (Item.Do pid request ∷ items) there at queue of_tree each =
      go (queue pid) (own-played there at (Item.Do pid request) items queue of_tree.0 each) (λ k takes own. merged-cases items there (with_situation at pid (after_take (at pid) k)) (with_queue queue pid takes) of_tree.1 (after-do there at pid request items queue k takes of_tree.0 each own))
    where
      go : (takes : List Take) → ProcessPlayed P t start (at pid) (Item.Do pid request ∷ lines_of pid items) takes → ((k : Take) (rest : List Take) → ProcessPlayed P t start (after_take (at pid) k) (lines_of pid items) rest → (let later : List Take = merged items (with_queue queue pid rest) in AllByRecursion P (tree_cases t (with_situation at pid (after_take (at pid) k)) items later) × (map (λ (m : Take). m.pid) later ≡ do_pids items))) → (let all : List Take = next_take takes (λ (rest : List Take). merged items (with_queue queue pid rest)) in AllByRecursion P (tree_cases t at (Item.Do pid request ∷ items) all) × (map (λ (m : Take). m.pid) all ≡ pid ∷ do_pids items))
      go [] own later = absurd own
      go (k ∷ takes) own later = let rest = later k takes own.2 in ((own.1, rest.0), rw (own.0, rest.1) refl)

-- a tree whose processes have been played each by itself: the first one from the live domain of the
-- tree's name, every other one as its parent left it
pub processes-played : (scene : Scene) (history : History) (t : ℕ) (tree : Tree) (start : ℕ → Situation) (queue : Queues) → LinesAreOfTree (λ pid. pid == tree.pid) tree.records → start tree.pid ≡ at_start scene.policy tree tree.pid → ((pid : ℕ) → ProcessPlayed (IsLegalTake scene history) t start (start pid) (lines_of pid tree.records) (queue pid)) → TreePlayed scene history t tree (merged tree.records queue)
processes-played scene history t tree start queue of_tree first each =
    let all = merged-cases (IsLegalTake scene history) t start tree.records (λ pid. pid == tree.pid) (at_start scene.policy tree) queue of_tree (λ pid. at_first pid (pid == tree.pid) refl) in
    record { pids = all.1; cases = all.0 }
  where
    at_first : (pid : ℕ) (b : Bool) → (pid == tree.pid) ≡ b → ProcessPlayed (IsLegalTake scene history) t start (if b then at_start scene.policy tree pid else start pid) (lines_of pid tree.records) (queue pid)
    at_first pid false e = each pid
    at_first pid true e =
        subst (λ (k : ℕ). ProcessPlayed (IsLegalTake scene history) t start (at_start scene.policy tree k) (lines_of k tree.records) (queue k)) (sym (eqb-true pid tree.pid e))
        (subst (λ (now : Situation). ProcessPlayed (IsLegalTake scene history) t start now (lines_of tree.pid tree.records) (queue tree.pid)) first (each tree.pid))
