-- Both runs' walks through all trees, side by side.
use Rattle.std.proofs.Common.{◌≡◌, ℕ, zero, suc, ◌+◌, List, [], ◌∷◌, ◌++◌, length, take, drop, refl, ap, ◌∙◌, arith, length-append}
use Rattle.std.specs.List.{AllByRecursion}
use Rattle.tm_rules.specs.Prelude.{Grammar, Trace, live_domain}
use Rattle.tm_rules.specs.Types.{Item, Policy, Take, Tree}
use Rattle.tm_legal.specs.Prelude.{Case, History, Situations, after_take, all_do_pids, alone, at_start, cases_from, do_pids, forked, tree_cases, with_ids, with_situation}
use Rattle.tm_rerun_laws.proofs.Lists.{All-split}
use Rattle.tm_rerun_laws.proofs.BothWalk.{Pairs, Pairs-join, Agree, AllAgree, AllAgree-with, TakeAgain, FirstCase, SecondCase, take-again, agree-after}

-- Lists

take-length : {A : Type 0} (n m : ℕ) (xs : List A) → length xs ≡ n + m → length (take n xs) ≡ n
take-length zero m xs e = refl
take-length (suc n) m [] e = absurd (omega arith)
take-length (suc n) m (x ∷ xs) e = ap suc (take-length n m xs (omega arith))

drop-length : {A : Type 0} (n m : ℕ) (xs : List A) → length xs ≡ n + m → length (drop n xs) ≡ m
drop-length zero m xs e = omega (arith, e)
drop-length (suc n) m [] e = absurd (omega arith)
drop-length (suc n) m (x ∷ xs) e = drop-length n m xs (omega arith)

-- The walks

module _ (g : Grammar) (q : Policy) (trace : Trace) (h : History) where
  both-tree : (t : ℕ) (items : List Item) (at1 at2 : Situations) (takes1 takes2 : List Take) → length takes1 ≡ length (do_pids items) → length takes2 ≡ length (do_pids items) → AllAgree at1 at2
      → AllByRecursion (FirstCase g q) (tree_cases t at1 items takes1) → AllByRecursion (SecondCase (alone g q trace) h) (tree_cases t at2 items takes2) → Pairs (TakeAgain h) takes1 takes2
  unfolding tree_cases
  both-tree t [] at1 at2 [] [] l1 l2 agree one two = tt
  both-tree t [] at1 at2 [] (y ∷ ys) l1 l2 agree one two = absurd cc
  both-tree t [] at1 at2 (x ∷ xs) ys l1 l2 agree one two = absurd cc
  both-tree t (Item.Ids pid ids ∷ items) at1 at2 xs ys l1 l2 agree one two =
      let a : Agree (at1 pid) (at2 pid) = agree pid in
      both-tree t items (with_situation at1 pid (with_ids (at1 pid) ids)) (with_situation at2 pid (with_ids (at2 pid) ids)) xs ys l1 l2
      (AllAgree-with at1 at2 pid (with_ids (at1 pid) ids) (with_ids (at2 pid) ids) (record { process = rw a.process refl; domain = a.domain }) agree) one two
  both-tree t (Item.Fork pid child ∷ items) at1 at2 xs ys l1 l2 agree one two =
      let a : Agree (at1 pid) (at2 pid) = agree pid in
      both-tree t items (with_situation at1 child (forked (at1 pid) child)) (with_situation at2 child (forked (at2 pid) child)) xs ys l1 l2
      (AllAgree-with at1 at2 child (forked (at1 pid) child) (forked (at2 pid) child) (record { process = rw a.process refl; domain = a.domain }) agree) one two
  both-tree t (Item.Do pid request ∷ items) at1 at2 [] ys l1 l2 agree one two = absurd cc
  both-tree t (Item.Do pid request ∷ items) at1 at2 (x ∷ xs) [] l1 l2 agree one two = absurd cc
  both-tree t (Item.Do pid request ∷ items) at1 at2 (x ∷ xs) (y ∷ ys) l1 l2 agree one two =
      let c1 : Case = record { tree = t; now = at1 pid; request = request; taken = x } in
      let c2 : Case = record { tree = t; now = at2 pid; request = request; taken = y } in (
        take-again g q trace h c1 c2 (agree pid) refl one.0 two.0,
        both-tree t items (with_situation at1 pid (after_take (at1 pid) x)) (with_situation at2 pid (after_take (at2 pid) y)) xs ys (omega (arith, l1)) (omega (arith, l2))
            (AllAgree-with at1 at2 pid (after_take (at1 pid) x) (after_take (at2 pid) y) (agree-after g q trace h c1 c2 (agree pid) refl one.0 two.0) agree) one.1 two.1,
      )

  pub both-trees : (trees : Trace) (t : ℕ) (policy : Policy) (takes1 takes2 : List Take) → length takes1 ≡ length (all_do_pids trees) → length takes2 ≡ length (all_do_pids trees)
      → AllByRecursion (λ (tree : Tree). live_domain q tree.start ≡ live_domain policy tree.start) trees
      → AllByRecursion (FirstCase g q) (cases_from t policy trees takes1) → AllByRecursion (SecondCase (alone g q trace) h) (cases_from t q trees takes2) → Pairs (TakeAgain h) takes1 takes2
  unfolding cases_from
  both-trees [] t policy [] [] l1 l2 starts one two = tt
  both-trees [] t policy [] (y ∷ ys) l1 l2 starts one two = absurd cc
  both-trees [] t policy (x ∷ xs) ys l1 l2 starts one two = absurd cc
  both-trees (tree ∷ trees) t policy xs ys l1 l2 starts one two =
      let own : ℕ = length (do_pids tree.records) in
      let rest : ℕ = length (all_do_pids trees) in
      let sum : length (do_pids tree.records ++ all_do_pids trees) ≡ own + rest = length-append (do_pids tree.records) (all_do_pids trees) in
      let s1 = All-split (FirstCase g q) (tree_cases t (at_start policy tree) tree.records (take own xs)) (cases_from (suc t) policy trees (drop own xs)) one in
      let s2 = All-split (SecondCase (alone g q trace) h) (tree_cases t (at_start q tree) tree.records (take own ys)) (cases_from (suc t) q trees (drop own ys)) two in
      Pairs-join (TakeAgain h) own xs ys
      (both-tree t tree.records (at_start policy tree) (at_start q tree) (take own xs) (take own ys) (take-length own rest xs (l1 ∙ sum)) (take-length own rest ys (l2 ∙ sum)) (λ pid. record { process = refl; domain = λ low. starts.0 }) s1.0 s2.0)
      (both-trees trees (suc t) policy (drop own xs) (drop own ys) (drop-length own rest xs (l1 ∙ sum)) (drop-length own rest ys (l2 ∙ sum)) starts.1 s1.1 s2.1)
