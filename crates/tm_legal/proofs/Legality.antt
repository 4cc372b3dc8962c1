-- What ended takes come to: the clauses of legality, tree by tree.
use Rattle.std.proofs.Common.{◌≡◌, ◌<◌, ◌≤◌, ℕ, zero, suc, ◌+◌, List, [], ◌∷◌, ◌++◌, length, map, take, drop, Bool, true, false, true≢false, refl, sym, ap, ◌∙◌, subst, arith, append-nil}
use Rattle.std.specs.Prelude.{Option, Some, None, if◌then◌else◌, ◌==◌, flat_map, slice_get}
use Rattle.std.specs.Option.{IfSome}
use Rattle.std.specs.List.{AllByRecursion}
use Rattle.std.proofs.lemmas.Bool.{eqb-true}
use Rattle.std.proofs.lemmas.List.{length-append, length-drop, length-map, length-take, map-append, take-append-drop}
use Rattle.std.proofs.lemmas.Grind.{flat_map-append}
use Rattle.tm_rules.specs.Types.{Item, Look, Policy, Run, Take, Tree}
use Rattle.tm_rules.specs.Prelude.{Trace}
use Rattle.tm_legal.specs.Prelude.{Case, EndsWith, History, InProgress, IsLegalTake, LegalTakesMakeLegalRuns, LookDone, LookHears, LookHolds, LooksRise, OwnSteps, Scene, Situations, State, TakeHears, TakeHolds, TakesInOrder, Way, after_take, all_do_pids, at_start, cases_from, cases_of, do_pids, forked, is_end, last_look, own_numbers, places, seen, subject_of, times, tree_cases, with_ids, with_situation}
use Rattle.tm_legal.proofs.Laws.{times-append}
use Rattle.tm_legal.proofs.Asked.{All-append}
use Rattle.tm_legal.proofs.Walks.{All-map, BegunHolds, EndsAs, is_over, WayHolds}
use Rattle.tm_legal.proofs.Counts.{EachWay, way_own, count_own}

-- The clauses of one take

module _ (scene : Scene) (history : History) (c : Case) (h : IsLegalTake scene history c) where
  shows : AllByRecursion (LookHolds scene history (subject_of c)) c.taken.looks
  shows = All-map (LookDone scene history (subject_of c)) (LookHolds scene history (subject_of c)) c.taken.looks (λ look d. d.holds) h.looks

  owns : AllByRecursion (OwnSteps scene history (subject_of c)) c.taken.looks
  owns = All-map (LookDone scene history (subject_of c)) (OwnSteps scene history (subject_of c)) c.taken.looks (λ look d. d.owns) h.looks

  hears : AllByRecursion (LookHears scene history) c.taken.looks
  hears = All-map (LookDone scene history (subject_of c)) (LookHears scene history) c.taken.looks (λ look d. d.hears) h.looks

pub All-taken : (scene : Scene) (history : History) (P : Take → Type 0) → ((c : Case) → IsLegalTake scene history c → P c.taken) → (done : List Case) → AllByRecursion (IsLegalTake scene history) done → AllByRecursion P (map (λ (c : Case). c.taken) done)
All-taken scene history P f [] h = tt
All-taken scene history P f (c ∷ done) h = (f c h.0, All-taken scene history P f done h.1)

-- The takes of all cases are all takes

pub tree-taken : (t : ℕ) (now : Situations) (items : List Item) (takes : List Take) → length takes ≤ length (do_pids items) → map (λ (c : Case). c.taken) (tree_cases t now items takes) ≡ takes
unfolding tree_cases
tree-taken t now [] [] le = refl
tree-taken t now [] (k ∷ takes) le = absurd (omega arith)
tree-taken t now (Item.Ids pid ids ∷ items) takes le = tree-taken t (with_situation now pid (with_ids (now pid) ids)) items takes le
tree-taken t now (Item.Fork pid child ∷ items) takes le = tree-taken t (with_situation now child (forked (now pid) child)) items takes le
tree-taken t now (Item.Do pid request ∷ items) [] le = refl
tree-taken t now (Item.Do pid request ∷ items) (k ∷ takes) le = ap (λ ks. k ∷ ks) (tree-taken t (with_situation now pid (after_take (now pid) k)) items takes (omega arith))

all-taken : (t : ℕ) (policy : Policy) (trees : Trace) (takes : List Take) → length takes ≤ length (all_do_pids trees) → map (λ (c : Case). c.taken) (cases_from t policy trees takes) ≡ takes
unfolding cases_from
all-taken t policy [] [] le = refl
all-taken t policy [] (k ∷ takes) le = absurd (omega arith)
all-taken t policy (tree ∷ trees) takes le =
    let own : ℕ = length (do_pids tree.records) in
    let sum : length takes ≤ own + length (all_do_pids trees) = rw (length-append (do_pids tree.records) (all_do_pids trees)) at le in
    let front : map (λ (c : Case). c.taken) (tree_cases t (at_start policy tree) tree.records (take own takes)) ≡ take own takes =
    tree-taken t (at_start policy tree) tree.records (take own takes) (rw (length-take own takes) (omega arith)) in
    let rest : map (λ (c : Case). c.taken) (cases_from (suc t) policy trees (drop own takes)) ≡ drop own takes = all-taken (suc t) policy trees (drop own takes) (rw (length-drop own takes) (omega (arith, sum))) in
    map-append (λ (c : Case). c.taken) (tree_cases t (at_start policy tree) tree.records (take own takes)) (cases_from (suc t) policy trees (drop own takes)) ∙ rw (front, rest) (take-append-drop own takes)

-- takes that are in order are those of the cases
pub cases_take : (scene : Scene) (run : Run) → TakesInOrder scene run → map (λ (c : Case). c.taken) (cases_of scene run) ≡ run.takes
cases_take scene run order =
    let long : length run.takes ≡ length (all_do_pids scene.trace) = sym (length-map run.takes (λ (t : Take). t.pid)) ∙ ap length order.pids in
    all-taken 1 scene.policy scene.trace run.takes (omega (arith, long))

-- A run is legal where each take is, its steps have their places, and the supervisor acts as it
-- should

pub legal-of : LegalTakesMakeLegalRuns
legal-of scene run pids each places acts =
    record {
      takes = record { pids = pids; looks = of_takes (λ (k : Take). 0 < length k.looks) (λ c h. h.some) };
      versions = of_cases (λ c. LooksRise run.steps c.now.floor c.taken.looks) (λ c h. h.rises);
      verdicts = of_cases (TakeHolds scene run.steps) (λ c h. record { before = h.before; shown = shows scene run.steps c h });
      own_steps = of_cases (λ c. AllByRecursion (OwnSteps scene run.steps (subject_of c)) c.taken.looks) (owns scene run.steps);
      places = places;
      supervisor = acts;
      answers = of_takes (TakeHears scene run.steps) (λ c h. record { heard = hears scene run.steps c h; follow = h.follows });
      outcomes = of_cases (λ c. IfSome (last_look c.taken.looks) (EndsWith scene run.steps (subject_of c) c.taken)) (λ c h. h.ends);
    }
  where
    of_cases : (P : Case → Type 0) → ((c : Case) → IsLegalTake scene run.steps c → P c) → AllByRecursion P (cases_of scene run)
    of_cases P f = All-map (IsLegalTake scene run.steps) P (cases_of scene run) f each

    as_many : length run.takes ≡ length (all_do_pids scene.trace)
    as_many = sym (length-map run.takes (λ (k : Take). k.pid)) ∙ ap length pids

    of_takes : (P : Take → Type 0) → ((c : Case) → IsLegalTake scene run.steps c → P c.taken) → AllByRecursion P run.takes
    of_takes P f =
        subst (AllByRecursion P) (all-taken 1 scene.policy scene.trace run.takes (omega (arith, as_many))) (All-taken scene run.steps P f (cases_of scene run) each)

take-front : {A : Type 0} (xs ys : List A) → take (length xs) (xs ++ ys) ≡ xs
take-front [] ys = refl
take-front (x ∷ xs) ys = ap (λ zs. x ∷ zs) (take-front xs ys)

drop-front : {A : Type 0} (xs ys : List A) → drop (length xs) (xs ++ ys) ≡ ys
drop-front [] ys = refl
drop-front (x ∷ xs) ys = drop-front xs ys

-- Trees that are done

-- no take has begun and no request is left
pub record IsDone (way : Way) : Type 0 where
  pub idle : way.begun ≡ None
  pub empty : do_pids way.items ≡ []

-- all takes of these trees
abbrev pub takes_of : List Way → List Take
takes_of ways = flat_map (λ (way : Way). way.takes) ways

pub tree_cases-none : (t : ℕ) (now : Situations) (items : List Item) → tree_cases t now items [] ≡ []
unfolding tree_cases
tree_cases-none t now [] = refl
tree_cases-none t now (Item.Ids pid ids ∷ items) = tree_cases-none t (with_situation now pid (with_ids (now pid) ids)) items
tree_cases-none t now (Item.Fork pid child ∷ items) = tree_cases-none t (with_situation now child (forked (now pid) child)) items
tree_cases-none t now (Item.Do pid request ∷ items) = refl

done-pids : (scene : Scene) (history : History) (s : State) (t : ℕ) (tree : Tree) (way : Way) → WayHolds scene history s t tree way → IsDone way → map (λ (k : Take). k.pid) way.takes ≡ do_pids tree.records
done-pids scene history s t tree way h done =
    let left : h.left ≡ way.items = go way.begun done.idle h.begun in
    sym (append-nil (map (λ (k : Take). k.pid) way.takes)) ∙ rw (left, done.empty) at h.pids
  where
    go : (o : Option InProgress) → o ≡ None → BegunHolds scene history s h.walked way.at way.items h.left o → h.left ≡ way.items
    go None e b = b
    go (Some b) e held = absurd cc

done-cases : (scene : Scene) (history : History) (s : State) (P : Case → Type 0) (t : ℕ) (tree : Tree) (way : Way) (rest : List Take) → (h : WayHolds scene history s t tree way) → IsDone way → AllByRecursion P h.done → AllByRecursion P (tree_cases t (at_start scene.policy tree) tree.records (take (length (do_pids tree.records)) (way.takes ++ rest)))
done-cases scene history s P t tree way rest h done all =
    let pids = done-pids scene history s t tree way h done in
    let long : length (do_pids tree.records) ≡ length way.takes = sym (ap length pids) ∙ length-map way.takes (λ (k : Take). k.pid) in
    let are : tree_cases t (at_start scene.policy tree) tree.records way.takes ≡ h.done =
    ap (tree_cases t (at_start scene.policy tree) tree.records) (sym (append-nil way.takes)) ∙ h.cases [] ∙ rw (tree_cases-none t h.walked h.left) (append-nil h.done) in
    rw (long, take-front way.takes rest, are) all

-- the clauses that speak of all takes of all trees

-- what holds of the cases of each tree holds of all
pub all-cases : (scene : Scene) (history : History) (s : State) (P : Case → Type 0) → ((t : ℕ) (tree : Tree) (way : Way) → (h : WayHolds scene history s t tree way) → AllByRecursion P h.done) → (t : ℕ) (trees : Trace) (ways : List Way) → EachWay (WayHolds scene history s) t trees ways → AllByRecursion IsDone ways → AllByRecursion P (cases_from t scene.policy trees (takes_of ways))
unfolding cases_from
all-cases scene history s P f t [] [] h done = tt
all-cases scene history s P f t [] (way ∷ ways) h done = absurd h
all-cases scene history s P f t (tree ∷ trees) [] h done = absurd h
all-cases scene history s P f t (tree ∷ trees) (way ∷ ways) h done =
    let pids = done-pids scene history s t tree way h.0 done.0 in
    let long : length (do_pids tree.records) ≡ length way.takes = sym (ap length pids) ∙ length-map way.takes (λ (k : Take). k.pid) in
    let later : drop (length (do_pids tree.records)) (way.takes ++ takes_of ways) ≡ takes_of ways = rw long (drop-front way.takes (takes_of ways)) in
    All-append P (tree_cases t (at_start scene.policy tree) tree.records (take (length (do_pids tree.records)) (way.takes ++ takes_of ways))) (cases_from (suc t) scene.policy trees (drop (length (do_pids tree.records)) (way.takes ++ takes_of ways)))
    (done-cases scene history s P t tree way (takes_of ways) h.0 done.0 (f t tree way h.0))
    (rw later (all-cases scene history s P f (suc t) trees ways h.1 done.1))

pub all-pids : (scene : Scene) (history : History) (s : State) (t : ℕ) (trees : Trace) (ways : List Way) → EachWay (WayHolds scene history s) t trees ways → AllByRecursion IsDone ways → map (λ (k : Take). k.pid) (takes_of ways) ≡ all_do_pids trees
all-pids scene history s t [] [] h done = refl
all-pids scene history s t [] (way ∷ ways) h done = absurd h
all-pids scene history s t (tree ∷ trees) [] h done = absurd h
all-pids scene history s t (tree ∷ trees) (way ∷ ways) h done =
    rw (map-append (λ (k : Take). k.pid) way.takes (takes_of ways), done-pids scene history s t tree way h.0 done.0, all-pids scene history s (suc t) trees ways h.1 done.1) refl

pub all-own : (n : ℕ) (ways : List Way) → AllByRecursion IsDone ways → times n (own_numbers (takes_of ways)) ≡ count_own n ways
all-own n [] done = refl
all-own n (way ∷ ways) done =
    rw (flat_map-append (λ (k : Take). flat_map (λ (look : Look). look.own) k.looks) way.takes (takes_of ways), times-append n (own_numbers way.takes) (own_numbers (takes_of ways)), times-append n (way_own way) (flat_map way_own ways), done.0.idle, times-append n (own_numbers way.takes) [], all-own n ways done.1) (omega arith)

-- Trees that have ended

-- the way of a tree
pub tree-at : (P : ℕ → Tree → Way → Type 0) (t : ℕ) (trees : Trace) (ways : List Way) (n : ℕ) (tree : Tree) → EachWay P t trees ways → slice_get trees n ≡ Some tree → (way : Way) × (slice_get ways n ≡ Some way) × P (t + n) tree way
tree-at P t [] [] n tree h at = absurd cc
tree-at P t [] (w ∷ ways) n tree h at = absurd h
tree-at P t (x ∷ trees) [] n tree h at = absurd h
tree-at P t (x ∷ trees) (w ∷ ways) zero tree h at =
    let same : x ≡ tree = cc in
    let number : t + 0 ≡ t = omega arith in
    (w, refl, rw number (subst (λ y. P t y w) same h.0))
tree-at P t (x ∷ trees) (w ∷ ways) (suc n) tree h at =
    let rest = tree-at P (suc t) trees ways n tree h.1 at in
    let number : t + suc n ≡ suc t + n = omega arith in
    (rest.0, rest.1, rw number rest.2)

-- the end of a tree that has ended
pub record Ended (t : ℕ) (history : History) (done : List Case) : Type 0 where
  pub end : ℕ
  pub once : places (is_end t) history ≡ end ∷ []
  pub above : AllByRecursion (λ (c : Case). AllByRecursion (λ version. version < end) (flat_map seen c.taken.looks)) done

pub ended-of : (scene : Scene) (history : History) (s : State) (t : ℕ) (tree : Tree) (way : Way) → (h : WayHolds scene history s t tree way) → is_over t s.ended ≡ true → Ended t history h.done
ended-of scene history s t tree way h over = go (is_over t s.ended) over h.over
  where
    go : (b : Bool) → b ≡ true → EndsAs t history h.done way.items way.begun b → Ended t history h.done
    go true e (end, once, above, idle, empty) = record { end = end; once = once; above = above }
    go false e held = absurd (true≢false (sym e))

-- all that a tree's takes have seen lies below its end
abbrev pub Below : ℕ → ℕ → Case → Type 0
Below t end c = c.tree ≡ t → AllByRecursion (λ version. version < end) (flat_map seen c.taken.looks)

pub below-done : (scene : Scene) (history : History) (s : State) (t end : ℕ) → places (is_end t) history ≡ end ∷ [] → is_over t s.ended ≡ true → (m : ℕ) (tree : Tree) (way : Way) → (h : WayHolds scene history s m tree way) → AllByRecursion (Below t end) h.done
below-done scene history s t end once over m tree way h = go h.done h.numbered_so above
  where
    above : m ≡ t → AllByRecursion (λ (c : Case). AllByRecursion (λ version. version < end) (flat_map seen c.taken.looks)) h.done
    above same =
        let e = ended-of scene history s m tree way h (subst (λ k. is_over k s.ended ≡ true) (sym same) over) in
        let both : e.end ∷ [] ≡ end ∷ [] = sym e.once ∙ ap (λ k. places (is_end k) history) same ∙ once in
        let equal : e.end ≡ end = cc in
        subst (λ n. AllByRecursion (λ (c : Case). AllByRecursion (λ version. version < n) (flat_map seen c.taken.looks)) h.done) equal e.above

    go : (done : List Case) → AllByRecursion (λ (c : Case). c.tree ≡ m) done → (m ≡ t → AllByRecursion (λ (c : Case). AllByRecursion (λ version. version < end) (flat_map seen c.taken.looks)) done) → AllByRecursion (Below t end) done
    go [] tree_is all = tt
    go (c ∷ done) tree_is all = ((λ is. (all (sym tree_is.0 ∙ is)).0), go done tree_is.1 (λ same. (all same).1))

pub seen-below : (t end : ℕ) (cases : List Case) → AllByRecursion (Below t end) cases → AllByRecursion (λ version. version < end) (flat_map (λ (c : Case). if c.tree == t then flat_map seen c.taken.looks else []) cases)
seen-below t end [] all = tt
seen-below t end (c ∷ cases) all =
    All-append (λ version. version < end) (if c.tree == t then flat_map seen c.taken.looks else []) (flat_map (λ (d : Case). if d.tree == t then flat_map seen d.taken.looks else []) cases) (go (c.tree == t) refl) (seen-below t end cases all.1)
  where
    go : (b : Bool) → (c.tree == t) ≡ b → AllByRecursion (λ version. version < end) (if b then flat_map seen c.taken.looks else [])
    go true e = all.0 (eqb-true c.tree t e)
    go false e = tt
