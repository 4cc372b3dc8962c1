-- The takes of the `do` lines are all that there are, and their own numbers are those of steps.
use Rattle.std.proofs.Common.{◌≡◌, ◌<◌, ℕ, suc, ◌+◌, ◌==◌, nat_le, Bool, true, false, ◌&&◌, not, List, [], ◌∷◌, ◌++◌, length, take, drop, map, Option, Some, None, refl, sym, ap, ◌∙◌, subst, arith, inl, inr, eq-eqb, eqb-true}
use Rattle.std.specs.Prelude.{if◌then◌else◌, is_some, flat_map}
use Rattle.std.specs.Option.{IfSome}
use Rattle.std.specs.List.{AllByRecursion}
use Rattle.std.proofs.lemmas.Bool.{leb-true, le-leb}
use Rattle.std.proofs.lemmas.List.{map-append, length-append, length-map, length-take-le, take-append-drop}
use Rattle.tm_word.specs.Prelude.{is_empty}
use Rattle.tm_rules.specs.Prelude.{Trace}
use Rattle.tm_rules.specs.Types.{Item, Look, Policy, Run, Step, Take, Verdict}
use Rattle.tm_legal.specs.Prelude.{Case, History, LookHolds, LooksRise, OwnSteps, Scene, Situations, StepsAreAsked, Subject, TakeHolds, TakesInOrder, VerdictsHold, after_take, all_do_pids, at_start, cases_from, cases_of, do_pids, forked, look_grants, own_numbers, raised, retry_written, seen, step_at, steps_asked, subject_of, tree_cases, verdict_at, with_ids, with_situation}
use Rattle.tm_legal.proofs.Legality.{cases_take}
use Rattle.tm_verify_laws.specs.Placed.{OwnAreSteps}
use Rattle.tm_verify_laws.specs.Broken.{Belongs, PairsFail}
use Rattle.tm_verify_laws.specs.Scans.{do_belong, pairs_fault, do_rise}
use Rattle.tm_verify_laws.proofs.Splits.{All-join}

-- the take of a `do` line
abbrev pub take_of : Case → Take
take_of c = c.taken

-- ---- own numbers

abbrev IsStep : History → ℕ → Type 0
IsStep history n = is_some (step_at history n) ≡ true

numbers_are : (history : History) (own : List ℕ) (steps : List Step) → map (step_at history) own ≡ map Some steps → AllByRecursion (IsStep history) own
numbers_are history [] steps e = tt
numbers_are history (n ∷ own) [] e = absurd cc
numbers_are history (n ∷ own) (step ∷ steps) e =
    let here : step_at history n ≡ Some step = cc in
    let rest : map (step_at history) own ≡ map Some steps = cc in
    (rw here refl, numbers_are history own steps rest)

look_own : (scene : Scene) (history : History) (s : Subject) (look : Look) → LookHolds scene history s look → OwnSteps scene history s look → AllByRecursion (IsStep history) look.own
look_own scene history s look held own = go (verdict_at scene history s look.version) held.1 own.asked
  where
    go : (o : Option Verdict) → o ≡ Some held.0 → IfSome o (λ v. map (step_at history) look.own ≡ map Some (steps_asked scene.grammar s.domain (retry_written history look) v (look_grants look))) → AllByRecursion (IsStep history) look.own
    go None e asked = absurd cc
    go (Some v) e asked = numbers_are history look.own (steps_asked scene.grammar s.domain (retry_written history look) v (look_grants look)) asked

looks_own : (scene : Scene) (history : History) (s : Subject) (looks : List Look) → AllByRecursion (LookHolds scene history s) looks → AllByRecursion (OwnSteps scene history s) looks → AllByRecursion (IsStep history) (flat_map (λ (look : Look). look.own) looks)
looks_own scene history s [] held own = tt
looks_own scene history s (look ∷ looks) held own = All-join (IsStep history) look.own (flat_map (λ (l : Look). l.own) looks) (look_own scene history s look held.0 own.0) (looks_own scene history s looks held.1 own.1)

cases_own : (scene : Scene) (history : History) (cs : List Case) → AllByRecursion (TakeHolds scene history) cs → AllByRecursion (λ (c : Case). AllByRecursion (OwnSteps scene history (subject_of c)) c.taken.looks) cs → AllByRecursion (IsStep history) (own_numbers (map take_of cs))
cases_own scene history [] held own = tt
cases_own scene history (c ∷ cs) held own =
    All-join (IsStep history) (flat_map (λ (l : Look). l.own) c.taken.looks) (own_numbers (map take_of cs)) (looks_own scene history (subject_of c) c.taken.looks held.0.shown own.0) (cases_own scene history cs held.1 own.1)

pub own_are_steps : (scene : Scene) (run : Run) → TakesInOrder scene run → VerdictsHold scene run → StepsAreAsked scene run → OwnAreSteps run
own_are_steps scene run order held own = subst (λ ts. AllByRecursion (IsStep run.steps) (own_numbers ts)) (cases_take scene run order) (cases_own scene run.steps (cases_of scene run) held own)

-- ---- the scans of the first clauses

both : (a b : Bool) → (a && b) ≡ true → (a ≡ true) × (b ≡ true)
both true b e = (refl, e)
both false b e = absurd cc

all : (a b : Bool) → a ≡ true → b ≡ true → (a && b) ≡ true
all a b h k = rw (h, k) refl

some_looks : (looks : List Look) → not (is_empty looks) ≡ true → 0 < length looks
some_looks [] e = absurd cc
some_looks (look ∷ looks) e = omega arith

looks_some : (looks : List Look) → 0 < length looks → not (is_empty looks) ≡ true
looks_some [] h = absurd (omega (arith, h))
looks_some (look ∷ looks) h = refl

belongs : (t : Take) (pid : ℕ) → do_belong t pid ≡ true → Belongs t pid
belongs t pid h = let p = both (t.pid == pid) (not (is_empty t.looks)) h in (eqb-true t.pid pid p.0, some_looks t.looks p.1)

does_belong : (t : Take) (pid : ℕ) → Belongs t pid → do_belong t pid ≡ true
does_belong t pid h = all (t.pid == pid) (not (is_empty t.looks)) (eq-eqb t.pid pid h.0) (looks_some t.looks h.1)

abbrev InOrder : List Take → List ℕ → Type 0
InOrder takes pids = (map (λ (t : Take). t.pid) takes ≡ pids) × AllByRecursion (λ (t : Take). 0 < length t.looks) takes

pairs_all : (n : ℕ) (takes : List Take) (pids : List ℕ) → pairs_fault n takes pids ≡ None → InOrder takes pids
pairs_all n [] [] e = (refl, tt)
pairs_all n (t ∷ takes) [] e = absurd cc
pairs_all n [] (pid ∷ pids) e = absurd cc
pairs_all n (t ∷ takes) (pid ∷ pids) e = go (do_belong t pid) refl e (pairs_all (suc n) takes pids)
  where
    go : (b : Bool) → do_belong t pid ≡ b → (if b then pairs_fault (suc n) takes pids else Some n) ≡ None → (pairs_fault (suc n) takes pids ≡ None → InOrder takes pids) → InOrder (t ∷ takes) (pid ∷ pids)
    go true is f more = let here = belongs t pid is in let rest = more f in (ap (λ p. p ∷ map (λ (x : Take). x.pid) takes) here.0 ∙ ap (λ ps. pid ∷ ps) rest.0, (here.1, rest.1))
    go false is f more = absurd cc

pairs_none : (n : ℕ) (takes : List Take) (pids : List ℕ) → InOrder takes pids → pairs_fault n takes pids ≡ None
pairs_none n [] [] h = refl
pairs_none n (t ∷ takes) [] h = absurd (let e = h.0 in cc)
pairs_none n [] (pid ∷ pids) h = absurd (let e = h.0 in cc)
pairs_none n (t ∷ takes) (pid ∷ pids) h =
    let e = h.0 in
    let same : t.pid ≡ pid = cc in
    let rest : map (λ (x : Take). x.pid) takes ≡ pids = cc in
    rw (does_belong t pid (same, h.1.0)) (pairs_none (suc n) takes pids (rest, h.1.1))

pairs_first : (n : ℕ) (takes : List Take) (pids : List ℕ) (k : ℕ) → pairs_fault n takes pids ≡ Some k → PairsFail n takes pids k
pairs_first n [] [] k e = absurd cc
pairs_first n (t ∷ takes) [] k e = cc
pairs_first n [] (pid ∷ pids) k e = cc
pairs_first n (t ∷ takes) (pid ∷ pids) k e = go (do_belong t pid) refl e (pairs_first (suc n) takes pids k)
  where
    go : (b : Bool) → do_belong t pid ≡ b → (if b then pairs_fault (suc n) takes pids else Some n) ≡ Some k → (pairs_fault (suc n) takes pids ≡ Some k → PairsFail (suc n) takes pids k) → PairsFail n (t ∷ takes) (pid ∷ pids) k
    go true is f more = inr (belongs t pid is, more f)
    go false is f more = inl (cc, λ h. let yes : do_belong t pid ≡ true = does_belong t pid h in cc)

pub pairs_decide : (takes : List Take) (pids : List ℕ) → ((pairs_fault 1 takes pids ≡ None → InOrder takes pids) × (InOrder takes pids → pairs_fault 1 takes pids ≡ None)) × ((k : ℕ) → pairs_fault 1 takes pids ≡ Some k → PairsFail 1 takes pids k)
pairs_decide takes pids = ((pairs_all 1 takes pids, pairs_none 1 takes pids), pairs_first 1 takes pids)

pub rise_is : (history : History) (floor : ℕ) (looks : List Look) → do_rise (length history) floor looks ≡ true → LooksRise history floor looks
rise_is history floor [] h = tt
rise_is history floor (look ∷ looks) h =
    let p = both (nat_le floor look.version && nat_le look.version (length history)) _ h in
    let q = both (nat_le floor look.version) _ p.0 in
    (leb-true floor look.version q.0, leb-true look.version (length history) q.1, rise_is history (raised floor (seen look)) looks p.1)

pub is_rise : (history : History) (floor : ℕ) (looks : List Look) → LooksRise history floor looks → do_rise (length history) floor looks ≡ true
is_rise history floor [] h = refl
is_rise history floor (look ∷ looks) h =
    all (nat_le floor look.version && nat_le look.version (length history)) _
    (all (nat_le floor look.version) (nat_le look.version (length history)) (le-leb floor look.version h.0) (le-leb look.version (length history) h.1))
    (is_rise history (raised floor (seen look)) looks h.2)
