-- A clean learned run is repeated by its switched final policy.
use Rattle.std.proofs.Common.{◌≡◌, ◌<◌, ℕ, List, [], ◌∷◌, length, map, Bool, true, refl, sym, ap, ◌∙◌, arith}
use Rattle.std.specs.Prelude.{Option, Some, IsSome, IfSome, IsTrue, option_map, slice_get}
use Rattle.std.specs.List.{AllByRecursion, list_all}
use Rattle.std.proofs.lemmas.List.{length-map}
use Rattle.std.proofs.lemmas.Bool.{and_parts}
use Rattle.tm_rules.specs.Prelude.{DomainName, is_clean, is_clean_take, is_plain, is_request, live_domain}
use Rattle.tm_rules.specs.Types.{Domain, Look, Policy, Run, Take, Tree}
use Rattle.tm_legal.specs.Prelude.{CanPlay, Case, EndsWith, History, IsLive, LearnedRunRepeats, Legal, LookHolds, LooksRepeat, LooksRise, OwnSteps, Repeats, Scene, StaysLearned, after, cases_of, final_policy, is_repeated, last_look, name_at, opening_of, rerun_scene, subject_of, switched}
use Rattle.tm_rerun_laws.specs.Repeating.{Parts}
use Rattle.tm_legal.proofs.Kept.{some_of}
use Rattle.tm_legal.proofs.NoStep.{Silent, no_step}
use Rattle.tm_rerun_laws.proofs.Switched.{switched_keeps}
use Rattle.tm_rerun_laws.proofs.Later.{live-later}
use Rattle.tm_rerun_laws.proofs.CaseAgain.{TakeFacts, CaseFacts, clean_parts, later-at, case-again}
use Rattle.tm_rerun_laws.proofs.BothWalk.{Pairs, Pairs-second, TakeAgain, SameTake, FirstCase, SecondCase}
use Rattle.tm_rerun_laws.proofs.BothTrees.{both-trees}
use Rattle.tm_rerun_laws.proofs.Takes.{all_begin, all_hold}
use Rattle.tm_rerun_laws.proofs.Lists.{All-to, All-pairs}
use Rattle.tm_rerun_laws.proofs.Cases.{each-case, each-asked}

all-of : {A : Type 0} (t : A → Bool) (xs : List A) → list_all t xs ≡ true → AllByRecursion (λ x. t x ≡ true) xs
all-of t [] h = tt
all-of t (x ∷ xs) h = let parts = and_parts (t x) (list_all t xs) h in (parts.0, all-of t xs parts.1)

-- equal domains by number give equal names
same-names : (final1 final2 : Policy) (h : History) (takes1 takes2 : List Take) → length h ≡ 0 → ((d : ℕ) → name_at final2 d ≡ name_at final1 d) → Pairs (TakeAgain h) takes1 takes2
    → map {B = Option DomainName × Option DomainName} (λ (t : Take). (name_at final1 t.before, name_at final1 t.after)) takes1 ≡ map {B = Option DomainName × Option DomainName} (λ (t : Take). (name_at final2 t.before, name_at final2 t.after)) takes2
same-names final1 final2 h [] [] none names pairs = refl
same-names final1 final2 h [] (y ∷ ys) none names pairs = absurd pairs
same-names final1 final2 h (x ∷ xs) [] none names pairs = absurd pairs
same-names final1 final2 h (x ∷ xs) (y ∷ ys) none names pairs =
    let same : SameTake x y = pairs.0.same none in
    let first : name_at final1 x.before ≡ name_at final2 y.before = sym (names x.before) ∙ ap (name_at final2) (sym same.before) in
    let second : name_at final1 x.after ≡ name_at final2 y.after = sym (names x.after) ∙ ap (name_at final2) (sym same.ended) in
    rw (first, second, same-names final1 final2 h xs ys none names pairs.1) refl

module _ (parts : Parts) (scene : Scene) (run1 run2 : Run) (can : CanPlay scene) (plain : IsTrue (is_plain scene.policy)) (legal : Legal scene run1) (clean : IsTrue (is_clean run1)) (again : Legal (rerun_scene scene run1) run2) where
  -- the rerun's policy
  abbrev rerun : Policy
  rerun = switched (final_policy scene run1)

  -- what the rerun is judged against
  abbrev scene2 : Scene
  scene2 = rerun_scene scene run1

  take-facts : AllByRecursion (TakeFacts scene run1) run1.takes
  take-facts =
      All-to _ (TakeFacts scene run1) run1.takes (λ t f. record { some = f.0; clean = f.1.0; live = f.1.1.0 })
      (All-pairs (λ (t : Take). 0 < length t.looks) _ run1.takes legal.takes.looks
      (All-pairs (λ (t : Take). is_clean_take t ≡ true) (λ (t : Take). IsLive (final_policy scene run1) t.before × IsLive (final_policy scene run1) t.after) run1.takes
      (all-of is_clean_take run1.takes (clean_parts parts scene run1 can plain legal clean).0) (parts.domains scene run1 can legal clean)))

  first-cases : AllByRecursion (FirstCase scene.grammar rerun) (cases_of scene run1)
  first-cases =
      All-to (λ (c : Case). CaseFacts scene run1 c × (c.now.domain ≡ Some c.taken.before)) (FirstCase scene.grammar rerun) (cases_of scene run1) (λ c f. record { again = case-again parts scene run1 can plain legal clean c f.0; before = f.1 })
      (All-pairs (CaseFacts scene run1) (λ (c : Case). c.now.domain ≡ Some c.taken.before) (cases_of scene run1) facts (all_begin scene run1 legal))
    where
      Taken : Case → Type 0
      Taken c = TakeFacts scene run1 c.taken × (is_request scene.grammar.is_path c.request ≡ true)

      Looked : Case → Type 0
      Looked c = LooksRise run1.steps c.now.floor c.taken.looks × AllByRecursion (LookHolds scene run1.steps (subject_of c)) c.taken.looks

      Ended : Case → Type 0
      Ended c = AllByRecursion (OwnSteps scene run1.steps (subject_of c)) c.taken.looks × (IfSome (last_look c.taken.looks) (EndsWith scene run1.steps (subject_of c) c.taken) × AllByRecursion (StaysLearned scene run1 (subject_of c)) c.taken.looks)

      facts : AllByRecursion (CaseFacts scene run1) (cases_of scene run1)
      facts =
          All-to (λ (c : Case). Taken c × (Looked c × Ended c)) (CaseFacts scene run1) (cases_of scene run1)
          (λ c f. record { take_facts = f.0.0; request = f.0.1; rises = f.1.0.0; holds = f.1.0.1; own = f.1.1.0; ends = f.1.1.1.0; learned = f.1.1.1.1 })
          (All-pairs Taken (λ (c : Case). Looked c × Ended c) (cases_of scene run1)
          (All-pairs (λ (c : Case). TakeFacts scene run1 c.taken) (λ (c : Case). is_request scene.grammar.is_path c.request ≡ true) (cases_of scene run1) (each-case scene run1 legal.takes (TakeFacts scene run1) take-facts) (each-asked scene run1 can))
          (All-pairs Looked Ended (cases_of scene run1)
          (All-pairs (λ (c : Case). LooksRise run1.steps c.now.floor c.taken.looks) (λ (c : Case). AllByRecursion (LookHolds scene run1.steps (subject_of c)) c.taken.looks) (cases_of scene run1) legal.versions (all_hold scene run1 legal))
          (All-pairs (λ (c : Case). AllByRecursion (OwnSteps scene run1.steps (subject_of c)) c.taken.looks) (λ (c : Case). IfSome (last_look c.taken.looks) (EndsWith scene run1.steps (subject_of c) c.taken) × AllByRecursion (StaysLearned scene run1 (subject_of c)) c.taken.looks) (cases_of scene run1)
          legal.own_steps
          (All-pairs (λ (c : Case). IfSome (last_look c.taken.looks) (EndsWith scene run1.steps (subject_of c) c.taken)) (λ (c : Case). AllByRecursion (StaysLearned scene run1 (subject_of c)) c.taken.looks) (cases_of scene run1) legal.outcomes (parts.learned scene run1 can legal clean)))))

  second-cases : AllByRecursion (SecondCase (rerun_scene scene run1) run2.steps) (cases_of (rerun_scene scene run1) run2)
  second-cases =
      All-to (λ (c : Case). InProgress c × (Looked c × Ended c)) (SecondCase scene2 run2.steps) (cases_of scene2 run2)
      (λ c f. record { some = f.0.0; before = f.0.1; rises = f.1.0.0; holds = f.1.0.1; own = f.1.1.0; ends = f.1.1.1 })
      (All-pairs InProgress (λ (c : Case). Looked c × Ended c) (cases_of scene2 run2)
      (All-pairs (λ (c : Case). 0 < length c.taken.looks) (λ (c : Case). c.now.domain ≡ Some c.taken.before) (cases_of scene2 run2) (each-case scene2 run2 again.takes (λ (t : Take). 0 < length t.looks) again.takes.looks) (all_begin scene2 run2 again))
      (All-pairs Looked Ended (cases_of scene2 run2)
      (All-pairs (λ (c : Case). LooksRise run2.steps c.now.floor c.taken.looks) (λ (c : Case). AllByRecursion (LookHolds scene2 run2.steps (subject_of c)) c.taken.looks) (cases_of scene2 run2) again.versions (all_hold scene2 run2 again))
      (All-pairs (λ (c : Case). AllByRecursion (OwnSteps scene2 run2.steps (subject_of c)) c.taken.looks) (λ (c : Case). IfSome (last_look c.taken.looks) (EndsWith scene2 run2.steps (subject_of c) c.taken)) (cases_of scene2 run2) again.own_steps again.outcomes)))
    where
      InProgress : Case → Type 0
      InProgress c = (0 < length c.taken.looks) × (c.now.domain ≡ Some c.taken.before)

      Looked : Case → Type 0
      Looked c = LooksRise run2.steps c.now.floor c.taken.looks × AllByRecursion (LookHolds scene2 run2.steps (subject_of c)) c.taken.looks

      Ended : Case → Type 0
      Ended c = AllByRecursion (OwnSteps scene2 run2.steps (subject_of c)) c.taken.looks × IfSome (last_look c.taken.looks) (EndsWith scene2 run2.steps (subject_of c) c.taken)

  -- the trees begin in the same domains
  starts : AllByRecursion (λ (tree : Tree). live_domain rerun tree.start ≡ live_domain scene.policy tree.start) scene.trace
  unfolding after
  starts =
      All-to (λ (tree : Tree). IsSome (live_domain scene.policy tree.start)) (λ (tree : Tree). live_domain rerun tree.start ≡ live_domain scene.policy tree.start) scene.trace
      (λ tree some.
      let (n, is) = some_of (live_domain scene.policy tree.start) some in
      live-later scene.policy (final_policy scene run1) rerun (later-at parts scene run1 can plain legal clean 0 (omega arith)) tree.start n is ∙ sym is)
      can.starts

  pairs : Pairs (TakeAgain run2.steps) run1.takes run2.takes
  pairs =
      both-trees scene.grammar rerun scene.trace run2.steps scene.trace 1 scene.policy run1.takes run2.takes
      (sym (length-map run1.takes (λ (t : Take). t.pid)) ∙ ap length legal.takes.pids) (sym (length-map run2.takes (λ (t : Take). t.pid)) ∙ ap length again.takes.pids) starts first-cases second-cases

  still : run2.steps ≡ []
  still =
      no_step scene.grammar (opening_of (rerun_scene scene run1)) run2.takes run2.steps refl again.supervisor again.places.replies again.places.own
      (Pairs-second (TakeAgain run2.steps) (λ (t : Take). AllByRecursion Silent t.looks) run1.takes run2.takes (λ x y r. r.silent) pairs)

  looks-repeat : AllByRecursion (λ (t : Take). AllByRecursion (λ (look : Look). IsTrue (is_repeated look)) t.looks) run2.takes
  looks-repeat = Pairs-second (TakeAgain run2.steps) (λ (t : Take). AllByRecursion (λ (look : Look). IsTrue (is_repeated look)) t.looks) run1.takes run2.takes (λ x y r. (r.same (ap length still)).repeated) pairs

  final-again : final_policy (rerun_scene scene run1) run2 ≡ rerun
  unfolding after
  final-again = rw still refl

  repeats : Repeats scene run1 run2
  repeats =
      record {
        no_step = still;
        granted = Pairs-second (TakeAgain run2.steps) (λ (t : Take). t.granted ≡ true) run1.takes run2.takes (λ x y r. (r.same (ap length still)).granted) pairs;
        same = same-names (final_policy scene run1) (final_policy (rerun_scene scene run1) run2) run2.steps run1.takes run2.takes (ap length still)
            (λ d. ap (λ (p : Policy). name_at p d) final-again ∙ ap (λ (list : List Domain). option_map (λ (x : Domain). x.name) (slice_get list d)) (switched_keeps.domains (final_policy scene run1))) pairs;
      }

pub looks_repeat : Parts → LooksRepeat
looks_repeat parts scene run1 run2 can plain legal clean again = looks-repeat parts scene run1 run2 can plain legal clean again

pub learned_runs_repeat : Parts → LearnedRunRepeats
learned_runs_repeat parts scene run1 run2 can plain legal clean again = repeats parts scene run1 run2 can plain legal clean again
