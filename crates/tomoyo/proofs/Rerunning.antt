-- A run is played again: what its rerun needs, what it gives, and why a clean run from a plain
-- opening is repeated.
use Rattle.std.proofs.Common.{◌≡◌, ◌∙◌, ◌≤◌, ℕ, ◌+◌, true, false, not, ◌&&◌, List, [], ◌∷◌, length, refl, sym, ap, subst, arith}
use Rattle.std.specs.Prelude.{map, Option, Some, None, IsSome, IsTrue, is_some}
use Rattle.std.specs.List.{AllByRecursion, position_from}
use Rattle.tm_word.specs.Prelude.{texts_equal}
use Rattle.tm_rules.specs.Prelude.{DomainName, IsFew, IsFewHere, Trace, domain_at, is_clean, is_plain, live_domain}
use Rattle.tm_rules.specs.Types.{Domain, Namespace, Policy, Profile, Run, Tree}
use Rattle.tm_run_laws.specs.Tomoyo.{tomoyo_grammar}
use Rattle.tm_run_laws.proofs.IsOne.{is_one}
use Rattle.tm_legal.specs.Prelude.{CanPlay, CleanRunGrows, Grows, IsNamed, IsOpened, LearnedRunRepeats, Legal, Scene, after, alone, final_policy, state_at, switched, switched_profile}
use Rattle.tm_legal.proofs.Kept.{some_of, position_holds}
use Rattle.tm_legal.proofs.Opened.{position-none, final_is_opened}
use Rattle.tm_legal.proofs.Named.{final_is_named}
use Rattle.tm_legal.proofs.Histories.{state_at-newest}
use Rattle.tm_rerun.specs.Rerun.{rerun_text}
use Rattle.tm_call.specs.declared.words.How.{How}
use Rattle.tomoyo.specs.declared.play.Played.{Played}
use Rattle.tm_gen_laws.specs.CallInputLoaded.{Loaded}
use Rattle.tomoyo.specs.declared.learn.RerunTexts.{RerunTexts}
use Rattle.tm_gen_laws.specs.Reading.{homeless, scene_of}
use Rattle.tomoyo.specs.Play.{IsPlayOf, IsPrinted}
use Rattle.tomoyo.specs.Rerun.{again, nobody_else, CanRerun, IsPlayAlone, IsRerunPrinted, Reruns, IsRepeated, LearnsLoaded}
use Rattle.tm_gen_laws.proofs.Readings.{homes-there}

-- What a rerun needs

few-namespaces : (xs : List Namespace) → AllByRecursion IsFewHere xs → AllByRecursion IsFewHere (map (λ (ns : Namespace). record ns { profiles = map (λ (pair : ℕ × Profile). (pair.0, switched_profile pair.1)) ns.profiles }) xs)
few-namespaces [] h = tt
few-namespaces (x ∷ xs) h = (record { members = h.0.members; acl_entries = h.0.acl_entries }, few-namespaces xs h.1)

-- a switched policy has as many members
pub few-switched : (policy : Policy) → IsFew policy → IsFew (switched policy)
unfolding switched
few-switched policy few = record { domains = few.domains; entries = few.entries; namespaces = few-namespaces policy.namespaces few.namespaces }

homes-moved : (one other : Policy) (trees : Trace) → ((name : DomainName) → live_domain other name ≡ live_domain one name) → AllByRecursion (λ (tree : Tree). IsSome (live_domain one tree.start)) trees → AllByRecursion (λ (tree : Tree). IsSome (live_domain other tree.start)) trees
homes-moved one other [] same h = tt
homes-moved one other (tree ∷ trees) same h = (rw (same tree.start) h.0, homes-moved one other trees same h.1)

homes-same : (one other : Policy) (n : ℕ) (trees : Trace) → ((name : DomainName) → live_domain other name ≡ live_domain one name)
    → position_from (λ (tree : Tree). not (is_some (live_domain other tree.start))) n trees ≡ position_from (λ (tree : Tree). not (is_some (live_domain one tree.start))) n trees
homes-same one other n [] same = refl
homes-same one other n (tree ∷ trees) same = rw (same tree.start, homes-same one other (n + 1) trees same) refl

-- the switched policy has a home for the same trees
pub homes-kept : (last enforcing : Policy) (trace : Trace) → ((policy : Policy) (name : DomainName) → live_domain (switched policy) name ≡ live_domain policy name) → enforcing ≡ switched last → homeless enforcing trace ≡ homeless last trace
homes-kept last enforcing trace live is = ap (λ (p : Policy). homeless p trace) is ∙ homes-same last (switched last) 0 trace (live last)

-- no place of a tree without a home was found
pub all-at-home : (policy : Policy) (trace looked : Trace) (place : Option ℕ) → place ≡ homeless policy looked → looked ≡ trace → is_some place ≡ false → homeless policy trace ≡ None
all-at-home policy trace looked None found same none = ap (homeless policy) (sym same) ∙ sym found
all-at-home policy trace looked (Some n) found same none = absurd cc

-- the trace can be played again under the switched policy
pub can-rerun : (last : Policy) (trace : Trace) → ((policy : Policy) → IsOpened policy → IsOpened (switched policy)) → ((policy : Policy) → (switched policy).domains ≡ policy.domains)
    → ((policy : Policy) (name : DomainName) → live_domain (switched policy) name ≡ live_domain policy name) → CanRerun last trace → homeless last trace ≡ None → CanPlay (again last trace)
can-rerun last trace opened domains live h homes =
    record {
      grammar = is_one;
      opened = opened last h.opened;
      named = rw (domains last) h.named;
      starts = homes-moved last (switched last) trace (live last) (homes-there last 0 trace homes);
      requests = h.requests;
      answers = refl;
    }

-- after any run of what was read
pub rerun-needs : (loaded : Loaded) (run : Run) (last : Policy) → CanPlay (scene_of loaded) → final_policy (scene_of loaded) run ≡ last → CanRerun last loaded.trace
rerun-needs loaded run last can ends =
    record {
      opened = subst IsOpened ends (final_is_opened (scene_of loaded) run can);
      named = subst (IsNamed tomoyo_grammar.is_path) ends (final_is_named (scene_of loaded) run can);
      requests = can.requests;
    }

-- What a rerun gives

-- what is played with nobody else is played alone
pub alone-so : (how : How) (policy : Policy) (trace : Trace) (loaded : Loaded) (run : Run) (last : Policy) → loaded ≡ nobody_else policy trace → IsPlayOf how loaded run last → IsPlayAlone how (alone tomoyo_grammar policy trace) run last
alone-so how policy trace loaded run last is h =
    let plays : IsPlayOf how (nobody_else policy trace) run last = subst (λ (l : Loaded). IsPlayOf how l run last) is h in
    record { came = plays.came; is_legal = plays.is_legal; ends = plays.ends }

pub can-alone : (policy : Policy) (trace : Trace) (loaded : Loaded) → loaded ≡ nobody_else policy trace → CanPlay (alone tomoyo_grammar policy trace) → CanPlay (scene_of loaded)
can-alone policy trace loaded is can = subst (λ (l : Loaded). CanPlay (scene_of l)) (sym is) can

pub rerun-so : (how : How) (last : Policy) (trace : Trace) (run run2 : Run) (last2 : Policy) (rerun : RerunTexts) → homeless last trace ≡ None → IsPlayAlone how (again last trace) run2 last2 → IsRerunPrinted last run last2 run2 rerun
    → Reruns how last trace run (Some rerun)
rerun-so how last trace run run2 last2 rerun homes plays printed = (
  homes,
  record {
    run2 = run2;
    came = plays.came;
    is_legal = plays.is_legal;
    printed = subst (λ (p : Policy). IsRerunPrinted last run p run2 rerun) (sym plays.ends) printed;
  },
)

-- A clean run from a plain opening

-- a domain that is live in a policy is live, under its name, in one that has grown from it
home-stays : (old new : Policy) (name : DomainName) → Grows old new → IsSome (live_domain old name) → IsSome (live_domain new name)
unfolding live_domain
home-stays old new name grows there =
    let (n, at) = some_of (live_domain old name) there in
    let (d, x, place, stands, passes) = position_holds (λ (domain : Domain). domain.live && texts_equal domain.name name) 0 old.domains n at in
    let (y, later, grown) = grows.domains d x stands in
    let also : (y.live && texts_equal y.name name) ≡ true = subst (λ (z : Domain). (z.live && texts_equal z.name name) ≡ true) grown.same passes in
    go (live_domain new name) refl y d later also
  where
    go : (o : Option ℕ) → live_domain new name ≡ o → (y : Domain) (d : ℕ) → domain_at new d ≡ Some y → (y.live && texts_equal y.name name) ≡ true → IsSome (live_domain new name)
    go (Some n) is y d stands passes = rw is refl
    go None is y d stands passes = let no = position-none (λ (domain : Domain). domain.live && texts_equal domain.name name) 0 new.domains d y is stands in absurd cc

homes-stay : (old new : Policy) (k : ℕ) (trees : Trace) → Grows old new → AllByRecursion (λ (tree : Tree). IsSome (live_domain old tree.start)) trees → position_from (λ (tree : Tree). not (is_some (live_domain new tree.start))) k trees ≡ None
homes-stay old new k [] grows h = refl
homes-stay old new k (tree ∷ trees) grows h = rw (home-stays old new tree.start grows h.0) (homes-stay old new (k + 1) trees grows h.1)

-- a clean run keeps the homes of the trees
clean-homes : CleanRunGrows → (scene : Scene) (run : Run) → CanPlay scene → Legal scene run → IsTrue (is_clean run) → homeless (final_policy scene run) scene.trace ≡ None
unfolding after
clean-homes growing scene run can legal clean =
    let least : 0 ≤ length run.steps = omega arith in
    let most : length run.steps ≤ length run.steps = omega arith in
    let grows : Grows scene.policy (state_at scene run.steps (length run.steps)).policy = growing scene run can.grammar legal clean 0 (length run.steps) least most in
    homes-stay scene.policy (final_policy scene run) 0 scene.trace (subst (λ s. Grows scene.policy s.policy) (state_at-newest scene run.steps) grows) can.starts

repeated-so : (how : How) (loaded : Loaded) (run : Run) (rerun : Option RerunTexts) → CleanRunGrows → LearnedRunRepeats → CanPlay (scene_of loaded) → Legal (scene_of loaded) run
    → (reruns : Reruns how (final_policy (scene_of loaded) run) loaded.trace run rerun) → IsTrue (is_plain loaded.policy) → IsTrue (is_clean run)
    → IsRepeated how (scene_of loaded) (final_policy (scene_of loaded) run) loaded.trace run rerun reruns
repeated-so how loaded run None growing repeats can legal left plain clean =
    let homes : homeless (final_policy (scene_of loaded) run) loaded.trace ≡ None = clean-homes growing (scene_of loaded) run can legal clean in
    absurd (none-there (homeless (final_policy (scene_of loaded) run) loaded.trace) homes left)
  where
    none-there : (o : Option ℕ) → o ≡ None → IsSome o → ⊥
    none-there None e there = absurd cc
    none-there (Some n) e there = absurd cc
repeated-so how loaded run (Some rerun) growing repeats can legal played plain clean =
    let h = played.1 in
    let repeated = repeats (scene_of loaded) run h.run2 can plain legal clean h.is_legal in
    (h.printed.run_is, h.printed.line_is ∙ ap (rerun_text h.run2) (h.printed.is_same.1 repeated.same), repeated)

-- what was read is played and played again
pub learned-so : (how : How) (loaded : Loaded) (run : Run) (last opening : Policy) (played : Played) (rerun : Option RerunTexts) → CleanRunGrows → LearnedRunRepeats → CanPlay (scene_of loaded) → IsPlayOf how loaded run last → opening ≡ loaded.policy
    → IsPrinted run opening last played → Reruns how last loaded.trace run rerun → LearnsLoaded how loaded (record { played = played; rerun = rerun })
learned-so how loaded run last opening played rerun growing repeats can h same texts reruns =
    let left : Reruns how (final_policy (scene_of loaded) run) loaded.trace run rerun = subst (λ (p : Policy). Reruns how p loaded.trace run rerun) (sym h.ends) reruns in
    record {
      run = run;
      came = h.came;
      is_legal = h.is_legal;
      printed = subst (λ (l : Policy). IsPrinted run loaded.policy l played) (sym h.ends) (subst (λ (o : Policy). IsPrinted run o last played) same texts);
      rerun = left;
      repeated = repeated-so how loaded run rerun growing repeats can h.is_legal left;
    }
