-- Over a clean run the line that an execute finds stays, or it is the line that was learned where
-- none was found.
use Rattle.std.proofs.Common.{◌≡◌, ◌≤◌, ◌<◌, ℕ, zero, suc, List, [], ◌∷◌, length, map, Bool, true, false, true≢false, refl, sym, ap, ◌∙◌, subst, arith, inl, inr, ◌⊎◌}
use Rattle.std.specs.Prelude.{Some, None, IsTrue, flat_map}
use Rattle.std.specs.List.{AllByRecursion, list_all}
use Rattle.std.proofs.lemmas.Bool.{and_parts, cases_eq}
use Rattle.std.proofs.lemmas.List.{length-map}
use Rattle.tm_rules.specs.Types.{Domain, Entry, Look, Policy, Proc, Reply, Request, Run, Step, Take}
use Rattle.tm_rules.specs.Prelude.{Grammar, adding, domain_at, has_line, is_clean, is_clean_step, is_clean_take, is_execute, is_plain, is_request, line_of, namespace_of, with_domain}
use Rattle.tm_legal.specs.Prelude.{CanPlay, Case, CleanRunGrows, Execute, FirstExecuteStays, FoundLine, Grows, History, IsLearnedLine, IsLive, Legal, LookHolds, OwnSteps, Replies, Scene, State, after, all_do_pids, apply, at, cases_of, execute_found, execute_line, look_grants, opening_of, own_numbers, retry_written, state_at, step_at, steps_asked, steps_of, subject_of, times}
use Rattle.tm_rerun_laws.proofs.Executes.{Blind, own_or_blind}
use Rattle.tm_rerun_laws.proofs.ExecuteLists.{seen_in, learned-has, seen_in-own}
use Rattle.tm_rerun_laws.proofs.ExecutePolicies.{SameFound, found-is, plain-first, changed-is, other-same, line-sees}
use Rattle.tm_rerun_laws.proofs.ExecuteCases.{taken_of, some-gives, own-cases, rises-above, asked-so}
use Rattle.tm_rerun_laws.proofs.ExecuteVerdicts.{IsNew, verdict-new, LearnsBy, asked-learns, Executed, executed, other-blind}
use Rattle.tm_rerun_laws.proofs.ExecuteSteps.{IsAdded, step-found}
use Rattle.tm_rerun_laws.proofs.Takes.{all_hold}
use Rattle.tm_rerun_laws.proofs.Cases.{IsAsked, taken-all, each-asked}
use Rattle.tm_rerun_laws.proofs.Lists.{All-pairs}

-- One step of a history

-- the step after version k: it leads to the next version, with its reply, and it is clean
pub record StepAt (g : Grammar) (s : State) (h : History) (k : ℕ) : Type 0 where
  pub step : Step
  pub reply : Reply
  pub there : step_at h (suc k) ≡ Some step
  pub next : at g s (steps_of h) (suc k) ≡ (apply g (at g s (steps_of h) k) step).state
  pub replied : (apply g (at g s (steps_of h) k) step).reply ≡ Some reply
  pub clean : is_clean_step (step, reply) ≡ true

step-of : (g : Grammar) (s : State) (h : History) (k : ℕ) → suc k ≤ length h → Replies g s h → list_all is_clean_step h ≡ true → StepAt g s h k
unfolding after
step-of g s [] k le replies clean = absurd (omega arith)
step-of g s (pair ∷ h) zero le replies clean =
    record { step = pair.0; reply = pair.1; there = refl; next = refl; replied = replies.0; clean = (and_parts (is_clean_step pair) (list_all is_clean_step h) clean).0 }
step-of g s (pair ∷ h) (suc k) le replies clean =
    let r = step-of g (apply g s pair.0).state h k (omega arith) replies.1 (and_parts (is_clean_step pair) (list_all is_clean_step h) clean).1 in
    record { step = r.step; reply = r.reply; there = r.there; next = r.next; replied = r.replied; clean = r.clean }

-- The look that a Learn comes from

-- its version is below the Learn, nothing was found there, and the line is its request's
pub record LearnedBy (scene : Scene) (history : History) (k d : ℕ) (line : Entry) : Type 0 where
  pub version : ℕ
  pub below : version ≤ k
  pub process : Proc
  pub request : Request
  pub asked : is_request scene.grammar.is_path request ≡ true
  pub new : IsNew scene.grammar.is_path (state_at scene history version).policy (state_at scene history version).queries.attached process d request (Some line)

learned-by : (scene : Scene) (run : Run) (k d : ℕ) (line : Entry) → CanPlay scene → Legal scene run → step_at run.steps (suc k) ≡ Some (Step.Learn d line) → LearnedBy scene run.steps k d line
learned-by scene run k d line can legal is =
    let cs : List Case = cases_of scene run in
    let long : length run.takes ≡ length (all_do_pids scene.trace) = sym (length-map run.takes (λ (t : Take). t.pid)) ∙ ap length legal.takes.pids in
    let takes : taken_of cs ≡ run.takes = taken-all 1 scene.policy scene.trace run.takes long in
    let once : times (suc k) (own_numbers run.takes) ≡ 1 = legal.places.own (suc k) ∙ rw is refl in
    let owned : times (suc k) (flat_map (owns) cs) ≡ 1 = ap (times (suc k)) (sym (own-cases cs) ∙ ap own_numbers takes) ∙ once in
    let facts : AllByRecursion Facts cs = All-pairs (IsAsked scene.grammar.is_path) (λ c. Holds c × Owns c) cs (each-asked scene run can) (All-pairs Holds Owns cs (all_hold scene run legal) legal.own_steps) in
    let c = some-gives owns Facts (suc k) cs facts (omega (arith, owned)) in
    let looks : AllByRecursion (LookFacts c.0) c.0.taken.looks = All-pairs (LookHolds scene run.steps (subject_of c.0)) (OwnSteps scene run.steps (subject_of c.0)) c.0.taken.looks c.1.1.0 c.1.1.1 in
    let l = some-gives (λ (look : Look). look.own) (LookFacts c.0) (suc k) c.0.taken.looks looks c.2 in
    of_look c.0 l.0 c.1.0 l.1.0 l.1.1 l.2
  where
    owns : Case → List ℕ
    owns c = flat_map (λ (look : Look). look.own) c.taken.looks

    Holds : Case → Type 0
    Holds c = AllByRecursion (LookHolds scene run.steps (subject_of c)) c.taken.looks

    Owns : Case → Type 0
    Owns c = AllByRecursion (OwnSteps scene run.steps (subject_of c)) c.taken.looks

    Facts : Case → Type 0
    Facts c = IsAsked scene.grammar.is_path c × (Holds c × Owns c)

    LookFacts : Case → Look → Type 0
    LookFacts c look = LookHolds scene run.steps (subject_of c) look × OwnSteps scene run.steps (subject_of c) look

    of_look : (c : Case) (look : Look) → IsAsked scene.grammar.is_path c → LookHolds scene run.steps (subject_of c) look → OwnSteps scene run.steps (subject_of c) look → 0 < times (suc k) look.own → LearnedBy scene run.steps k d line
    of_look c look asked (v, at, shown) own has =
        let g : Grammar = scene.grammar in
        let state : State = state_at scene run.steps look.version in
        let steps : map (step_at run.steps) look.own ≡ map Some (steps_asked g c.taken.before (retry_written run.steps look) v (look_grants look)) = rw at at own.asked in
        let learns : LearnsBy c.taken.before v (Step.Learn d line) =
        asked-so (step_at run.steps) (LearnsBy c.taken.before v) (suc k) (Step.Learn d line) look.own (steps_asked g c.taken.before (retry_written run.steps look) v (look_grants look)) steps (asked-learns g c.taken.before (retry_written run.steps look) v (look_grants look)) has is in
        let above : look.version < suc k = rises-above (suc k) look.version look.own own.rising has in
        let new : IsNew g.is_path state.policy state.queries.attached c.now.process c.taken.before c.request v.line = verdict-new g.is_path state.policy state.queries.attached c.now.process c.taken.before c.request v at learns.1 in
        record {
          version = look.version;
          below = omega (arith, above);
          process = c.now.process;
          request = c.request;
          asked = asked;
          new = rw (learns.0, ← learns.2) new;
        }

-- What stays, from version to version

module _ (scene : Scene) (run : Run) where
  abbrev policy_at : ℕ → Policy
  policy_at k = (state_at scene run.steps k).policy

  -- what is found in domain d stays from version b to k, or the learned line was found where none
  -- was
  abbrev pub Stays : ℕ → ℕ → ℕ → Execute → Type 0
  Stays b k d x =
      (execute_found (policy_at k) d x ≡ execute_found (policy_at b) d x)
      ⊎ ((execute_found (policy_at b) d x ≡ None)
      × ((found : FoundLine) × (execute_found (policy_at k) d x ≡ Some found) × IsLearnedLine x found))

  -- each version grows out of those before it
  abbrev GrowsOn : Type 0
  GrowsOn = (k m : ℕ) → k ≤ m → m ≤ length run.steps → Grows (policy_at k) (policy_at m)

  abbrev PlainOn : Type 0
  PlainOn = (k : ℕ) → k ≤ length run.steps → is_plain (policy_at k) ≡ true

  same-stays : (b k m d : ℕ) (x : Execute) → execute_found (policy_at m) d x ≡ execute_found (policy_at k) d x → Stays b k d x → Stays b m d x
  same-stays b k m d x same (inl e) = inl (same ∙ e)
  same-stays b k m d x same (inr (none, (found, is, learned))) = inr (none, (found, same ∙ is, learned))

  -- where a line is found next that is the learned one, and none was found so far
  found-stays : (b k m d : ℕ) (x : Execute) → execute_found (policy_at k) d x ≡ None → (found : FoundLine) × (execute_found (policy_at m) d x ≡ Some found) × IsLearnedLine x found → Stays b k d x → Stays b m d x
  found-stays b k m d x none next (inl e) = inr (sym e ∙ none, next)
  found-stays b k m d x none next (inr (was, (found, is, learned))) = absurd (let both : None ≡ Some found = sym none ∙ is in cc)

  live-later : GrowsOn → (b k d : ℕ) → b ≤ k → k ≤ length run.steps → IsLive (policy_at b) d → IsLive (policy_at k) d
  live-later grows b k d le long (x, at, live) =
      let y = (grows b k le long).domains d x at in (y.0, y.1, sym (ap (λ (z : Domain). z.live) y.2.same) ∙ live)

  live-before : GrowsOn → (v k d : ℕ) (x : Domain) → v ≤ k → k ≤ length run.steps → domain_at (policy_at v) d ≡ Some x → IsLive (policy_at k) d → x.live ≡ true
  live-before grows v k d x le long at (z, there, live) =
      let y = (grows v k le long).domains d x at in
      let both : Some y.0 ≡ Some z = sym y.1 ∙ there in
      let same : y.0 ≡ z = cc in
      ap (λ (w : Domain). w.live) y.2.same ∙ ap (λ (w : Domain). w.live) same ∙ live

  -- what stays from every version up to k
  abbrev AllStay : ℕ → Type 0
  AllStay k = (b d : ℕ) (x : Execute) → IsLive (policy_at b) d → b ≤ k → Stays b k d x

  -- after the line that was learned for this very execute
  own-stays : GrowsOn → PlainOn → (k : ℕ) → k ≤ length run.steps → AllStay k → (place : ℕ) (line : Entry) (old : Domain) → domain_at (policy_at k) place ≡ Some old → has_line line old.entries ≡ false
      → policy_at (suc k) ≡ with_domain (policy_at k) place (record old { entries = adding line old.entries })
      → (l : LearnedBy scene run.steps k place line) → (y : Execute) → line ≡ execute_line y → execute_found (policy_at l.version) place y ≡ None
      → (b : ℕ) → IsLive (policy_at b) place → IsLive (policy_at l.version) place → b ≤ k → Stays b (suc k) place y
  own-stays grows plain k long all place line old was fresh next l y is none b live alive le = go (all l.version place y alive l.below)
    where
      go : Stays l.version k place y → Stays b (suc k) place y
      go (inr (out, (found, sees, learned))) =
          absurd (true≢false (sym (learned-has y (namespace_of (policy_at k) old) old found (sym (found-is (policy_at k) place y old was) ∙ sees) learned) ∙ ap (λ (e : Entry). has_line e old.entries) (sym is) ∙ fresh))
      go (inl same) =
          let now : execute_found (policy_at k) place y ≡ None = same ∙ none in
          let f = seen_in-own y (namespace_of (policy_at k) old) old (sym (found-is (policy_at k) place y old was) ∙ now) in
          let new : Domain = record old { entries = adding line old.entries } in
          let sees : execute_found (policy_at (suc k)) place y ≡ Some f.0 =
          ap (λ p. execute_found p place y) next ∙ changed-is (policy_at k) place old new y was refl ∙ ap (λ (e : Entry). seen_in y (namespace_of (policy_at k) old) (record old { entries = adding e old.entries })) is ∙ f.1 in
          found-stays b k (suc k) place y now (f.0, sees, f.2) (all b place y live le)

  -- after any line that was learned
  added-stays : GrowsOn → PlainOn → (k : ℕ) → suc k ≤ length run.steps → AllStay k → (step : Step) → (a : IsAdded (policy_at k) (policy_at (suc k)) step) → LearnedBy scene run.steps k a.place a.line
      → (b d : ℕ) (x : Execute) → IsLive (policy_at b) d → b ≤ k → Stays b (suc k) d x
  added-stays grows plain k long all step a l b d x live le = by_kind (is_execute l.request) refl
    where
      within : k ≤ length run.steps
      within = omega (arith, long)

      now : IsLive (policy_at k) d
      now = live-later grows b k d le within live

      before : Stays b k d x
      before = all b d x live le

      p : Policy
      p = policy_at l.version

      line_is : a.line ≡ line_of (namespace_of p l.new.domain) l.request
      line_is = let both : Some a.line ≡ Some (line_of (namespace_of p l.new.domain) l.request) = l.new.line_is in cc

      unseen : Blind (namespace_of (policy_at k) a.old).groups x a.line → Stays b (suc k) d x
      unseen blind = same-stays b k (suc k) d x (ap (λ q. execute_found q d x) a.policy ∙ line-sees (policy_at k) a.place a.old a.line x a.was blind d now.0 now.1) before

      elsewhere : (d ≡ a.place → ⊥) → Stays b (suc k) d x
      elsewhere other = same-stays b k (suc k) d x (ap (λ q. execute_found q d x) a.policy ∙ other-same (policy_at k) a.place d (record a.old { entries = adding a.line a.old.entries }) now.0 x other now.1) before

      here : (e : Executed (namespace_of p l.new.domain) l.request) → x ≡ e.values → d ≡ a.place → Stays b (suc k) d x
      here e same place =
          let alive : l.new.domain.live ≡ true = live-before grows l.version k a.place l.new.domain l.below within l.new.there (subst (IsLive (policy_at k)) place now) in
          let none : execute_found p a.place e.values ≡ None =
          sym (plain-first p a.place l.new.domain l.process l.request e.values (plain l.version (let below : l.version ≤ k = l.below in omega (arith, within, below))) l.new.there alive e.is) ∙ rw l.new.none refl in
          rw (same, place)
          (own-stays grows plain k within all a.place a.line a.old a.was a.fresh a.policy l e.values (line_is ∙ e.line) none b (subst (IsLive (policy_at b)) place live) (l.new.domain, l.new.there, alive) le)

      by_place : (e : Executed (namespace_of p l.new.domain) l.request) → x ≡ e.values → (d ≡ a.place) ⊎ (d ≡ a.place → ⊥) → Stays b (suc k) d x
      by_place e same (inl place) = here e same place
      by_place e same (inr other) = elsewhere other

      by_values : (e : Executed (namespace_of p l.new.domain) l.request) → (x ≡ e.values) ⊎ Blind (namespace_of (policy_at k) a.old).groups x (execute_line e.values) → Stays b (suc k) d x
      by_values e (inl same) = by_place e same (cases_eq d a.place)
      by_values e (inr blind) = unseen (rw (line_is ∙ e.line) blind)

      by_kind : (c : Bool) → is_execute l.request ≡ c → Stays b (suc k) d x
      by_kind true execute =
          let e = executed scene.grammar.is_path (namespace_of p l.new.domain) l.request l.asked execute in
          by_values e (own_or_blind (namespace_of (policy_at k) a.old).groups x e.values)
      by_kind false other = unseen (rw line_is (other-blind scene.grammar.is_path (namespace_of p l.new.domain) l.request l.asked other (namespace_of (policy_at k) a.old).groups x))

  step-stays : CanPlay scene → Legal scene run → is_clean run ≡ true → GrowsOn → PlainOn → (k : ℕ) → suc k ≤ length run.steps → AllStay k → (b d : ℕ) (x : Execute) → IsLive (policy_at b) d → b ≤ k → Stays b (suc k) d x
  unfolding is_clean
  step-stays can legal clean grows plain k long all b d x live le =
      go (subst (λ (s : State). SameFound (policy_at k) s.policy ⊎ IsAdded (policy_at k) s.policy made.step) (sym made.next) (step-found scene.grammar can.grammar (state_at scene run.steps k) made.step made.reply made.replied made.clean))
    where
      made : StepAt scene.grammar (opening_of scene) run.steps k
      made = step-of scene.grammar (opening_of scene) run.steps k long legal.places.replies (and_parts (list_all is_clean_take run.takes) (list_all is_clean_step run.steps) clean).1

      now : IsLive (policy_at k) d
      now = live-later grows b k d le (omega (arith, long)) live

      go : SameFound (policy_at k) (policy_at (suc k)) ⊎ IsAdded (policy_at k) (policy_at (suc k)) made.step → Stays b (suc k) d x
      go (inl same) = same-stays b k (suc k) d x (same d now.0 x now.1) (all b d x live le)
      go (inr a) = added-stays grows plain k long all made.step a (learned-by scene run k a.place a.line can legal (made.there ∙ ap (λ s. Some s) a.is)) b d x live le

  all-stay : CanPlay scene → Legal scene run → is_clean run ≡ true → GrowsOn → PlainOn → (k : ℕ) → k ≤ length run.steps → AllStay k
  all-stay can legal clean grows plain zero long b d x live le = let same : b ≡ 0 = omega (arith, le) in rw same (inl refl)
  all-stay can legal clean grows plain (suc k) long b d x live le = go (all-stay can legal clean grows plain k (omega (arith, long))) (cases_eq b (suc k))
    where
      go : AllStay k → (b ≡ suc k) ⊎ (b ≡ suc k → ⊥) → Stays b (suc k) d x
      go all (inl same) = rw same (inl refl)
      go all (inr other) = step-stays can legal clean grows plain k long all b d x live (omega (arith, le, other))

-- in a clean run from a plain opening, where policies grow and stay plain
pub first_execute_stays : CleanRunGrows
    → ((scene : Scene) (run : Run) → CanPlay scene → IsTrue (is_plain scene.policy) → Legal scene run → IsTrue (is_clean run) → (k : ℕ) → k ≤ length run.steps → IsTrue (is_plain (state_at scene run.steps k).policy))
    → FirstExecuteStays
first_execute_stays grows plain scene run can opening legal clean d b k x live le long =
    all-stay scene run can legal clean (grows scene run can.grammar legal clean) (plain scene run can opening legal clean) k long b d x live le
