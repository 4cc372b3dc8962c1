-- A step that fits goes on fitting, whatever steps are made before it: from every opening, with
-- nothing asked of its policy.
use Rattle.std.proofs.Common.{◌≡◌, ℕ, zero, suc, List, [], ◌∷◌, ◌++◌, Bool, true, false, true≢false, refl, sym, ◌∙◌}
use Rattle.std.specs.Prelude.{Option, Some, None, ◌&&◌, if◌then◌else◌, slice_get, slice_set, unwrap_or, not, IsSome, is_some, nat_lt, nat_le, option_map}
use Rattle.std.proofs.lemmas.List.{map-append}
use Rattle.std.specs.Option.{option_and_then, option_map_or}
use Rattle.tm_word.specs.Prelude.{Text}
use Rattle.tm_rules.specs.Prelude.{Cursor, DomainName, Edited, Grammar, apply_line, ask, domain_at, fail, in_domain, is_manager, learn, learn_reply, learned_domain, live_domain, made_new, make, new_domain, profile_of}
use Rattle.tm_rules.specs.Types.{Domain, EditReply, Editor, Entry, FileKind, LearnReply, Made, MakeReply, Policy, Profile, Reply, Start, Step}
use Rattle.tm_legal.specs.Prelude.{Applied, DomainIn, Ready, State, after, apply, ask_step, edit_by, edit_step, fits, fits_entry, fits_name, on_policy, on_queries, opening, unfit}
use Rattle.tm_legal.proofs.Plays.{after-append}
use Rattle.tm_legal.proofs.Kept.{DomainIn-later, Keeps, Keeps-refl, Succeeds, succeeds, same_head, Ready-later}
use Rattle.tm_made.specs.Made.{steps_made}
use Rattle.tm_made.proofs.Keeping.{changed-keeps, made-keeps, line-keeps}

-- what lasts of a state, whatever steps are made: its domains, the editors and the trees
pub record Lasts (s s' : State) : Type 0 where
  pub keeps : Keeps s.policy s'.policy
  pub editors : s'.editors ≡ s.editors
  pub trees : s'.trees ≡ s.trees

pub Lasts-refl : (s : State) → Lasts s s
Lasts-refl s = record { keeps = Keeps-refl s.policy; editors = refl; trees = refl }

pub Keeps-trans : (p q r : Policy) → Keeps p q → Keeps q r → Keeps p r
Keeps-trans p q r h k =
    record {
      domains = λ d x at.
          let (y, there, name, has) = h.domains d x at in
          let (z, later, same, still) = k.domains d y there in
          (z, later, same ∙ name, λ had. still (has had));
    }

pub Lasts-trans : (s t u : State) → Lasts s t → Lasts t u → Lasts s u
Lasts-trans s t u h k = record { keeps = Keeps-trans s.policy t.policy u.policy h.keeps k.keeps; editors = k.editors ∙ h.editors; trees = k.trees ∙ h.trees }

-- One step

-- a step that changes the policy where a domain and its profile are there
domain-lasts : {R : Type 0} (s : State) (d : ℕ) (reply : R → Reply) (change : Domain → Profile → Policy × R) → ((x : Domain) (profile : Profile) → domain_at s.policy d ≡ Some x → Keeps s.policy (change x profile).0) → Lasts s (on_policy s reply (in_domain s.policy d change)).state
domain-lasts s d reply change h = by_domain (domain_at s.policy d) refl
  where
    by_profile : (x : Domain) → domain_at s.policy d ≡ Some x → (o : Option Profile) → Lasts s (on_policy s reply (option_map (change x) o)).state
    by_profile x at None = Lasts-refl s
    by_profile x at (Some profile) = record { keeps = h x profile at; editors = refl; trees = refl }

    by_domain : (o : Option Domain) → domain_at s.policy d ≡ o → Lasts s (on_policy s reply (option_and_then (λ domain. option_map (change domain) (profile_of s.policy domain)) o)).state
    by_domain None at = Lasts-refl s
    by_domain (Some x) at = by_profile x at (profile_of s.policy x)

-- a step that is made where a test passes
test-lasts : (s : State) (b : Bool) (done : Applied) → Lasts s done.state → Lasts s (if b then done else unfit s).state
test-lasts s true done h = h
test-lasts s false done h = Lasts-refl s

module _ (g : Grammar) (s : State) where
  learn-lasts : (d : ℕ) (entry : Entry) → Lasts s (on_policy s Reply.Learn (learn s.policy d entry)).state
  unfolding learn
  learn-lasts d entry = domain-lasts s d Reply.Learn _ (λ x profile at. changed-keeps s.policy (λ z. learned_domain (learn_reply profile x entry) x entry) d x at (head (learn_reply profile x entry) x))
    where
      head : (reply : LearnReply) (x : Domain) → Succeeds s.policy x (learned_domain reply x entry)
      head LearnReply.Added x = succeeds s.policy x (learned_domain LearnReply.Added x entry) refl refl refl
      head LearnReply.There x = same_head s.policy x
      head LearnReply.Mode x = same_head s.policy x
      head LearnReply.Quota x = succeeds s.policy x (learned_domain LearnReply.Quota x entry) refl refl refl

  make-lasts : (d : ℕ) (name : DomainName) → Lasts s (on_policy s Reply.Make (make s.policy d name)).state
  unfolding make
  make-lasts d name = domain-lasts s d Reply.Make _ (λ x profile at. go x (live_domain s.policy name))
    where
      go : (x : Domain) (o : Option ℕ) → Keeps s.policy (option_map_or (λ n. (s.policy, MakeReply.Old n)) o (made_new s.policy name x)).0
      go x None = made-keeps s.policy (new_domain name x.profile x.groups)
      go x (Some n) = Keeps-refl s.policy

  fail-lasts : (d : ℕ) → Lasts s (on_policy s Reply.Fail (fail s.policy d)).state
  unfolding fail
  fail-lasts d =
      domain-lasts s d Reply.Fail _
      (λ x profile at.
      let new : Domain = record x { transition_failed = true } in
      changed-keeps s.policy (λ z. new) d x at (succeeds s.policy x new refl refl refl))

  ask-lasts : (d retry : ℕ) (text : Text) → Lasts s (ask_step g s d retry text).state
  ask-lasts d retry text = go (in_domain s.policy d (λ domain profile. domain.name))
    where
      go : (o : Option Text) → Lasts s (option_map_or (λ name. on_queries s Reply.Ask (ask s.queries name text retry)) o (unfit s)).state
      go None = Lasts-refl s
      go (Some name) = record { keeps = Keeps-refl s.policy; editors = refl; trees = refl }

  edit-lasts : (e : ℕ) (file : FileKind) (line : Text) → Lasts s (edit_by g s e file line).state
  unfolding edit_step
  edit-lasts zero file line = Lasts-refl s
  edit-lasts (suc e) file line = by_editor (slice_get s.editors e)
    where
      cursor : Cursor
      cursor = unwrap_or (slice_get s.cursors e) None

      done : Edited
      done = apply_line g s.policy file cursor line

      by_manager : (b : Bool) → Lasts s (if b then (let a : Applied = record { state = s; reply = Some (Reply.Edit EditReply.NotManager) } in a) else (let a : Applied = record { state = record s { policy = done.policy; cursors = slice_set s.cursors e done.cursor }; reply = Some (Reply.Edit done.reply) } in a)).state
      by_manager true = Lasts-refl s
      by_manager false = record { keeps = line-keeps g s.policy file cursor line; editors = refl; trees = refl }

      by_editor : (o : Option Editor) → Lasts s (option_map_or (λ editor. edit_step g s e file line editor cursor) o (unfit s)).state
      by_editor None = Lasts-refl s
      by_editor (Some editor) = by_manager (not (is_manager s.policy editor))

  -- every step
  pub step-lasts : (step : Step) → Lasts s (apply g s step).state
  unfolding apply
  step-lasts (Step.Learn d entry) = test-lasts s (fits_entry g entry) _ (learn-lasts d entry)
  step-lasts (Step.Make d name) = test-lasts s (fits_name g s d name) _ (make-lasts d name)
  step-lasts (Step.Fail d) = fail-lasts d
  step-lasts (Step.Ask d retry text) = ask-lasts d retry text
  step-lasts (Step.Answer serial code) = record { keeps = Keeps-refl s.policy; editors = refl; trees = refl }
  step-lasts Step.Attach = record { keeps = Keeps-refl s.policy; editors = refl; trees = refl }
  step-lasts Step.Detach = record { keeps = Keeps-refl s.policy; editors = refl; trees = refl }
  step-lasts (Step.Edit e file line) = edit-lasts e file line
  step-lasts (Step.End t) = test-lasts s (nat_lt 0 t && nat_le t s.trees) _ (record { keeps = Keeps-refl s.policy; editors = refl; trees = refl })

-- every list of steps
pub steps-last : (g : Grammar) (s : State) (steps : List Step) → Lasts s (after g s steps)
unfolding after
steps-last g s [] = Lasts-refl s
steps-last g s (step ∷ steps) = Lasts-trans s (apply g s step).state (after g (apply g s step).state steps) (step-lasts g s step) (steps-last g (apply g s step).state steps)

-- What a step needs of a state to fit

-- its domain, a line that can be learned, a name that can be made; an editor, a tree
abbrev Wants : Grammar → State → Step → Type 0
Wants g s (Step.Ask d retry text) = DomainIn s.policy d
Wants g s (Step.Answer serial code) = Unit {0}
Wants g s Step.Attach = Unit {0}
Wants g s Step.Detach = Unit {0}
Wants g s (Step.Edit zero file line) = ⊥
Wants g s (Step.Edit (suc e) file line) = IsSome (slice_get s.editors e)
Wants g s (Step.End t) = (nat_lt 0 t && nat_le t s.trees) ≡ true
Wants g s (Step.Learn d entry) = Ready g s.policy (Step.Learn d entry)
Wants g s (Step.Make d name) = Ready g s.policy (Step.Make d name)
Wants g s (Step.Fail d) = Ready g s.policy (Step.Fail d)

wants-later : (g : Grammar) (s s' : State) (step : Step) → Lasts s s' → Wants g s step → Wants g s' step
wants-later g s s' (Step.Learn d entry) lasts h = Ready-later g s.policy s'.policy (Step.Learn d entry) lasts.keeps h
wants-later g s s' (Step.Make d name) lasts h = Ready-later g s.policy s'.policy (Step.Make d name) lasts.keeps h
wants-later g s s' (Step.Fail d) lasts h = Ready-later g s.policy s'.policy (Step.Fail d) lasts.keeps h
wants-later g s s' (Step.Ask d retry text) lasts h = DomainIn-later s.policy s'.policy d lasts.keeps h
wants-later g s s' (Step.Answer serial code) lasts h = tt
wants-later g s s' Step.Attach lasts h = tt
wants-later g s s' Step.Detach lasts h = tt
wants-later g s s' (Step.Edit zero file line) lasts h = h
wants-later g s s' (Step.Edit (suc e) file line) lasts h = rw lasts.editors h
wants-later g s s' (Step.End t) lasts h = rw lasts.trees h

domain-in : {A : Type 0} (p : Policy) (d : ℕ) (change : Domain → Profile → A) → is_some (in_domain p d change) ≡ true → DomainIn p d
domain-in {A} p d change has = by_domain (domain_at p d) refl has
  where
    by_profile : (x : Domain) → domain_at p d ≡ Some x → (o : Option Profile) → profile_of p x ≡ o → is_some (option_map (change x) o) ≡ true → DomainIn p d
    by_profile x at None is e = absurd (true≢false (sym e))
    by_profile x at (Some profile) is e = record { domain = x; there = at; profile = profile; profiled = is }

    by_domain : (o : Option Domain) → domain_at p d ≡ o → is_some (option_and_then (λ domain. option_map (change domain) (profile_of p domain)) o) ≡ true → DomainIn p d
    by_domain None at e = absurd (true≢false (sym e))
    by_domain (Some x) at e = by_profile x at (profile_of p x) refl e

policy-reply : {R : Type 0} (s : State) (reply : R → Reply) (o : Option (Policy × R)) → is_some (on_policy s reply o).reply ≡ is_some o
policy-reply s reply None = refl
policy-reply s reply (Some done) = refl

-- a step with a reply passed its test
tested : (s : State) (b : Bool) (done : Applied) → is_some (if b then done else unfit s).reply ≡ true → (b ≡ true) × (is_some done.reply ≡ true)
tested s true done has = (refl, has)
tested s false done has = absurd (true≢false (sym has))

module _ (g : Grammar) (s : State) where
  -- a step that has a reply has what it wants
  wants-of : (step : Step) → is_some (apply g s step).reply ≡ true → Wants g s step
  unfolding apply learn make fail
  wants-of (Step.Learn d entry) has =
      let parts = tested s (fits_entry g entry) _ has in
      (parts.0, domain-in s.policy d _ (sym (policy-reply s Reply.Learn (learn s.policy d entry)) ∙ parts.1))
  wants-of (Step.Make d name) has =
      let parts = tested s (fits_name g s d name) _ has in
      let there : DomainIn s.policy d = domain-in s.policy d _ (sym (policy-reply s Reply.Make (make s.policy d name)) ∙ parts.1) in
      (there, rw there.there at parts.0)
  wants-of (Step.Fail d) has = domain-in s.policy d _ (sym (policy-reply s Reply.Fail (fail s.policy d)) ∙ has)
  wants-of (Step.Ask d retry text) has = domain-in s.policy d (λ domain profile. domain.name) (asked (in_domain s.policy d (λ domain profile. domain.name)) has)
    where
      asked : (o : Option Text) → is_some (option_map_or (λ name. on_queries s Reply.Ask (ask s.queries name text retry)) o (unfit s)).reply ≡ true → is_some o ≡ true
      asked None e = e
      asked (Some name) e = refl
  wants-of (Step.Answer serial code) has = tt
  wants-of Step.Attach has = tt
  wants-of Step.Detach has = tt
  wants-of (Step.Edit zero file line) has = absurd (true≢false (sym has))
  wants-of (Step.Edit (suc e) file line) has = there (slice_get s.editors e) has
    where
      there : (o : Option Editor) → is_some (option_map_or (λ editor. edit_step g s e file line editor (unwrap_or (slice_get s.cursors e) None)) o (unfit s)).reply ≡ true → is_some o ≡ true
      there None e = e
      there (Some editor) e = refl
  wants-of (Step.End t) has = (tested s (nat_lt 0 t && nat_le t s.trees) _ has).0

  -- a step that has what it wants has a reply
  replied-where : (step : Step) → Wants g s step → is_some (apply g s step).reply ≡ true
  unfolding apply learn make fail edit_step
  replied-where (Step.Learn d entry) (fit, there) = rw (fit, there.there, there.profiled) refl
  replied-where (Step.Make d name) (there, fit) = rw (there.there, fit, there.profiled) refl
  replied-where (Step.Fail d) there = rw (there.there, there.profiled) refl
  replied-where (Step.Ask d retry text) there = rw (there.there, there.profiled) refl
  replied-where (Step.Answer serial code) h = refl
  replied-where Step.Attach h = refl
  replied-where Step.Detach h = refl
  replied-where (Step.Edit zero file line) h = absurd h
  replied-where (Step.Edit (suc e) file line) h = by_editor (slice_get s.editors e) h
    where
      by_manager : (editor : Editor) (b : Bool) (done : Applied) → is_some done.reply ≡ true → is_some (if b then (let a : Applied = record { state = s; reply = Some (Reply.Edit EditReply.NotManager) } in a) else done).reply ≡ true
      by_manager editor true done has = refl
      by_manager editor false done has = has

      by_editor : (o : Option Editor) → is_some o ≡ true → is_some (option_map_or (λ editor. edit_step g s e file line editor (unwrap_or (slice_get s.cursors e) None)) o (unfit s)).reply ≡ true
      by_editor None has = has
      by_editor (Some editor) has = by_manager editor (not (is_manager s.policy editor)) _ refl
  replied-where (Step.End t) there = rw there refl

-- in a state that follows, a step that had a reply still has one
pub replied-later : (g : Grammar) (s s' : State) (step : Step) → Lasts s s' → is_some (apply g s step).reply ≡ true → is_some (apply g s' step).reply ≡ true
replied-later g s s' step lasts has = replied-where g s' step (wants-later g s s' step lasts (wants-of g s step has))

-- a step that fits after some steps fits after more
pub fits-stays : (g : Grammar) (start : Start) (xs ys : List Step) (step : Step) → fits g start xs step ≡ true → fits g start (xs ++ ys) step ≡ true
fits-stays g start xs ys step has =
    rw (after-append g (opening start) xs ys)
    (replied-later g (after g (opening start) xs) (after g (after g (opening start) xs) ys) step (steps-last g (after g (opening start) xs) ys) has)

-- so it does in lists of steps with their makers
pub made-fits-stays : (g : Grammar) (start : Start) (xs ys : List Made) (made : Made) → fits g start (steps_made xs) made.step ≡ true → fits g start (steps_made (xs ++ ys)) made.step ≡ true
made-fits-stays g start xs ys made has = rw (map-append (λ (m : Made). m.step) xs ys) (fits-stays g start (steps_made xs) (steps_made ys) made.step has)
