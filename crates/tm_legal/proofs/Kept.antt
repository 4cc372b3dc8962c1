-- What stays of a policy while its domains learn, fail and are made: namespaces, and each domain's
-- name and profile.
use Rattle.std.proofs.Common.{◌≡◌, ℕ, zero, suc, ◌+◌, List, [], ◌∷◌, ◌++◌, length, Bool, true, false, refl, sym, ap, ◌∙◌, subst, arith}
use Rattle.std.specs.Prelude.{Option, Some, None, ◌&&◌, ◌==◌, cond, slice_get, not, IsSome}
use Rattle.std.specs.List.{AllByRecursion, position_from}
use Rattle.std.specs.Option.{option_map_or}
use Rattle.std.proofs.lemmas.Bool.{eqb-true, and_parts}
use Rattle.tm_word.specs.Prelude.{Pattern, Text, Word, texts_equal}
use Rattle.tm_rules.specs.Prelude.{DomainName, Grammar, changed_at, domain_at, fail, is_domain_name, is_path_word, learn, learn_reply, learned_domain, live_domain, made_new, make, namespace_named, namespace_word, new_domain, profile_of}
use Rattle.tm_rules.specs.Types.{Domain, Entry, LearnReply, MakeReply, Namespace, Policy, Reply, Step}
use Rattle.tm_legal.specs.Prelude.{Applied, DomainIn, Ready, State, apply, fits_entry, made_number, on_policy}

-- Texts and lists

-- texts that test as equal are equal
pub same_texts : (x y : Text) → texts_equal x y ≡ true → x ≡ y
same_texts [] [] e = refl
same_texts [] (b ∷ y) e = absurd cc
same_texts (a ∷ x) [] e = absurd cc
same_texts (a ∷ x) (b ∷ y) e =
    let parts = and_parts (a == b) (texts_equal x y) e in
    rw (eqb-true a b parts.0, same_texts x y parts.1) refl

-- what an option that is there holds
pub some_of : {A : Type 0} (o : Option A) → IsSome o → (x : A) × (o ≡ Some x)
some_of None e = absurd cc
some_of (Some x) e = (x, refl)

-- an element that passes stands at that place, counted from i
abbrev pub FoundAt : {A : Type 0} → (A → Bool) → ℕ → List A → ℕ → Type 0
FoundAt {A} t i xs n = (k : ℕ) × (x : A) × (n ≡ i + k) × (slice_get xs k ≡ Some x) × (t x ≡ true)

-- the place that a search gives
pub position_holds : {A : Type 0} (t : A → Bool) (i : ℕ) (xs : List A) (n : ℕ) → position_from t i xs ≡ Some n → FoundAt t i xs n
position_holds t i [] n e = absurd cc
position_holds {A} t i (x ∷ xs) n e = go (t x) refl e (position_holds t (i + 1) xs n)
  where
    go : (b : Bool) → t x ≡ b → cond b (Some i) (position_from t (i + 1) xs) ≡ Some n → (position_from t (i + 1) xs ≡ Some n → FoundAt t (i + 1) xs n) → FoundAt t i (x ∷ xs) n
    go true is e later = (0, x, (let same : i ≡ n = cc in omega arith), refl, is)
    go false is e later = let found = later e in (suc found.0, found.1, (let at : n ≡ i + 1 + found.0 = found.2 in omega arith), found.3, found.4)

-- a live domain of that name is there
pub live_is_there : (p : Policy) (name : DomainName) (n : ℕ) → live_domain p name ≡ Some n → (x : Domain) × (domain_at p n ≡ Some x) × (x.live ≡ true)
unfolding live_domain
live_is_there p name n e =
    let found = position_holds (λ (domain : Domain). domain.live && texts_equal domain.name name) 0 p.domains n e in
    (found.1, subst (λ k. domain_at p k ≡ Some found.1) (let same : found.0 ≡ n = omega arith in same) found.3, (and_parts found.1.live (texts_equal found.1.name name) found.4).0)

-- Domains that are there

-- what plays need of an opened policy: live domains have profiles, and aggregators lead to paths
pub record Sound (p : Policy) : Type 0 where
  pub opened : p.opened ≡ true
  pub profiles : (d : ℕ) (x : Domain) → domain_at p d ≡ Some x → x.live ≡ true → IsSome (profile_of p x)
  pub aggregators : AllByRecursion (λ (ns : Namespace). AllByRecursion (λ (pair : Pattern × Word). is_path_word pair.1 ≡ true) ns.aggregators) p.namespaces

-- a later policy has each domain with its name, and its profile is still defined
pub record Keeps (p q : Policy) : Type 0 where
  pub domains : (d : ℕ) (x : Domain) → domain_at p d ≡ Some x → (y : Domain) × (domain_at q d ≡ Some y) × (y.name ≡ x.name) × (IsSome (profile_of p x) → IsSome (profile_of q y))

-- a later policy that is sound too
pub record Evolves (p q : Policy) : Type 0 where
  pub keeps : Keeps p q
  pub sound : Sound q

pub Keeps-refl : (p : Policy) → Keeps p p
Keeps-refl p = record { domains = λ d x at. (x, at, refl, λ has. has) }

-- the profile goes by the namespaces, the namespace word and the number
pub same_profile : (p q : Policy) (x y : Domain) → q.namespaces ≡ p.namespaces → namespace_word y.name ≡ namespace_word x.name → y.profile ≡ x.profile → profile_of q y ≡ profile_of p x
unfolding namespace_named
same_profile p q x y n a b = rw (n, a, b) refl

pub DomainIn-later : (p q : Policy) (d : ℕ) → Keeps p q → DomainIn p d → DomainIn q d
DomainIn-later p q d keeps h =
    let (y, at, name, has) = keeps.domains d h.domain h.there in
    let (profile, is) = some_of (profile_of q y) (has (rw h.profiled refl)) in
    record { domain = y; there = at; profile = profile; profiled = is }

-- a live domain has its profile
pub live_in : (p : Policy) (name : DomainName) (n : ℕ) → Sound p → live_domain p name ≡ Some n → DomainIn p n
live_in p name n sound e =
    let (x, at, live) = live_is_there p name n e in
    let (profile, is) = some_of (profile_of p x) (sound.profiles n x at live) in
    record { domain = x; there = at; profile = profile; profiled = is }

-- equal domains and namespaces
pub same-evolves : (p q : Policy) → q.namespaces ≡ p.namespaces → q.domains ≡ p.domains → q.opened ≡ p.opened → Sound p → Evolves p q
same-evolves p q n d o sound =
    record {
      keeps = record { domains = λ e x at. (x, rw d at, refl, λ has. rw (same_profile p q x x n refl refl) has) };
      sound = record {
        opened = o ∙ sound.opened;
        profiles = λ e x at live. rw (same_profile p q x x n refl refl) (sound.profiles e x (rw d at at) live);
        aggregators = rw n sound.aggregators;
      };
    }

-- A domain that is changed

-- the name stays, a profile is still defined, and what is live was live
pub record Succeeds (p : Policy) (x y : Domain) : Type 0 where
  pub name : y.name ≡ x.name
  pub profile : IsSome (profile_of p x) → IsSome (profile_of p y)
  pub live : y.live ≡ true → x.live ≡ true

pub same_head : (p : Policy) (x : Domain) → Succeeds p x x
same_head p x = record { name = refl; profile = λ has. has; live = λ live. live }

-- what changes neither name nor profile nor life
pub succeeds : (p : Policy) (x y : Domain) → y.name ≡ x.name → y.profile ≡ x.profile → y.live ≡ x.live → Succeeds p x y
succeeds p x y n f l = record { name = n; profile = λ has. rw (same_profile p p x y refl (ap namespace_word n) f) has; live = λ live. sym l ∙ live }

module _ (p : Policy) (change : Domain → Domain) where
  get-changed : (xs : List Domain) (d e : ℕ) (old x : Domain) → slice_get xs d ≡ Some old → Succeeds p old (change old) → slice_get xs e ≡ Some x → (y : Domain) × (slice_get (changed_at d change xs) e ≡ Some y) × Succeeds p x y
  get-changed [] d e old x was same at = absurd cc
  get-changed (a ∷ xs) zero zero old x was same at =
      let first : a ≡ old = cc in
      let second : old ≡ x = cc in
      (change a, refl, subst (λ o. Succeeds p o (change a)) second (subst (λ z. Succeeds p old (change z)) (sym first) same))
  get-changed (a ∷ xs) zero (suc e) old x was same at = (x, at, same_head p x)
  get-changed (a ∷ xs) (suc d) zero old x was same at = (x, at, same_head p x)
  get-changed (a ∷ xs) (suc d) (suc e) old x was same at = get-changed xs d e old x was same at

  got-changed : (xs : List Domain) (d e : ℕ) (old y : Domain) → slice_get xs d ≡ Some old → Succeeds p old (change old) → slice_get (changed_at d change xs) e ≡ Some y → (x : Domain) × (slice_get xs e ≡ Some x) × Succeeds p x y
  got-changed [] d e old y was same at = absurd cc
  got-changed (a ∷ xs) zero zero old y was same at =
      let first : a ≡ old = cc in
      let second : change a ≡ y = cc in
      (old, was, subst (λ o. Succeeds p old o) second (subst (λ z. Succeeds p old (change z)) (sym first) same))
  got-changed (a ∷ xs) zero (suc e) old y was same at = (y, at, same_head p y)
  got-changed (a ∷ xs) (suc d) zero old y was same at = (y, at, same_head p y)
  got-changed (a ∷ xs) (suc d) (suc e) old y was same at = got-changed xs d e old y was same at

  -- a domain that is changed so lets its policy evolve
  pub changed-evolves : (d : ℕ) (old : Domain) → domain_at p d ≡ Some old → Succeeds p old (change old) → Sound p → Evolves p (record p { domains = changed_at d change p.domains })
  changed-evolves d old was same sound =
      let q : Policy = record p { domains = changed_at d change p.domains } in
      record {
        keeps = record {
          domains = λ e x at.
              let found = get-changed p.domains d e old x was same at in
              (found.0, found.1, found.2.name, λ has. rw (same_profile p q found.0 found.0 refl refl refl) (found.2.profile has));
        };
        sound = record {
          opened = sound.opened;
          profiles = λ e y at live.
              let found = got-changed p.domains d e old y was same at in
              rw (same_profile p q y y refl refl refl) (found.2.profile (sound.profiles e found.0 found.1 (found.2.live live)));
          aggregators = sound.aggregators;
        };
      }

-- A domain that is made

get-front : (xs : List Domain) (new : Domain) (d : ℕ) (x : Domain) → slice_get xs d ≡ Some x → slice_get (xs ++ new ∷ []) d ≡ Some x
get-front [] new d x at = absurd cc
get-front (a ∷ xs) new zero x at = at
get-front (a ∷ xs) new (suc d) x at = get-front xs new d x at

get-last : (xs : List Domain) (new : Domain) → slice_get (xs ++ new ∷ []) (length xs) ≡ Some new
get-last [] new = refl
get-last (a ∷ xs) new = get-last xs new

got-pushed : (xs : List Domain) (new : Domain) (P : Domain → Type 0) → P new → ((d : ℕ) (x : Domain) → slice_get xs d ≡ Some x → P x) → (d : ℕ) (y : Domain) → slice_get (xs ++ new ∷ []) d ≡ Some y → P y
got-pushed [] new P last front zero y at = subst P (let e : new ≡ y = cc in e) last
got-pushed [] new P last front (suc d) y at = absurd cc
got-pushed (a ∷ xs) new P last front zero y at = front 0 y at
got-pushed (a ∷ xs) new P last front (suc d) y at = got-pushed xs new P last (λ e x got. front (suc e) x got) d y at

-- a domain that is made with a profile lets its policy evolve
pub made-evolves : (p : Policy) (new : Domain) → IsSome (profile_of p new) → Sound p → Evolves p (record p { domains = p.domains ++ new ∷ [] })
made-evolves p new has sound =
    let q : Policy = record p { domains = p.domains ++ new ∷ [] } in
    record {
      keeps = record { domains = λ d x at. (x, get-front p.domains new d x at, refl, λ had. rw (same_profile p q x x refl refl refl) had) };
      sound = record {
        opened = sound.opened;
        profiles = got-pushed p.domains new (λ y. y.live ≡ true → IsSome (profile_of q y))
            (λ live. rw (same_profile p q new new refl refl refl) has)
            (λ d x at live. rw (same_profile p q x x refl refl refl) (sound.profiles d x at live));
        aggregators = sound.aggregators;
      };
    }

-- What a process's own steps do

pub Ready-later : (g : Grammar) (p q : Policy) (step : Step) → Keeps p q → Ready g p step → Ready g q step
Ready-later g p q (Step.Learn d entry) keeps h = (h.0, DomainIn-later p q d keeps h.1)
Ready-later g p q (Step.Make d name) keeps h =
    let (y, at, same, has) = keeps.domains d h.0.domain h.0.there in
    let (profile, is) = some_of (profile_of q y) (has (rw h.0.profiled refl)) in (record { domain = y; there = at; profile = profile; profiled = is }, rw same h.1)
Ready-later g p q (Step.Fail d) keeps h = DomainIn-later p q d keeps h
Ready-later g p q (Step.Ask d retry line) keeps h = absurd h
Ready-later g p q (Step.Answer serial code) keeps h = absurd h
Ready-later g p q Step.Attach keeps h = absurd h
Ready-later g p q Step.Detach keeps h = absurd h
Ready-later g p q (Step.Edit e file line) keeps h = absurd h
Ready-later g p q (Step.End t) keeps h = absurd h

-- each such step has a reply of its kind, and that of a Make names a domain that is there
abbrev pub RepliesTo : Policy → Step → Reply → Type 0
RepliesTo q (Step.Learn d entry) reply = (learned : LearnReply) × (reply ≡ Reply.Learn learned)
RepliesTo q (Step.Make d name) reply = (made : MakeReply) × (n : ℕ) × (reply ≡ Reply.Make made) × (made_number (Some (Reply.Make made)) ≡ Some n) × DomainIn q n
RepliesTo q (Step.Fail d) reply = (new : Bool) × (reply ≡ Reply.Fail new)
RepliesTo q step reply = ⊥

-- a step that fits, and all that it leaves
pub record Fits (s : State) (step : Step) (done : Applied) : Type 0 where
  pub reply : Reply
  pub replied : done.reply ≡ Some reply
  pub evolves : Evolves s.policy done.state.policy
  pub others : done.state ≡ record s { policy = done.state.policy }
  pub answers : RepliesTo done.state.policy step reply

learned_head : (p : Policy) (reply : LearnReply) (x : Domain) (entry : Entry) → Succeeds p x (learned_domain reply x entry)
learned_head p LearnReply.Added x entry = succeeds p x (learned_domain LearnReply.Added x entry) refl refl refl
learned_head p LearnReply.There x entry = same_head p x
learned_head p LearnReply.Mode x entry = same_head p x
learned_head p LearnReply.Quota x entry = succeeds p x (learned_domain LearnReply.Quota x entry) refl refl refl

learn-fits : (g : Grammar) (s : State) (d : ℕ) (entry : Entry) → Sound s.policy → fits_entry g entry ≡ true → DomainIn s.policy d → Fits s (Step.Learn d entry) (apply g s (Step.Learn d entry))
unfolding apply learn
learn-fits g s d entry sound fits h =
    let reply : LearnReply = learn_reply h.profile h.domain entry in
    rw (fits, h.there, h.profiled)
    (record {
      reply = Reply.Learn reply;
      replied = refl;
      evolves = changed-evolves s.policy (λ z. learned_domain reply h.domain entry) d h.domain h.there (learned_head s.policy reply h.domain entry) sound;
      others = refl;
      answers = (reply, refl);
    })

fail-fits : (g : Grammar) (s : State) (d : ℕ) → Sound s.policy → DomainIn s.policy d → Fits s (Step.Fail d) (apply g s (Step.Fail d))
unfolding apply fail
fail-fits g s d sound h =
    let new : Domain = record h.domain { transition_failed = true } in
    rw (h.there, h.profiled)
    (record {
      reply = Reply.Fail (not h.domain.transition_failed);
      replied = refl;
      evolves = changed-evolves s.policy (λ z. new) d h.domain h.there (succeeds s.policy h.domain new refl refl refl) sound;
      others = refl;
      answers = (not h.domain.transition_failed, refl);
    })

make-fits : (g : Grammar) (s : State) (d : ℕ) (name : DomainName) → Sound s.policy → (h : DomainIn s.policy d) → ((is_domain_name g.is_path name && texts_equal (namespace_word name) (namespace_word h.domain.name)) ≡ true) → Fits s (Step.Make d name) (apply g s (Step.Make d name))
unfolding apply make
make-fits g s d name sound h fits = rw (h.there, fits, h.profiled) (by_live (live_domain s.policy name) refl)
  where
    p : Policy
    p = s.policy

    new : Domain
    new = new_domain name h.domain.profile h.domain.groups

    word : namespace_word name ≡ namespace_word h.domain.name
    word = same_texts (namespace_word name) (namespace_word h.domain.name) (and_parts (is_domain_name g.is_path name) (texts_equal (namespace_word name) (namespace_word h.domain.name)) fits).1

    by_live : (o : Option ℕ) → live_domain s.policy name ≡ o → Fits s (Step.Make d name) (on_policy s Reply.Make (Some (option_map_or (λ n. (s.policy, MakeReply.Old n)) o (made_new s.policy name h.domain))))
    by_live None e =
        let has : profile_of p new ≡ Some h.profile = same_profile p p h.domain new refl word refl ∙ h.profiled in
        record {
          reply = Reply.Make (MakeReply.New (length p.domains));
          replied = refl;
          evolves = made-evolves p new (rw has refl) sound;
          others = refl;
          answers = (
            MakeReply.New (length p.domains),
            length p.domains,
            refl,
            refl,
            record { domain = new; there = get-last p.domains new; profile = h.profile; profiled = same_profile p (record p { domains = p.domains ++ new ∷ [] }) new new refl refl refl ∙ has },
          );
        }
    by_live (Some n) e =
        record {
          reply = Reply.Make (MakeReply.Old n);
          replied = refl;
          evolves = record { keeps = Keeps-refl p; sound = sound };
          others = refl;
          answers = (MakeReply.Old n, n, refl, refl, live_in p name n sound e);
        }

-- every step that is owed fits
pub ready-fits : (g : Grammar) (s : State) (step : Step) → Sound s.policy → Ready g s.policy step → Fits s step (apply g s step)
ready-fits g s (Step.Learn d entry) sound h = learn-fits g s d entry sound h.0 h.1
ready-fits g s (Step.Make d name) sound h = make-fits g s d name sound h.0 h.1
ready-fits g s (Step.Fail d) sound h = fail-fits g s d sound h
ready-fits g s (Step.Ask d retry line) sound h = absurd h
ready-fits g s (Step.Answer serial code) sound h = absurd h
ready-fits g s Step.Attach sound h = absurd h
ready-fits g s Step.Detach sound h = absurd h
ready-fits g s (Step.Edit e file line) sound h = absurd h
ready-fits g s (Step.End t) sound h = absurd h
