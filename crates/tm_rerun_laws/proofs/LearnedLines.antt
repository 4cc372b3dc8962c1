-- A line that was learned in a clean run grants its own request at each later version, and in the
-- switched final policy.
use Rattle.std.proofs.Common.{◌≡◌, ◌≤◌, ◌<◌, max, min, ℕ, zero, suc, List, [], ◌∷◌, length, map, Bool, true, false, true≢false, refl, sym, ap, ◌∙◌, subst, arith}
use Rattle.std.specs.Prelude.{Option, Some, None, ◌&&◌, ◌||◌, ◌==◌, if◌then◌else◌, not, slice_get, option_map, bit_or, bit_and}
use Rattle.std.specs.List.{AllByRecursion, list_all}
use Rattle.std.specs.Option.{option_and_then, IfSome}
use Rattle.std.specs.Int.{bit_at}
use Rattle.std.proofs.lemmas.Bool.{and_parts, and_from, eqb-true, eq-eqb}
use Rattle.std.proofs.lemmas.Nat.Bits.{bit_at_or, bit_at_and, bit_at-lt}
use Rattle.tm_word.specs.Prelude.{Text, Word}
use Rattle.tm_rules.specs.Prelude.{Decision, DomainName, Grammar, Granting, adding, aggregated, can_enter, candidate, changed_at, decision, domain_at, first, has_line, has_permission, is_clean, is_clean_step, is_clean_take, is_execute, is_full, is_request, is_strict, learn, learn_reply, learned_domain, learned_line, learns, line_of, mode_of, namespace_named, namespace_of, namespace_word, path_of, profile_of, same_line, target_name, with_domain}
use Rattle.tm_rules.specs.Types.{Args, Attributes, Domain, Entry, Function, LearnReply, Look, Mode, Move, Namespace, Policy, Proc, Profile, Reason, Reply, Request, Run, Step, Verdict, function_of}
use Rattle.tm_rules.proofs.EqualityLaws.{same_args, same_conds}
use Rattle.tm_legal.specs.Prelude.{Applied, CanPlay, Case, CleanRunGrows, EachCase, EntriesGrow, Grows, History, LearnedLinesGrant, Legal, LookHolds, OwnLineGrants, OwnSteps, Replies, RisesFrom, Scene, State, StaysLearned, Subject, after, apply, at, by_entry, by_mode, cases, denied, execute_verdict, final_policy, fits_entry, in_mode, is_enforcing, is_ready, look_grants, manual_verdict, move_to, moving, on_policy, opening_of, retry_written, state_at, step_at, steps_asked, steps_of, steps_of_line, subject_of, switched, unfit, verdict, verdict_in, with_line}
use Rattle.tm_rules.proofs.LearnedLaws.{line-grants, line-permission, has-own}
use Rattle.tm_legal.proofs.Histories.{state_at-newest}
use Rattle.tm_rerun_laws.proofs.Switched.{domains, namespaces}
use Rattle.tm_rerun_laws.proofs.Takes.{all_hold}
use Rattle.tm_rerun_laws.proofs.Cases.{IsAsked, each-asked}
use Rattle.tm_rerun_laws.proofs.Lists.{All-both}

-- The verdict `learn`

-- where it is `learn`, it has that line
abbrev HasLine : Entry → Verdict → Type 0
HasLine line v = v.reason ≡ Reason.Learn → v.line ≡ Some line

mode-line : (mode : Mode) (attached : Bool) (domain : Domain) (found : Option Granting) (line : Entry) (move : Move) (target : Option DomainName) → HasLine line (by_mode mode attached domain found line move target)
unfolding by_mode
mode-line Mode.Disabled attached domain found line move target = λ e. absurd cc
mode-line Mode.Learning attached domain (Some found) line move target = λ e. absurd cc
mode-line Mode.Permissive attached domain (Some found) line move target = λ e. absurd cc
mode-line Mode.Enforcing attached domain (Some found) line move target = λ e. absurd cc
mode-line Mode.Learning attached domain None line move target = go domain.quota_exceeded
  where
    go : (b : Bool) → HasLine line (if b then moving (Some Mode.Learning) Reason.Quota move target else with_line (moving (Some Mode.Learning) Reason.Learn move target) line)
    go true = λ e. absurd cc
    go false = λ e. refl
mode-line Mode.Permissive attached domain None line move target = λ e. absurd cc
mode-line Mode.Enforcing attached domain None line move target = go attached
  where
    go : (b : Bool) → HasLine line (if b then with_line (moving (Some Mode.Enforcing) Reason.Ask move target) line else denied (Some Mode.Enforcing) Reason.NoEntry)
    go true = λ e. absurd cc
    go false = λ e. absurd cc

module _ (is_path : Text → Bool) (policy : Policy) (attached : Bool) where
  manual-line : (domain : Domain) (name : DomainName) (found : Option Granting) (line : Entry) → HasLine line (manual_verdict is_path policy domain name found)
  unfolding manual_verdict
  manual-line domain name None line = λ e. absurd cc
  manual-line domain name (Some found) line = go (can_enter is_path policy domain.name name)
    where
      go : (b : Bool) → HasLine line (if b then by_entry None found (move_to is_path policy domain (Some name)) (Some name) else denied None Reason.NotReady)
      go true = λ e. absurd cc
      go false = λ e. absurd cc

  execute-line : (domain : Domain) (ns : Namespace) (mode : Mode) (found : Option Granting) (request : Request) → HasLine (line_of ns request) (execute_verdict is_path policy attached domain ns mode found request)
  unfolding execute_verdict
  execute-line domain ns mode found request = go (not (is_ready is_path policy domain target) && (is_strict decided || is_enforcing mode))
    where
      decided : Decision
      decided = decision ns domain.name found request

      target : Option DomainName
      target = target_name domain.name (candidate ns found request) decided

      go : (b : Bool) → HasLine (line_of ns request) (if b then denied (Some mode) Reason.NotReady else by_mode mode attached domain found (line_of ns request) (move_to is_path policy domain target) target)
      go true = λ e. absurd cc
      go false = mode-line mode attached domain found (line_of ns request) (move_to is_path policy domain target) target

  in_mode-line : (domain : Domain) (ns : Namespace) (request : Request) (found : Option Granting) (mode : Mode) → HasLine (line_of ns request) (in_mode is_path policy attached domain ns request found mode)
  in_mode-line domain ns request found mode = go (is_execute request)
    where
      go : (b : Bool) → HasLine (line_of ns request) (if b then execute_verdict is_path policy attached domain ns mode found request else by_mode mode attached domain found (line_of ns request) Move.Stay None)
      go true = execute-line domain ns mode found request
      go false = mode-line mode attached domain found (line_of ns request) Move.Stay None

  mapped : (f : Function → Verdict) (P : Verdict → Type 0) (o : Option Function) (v : Verdict) → ((x : Function) → P (f x)) → option_map f o ≡ Some v → P v
  mapped f P None v h e = absurd cc
  mapped f P (Some x) v h e = subst P (let same : f x ≡ v = cc in same) (h x)

  verdict_in-line : (process : Proc) (domain : Domain) (profile : Profile) (args : Args) (perm : ℕ) (attributes : Attributes) (v : Verdict) → (let request : Request = record { args = args; perm = perm; attributes = attributes } in verdict_in is_path policy attached process request domain profile ≡ Some v → HasLine (line_of (namespace_of policy domain) request) v)
  verdict_in-line process domain profile args perm attributes v = by_args args
    where
      request_of : Args → Request
      request_of a = record { args = a; perm = perm; attributes = attributes }

      found_of : Args → Option Granting
      found_of a = first (namespace_of policy domain) domain process (request_of a)

      other : (a : Args) → option_map (λ function. in_mode is_path policy attached domain (namespace_of policy domain) (request_of a) (found_of a) (mode_of profile function)) (function_of a perm) ≡ Some v → HasLine (line_of (namespace_of policy domain) (request_of a)) v
      other a e = mapped (λ function. in_mode is_path policy attached domain (namespace_of policy domain) (request_of a) (found_of a) (mode_of profile function)) (HasLine (line_of (namespace_of policy domain) (request_of a))) (function_of a perm) v (λ function. in_mode-line domain (namespace_of policy domain) (request_of a) (found_of a) (mode_of profile function)) e

      by_args : (a : Args) → verdict_in is_path policy attached process (request_of a) domain profile ≡ Some v → HasLine (line_of (namespace_of policy domain) (request_of a)) v
      by_args (Args.Path n) e = other (Args.Path n) e
      by_args (Args.Execute n p) e = other (Args.Execute n p) e
      by_args (Args.PathNumber n k) e = other (Args.PathNumber n k) e
      by_args (Args.Device n a b c) e = other (Args.Device n a b c) e
      by_args (Args.Path2 n m) e = other (Args.Path2 n m) e
      by_args (Args.Mount a b c d) e = other (Args.Mount a b c d) e
      by_args (Args.Inet a b c) e = other (Args.Inet a b c) e
      by_args (Args.Unix a b) e = other (Args.Unix a b) e
      by_args (Args.Env n) e = other (Args.Env n) e
      by_args (Args.Manual name) e =
          subst (HasLine (line_of (namespace_of policy domain) (request_of (Args.Manual name)))) (let same : manual_verdict is_path policy domain name (found_of (Args.Manual name)) ≡ v = cc in same)
          (manual-line domain name (found_of (Args.Manual name)) (line_of (namespace_of policy domain) (request_of (Args.Manual name))))

  -- the domain of a verdict `learn`, and its line
  verdict-line : (d : ℕ) (process : Proc) (request : Request) (v : Verdict) → verdict is_path policy attached d process request ≡ Some v → v.reason ≡ Reason.Learn → (domain : Domain) × (domain_at policy d ≡ Some domain) × (v.line ≡ Some (line_of (namespace_of policy domain) request))
  unfolding verdict
  verdict-line d process request v is learns_ = by_domain (domain_at policy d) refl is
    where
      by_profile : (domain : Domain) (o : Option Profile) → option_and_then (verdict_in is_path policy attached process request domain) o ≡ Some v → v.line ≡ Some (line_of (namespace_of policy domain) request)
      by_profile domain None is = absurd cc
      by_profile domain (Some profile) is = verdict_in-line process domain profile request.args request.perm request.attributes v is learns_

      by_domain : (o : Option Domain) → domain_at policy d ≡ o → option_and_then (λ domain. option_and_then (verdict_in is_path policy attached process request domain) (profile_of policy domain)) o ≡ Some v → (domain : Domain) × (domain_at policy d ≡ Some domain) × (v.line ≡ Some (line_of (namespace_of policy domain) request))
      by_domain None e is = absurd cc
      by_domain (Some domain) e is = (domain, e, by_profile domain (profile_of policy domain) is)

-- The Learn that it asks for

steps-learn : (g : Grammar) (d r : ℕ) (v : Verdict) (line : Entry) → v.reason ≡ Reason.Learn → v.line ≡ Some line → steps_of_line g d r v ≡ Step.Learn d line ∷ []
steps-learn g d r v line e h = rw (e, h) refl

-- the first own step of a look `learn` is the Learn of its line
own-learn : (g : Grammar) (history : History) (d r : ℕ) (v : Verdict) (granted : Bool) (line : Entry) (own : List ℕ) → v.reason ≡ Reason.Learn → v.line ≡ Some line → map (step_at history) own ≡ map Some (steps_asked g d r v granted) → (learn : ℕ) × (rest : List ℕ) × (own ≡ learn ∷ rest) × (step_at history learn ≡ Some (Step.Learn d line))
unfolding steps_asked
own-learn g history d r v granted line own e h asked = go own (rw (steps-learn g d r v line e h) at asked)
  where
    go : (own : List ℕ) {more : List (Option Step)} → map (step_at history) own ≡ Some (Step.Learn d line) ∷ more → (learn : ℕ) × (rest : List ℕ) × (own ≡ learn ∷ rest) × (step_at history learn ≡ Some (Step.Learn d line))
    go [] asked = absurd cc
    go (n ∷ ns) asked = (n, ns, refl, cc)

-- Its reply

-- a step of a history with its reply, and the state after it
record IsMade (g : Grammar) (s : State) (h : History) (n : ℕ) (step : Step) : Type 0 where
  reply : Reply
  is : (apply g (at g s (steps_of h) n) step).reply ≡ Some reply
  next : at g s (steps_of h) (suc n) ≡ (apply g (at g s (steps_of h) n) step).state
  clean : is_clean_step (step, reply) ≡ true
  within : suc n ≤ length h

made-at : (g : Grammar) (s : State) (h : History) (n : ℕ) (step : Step) → Replies g s h → list_all is_clean_step h ≡ true → step_at h (suc n) ≡ Some step → IsMade g s h n step
unfolding after
made-at g s [] n step replies clean e = absurd cc
made-at g s (pair ∷ h) zero step replies clean e =
    subst (IsMade g s (pair ∷ h) zero) (let same : pair.0 ≡ step = cc in same)
    (record { reply = pair.1; is = replies.0; next = refl; clean = (and_parts (is_clean_step pair) (list_all is_clean_step h) clean).0; within = omega arith })
made-at g s (pair ∷ h) (suc n) step replies clean e =
    let m : IsMade g (apply g s pair.0).state h n step = made-at g (apply g s pair.0).state h n step replies.1 (and_parts (is_clean_step pair) (list_all is_clean_step h) clean).1 e in
    record { reply = m.reply; is = m.is; next = m.next; clean = m.clean; within = omega (arith, m.within) }

-- What it leaves

-- an entry of the list shares the line and has the permission
record Shared (line : Entry) (place : ℕ) (entries : List Entry) : Type 0 where
  index : ℕ
  entry : Entry
  stands : slice_get entries index ≡ Some entry
  shares : same_line entry line ≡ true
  may : has_permission entry.perms.bits place ≡ true

further : (line : Entry) (place : ℕ) (x : Entry) (xs : List Entry) → Shared line place xs → Shared line place (x ∷ xs)
further line place x xs h = record { index = suc h.index; entry = h.entry; stands = h.stands; shares = h.shares; may = h.may }

shares-self : (line : Entry) → same_line line line ≡ true
shares-self line = and_from _ _ (same_args.full line.args) (same_conds.full line.cond)

joined-may : (a b place : ℕ) → has_permission b place ≡ true → has_permission (bit_or a b) place ≡ true
joined-may a b place h = eq-eqb _ 1 (rw (bit_at_or a b place) (one_of (bit_at a place) (bit_at b place) (bit_at-lt a place) (eqb-true (bit_at b place) 1 h)))
  where
    one_of : (x y : ℕ) → x < 2 → y ≡ 1 → max x y ≡ 1
    one_of x y lt e = omega arith

added-shared : (line : Entry) (place : ℕ) (xs : List Entry) → has_permission line.perms.bits place ≡ true → Shared line place (adding line xs)
unfolding adding
added-shared line place [] may = record { index = 0; entry = line; stands = refl; shares = shares-self line; may = may }
added-shared line place (x ∷ xs) may = go (same_line x line) refl (added-shared line place xs may)
  where
    joined : Entry
    joined = record x { perms = record { bits = bit_or x.perms.bits line.perms.bits } }

    go : (b : Bool) → same_line x line ≡ b → Shared line place (adding line xs) → Shared line place (if b then joined ∷ xs else x ∷ adding line xs)
    go true e ih = record { index = 0; entry = joined; stands = refl; shares = e; may = joined-may x.perms.bits line.perms.bits place may }
    go false e ih = further line place x (adding line xs) ih

-- all permissions of a line with this one have this one
within-may : (a b place : ℕ) → has_permission b place ≡ true → (bit_and a b == b) ≡ true → has_permission a place ≡ true
within-may a b place h e = eq-eqb _ 1 (one_of (bit_at a place) (bit_at b place) (bit_at-lt a place) (eqb-true (bit_at b place) 1 h) (sym (bit_at_and a b place) ∙ ap (λ n. bit_at n place) (eqb-true (bit_and a b) b e)))
  where
    one_of : (x y : ℕ) → x < 2 → y ≡ 1 → min x y ≡ y → x ≡ 1
    one_of x y lt e m = omega arith

there-shared : (line : Entry) (place : ℕ) (xs : List Entry) → has_permission line.perms.bits place ≡ true → has_line line xs ≡ true → Shared line place xs
unfolding has_line
there-shared line place [] may h = absurd cc
there-shared line place (x ∷ xs) may h = go (same_line x line) (bit_and x.perms.bits line.perms.bits == line.perms.bits) refl refl h (there-shared line place xs may)
  where
    go : (a b : Bool) → same_line x line ≡ a → (bit_and x.perms.bits line.perms.bits == line.perms.bits) ≡ b → ((a && b) || has_line line xs) ≡ true → (has_line line xs ≡ true → Shared line place xs) → Shared line place (x ∷ xs)
    go true true e is h later = record { index = 0; entry = x; stands = refl; shares = e; may = within-may x.perms.bits line.perms.bits place may is }
    go true false e is h later = further line place x xs (later h)
    go false b e is h later = further line place x xs (later h)

-- the line is in the domain of that number
record LineIn (p : Policy) (d : ℕ) (line : Entry) (place : ℕ) : Type 0 where
  domain : Domain
  there : domain_at p d ≡ Some domain
  shared : Shared line place domain.entries

got-changed : (xs : List Domain) (d : ℕ) (old new : Domain) → slice_get xs d ≡ Some old → slice_get (changed_at d (λ x. new) xs) d ≡ Some new
got-changed [] d old new at = absurd cc
got-changed (x ∷ xs) zero old new at = refl
got-changed (x ∷ xs) (suc d) old new at = got-changed xs d old new at

has-line : (profile : Profile) (domain : Domain) (line : Entry) → learn_reply profile domain line ≡ LearnReply.There → has_line line domain.entries ≡ true
unfolding learn_reply
has-line profile domain line e = go (not (learns profile line)) (has_line line domain.entries) (is_full profile domain) e
  where
    go : (a b c : Bool) → (if a then LearnReply.Mode else if b then LearnReply.There else if c then LearnReply.Quota else LearnReply.Added) ≡ LearnReply.There → b ≡ true
    go true b c e = absurd cc
    go false true c e = refl
    go false false true e = absurd cc
    go false false false e = absurd cc

-- a clean Learn leaves its line
learn-leaves : (g : Grammar) (s : State) (d : ℕ) (line : Entry) (place : ℕ) (r : Reply) → has_permission line.perms.bits place ≡ true → (apply g s (Step.Learn d line)).reply ≡ Some r → is_clean_step (Step.Learn d line, r) ≡ true → LineIn (apply g s (Step.Learn d line)).state.policy d line place
unfolding apply learn
learn-leaves g s d line place r may is clean = by_fit (fits_entry g line) is
  where
    Leaves : Applied → Type 0
    Leaves done = done.reply ≡ Some r → LineIn done.state.policy d line place

    by_reply : (x : Domain) → domain_at s.policy d ≡ Some x → (reply : LearnReply) → (reply ≡ LearnReply.There → has_line line x.entries ≡ true) → Leaves (on_policy s Reply.Learn (Some (with_domain s.policy d (learned_domain reply x line), reply)))
    by_reply x at LearnReply.Added has is = record { domain = record x { entries = adding line x.entries }; there = got-changed s.policy.domains d x (record x { entries = adding line x.entries }) at; shared = added-shared line place x.entries may }
    by_reply x at LearnReply.There has is = record { domain = x; there = got-changed s.policy.domains d x x at; shared = there-shared line place x.entries may (has refl) }
    by_reply x at LearnReply.Quota has is = absurd (true≢false (sym clean ∙ (let same : r ≡ Reply.Learn LearnReply.Quota = cc in rw same refl)))
    by_reply x at LearnReply.Mode has is = absurd (true≢false (sym clean ∙ (let same : r ≡ Reply.Learn LearnReply.Mode = cc in rw same refl)))

    by_profile : (x : Domain) → domain_at s.policy d ≡ Some x → (o : Option Profile) → Leaves (on_policy s Reply.Learn (option_map (λ profile. (with_domain s.policy d (learned_domain (learn_reply profile x line) x line), learn_reply profile x line)) o))
    by_profile x at None is = absurd cc
    by_profile x at (Some profile) is = by_reply x at (learn_reply profile x line) (has-line profile x line) is

    by_domain : (o : Option Domain) → domain_at s.policy d ≡ o → Leaves (on_policy s Reply.Learn (option_and_then (λ x. option_map (λ profile. (with_domain s.policy d (learned_domain (learn_reply profile x line) x line), learn_reply profile x line)) (profile_of s.policy x)) o))
    by_domain None at is = absurd cc
    by_domain (Some x) at is = by_profile x at (profile_of s.policy x) is

    by_fit : (b : Bool) → Leaves (if b then on_policy s Reply.Learn (learn s.policy d line) else unfit s)
    by_fit true is = by_domain (domain_at s.policy d) refl is
    by_fit false is = absurd cc

-- Growth

grown-shared : (line : Entry) (place : ℕ) (xs ys : List Entry) → EntriesGrow xs ys → Shared line place xs → Shared line place ys
grown-shared line place xs ys grows h = go xs ys h.index grows h.stands
  where
    kept : (y : Entry) → y.args ≡ h.entry.args → y.cond ≡ h.entry.cond → same_line y line ≡ true
    kept y args cond = rw (args, cond) h.shares

    go : (xs ys : List Entry) (k : ℕ) → EntriesGrow xs ys → slice_get xs k ≡ Some h.entry → Shared line place ys
    go [] ys k grows at = absurd cc
    go (x ∷ xs) [] k grows at = absurd grows
    go (x ∷ xs) (y ∷ ys) zero grows at =
        let same : x ≡ h.entry = cc in
        record {
          index = 0;
          entry = y;
          stands = refl;
          shares = kept y (grows.0 ∙ ap (λ (e : Entry). e.args) same) (grows.1 ∙ ap (λ (e : Entry). e.cond) same);
          may = grows.2 place (rw same h.may);
        }
    go (x ∷ xs) (y ∷ ys) (suc k) grows at = further line place y ys (go xs ys k grows.3 at)

grown-line : (p q : Policy) (d : ℕ) (line : Entry) (place : ℕ) → Grows p q → LineIn p d line place → LineIn q d line place
grown-line p q d line place grows h =
    let found = grows.domains d h.domain h.there in
    record { domain = found.0; there = found.1; shared = grown-shared line place h.domain.entries found.0.entries found.2.entries h.shared }

aggregated-same : (ns ms : Namespace) (path : Word) → ns.aggregators ≡ ms.aggregators → aggregated ns path ≡ aggregated ms path
unfolding aggregated
aggregated-same ns ms path e = rw e refl

-- what is learned for a request goes by the aggregators alone, and these stay
grown-same : (p q : Policy) (x y : Domain) (request : Request) → Grows p q → y.name ≡ x.name → line_of (namespace_of q y) request ≡ line_of (namespace_of p x) request
grown-same p q x y request grows name =
    let word : Text = namespace_word x.name in
    let kept : (namespace_named p word).aggregators ≡ (namespace_named q word).aggregators = ap (λ (ns : Namespace). ns.aggregators) (grows.namespaces word).same in
    rw name (ap (learned_line request) (sym (aggregated-same (namespace_named p word) (namespace_named q word) (path_of request) kept)))

-- Own lines

-- an entry that shares the line of a request, with its permission, grants it
shared-grants : (is_path : Text → Bool) (p : Policy) (s : Subject) (line : Entry) → is_request is_path s.request ≡ true → (h : LineIn p s.domain line s.request.perm) → line_of (namespace_of p h.domain) s.request ≡ line → OwnLineGrants p s
shared-grants is_path p s line is h same =
    let parts = and_parts _ _ h.shared.shares in
    record {
      domain = h.domain;
      is_there = h.there;
      place = h.shared.index;
      entry = h.shared.entry;
      stands = h.shared.stands;
      shares = rw same h.shared.shares;
      grants_it =
          line-grants is_path (namespace_of p h.domain).groups s.process (namespace_of p h.domain) s.request h.shared.entry is
          (same_args.sound h.shared.entry.args line.args parts.0 ∙ ap (λ (e : Entry). e.args) (sym same)) (same_conds.sound h.shared.entry.cond line.cond parts.1 ∙ ap (λ (e : Entry). e.cond) (sym same)) h.shared.may;
    }

same-some : {A : Type 0} {x y : A} → Some x ≡ Some y → x ≡ y
same-some e = cc

-- a line that a policy asked for and another one learned, both before this one
own-line : (is_path : Text → Bool) (asked made p : Policy) (s : Subject) (x : Domain) → is_request is_path s.request ≡ true → domain_at asked s.domain ≡ Some x → Grows asked p → LineIn made s.domain (line_of (namespace_of asked x) s.request) s.request.perm → Grows made p → OwnLineGrants p s
own-line is_path asked made p s x is at grows left later =
    let line : Entry = line_of (namespace_of asked x) s.request in
    let h : LineIn p s.domain line s.request.perm = grown-line made p s.domain line s.request.perm later left in
    let found = grows.domains s.domain x at in
    let here : h.domain ≡ found.0 = same-some (sym h.there ∙ found.1) in
    let name : h.domain.name ≡ x.name = ap (λ (d : Domain). d.name) here ∙ sym (ap (λ (d : Domain). d.name) found.2.same) in
    shared-grants is_path p s line is h (grown-same asked p x h.domain s.request grows name)

-- and in the switched policy
own-switched : (p : Policy) (s : Subject) → OwnLineGrants p s → OwnLineGrants (switched p) s
own-switched p s h =
    let word : Text = namespace_word h.domain.name in
    let kept : namespace_named (switched p) word ≡ record (namespace_named p word) { profiles = (namespace_named (switched p) word).profiles } = namespaces p word in
    let groups = ap (λ (ns : Namespace). ns.groups) kept in
    let same : (name : Word) → aggregated (namespace_named (switched p) word) name ≡ aggregated (namespace_named p word) name = λ name. aggregated-same (namespace_named (switched p) word) (namespace_named p word) name (ap (λ (ns : Namespace). ns.aggregators) kept) in
    record {
      domain = h.domain;
      is_there = ap (λ (ds : List Domain). slice_get ds s.domain) (domains p) ∙ h.is_there;
      place = h.place;
      entry = h.entry;
      stands = h.stands;
      shares = rw (same (path_of s.request)) h.shares;
      grants_it = rw (same (path_of s.request), groups) h.grants_it;
    }

-- Requests

-- All together

clean-steps : (run : Run) → is_clean run ≡ true → list_all is_clean_step run.steps ≡ true
unfolding is_clean
clean-steps run h = (and_parts (list_all is_clean_take run.takes) (list_all is_clean_step run.steps) h).1

module _ (grows : CleanRunGrows) (scene : Scene) (run : Run) (can : CanPlay scene) (legal : Legal scene run) (clean : is_clean run ≡ true) where
  abbrev policy_at : ℕ → Policy
  policy_at version = (state_at scene run.steps version).policy

  -- the Learn of a look leaves its line
  leaves : (s : Subject) (line : Entry) (learn : ℕ) → has_permission line.perms.bits s.request.perm ≡ true → step_at run.steps learn ≡ Some (Step.Learn s.domain line) → LineIn (policy_at learn) s.domain line s.request.perm × (learn ≤ length run.steps)
  leaves s line zero may at = absurd cc
  leaves s line (suc n) may at =
      let m : IsMade scene.grammar (opening_of scene) run.steps n (Step.Learn s.domain line) = made-at scene.grammar (opening_of scene) run.steps n (Step.Learn s.domain line) legal.places.replies (clean-steps run clean) at in
      (subst (λ (after_it : State). LineIn after_it.policy s.domain line s.request.perm) (sym m.next) (learn-leaves scene.grammar (state_at scene run.steps n) s.domain line s.request.perm m.reply may m.is m.clean), m.within)

  -- a look `learn` with its Learn
  record Learnt (s : Subject) (look : Look) : Type 0 where
    learn : ℕ
    rest : List ℕ
    own : look.own ≡ learn ∷ rest
    domain : Domain
    at : domain_at (policy_at look.version) s.domain ≡ Some domain
    left : LineIn (policy_at learn) s.domain (line_of (namespace_of (policy_at look.version) domain) s.request) s.request.perm
    above : look.version < learn
    within : learn ≤ length run.steps

  look-learnt : (s : Subject) (look : Look) → LookHolds scene run.steps s look → OwnSteps scene run.steps s look → look.reason ≡ Reason.Learn → Learnt s look
  look-learnt s look holds own reason =
      let v : Verdict = holds.0 in
      let why : v.reason ≡ Reason.Learn = sym holds.2.reason ∙ reason in
      let found = verdict-line scene.grammar.is_path (policy_at look.version) (state_at scene run.steps look.version).queries.attached s.domain s.process s.request v holds.1 why in
      let line : Entry = line_of (namespace_of (policy_at look.version) found.0) s.request in
      let asked : map (step_at run.steps) look.own ≡ map Some (steps_asked scene.grammar s.domain (retry_written run.steps look) v (look_grants look)) = subst (λ o. IfSome o (λ v. map (step_at run.steps) look.own ≡ map Some (steps_asked scene.grammar s.domain (retry_written run.steps look) v (look_grants look)))) holds.1 own.asked in
      let first = own-learn scene.grammar run.steps s.domain (retry_written run.steps look) v (look_grants look) line look.own why found.2 asked in
      let may : has_permission line.perms.bits s.request.perm ≡ true = rw (line-permission (namespace_of (policy_at look.version) found.0) s.request) (has-own s.request.perm) in
      let left = leaves s line first.0 may first.3 in
      let rises : RisesFrom look.version (first.0 ∷ first.1) = subst (RisesFrom look.version) first.2 own.rising in
      record { learn = first.0; rest = first.1; own = first.2; domain = found.0; at = found.1; left = left.0; above = rises.0; within = left.1 }

  learnt-grants : (s : Subject) (look : Look) (l : Learnt s look) (k : ℕ) → is_request scene.grammar.is_path s.request ≡ true → l.learn ≤ k → k ≤ length run.steps → OwnLineGrants (policy_at k) s
  learnt-grants s look l k is le within =
      own-line scene.grammar.is_path (policy_at look.version) (policy_at l.learn) (policy_at k) s l.domain is l.at (grows scene run can.grammar legal clean look.version k (omega (arith, l.above)) within) l.left
      (grows scene run can.grammar legal clean l.learn k le within)

  look-stays : (s : Subject) (look : Look) → is_request scene.grammar.is_path s.request ≡ true → LookHolds scene run.steps s look → OwnSteps scene run.steps s look → StaysLearned scene run s look
  look-stays s look is holds own =
      record {
        later = λ learn k rest reason owned le within.
            let l : Learnt s look = look-learnt s look holds own reason in
            let both : l.learn ∷ l.rest ≡ learn ∷ rest = sym l.own ∙ owned in
            let same : l.learn ≡ learn = cc in
            learnt-grants s look l k is (rw same le) within;
        switched_too = λ reason.
            let l : Learnt s look = look-learnt s look holds own reason in
            own-switched (final_policy scene run) s (subst (λ (last : State). OwnLineGrants last.policy s) (state_at-newest scene run.steps) (learnt-grants s look l (length run.steps) is l.within (omega arith)));
      }

  case-stays : (c : Case) → IsAsked scene.grammar.is_path c → AllByRecursion (LookHolds scene run.steps (subject_of c)) c.taken.looks → AllByRecursion (OwnSteps scene run.steps (subject_of c)) c.taken.looks → AllByRecursion (StaysLearned scene run (subject_of c)) c.taken.looks
  case-stays c is shown own = All-both (LookHolds scene run.steps (subject_of c)) (OwnSteps scene run.steps (subject_of c)) (StaysLearned scene run (subject_of c)) c.taken.looks (λ look h k. look-stays (subject_of c) look is h k) shown own

  all-stay : EachCase scene run (λ c. AllByRecursion (StaysLearned scene run (subject_of c)) c.taken.looks)
  all-stay =
      let asks : EachCase scene run (IsAsked scene.grammar.is_path) = each-asked scene run can in
      go (cases scene.policy scene.trace run.takes) asks (all_hold scene run legal) legal.own_steps
    where
      go : (cs : List Case) → AllByRecursion (IsAsked scene.grammar.is_path) cs → AllByRecursion (λ c. AllByRecursion (LookHolds scene run.steps (subject_of c)) c.taken.looks) cs → AllByRecursion (λ c. AllByRecursion (OwnSteps scene run.steps (subject_of c)) c.taken.looks) cs → AllByRecursion (λ c. AllByRecursion (StaysLearned scene run (subject_of c)) c.taken.looks) cs
      go [] asks shown own = tt
      go (c ∷ cs) asks shown own = (case-stays c asks.0 shown.0 own.0, go cs asks.1 shown.1 own.1)

-- own request: of each look of a clean run
pub learned_lines_grant : CleanRunGrows → LearnedLinesGrant
learned_lines_grant grows scene run can legal clean = all-stay grows scene run can legal clean
