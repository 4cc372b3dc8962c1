-- Whatever domain a process of a clean run is in is live in the final policy.
use Rattle.std.proofs.Common.{◌≡◌, ◌≤◌, ◌<◌, ℕ, zero, suc, List, [], ◌∷◌, ◌++◌, length, take, drop, Bool, true, false, refl, sym, ap, ◌∙◌, subst, arith}
use Rattle.std.specs.Prelude.{Option, Some, None, IsTrue, IfSome, ◌&&◌, ◌==◌, if◌then◌else◌, option_map, slice_get, slice_set, nat_lt, nat_le, unwrap_or, not}
use Rattle.std.specs.List.{AllByRecursion}
use Rattle.std.specs.Option.{option_and_then, option_map_or}
use Rattle.tm_word.specs.Prelude.{Text}
use Rattle.tm_rules.specs.Prelude.{Cursor, DomainName, Edited, Grammar, Trace, apply_line, ask, domain_at, fail, in_domain, is_clean, is_manager, learn, live_domain, made_new, make, new_domain, profile_of, put_member}
use Rattle.tm_rules.specs.Types.{Domain, EditReply, Editor, FileKind, Heard, Item, Look, MakeReply, Mode, Move, Policy, Profile, Reason, Reply, Run, Step, Take, Verdict}
use Rattle.tm_legal.specs.Prelude.{Applied, CanPlay, Case, DomainsStay, EachCase, EndsWith, Grows, History, IsLive, Legal, LookHolds, LooksRise, Replies, Scene, Situation, Situations, State, Subject, after, after_take, apply, at, at_start, cases_from, cases_of, do_pids, domain_after, edit_step, final_policy, fits_entry, fits_name, forked, grants_with, last_look, last_number, made_number, on_policy, on_queries, opening_of, raised, reply_at, seen, state_at, steps_of, subject_of, tree_cases, unfit, with_ids, with_situation}
use Rattle.tm_legal.proofs.Kept.{live_is_there}
use Rattle.tm_legal.proofs.Asked.{All-append}
use Rattle.tm_legal.proofs.Histories.{state_at-newest}
use Rattle.tm_rerun_laws.proofs.CleanRuns.{clean_run_grows}
use Rattle.tm_rerun_laws.proofs.Cases.{each-take, each-case}
use Rattle.tm_rerun_laws.proofs.VerdictParts.{EntersLive, verdict-shows}
use Rattle.tm_rerun_laws.proofs.Takes.{all_begin, all_hold}
use Rattle.tm_rerun_laws.proofs.Lists.{All-both, All-split}

-- what is live stays live in a policy that has grown
live-later : (p q : Policy) (d : ℕ) → Grows p q → IsLive p d → IsLive q d
live-later p q d grows (x, there, live) =
    let found = grows.domains d x there in
    (found.0, found.1, sym (ap (λ (z : Domain). z.live) found.2.same) ∙ live)

live-named : (p : Policy) (name : DomainName) (n : ℕ) → live_domain p name ≡ Some n → IsLive p n
live-named p name n e = live_is_there p name n e

-- The reply of a Make

get-last : (xs : List Domain) (new : Domain) → slice_get (xs ++ new ∷ []) (length xs) ≡ Some new
get-last [] new = refl
get-last (a ∷ xs) new = get-last xs new

-- a reply that names a domain names a live one
abbrev NamesLive : Applied → Type 0
NamesLive done = (n : ℕ) → made_number done.reply ≡ Some n → IsLive done.state.policy n

module _ (g : Grammar) (s : State) where
  -- another reply names none
  other-names : {R : Type 0} (f : R → Reply) → ((r : R) → made_number (Some (f r)) ≡ None) → (o : Option (Policy × R)) → NamesLive (on_policy s f o)
  other-names f other None n e = absurd cc
  other-names f other (Some done) n e = absurd (let both : None ≡ Some n = sym (other done.1) ∙ e in cc)

  make-names : (d : ℕ) (name : DomainName) → NamesLive (on_policy s Reply.Make (make s.policy d name))
  unfolding make
  make-names d name = by_domain (domain_at s.policy d)
    where
      by_live : (x : Domain) (o : Option ℕ) → live_domain s.policy name ≡ o → NamesLive (on_policy s Reply.Make (Some (option_map_or (λ n. (s.policy, MakeReply.Old n)) o (made_new s.policy name x))))
      by_live x None is n e =
          let at : length s.policy.domains ≡ n = cc in
          subst (IsLive (made_new s.policy name x).0) at (new_domain name x.profile x.groups, get-last s.policy.domains (new_domain name x.profile x.groups), refl)
      by_live x (Some m) is n e = let same : m ≡ n = cc in subst (IsLive s.policy) same (live-named s.policy name m is)

      by_profile : (x : Domain) (o : Option Profile) → NamesLive (on_policy s Reply.Make (option_map (λ profile. option_map_or (λ n. (s.policy, MakeReply.Old n)) (live_domain s.policy name) (made_new s.policy name x)) o))
      by_profile x None n e = absurd cc
      by_profile x (Some profile) n e = by_live x (live_domain s.policy name) refl n e

      by_domain : (o : Option Domain) → NamesLive (on_policy s Reply.Make (option_and_then (λ x. option_map (λ profile. option_map_or (λ n. (s.policy, MakeReply.Old n)) (live_domain s.policy name) (made_new s.policy name x)) (profile_of s.policy x)) o))
      by_domain None n e = absurd cc
      by_domain (Some x) n e = by_profile x (profile_of s.policy x) n e

  edit-names : (k : ℕ) (file : FileKind) (line : Text) (editor : Editor) (c : Cursor) → NamesLive (edit_step g s k file line editor c)
  unfolding edit_step
  edit-names k file line editor c n = go (not (is_manager s.policy editor))
    where
      go : (b : Bool) → made_number (if b then (let a : Applied = record { state = s; reply = Some (Reply.Edit EditReply.NotManager) } in a) else (let done : Edited = apply_line g s.policy file c line in let a : Applied = record { state = record s { policy = done.policy; cursors = slice_set s.cursors k done.cursor }; reply = Some (Reply.Edit done.reply) } in a)).reply ≡ Some n → IsLive (edit_step g s k file line editor c).state.policy n
      go true e = absurd cc
      go false e = absurd cc

  step-names : (step : Step) → NamesLive (apply g s step)
  unfolding apply
  step-names (Step.Learn d entry) = by_fit (fits_entry g entry)
    where
      by_fit : (b : Bool) → NamesLive (if b then on_policy s Reply.Learn (learn s.policy d entry) else unfit s)
      by_fit true = other-names Reply.Learn (λ r. refl) (learn s.policy d entry)
      by_fit false = λ n e. absurd cc
  step-names (Step.Make d name) = by_fit (fits_name g s d name)
    where
      by_fit : (b : Bool) → NamesLive (if b then on_policy s Reply.Make (make s.policy d name) else unfit s)
      by_fit true = make-names d name
      by_fit false = λ n e. absurd cc
  step-names (Step.Fail d) = other-names Reply.Fail (λ r. refl) (fail s.policy d)
  step-names (Step.Ask d retry line) = by_name (in_domain s.policy d (λ domain profile. domain.name))
    where
      by_name : (o : Option Text) → NamesLive (option_map_or (λ name. on_queries s Reply.Ask (ask s.queries name line retry)) o (unfit s))
      by_name None = λ n e. absurd cc
      by_name (Some name) = λ n e. absurd cc
  step-names (Step.Answer serial code) = λ n e. absurd cc
  step-names Step.Attach = λ n e. absurd cc
  step-names Step.Detach = λ n e. absurd cc
  step-names (Step.Edit zero file line) = λ n e. absurd cc
  step-names (Step.Edit (suc k) file line) = by_editor (slice_get s.editors k)
    where
      by_editor : (o : Option Editor) → NamesLive (option_map_or (λ editor. edit_step g s k file line editor (unwrap_or (slice_get s.cursors k) None)) o (unfit s))
      by_editor None = λ n e. absurd cc
      by_editor (Some editor) = edit-names k file line editor (unwrap_or (slice_get s.cursors k) None)
  step-names (Step.End t) = by_there (nat_lt 0 t && nat_le t s.trees)
    where
      by_there : (b : Bool) → NamesLive (if b then (let done : Applied = record { state = record s { ended = put_member t s.ended }; reply = Some Reply.End } in done) else unfit s)
      by_there true = λ n e. absurd cc
      by_there false = λ n e. absurd cc

-- the reply of a step that was made
made-live : (g : Grammar) (s : State) (h : History) → Replies g s h → (k n : ℕ) → made_number (reply_at h k) ≡ Some n → (k ≤ length h) × IsLive (at g s (steps_of h) k).policy n
unfolding after
made-live g s [] replies zero n e = absurd cc
made-live g s [] replies (suc k) n e = absurd cc
made-live g s (pair ∷ h) replies zero n e = absurd cc
made-live g s (pair ∷ h) replies (suc zero) n e = (omega arith, step-names g s pair.0 n (rw replies.0 e))
made-live g s (pair ∷ h) replies (suc (suc k)) n e =
    let rest = made-live g (apply g s pair.0).state h replies.1 (suc k) n e in
    (omega (arith, rest.0), rest.1)

-- Where a look leads

led-live : (final : Policy) (history : History) (before after version : ℕ) (mode : Option Mode) (reason : Reason) (step : Move) (own : List ℕ) (heard : Option Heard)
    → (let look : Look = record { version = version; mode = mode; reason = reason; step = step; own = own; heard = heard } in domain_after history before look ≡ Some after) → ((n : ℕ) → step ≡ Move.Enter n → IsLive final n) → ((n : ℕ) → made_number (reply_at history (last_number own)) ≡ Some n → IsLive final n) → IsLive final before → IsLive final after
led-live final history before after version mode reason step own heard = by_step step
  where
    same : (n m : ℕ) → Some n ≡ Some m → IsLive final n → IsLive final m
    same n m e live = let is : n ≡ m = cc in subst (IsLive final) is live

    by_step : (step : Move) → (let look : Look = record { version = version; mode = mode; reason = reason; step = step; own = own; heard = heard } in domain_after history before look ≡ Some after) → ((n : ℕ) → step ≡ Move.Enter n → IsLive final n) → ((n : ℕ) → made_number (reply_at history (last_number own)) ≡ Some n → IsLive final n) → IsLive final before → IsLive final after
    by_step Move.Stay e enters makes live = go (grants_with reason heard) e
      where
        go : (b : Bool) → (if b then Some before else Some before) ≡ Some after → IsLive final after
        go true e = same before after e live
        go false e = same before after e live
    by_step (Move.Enter n) e enters makes live = go (grants_with reason heard) e
      where
        go : (b : Bool) → (if b then Some n else Some before) ≡ Some after → IsLive final after
        go true e = same n after e (enters n refl)
        go false e = same before after e live
    by_step Move.Make e enters makes live = go (grants_with reason heard) e
      where
        go : (b : Bool) → (if b then made_number (reply_at history (last_number own)) else Some before) ≡ Some after → IsLive final after
        go true e = makes after e
        go false e = same before after e live
    by_step Move.Fail e enters makes live = go (grants_with reason heard) e
      where
        go : (b : Bool) → (if b then Some before else Some before) ≡ Some after → IsLive final after
        go true e = same before after e live
        go false e = same before after e live

-- The last look

last-there : (looks : List Look) → 0 < length looks → (look : Look) × (last_look looks ≡ Some look)
last-there [] h = absurd (omega arith)
last-there (look ∷ []) h = (look, refl)
last-there (look ∷ next ∷ looks) h = last-there (next ∷ looks) (omega arith)

last-holds : (P : Look → Type 0) (looks : List Look) (look : Look) → last_look looks ≡ Some look → AllByRecursion P looks → P look
last-holds P [] look e all = absurd cc
last-holds P (x ∷ []) look e all = let same : x ≡ look = cc in subst P same all.0
last-holds P (x ∷ next ∷ looks) look e all = last-holds P (next ∷ looks) look e all.1

rises-within : (history : History) (floor : ℕ) (looks : List Look) → LooksRise history floor looks → AllByRecursion (λ (look : Look). look.version ≤ length history) looks
rises-within history floor [] h = tt
rises-within history floor (look ∷ looks) h = (h.1, rises-within history (raised floor (seen look)) looks h.2)

-- Cases

-- a case begins where its process is, and leads from a live domain to a live one
pub record Leads (final : Policy) (c : Case) : Type 0 where
  pub before : c.now.domain ≡ Some c.taken.before
  pub after : IsLive final c.taken.before → IsLive final c.taken.after

-- the domains before and after are live
abbrev BothLive : Policy → Take → Type 0
BothLive final t = IsLive final t.before × IsLive final t.after

-- every process is in a live domain
abbrev AllLive : Policy → Situations → Type 0
AllLive final now = (pid d : ℕ) → (now pid).domain ≡ Some d → IsLive final d

live-with : (final : Policy) (now : Situations) (pid : ℕ) (s : Situation) → AllLive final now → ((d : ℕ) → s.domain ≡ Some d → IsLive final d) → AllLive final (with_situation now pid s)
live-with final now pid s all h other d = go (other == pid)
  where
    go : (b : Bool) → (if b then s else now other).domain ≡ Some d → IsLive final d
    go true e = h d e
    go false e = all other d e

tree-live : (final : Policy) (t : ℕ) (now : Situations) (items : List Item) (takes : List Take) → AllLive final now → AllByRecursion (Leads final) (tree_cases t now items takes) → AllByRecursion (λ (c : Case). BothLive final c.taken) (tree_cases t now items takes)
unfolding tree_cases
tree-live final t now [] takes all h = tt
tree-live final t now (Item.Ids pid ids ∷ items) takes all h = tree-live final t (with_situation now pid (with_ids (now pid) ids)) items takes (live-with final now pid (with_ids (now pid) ids) all (all pid)) h
tree-live final t now (Item.Fork pid child ∷ items) takes all h = tree-live final t (with_situation now child (forked (now pid) child)) items takes (live-with final now child (forked (now pid) child) all (all pid)) h
tree-live final t now (Item.Do pid request ∷ items) [] all h = tt
tree-live final t now (Item.Do pid request ∷ items) (taken ∷ takes) all h =
    let before : IsLive final taken.before = all pid taken.before h.0.before in
    let after : IsLive final taken.after = h.0.after before in (
      (before, after),
      tree-live final t (with_situation now pid (after_take (now pid) taken)) items takes (live-with final now pid (after_take (now pid) taken) all (λ d e. let same : taken.after ≡ d = cc in subst (IsLive final) same after)) h.1,
    )

trees-live : (final : Policy) (t : ℕ) (policy : Policy) (trees : Trace) (takes : List Take) → ((d : ℕ) → IsLive policy d → IsLive final d) → AllByRecursion (Leads final) (cases_from t policy trees takes) → AllByRecursion (λ (c : Case). BothLive final c.taken) (cases_from t policy trees takes)
unfolding cases_from
trees-live final t policy [] takes grows h = tt
trees-live final t policy (tree ∷ trees) takes grows h =
    let own : ℕ = length (do_pids tree.records) in
    let first : List Case = tree_cases t (at_start policy tree) tree.records (take own takes) in
    let rest : List Case = cases_from (suc t) policy trees (drop own takes) in
    let both = All-split (Leads final) first rest h in
    All-append (λ (c : Case). BothLive final c.taken) first rest
    (tree-live final t (at_start policy tree) tree.records (take own takes) (λ pid d e. grows d (live-named policy tree.start d e)) both.0)
    (trees-live final (suc t) policy trees (drop own takes) grows both.1)

-- Runs

module _ (scene : Scene) (run : Run) (can : CanPlay scene) (legal : Legal scene run) (clean : IsTrue (is_clean run)) where
  -- what is live at a version is live in the end
  live-finally : (k d : ℕ) → k ≤ length run.steps → IsLive (state_at scene run.steps k).policy d → IsLive (final_policy scene run) d
  live-finally k d within live =
      subst (λ (s : State). IsLive s.policy d) (state_at-newest scene run.steps)
      (live-later (state_at scene run.steps k).policy (state_at scene run.steps (length run.steps)).policy d (clean_run_grows scene run can.grammar legal clean k (length run.steps) within (omega arith)) live)

  look-leads : (s : Subject) (taken : Take) (look : Look) → LookHolds scene run.steps s look → look.version ≤ length run.steps → EndsWith scene run.steps s taken look → IsLive (final_policy scene run) s.domain → IsLive (final_policy scene run) taken.after
  look-leads s taken look holds within ends =
      led-live (final_policy scene run) run.steps s.domain taken.after look.version look.mode look.reason look.step look.own look.heard ends.domain enters makes
    where
      enters : (n : ℕ) → look.step ≡ Move.Enter n → IsLive (final_policy scene run) n
      enters n e =
          let state = state_at scene run.steps look.version in
          let v : Verdict = holds.0 in
          let shows = verdict-shows scene.grammar.is_path state.policy state.queries.attached s.domain s.process s.request v holds.1 in
          let into : EntersLive state.policy (Move.Enter n) = subst (EntersLive state.policy) (sym holds.2.move ∙ e) shows.move in
          live-finally look.version n within (live-named state.policy into.0 n into.1)

      makes : (n : ℕ) → made_number (reply_at run.steps (last_number look.own)) ≡ Some n → IsLive (final_policy scene run) n
      makes n e =
          let made = made-live scene.grammar (opening_of scene) run.steps legal.places.replies (last_number look.own) n e in
          live-finally (last_number look.own) n made.0 made.1

  case-leads : (c : Case) → 0 < length c.taken.looks → LooksRise run.steps c.now.floor c.taken.looks → AllByRecursion (LookHolds scene run.steps (subject_of c)) c.taken.looks → IfSome (last_look c.taken.looks) (EndsWith scene run.steps (subject_of c) c.taken) → IsLive (final_policy scene run) c.taken.before → IsLive (final_policy scene run) c.taken.after
  case-leads c some rises shown ends =
      let last = last-there c.taken.looks some in
      look-leads (subject_of c) c.taken last.0 (last-holds (LookHolds scene run.steps (subject_of c)) c.taken.looks last.0 last.1 shown)
      (last-holds (λ (look : Look). look.version ≤ length run.steps) c.taken.looks last.0 last.1 (rises-within run.steps c.now.floor c.taken.looks rises)) (rw last.1 at ends)

  all-lead : EachCase scene run (Leads (final_policy scene run))
  all-lead =
      All-both Facts Ends (Leads (final_policy scene run)) (cases_of scene run)
      (λ c f e. record { before = f.1.0; after = case-leads c f.0 f.1.1 e.0 e.1 })
      (All-both Some_look (λ c. (c.now.domain ≡ Some c.taken.before) × Rises c) Facts (cases_of scene run) (λ c h k. (h, k))
      (each-case scene run legal.takes (λ (t : Take). 0 < length t.looks) legal.takes.looks)
      (All-both (λ c. c.now.domain ≡ Some c.taken.before) Rises (λ c. (c.now.domain ≡ Some c.taken.before) × Rises c) (cases_of scene run) (λ c h k. (h, k)) (all_begin scene run legal) legal.versions))
      (All-both Shown Ended Ends (cases_of scene run) (λ c h k. (h, k)) (all_hold scene run legal) legal.outcomes)
    where
      Some_look : Case → Type 0
      Some_look c = 0 < length c.taken.looks

      Rises : Case → Type 0
      Rises c = LooksRise run.steps c.now.floor c.taken.looks

      Facts : Case → Type 0
      Facts c = Some_look c × ((c.now.domain ≡ Some c.taken.before) × Rises c)

      Shown : Case → Type 0
      Shown c = AllByRecursion (LookHolds scene run.steps (subject_of c)) c.taken.looks

      Ended : Case → Type 0
      Ended c = IfSome (last_look c.taken.looks) (EndsWith scene run.steps (subject_of c) c.taken)

      Ends : Case → Type 0
      Ends c = Shown c × Ended c

pub domains_stay : DomainsStay
unfolding after
domains_stay scene run can legal clean =
    each-take scene run legal.takes (BothLive (final_policy scene run))
    (trees-live (final_policy scene run) 1 scene.policy scene.trace run.takes (λ d live. live-finally scene run can legal clean 0 d (omega arith) live) (all-lead scene run can legal clean))
