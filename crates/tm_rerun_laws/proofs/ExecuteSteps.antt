-- A clean step changes what no execute finds, or it adds one learned line.
use Rattle.std.proofs.Common.{◌≡◌, ℕ, zero, suc, [], ◌∷◌, Bool, true, false, true≢false, refl, sym, ap, ◌∙◌, subst, inl, inr, ◌⊎◌}
use Rattle.std.specs.Prelude.{Option, Some, None, Ok, Err, Result, ◌&&◌, if◌then◌else◌, slice_get, slice_set, option_map, unwrap_or, not, nat_lt, nat_le, map}
use Rattle.std.specs.List.{list_any}
use Rattle.std.specs.Option.{option_and_then, option_map_or}
use Rattle.std.proofs.lemmas.Bool.{and_parts, not-true}
use Rattle.tm_word.specs.Prelude.{Text, texts_equal}
use Rattle.tm_rules.specs.Prelude.{Cursor, DomainName, Edited, Grammar, IsGrammar, adding, apply_line, apply_parsed, apply_read, ask, changed_domain, closed, detach, domain_at, domain_line, edited, group_line, has_line, in_domain, is_clean_step, is_done, is_full, is_manager, is_quiet, is_quiet_rule, joining, learn, learn_reply, learned_domain, learns, leaving, lets_execute, live_domain, made_new, make, manager_line, new_domain, on_chosen, profile_of, put_member, refused, removing, selecting, with_domain}
use Rattle.tm_rules.specs.Types.{Domain, DomainRule, EditReply, Editor, Entry, FileKind, GroupLine, Groups, LearnReply, LineKind, MakeReply, ManagerRule, Policy, PolicyLine, Profile, Reply, Step}
use Rattle.tm_legal.specs.Prelude.{Applied, Execute, State, apply, edit_step, fits_entry, fits_name, on_policy, on_queries, unfit}
use Rattle.tm_rerun_laws.proofs.Executes.{Blind, blind-quiet}
use Rattle.tm_rerun_laws.proofs.ExecutePolicies.{SameFound, changed-same, line-same, made-same, rest-same, group-same}
use Rattle.tm_rerun_laws.proofs.QuietLines.{line-refuses}

SameFound-refl : (p : Policy) → SameFound p p
SameFound-refl p d domain x at = refl

-- A quiet line

entry-blind : (line : Entry) → lets_execute line ≡ false → (groups : Groups) (x : Execute) → Blind groups x line
entry-blind line free groups x = blind-quiet groups x line.args line.perms.bits line.cond free

acl-found : (p : Policy) (cursor : Cursor) (entry : Entry) → lets_execute entry ≡ false → SameFound p (on_chosen p cursor (λ d x. changed_domain p cursor d (record x { entries = adding entry x.entries }))).policy
acl-found p None entry free = SameFound-refl p
acl-found p (Some c) entry free = by_domain (domain_at p c) refl
  where
    change : ℕ → Domain → Edited
    change d x = changed_domain p (Some c) d (record x { entries = adding entry x.entries })

    by_live : (x : Domain) → domain_at p c ≡ Some x → (b : Bool) → SameFound p (option_map_or (λ (pair : ℕ × Domain). change pair.0 pair.1) (if b then Some (c, x) else None) (refused p (Some c) EditReply.NoDomain)).policy
    by_live x at true = line-same p c x entry at (entry-blind entry free)
    by_live x at false = SameFound-refl p

    by_domain : (o : Option Domain) → domain_at p c ≡ o → SameFound p (option_map_or (λ (pair : ℕ × Domain). change pair.0 pair.1) (option_and_then (λ (domain : Domain). if domain.live then Some (c, domain) else None) o) (refused p (Some c) EditReply.NoDomain)).policy
    by_domain None at = SameFound-refl p
    by_domain (Some x) at = by_live x at x.live

select-found : (p : Policy) (name : DomainName) → SameFound p (selecting p name).policy
select-found p name = go (live_domain p name)
  where
    go : (o : Option ℕ) → SameFound p (option_map_or (λ d. edited p (Some d)) o (refused p None EditReply.NoDomain)).policy
    go None = SameFound-refl p
    go (Some d) = SameFound-refl p

group-found : (p : Policy) (cursor : Cursor) (line : GroupLine) → line.delete ≡ false → lets_execute line.entry ≡ false → SameFound p (group_line p cursor line).policy
unfolding group_line
group-found p cursor line kept free = rw kept (group-same p line.namespace line.group line.entry (entry-blind line.entry free))

manager-found : (p : Policy) (cursor : Cursor) (delete : Bool) (rule : ManagerRule) → SameFound p (manager_line p cursor delete rule).policy
unfolding manager_line
manager-found p cursor false ManagerRule.ByNonRoot = rest-same p (record p { by_non_root = true }) refl refl
manager-found p cursor true ManagerRule.ByNonRoot = go p.by_non_root
  where
    go : (b : Bool) → SameFound p (removing p cursor b (edited (record p { by_non_root = false }) cursor)).policy
    go true = rest-same p (record p { by_non_root = false }) refl refl
    go false = SameFound-refl p
manager-found p cursor false (ManagerRule.Name name) = rest-same p (record p { managers = joining texts_equal name p.managers }) refl refl
manager-found p cursor true (ManagerRule.Name name) = go (list_any (texts_equal name) p.managers)
  where
    go : (b : Bool) → SameFound p (removing p cursor b (edited (record p { managers = leaving texts_equal name p.managers }) cursor)).policy
    go true = rest-same p (record p { managers = leaving texts_equal name p.managers }) refl refl
    go false = SameFound-refl p

quiet-found : (p : Policy) (cursor : Cursor) (rule : PolicyLine) → is_quiet_rule rule ≡ true → SameFound p (apply_read p cursor rule).policy
unfolding apply_read domain_line
quiet-found p cursor PolicyLine.Nothing quiet = SameFound-refl p
quiet-found p cursor (PolicyLine.Profile line) quiet = absurd cc
quiet-found p cursor (PolicyLine.Exception line) quiet = absurd cc
quiet-found p cursor (PolicyLine.Group line) quiet =
    let parts = and_parts (not line.delete) (not (lets_execute line.entry)) quiet in
    group-found p cursor line (not-true line.delete parts.0) (not-true (lets_execute line.entry) parts.1)
quiet-found p cursor (PolicyLine.Manager delete rule) quiet = manager-found p cursor delete rule
quiet-found p cursor (PolicyLine.Domain (DomainRule.Select name)) quiet = select-found p name
quiet-found p cursor (PolicyLine.Domain (DomainRule.Acl false entry)) quiet = acl-found p cursor entry (not-true (lets_execute entry) quiet)
quiet-found p cursor (PolicyLine.Domain (DomainRule.Acl true entry)) quiet = absurd cc
quiet-found p cursor (PolicyLine.Domain (DomainRule.Choose name)) quiet = absurd cc
quiet-found p cursor (PolicyLine.Domain (DomainRule.Delete name)) quiet = absurd cc
quiet-found p cursor (PolicyLine.Domain (DomainRule.UseProfile n)) quiet = absurd cc
quiet-found p cursor (PolicyLine.Domain (DomainRule.UseGroup delete n)) quiet = absurd cc
quiet-found p cursor (PolicyLine.Domain (DomainRule.QuotaExceeded delete)) quiet = absurd cc
quiet-found p cursor (PolicyLine.Domain (DomainRule.TransitionFailed delete)) quiet = absurd cc

line-found : (g : Grammar) (p : Policy) (file : FileKind) (cursor : Cursor) (line : Text) → IsGrammar g → is_quiet file line ≡ true → SameFound p (apply_line g p file cursor line).policy
unfolding apply_line
line-found g p file cursor line grammar quiet = go (g.read_line file line) refl
  where
    go : (r : Result PolicyLine LineKind) → g.read_line file line ≡ r → SameFound p (apply_parsed p cursor r).policy
    go (Err kind) e = SameFound-refl p
    go (Ok rule) e = quiet-found p cursor rule (grammar.quiet file line rule quiet e)

-- Steps

-- a Learn has added its line, which wasn't there
pub record IsAdded (p q : Policy) (step : Step) : Type 0 where
  pub place : ℕ
  pub line : Entry
  pub old : Domain
  pub is : step ≡ Step.Learn place line
  pub was : domain_at p place ≡ Some old
  pub fresh : has_line line old.entries ≡ false
  pub policy : q ≡ with_domain p place (record old { entries = adding line old.entries })

added-fresh : (profile : Profile) (x : Domain) (entry : Entry) → learn_reply profile x entry ≡ LearnReply.Added → has_line entry x.entries ≡ false
unfolding learn_reply
added-fresh profile x entry = go (not (learns profile entry)) (has_line entry x.entries) (is_full profile x)
  where
    go : (a b c : Bool) → (if a then LearnReply.Mode else (if b then LearnReply.There else (if c then LearnReply.Quota else LearnReply.Added))) ≡ LearnReply.Added → b ≡ false
    go true b c h = absurd cc
    go false true c h = absurd cc
    go false false c h = refl

module _ (g : Grammar) (grammar : IsGrammar g) where
  -- nothing that is found changes, or a line was added
  abbrev pub CleanFound : Step → Policy → Applied → Type 0
  CleanFound step p done = (r : Reply) → done.reply ≡ Some r → is_clean_step (step, r) ≡ true → SameFound p done.state.policy ⊎ IsAdded p done.state.policy step

  learn-found : (s : State) (d : ℕ) (entry : Entry) → CleanFound (Step.Learn d entry) s.policy (on_policy s Reply.Learn (learn s.policy d entry))
  unfolding learn
  learn-found s d entry = by_domain (domain_at s.policy d) refl
    where
      same : (x : Domain) → domain_at s.policy d ≡ Some x → SameFound s.policy (with_domain s.policy d x)
      same x at = changed-same s.policy d x x at refl (λ y. refl)

      by_reply : (x : Domain) → domain_at s.policy d ≡ Some x → (reply : LearnReply) → (reply ≡ LearnReply.Added → has_line entry x.entries ≡ false) → CleanFound (Step.Learn d entry) s.policy (on_policy s Reply.Learn (Some (with_domain s.policy d (learned_domain reply x entry), reply)))
      by_reply x at LearnReply.Added fresh r e clean = inr (record { place = d; line = entry; old = x; is = refl; was = at; fresh = fresh refl; policy = refl })
      by_reply x at LearnReply.There fresh r e clean = inl (same x at)
      by_reply x at LearnReply.Mode fresh r e clean = inl (same x at)
      by_reply x at LearnReply.Quota fresh r e clean = absurd (true≢false (sym clean ∙ (let is : r ≡ Reply.Learn LearnReply.Quota = cc in rw is refl)))

      by_profile : (x : Domain) → domain_at s.policy d ≡ Some x → (o : Option Profile) → CleanFound (Step.Learn d entry) s.policy (on_policy s Reply.Learn (option_map (λ profile. (with_domain s.policy d (learned_domain (learn_reply profile x entry) x entry), learn_reply profile x entry)) o))
      by_profile x at None r e clean = absurd cc
      by_profile x at (Some profile) r e clean = by_reply x at (learn_reply profile x entry) (added-fresh profile x entry) r e clean

      by_domain : (o : Option Domain) → domain_at s.policy d ≡ o → CleanFound (Step.Learn d entry) s.policy (on_policy s Reply.Learn (option_and_then (λ x. option_map (λ profile. (with_domain s.policy d (learned_domain (learn_reply profile x entry) x entry), learn_reply profile x entry)) (profile_of s.policy x)) o))
      by_domain None at r e clean = absurd cc
      by_domain (Some x) at r e clean = by_profile x at (profile_of s.policy x) r e clean

  make-found : (s : State) (d : ℕ) (name : Text) → CleanFound (Step.Make d name) s.policy (on_policy s Reply.Make (make s.policy d name))
  unfolding make
  make-found s d name = by_domain (domain_at s.policy d)
    where
      by_live : (x : Domain) (o : Option ℕ) → CleanFound (Step.Make d name) s.policy (on_policy s Reply.Make (Some (option_map_or (λ n. (s.policy, MakeReply.Old n)) o (made_new s.policy name x))))
      by_live x None r e clean = inl (made-same s.policy (new_domain name x.profile x.groups ∷ []))
      by_live x (Some n) r e clean = inl (SameFound-refl s.policy)

      by_profile : (x : Domain) (o : Option Profile) → CleanFound (Step.Make d name) s.policy (on_policy s Reply.Make (option_map (λ profile. option_map_or (λ n. (s.policy, MakeReply.Old n)) (live_domain s.policy name) (made_new s.policy name x)) o))
      by_profile x None r e clean = absurd cc
      by_profile x (Some profile) r e clean = by_live x (live_domain s.policy name) r e clean

      by_domain : (o : Option Domain) → CleanFound (Step.Make d name) s.policy (on_policy s Reply.Make (option_and_then (λ x. option_map (λ profile. option_map_or (λ n. (s.policy, MakeReply.Old n)) (live_domain s.policy name) (made_new s.policy name x)) (profile_of s.policy x)) o))
      by_domain None r e clean = absurd cc
      by_domain (Some x) r e clean = by_profile x (profile_of s.policy x) r e clean

  edit-found : (s : State) (k : ℕ) (file : FileKind) (line : Text) (editor : Editor) (c : Cursor) → CleanFound (Step.Edit (suc k) file line) s.policy (edit_step g s k file line editor c)
  unfolding edit_step
  edit-found s k file line editor c = by_manager (not (is_manager s.policy editor))
    where
      done : Edited
      done = apply_line g s.policy file c line

      Result_is : Type 0
      Result_is = SameFound s.policy done.policy ⊎ IsAdded s.policy done.policy (Step.Edit (suc k) file line)

      same : is_done done.reply ≡ false → Result_is
      same e = inl (rest-same s.policy done.policy (ap (λ (q : Policy). q.namespaces) ((line-refuses g s.policy file c line).same e)) (ap (λ (q : Policy). q.domains) ((line-refuses g s.policy file c line).same e)))

      by_reply : (reply : EditReply) → done.reply ≡ reply → (r : Reply) → Some (Reply.Edit reply) ≡ Some r → is_clean_step (Step.Edit (suc k) file line, r) ≡ true → Result_is
      by_reply EditReply.Done is r e clean = inl (line-found g s.policy file c line grammar (subst (λ q. is_clean_step (Step.Edit (suc k) file line, q) ≡ true) (let back : r ≡ Reply.Edit EditReply.Done = cc in back) clean))
      by_reply EditReply.NotManager is r e clean = same (rw is refl)
      by_reply (EditReply.BadLine kind) is r e clean = same (rw is refl)
      by_reply EditReply.NoDomain is r e clean = same (rw is refl)
      by_reply EditReply.NoProfile is r e clean = same (rw is refl)
      by_reply EditReply.NoSuchLine is r e clean = same (rw is refl)

      by_manager : (b : Bool) → CleanFound (Step.Edit (suc k) file line) s.policy (if b then (let a : Applied = record { state = s; reply = Some (Reply.Edit EditReply.NotManager) } in a) else (let a : Applied = record { state = record s { policy = done.policy; cursors = slice_set s.cursors k done.cursor }; reply = Some (Reply.Edit done.reply) } in a))
      by_manager true r e clean = inl (SameFound-refl s.policy)
      by_manager false r e clean = by_reply done.reply refl r e clean

  pub step-found : (s : State) (step : Step) → CleanFound step s.policy (apply g s step)
  unfolding apply detach
  step-found s (Step.Learn d entry) = by_fit (fits_entry g entry)
    where
      by_fit : (b : Bool) → CleanFound (Step.Learn d entry) s.policy (if b then on_policy s Reply.Learn (learn s.policy d entry) else unfit s)
      by_fit true r e clean = learn-found s d entry r e clean
      by_fit false r e clean = absurd cc
  step-found s (Step.Make d name) = by_fit (fits_name g s d name)
    where
      by_fit : (b : Bool) → CleanFound (Step.Make d name) s.policy (if b then on_policy s Reply.Make (make s.policy d name) else unfit s)
      by_fit true r e clean = make-found s d name r e clean
      by_fit false r e clean = absurd cc
  step-found s (Step.Fail d) = λ r e clean. absurd (true≢false (sym clean))
  step-found s (Step.Ask d retry line) = by_name (in_domain s.policy d (λ domain profile. domain.name))
    where
      by_name : (o : Option Text) → CleanFound (Step.Ask d retry line) s.policy (option_map_or (λ name. on_queries s Reply.Ask (ask s.queries name line retry)) o (unfit s))
      by_name None r e clean = inl (SameFound-refl s.policy)
      by_name (Some name) r e clean = inl (SameFound-refl s.policy)
  step-found s (Step.Answer serial code) = λ r e clean. inl (SameFound-refl s.policy)
  step-found s Step.Attach = λ r e clean. inl (SameFound-refl s.policy)
  step-found s Step.Detach = λ r e clean. inl (by_flag s.queries.attached)
    where
      by_flag : (b : Bool) → SameFound s.policy (on_queries s Reply.Detach (if b then (record { attached = false; all = map closed s.queries.all }, true) else (s.queries, false))).state.policy
      by_flag true = SameFound-refl s.policy
      by_flag false = SameFound-refl s.policy
  step-found s (Step.Edit zero file line) = λ r e clean. inl (SameFound-refl s.policy)
  step-found s (Step.Edit (suc k) file line) = by_editor (slice_get s.editors k)
    where
      by_editor : (o : Option Editor) → CleanFound (Step.Edit (suc k) file line) s.policy (option_map_or (λ editor. edit_step g s k file line editor (unwrap_or (slice_get s.cursors k) None)) o (unfit s))
      by_editor None r e clean = inl (SameFound-refl s.policy)
      by_editor (Some editor) r e clean = edit-found s k file line editor (unwrap_or (slice_get s.cursors k) None) r e clean
  step-found s (Step.End t) = by_there (nat_lt 0 t && nat_le t s.trees)
    where
      by_there : (b : Bool) → CleanFound (Step.End t) s.policy (if b then (let done : Applied = record { state = record s { ended = put_member t s.ended }; reply = Some Reply.End } in done) else unfit s)
      by_there true r e clean = inl (SameFound-refl s.policy)
      by_there false r e clean = inl (SameFound-refl s.policy)
