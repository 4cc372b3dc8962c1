-- A line and a step that are refused change nothing, but that a `select` which finds nothing
-- empties its cursor.
use Rattle.std.proofs.Common.{◌≡◌, ℕ, zero, suc, List, [], ◌∷◌, ◌++◌, length, map, Bool, true, false, true≢false, refl, sym, ap, ◌∙◌, inl, inr, ◌⊎◌}
use Rattle.std.specs.Prelude.{Option, Some, None, Ok, Err, Result, ◌&&◌, if◌then◌else◌, slice_get, slice_set, unwrap_or, not, is_some, nat_lt, nat_le, option_map}
use Rattle.std.specs.List.{list_any}
use Rattle.std.specs.Option.{option_and_then, option_map_or}
use Rattle.tm_word.specs.Prelude.{Text, texts_equal}
use Rattle.tm_rules.specs.Prelude.{Cursor, DomainName, Edited, Grammar, Queries, acl_group, answer, answer_coded, answer_fault, apply_line, apply_parsed, apply_read, ask, at_key, attach, changed_at, changed_domain, choosing, closed, dead, deleting_domain, detach, domain_at, domain_line, edited, except_line, except_there, fail, group_line, has_part, in_domain, is_done, is_manager, learn, learn_reply, learned_domain, live_domain, made_new, make, making_domain, manager_line, namespace_named, namespace_word, new_domain, numbered, on_chosen, profile_numbered, profile_of, put_member, refused, removing, selecting, with_answer}
use Rattle.tm_rules.specs.Types.{AnswerFault, Domain, DomainRule, EditReply, Editor, Entry, ExceptRule, FileKind, GroupLine, Held, LearnReply, LineKind, MakeReply, ManagerRule, Policy, PolicyLine, Profile, Reply, Step}
use Rattle.tm_legal.specs.Prelude.{Applied, State, apply, ask_step, edit_by, edit_step, fits_entry, fits_name, on_policy, on_queries, unfit}
use Rattle.tm_made.specs.Refusals.{SelectsNone, RefusedLinesChangeNothing, is_refused, IsEmptied, IsUnchanged, RefusedStepsChangeNothing}

-- Lists

changed-same : (xs : List Domain) (d : ℕ) (x : Domain) → slice_get xs d ≡ Some x → changed_at d (λ z. x) xs ≡ xs
changed-same [] d x at = refl
changed-same (a ∷ xs) zero x at = let same : a ≡ x = cc in ap (λ (z : Domain). z ∷ xs) (sym same)
changed-same (a ∷ xs) (suc d) x at = ap (λ (zs : List Domain). a ∷ zs) (changed-same xs d x at)

set-same : (xs : List Cursor) (e : ℕ) → slice_set xs e (unwrap_or (slice_get xs e) None) ≡ xs
set-same [] e = refl
set-same (x ∷ xs) zero = refl
set-same (x ∷ xs) (suc e) = ap (λ (zs : List Cursor). x ∷ zs) (set-same xs e)

-- Lines

-- a line that isn't done leaves the policy, and the cursor but for such a `select`
abbrev Refuses : Policy → Cursor → Type 0 → Edited → Type 0
Refuses p cursor found done = is_done done.reply ≡ false → (done.policy ≡ p) × ((done.cursor ≡ cursor) ⊎ ((done.cursor ≡ None) × found))

was-done : (p : Policy) (cursor : Cursor) (found : Type 0) (q : Policy) (c : Cursor) → Refuses p cursor found (edited q c)
was-done p cursor found q c h = absurd (true≢false h)

was-refused : (p : Policy) (cursor : Cursor) (found : Type 0) (reply : EditReply) → Refuses p cursor found (refused p cursor reply)
was-refused p cursor found reply h = (refl, inl refl)

by_test : (p : Policy) (cursor : Cursor) (found : Type 0) (b : Bool) (one other : Edited) → Refuses p cursor found one → Refuses p cursor found other → Refuses p cursor found (if b then one else other)
by_test p cursor found true one other h k = h
by_test p cursor found false one other h k = k

chosen-refuses : (p : Policy) (cursor : Cursor) (found : Type 0) (change : ℕ → Domain → Edited) → ((d : ℕ) (x : Domain) → Refuses p cursor found (change d x)) → Refuses p cursor found (on_chosen p cursor change)
chosen-refuses p None found change h = was-refused p None found EditReply.NoDomain
chosen-refuses p (Some d) found change h = by_domain (domain_at p d)
  where
    by_live : (x : Domain) (b : Bool) → Refuses p (Some d) found (option_map_or (λ (pair : ℕ × Domain). change pair.0 pair.1) (if b then Some (d, x) else None) (refused p (Some d) EditReply.NoDomain))
    by_live x true = h d x
    by_live x false = was-refused p (Some d) found EditReply.NoDomain

    by_domain : (o : Option Domain) → Refuses p (Some d) found (option_map_or (λ (pair : ℕ × Domain). change pair.0 pair.1) (option_and_then (λ (domain : Domain). if domain.live then Some (d, domain) else None) o) (refused p (Some d) EditReply.NoDomain))
    by_domain None = was-refused p (Some d) found EditReply.NoDomain
    by_domain (Some x) = by_live x x.live

-- a `select` of a domain that isn't live
abbrev IsSelect : Policy → DomainRule → Type 0
IsSelect p rule = (name : DomainName) × (rule ≡ DomainRule.Select name) × (live_domain p name ≡ None)

module _ (p : Policy) (cursor : Cursor) where
  removing-refuses : (found : Type 0) (there : Bool) (q : Policy) (c : Cursor) → Refuses p cursor found (removing p cursor there (edited q c))
  removing-refuses found there q c = by_test p cursor found there _ _ (was-done p cursor found q c) (was-refused p cursor found EditReply.NoSuchLine)

  choosing-refuses : (found : Type 0) (name : DomainName) → Refuses p cursor found (choosing p cursor name)
  choosing-refuses found name = go (live_domain p name)
    where
      go : (o : Option ℕ) → Refuses p cursor found (option_map_or (λ d. edited p (Some d)) o (making_domain p cursor name))
      go None =
          by_test p cursor found (p.opened && not (is_some (profile_numbered p (namespace_word name) 0))) _ _ (was-refused p cursor found EditReply.NoProfile)
          (was-done p cursor found (record p { domains = p.domains ++ new_domain name 0 [] ∷ [] }) (Some (length p.domains)))
      go (Some d) = was-done p cursor found p (Some d)

  selecting-refuses : (name : DomainName) → Refuses p cursor (IsSelect p (DomainRule.Select name)) (selecting p name)
  selecting-refuses name = go (live_domain p name) refl
    where
      go : (o : Option ℕ) → live_domain p name ≡ o → Refuses p cursor (IsSelect p (DomainRule.Select name)) (option_map_or (λ d. edited p (Some d)) o (refused p None EditReply.NoDomain))
      go None is = λ h. (refl, inr (refl, (name, refl, is)))
      go (Some d) is = was-done p cursor (IsSelect p (DomainRule.Select name)) p (Some d)

  deleting-refuses : (found : Type 0) (name : DomainName) → Refuses p cursor found (deleting_domain p cursor name)
  deleting-refuses found name = go (live_domain p name)
    where
      go : (o : Option ℕ) → Refuses p cursor found (option_map_or (λ d. edited (record p { domains = changed_at d dead p.domains }) None) o (refused p cursor EditReply.NoSuchLine))
      go None = was-refused p cursor found EditReply.NoSuchLine
      go (Some d) = was-done p cursor found (record p { domains = changed_at d dead p.domains }) None

  domain-refuses : (rule : DomainRule) → Refuses p cursor (IsSelect p rule) (domain_line p cursor rule)
  unfolding domain_line
  domain-refuses (DomainRule.Choose name) = choosing-refuses (IsSelect p (DomainRule.Choose name)) name
  domain-refuses (DomainRule.Select name) = selecting-refuses name
  domain-refuses (DomainRule.Delete name) = deleting-refuses (IsSelect p (DomainRule.Delete name)) name
  domain-refuses (DomainRule.UseProfile n) =
      chosen-refuses p cursor (IsSelect p (DomainRule.UseProfile n)) _
      (λ d x. by_test p cursor (IsSelect p (DomainRule.UseProfile n)) (is_some (profile_numbered p (namespace_word x.name) n)) (changed_domain p cursor d (record x { profile = n })) (refused p cursor EditReply.NoProfile) (λ h. absurd (true≢false h)) (was-refused p cursor (IsSelect p (DomainRule.UseProfile n)) EditReply.NoProfile))
  domain-refuses (DomainRule.UseGroup false n) = chosen-refuses p cursor (IsSelect p (DomainRule.UseGroup false n)) _ (λ d x h. absurd (true≢false h))
  domain-refuses (DomainRule.UseGroup true n) = chosen-refuses p cursor (IsSelect p (DomainRule.UseGroup true n)) _ (λ d x. removing-refuses (IsSelect p (DomainRule.UseGroup true n)) (is_some (at_key x.groups n)) _ _)
  domain-refuses (DomainRule.QuotaExceeded false) = chosen-refuses p cursor (IsSelect p (DomainRule.QuotaExceeded false)) _ (λ d x h. absurd (true≢false h))
  domain-refuses (DomainRule.QuotaExceeded true) = chosen-refuses p cursor (IsSelect p (DomainRule.QuotaExceeded true)) _ (λ d x. removing-refuses (IsSelect p (DomainRule.QuotaExceeded true)) x.quota_exceeded _ _)
  domain-refuses (DomainRule.TransitionFailed false) = chosen-refuses p cursor (IsSelect p (DomainRule.TransitionFailed false)) _ (λ d x h. absurd (true≢false h))
  domain-refuses (DomainRule.TransitionFailed true) = chosen-refuses p cursor (IsSelect p (DomainRule.TransitionFailed true)) _ (λ d x. removing-refuses (IsSelect p (DomainRule.TransitionFailed true)) x.transition_failed _ _)
  domain-refuses (DomainRule.Acl false entry) = chosen-refuses p cursor (IsSelect p (DomainRule.Acl false entry)) _ (λ d x h. absurd (true≢false h))
  domain-refuses (DomainRule.Acl true entry) = chosen-refuses p cursor (IsSelect p (DomainRule.Acl true entry)) _ (λ d x. removing-refuses (IsSelect p (DomainRule.Acl true entry)) (has_part entry x.entries) _ _)

  except-refuses : (delete : Bool) (name : Text) (rule : ExceptRule) → Refuses p cursor ⊥ (except_line p cursor delete name rule)
  unfolding except_line
  except-refuses false name rule = λ h. absurd (true≢false h)
  except-refuses true name rule = by_test p cursor ⊥ (except_there rule (namespace_named p name)) _ _ (λ h. absurd (true≢false h)) (was-refused p cursor ⊥ EditReply.NoSuchLine)

  group-refuses : (line : GroupLine) → Refuses p cursor ⊥ (group_line p cursor line)
  unfolding group_line
  group-refuses line =
      by_test p cursor ⊥ line.delete _ _
      (by_test p cursor ⊥ (has_part line.entry (acl_group (namespace_named p line.namespace) line.group)) _ _ (λ h. absurd (true≢false h)) (was-refused p cursor ⊥ EditReply.NoSuchLine))
      (λ h. absurd (true≢false h))

  manager-refuses : (delete : Bool) (rule : ManagerRule) → Refuses p cursor ⊥ (manager_line p cursor delete rule)
  unfolding manager_line
  manager-refuses false ManagerRule.ByNonRoot = λ h. absurd (true≢false h)
  manager-refuses true ManagerRule.ByNonRoot = by_test p cursor ⊥ p.by_non_root _ _ (λ h. absurd (true≢false h)) (was-refused p cursor ⊥ EditReply.NoSuchLine)
  manager-refuses false (ManagerRule.Name name) = λ h. absurd (true≢false h)
  manager-refuses true (ManagerRule.Name name) = by_test p cursor ⊥ (list_any (texts_equal name) p.managers) _ _ (λ h. absurd (true≢false h)) (was-refused p cursor ⊥ EditReply.NoSuchLine)

widen : (p : Policy) (cursor : Cursor) (found other : Type 0) (done : Edited) → (found → other) → Refuses p cursor found done → Refuses p cursor other done
widen p cursor found other done f h is = go (h is)
  where
    go : (done.policy ≡ p) × ((done.cursor ≡ cursor) ⊎ ((done.cursor ≡ None) × found)) → (done.policy ≡ p) × ((done.cursor ≡ cursor) ⊎ ((done.cursor ≡ None) × other))
    go (same, inl kept) = (same, inl kept)
    go (same, inr (none, k)) = (same, inr (none, f k))

line-refuses : (g : Grammar) (p : Policy) (file : FileKind) (cursor : Cursor) (line : Text) → Refuses p cursor (SelectsNone g p file line) (apply_line g p file cursor line)
unfolding apply_line apply_read
line-refuses g p file cursor line = go (g.read_line file line) refl
  where
    no : ⊥ → SelectsNone g p file line
    no b = absurd b

    go : (r : Result PolicyLine LineKind) → g.read_line file line ≡ r → Refuses p cursor (SelectsNone g p file line) (apply_parsed p cursor r)
    go (Err kind) is = was-refused p cursor (SelectsNone g p file line) (EditReply.BadLine kind)
    go (Ok PolicyLine.Nothing) is = was-done p cursor (SelectsNone g p file line) p cursor
    go (Ok (PolicyLine.Profile effect)) is = λ h. absurd (true≢false h)
    go (Ok (PolicyLine.Exception rule)) is = widen p cursor ⊥ (SelectsNone g p file line) (except_line p cursor rule.delete rule.namespace rule.rule) no (except-refuses p cursor rule.delete rule.namespace rule.rule)
    go (Ok (PolicyLine.Group group)) is = widen p cursor ⊥ (SelectsNone g p file line) (group_line p cursor group) no (group-refuses p cursor group)
    go (Ok (PolicyLine.Domain rule)) is =
        widen p cursor (IsSelect p rule) (SelectsNone g p file line) (domain_line p cursor rule)
        (λ found. (found.0, is ∙ ap (λ (r : DomainRule). Ok (PolicyLine.Domain r)) found.1, found.2)) (domain-refuses p cursor rule)
    go (Ok (PolicyLine.Manager delete rule)) is = widen p cursor ⊥ (SelectsNone g p file line) (manager_line p cursor delete rule) no (manager-refuses p cursor delete rule)

pub refused-lines-change-nothing : RefusedLinesChangeNothing
refused-lines-change-nothing g p file cursor line refuses =
    let (same, chosen) = line-refuses g p file cursor line refuses in record { same = same; chosen = chosen }

-- Steps

-- a step that is refused so
abbrev Stays : Grammar → State → Step → Applied → Type 0
Stays g s step done = (r : Reply) → done.reply ≡ Some r → is_refused r ≡ true → IsUnchanged g s step done.state

no-reply : (r : Reply) → None ≡ Some r → ⊥
no-reply r e = cc

same_reply : (a b : Reply) → Some a ≡ Some b → a ≡ b
same_reply a b e = cc

module _ (g : Grammar) (s : State) where
  unchanged : (step : Step) → IsUnchanged g s step s
  unchanged step = record { policy = refl; queries = refl; ended = refl; editors = refl; trees = refl; cursors = inl refl }

  -- it has another reply
  other-reply : (step : Step) (done : Applied) (a : Reply) → done.reply ≡ Some a → is_refused a ≡ false → Stays g s step done
  other-reply step done a is other r e refuses = absurd (true≢false (sym refuses ∙ ap is_refused (same_reply r a (sym e ∙ is)) ∙ other))

  -- it leaves the state
  left : (step : Step) (done : Applied) → IsUnchanged g s step done.state → Stays g s step done
  left step done h r e refuses = h

  unfit-stays : (step : Step) → Stays g s step (unfit s)
  unfit-stays step r e refuses = absurd (no-reply r e)

  test-stays : (step : Step) (b : Bool) (done : Applied) → Stays g s step done → Stays g s step (if b then done else unfit s)
  test-stays step true done h = h
  test-stays step false done h = unfit-stays step

  domain-stays : {R : Type 0} (step : Step) (d : ℕ) (reply : R → Reply) (change : Domain → Profile → Policy × R) → ((x : Domain) (profile : Profile) → domain_at s.policy d ≡ Some x → Stays g s step (on_policy s reply (Some (change x profile)))) → Stays g s step (on_policy s reply (in_domain s.policy d change))
  domain-stays step d reply change h = by_domain (domain_at s.policy d) refl
    where
      by_profile : (x : Domain) → domain_at s.policy d ≡ Some x → (o : Option Profile) → Stays g s step (on_policy s reply (option_map (change x) o))
      by_profile x at None = unfit-stays step
      by_profile x at (Some profile) = h x profile at

      by_domain : (o : Option Domain) → domain_at s.policy d ≡ o → Stays g s step (on_policy s reply (option_and_then (λ domain. option_map (change domain) (profile_of s.policy domain)) o))
      by_domain None at = unfit-stays step
      by_domain (Some x) at = by_profile x at (profile_of s.policy x)

  -- the domain is put back as it was
  put-back : (step : Step) (d : ℕ) (x new : Domain) → domain_at s.policy d ≡ Some x → new ≡ x → IsUnchanged g s step (record s { policy = record s.policy { domains = changed_at d (λ z. new) s.policy.domains } })
  put-back step d x new at is =
      record {
        policy = ap (λ (ds : List Domain). record s.policy { domains = ds }) (ap (λ (y : Domain). changed_at d (λ z. y) s.policy.domains) is ∙ changed-same s.policy.domains d x at);
        queries = refl;
        ended = refl;
        editors = refl;
        trees = refl;
        cursors = inl refl;
      }

  learn-stays : (d : ℕ) (entry : Entry) → Stays g s (Step.Learn d entry) (on_policy s Reply.Learn (learn s.policy d entry))
  unfolding learn
  learn-stays d entry = domain-stays (Step.Learn d entry) d Reply.Learn _ (λ x profile at. go x at (learn_reply profile x entry))
    where
      go : (x : Domain) → domain_at s.policy d ≡ Some x → (reply : LearnReply) → Stays g s (Step.Learn d entry) (on_policy s Reply.Learn (Some (record s.policy { domains = changed_at d (λ z. learned_domain reply x entry) s.policy.domains }, reply)))
      go x at LearnReply.Added = other-reply (Step.Learn d entry) _ (Reply.Learn LearnReply.Added) refl refl
      go x at LearnReply.Quota = other-reply (Step.Learn d entry) _ (Reply.Learn LearnReply.Quota) refl refl
      go x at LearnReply.There = left (Step.Learn d entry) _ (put-back (Step.Learn d entry) d x x at refl)
      go x at LearnReply.Mode = left (Step.Learn d entry) _ (put-back (Step.Learn d entry) d x x at refl)

  make-stays : (d : ℕ) (name : DomainName) → Stays g s (Step.Make d name) (on_policy s Reply.Make (make s.policy d name))
  unfolding make
  make-stays d name = domain-stays (Step.Make d name) d Reply.Make _ (λ x profile at. go x (live_domain s.policy name))
    where
      go : (x : Domain) (o : Option ℕ) → Stays g s (Step.Make d name) (on_policy s Reply.Make (Some (option_map_or (λ n. (s.policy, MakeReply.Old n)) o (made_new s.policy name x))))
      go x None = other-reply (Step.Make d name) _ (Reply.Make (MakeReply.New (length s.policy.domains))) refl refl
      go x (Some n) = left (Step.Make d name) _ (unchanged (Step.Make d name))

  fail-stays : (d : ℕ) → Stays g s (Step.Fail d) (on_policy s Reply.Fail (fail s.policy d))
  unfolding fail
  fail-stays d = domain-stays (Step.Fail d) d Reply.Fail _ (λ x profile at. go x at x.transition_failed refl)
    where
      go : (x : Domain) → domain_at s.policy d ≡ Some x → (b : Bool) → x.transition_failed ≡ b → Stays g s (Step.Fail d) (on_policy s Reply.Fail (Some (record s.policy { domains = changed_at d (λ z. record x { transition_failed = true }) s.policy.domains }, not b)))
      go x at true stood = left (Step.Fail d) _ (put-back (Step.Fail d) d x (record x { transition_failed = true }) at (ap (λ (b : Bool). record x { transition_failed = b }) (sym stood)))
      go x at false stood = other-reply (Step.Fail d) _ (Reply.Fail true) refl refl

  ask-stays : (d retry : ℕ) (text : Text) → Stays g s (Step.Ask d retry text) (ask_step g s d retry text)
  unfolding ask
  ask-stays d retry text = go (in_domain s.policy d (λ domain profile. domain.name))
    where
      asked : Text → Queries × Held
      asked name = (
        record s.queries { all = s.queries.all ++ record { query = record { serial = suc (length s.queries.all); retry = retry; domain = name; line = text }; answer = None } ∷ [] },
        Held.Serial (suc (length s.queries.all)),
      )

      by_desk : (name : Text) (b : Bool) → Stays g s (Step.Ask d retry text) (on_queries s Reply.Ask (if not b then (s.queries, Held.Nobody) else asked name))
      by_desk name true = other-reply (Step.Ask d retry text) _ (Reply.Ask (Held.Serial (suc (length s.queries.all)))) refl refl
      by_desk name false = left (Step.Ask d retry text) _ (unchanged (Step.Ask d retry text))

      go : (o : Option Text) → Stays g s (Step.Ask d retry text) (option_map_or (λ name. on_queries s Reply.Ask (ask s.queries name text retry)) o (unfit s))
      go None = unfit-stays (Step.Ask d retry text)
      go (Some name) = by_desk name s.queries.attached

  answer-stays : (serial code : ℕ) → Stays g s (Step.Answer serial code) (on_queries s Reply.Answer (answer s.queries serial code))
  unfolding answer
  answer-stays serial code = go (answer_fault (numbered s.queries.all serial) code)
    where
      go : (o : Option AnswerFault) → Stays g s (Step.Answer serial code) (on_queries s Reply.Answer (option_map_or (λ fault. (s.queries, Some fault)) o (with_answer s.queries serial (answer_coded code), None)))
      go None = other-reply (Step.Answer serial code) _ (Reply.Answer None) refl refl
      go (Some fault) = left (Step.Answer serial code) _ (unchanged (Step.Answer serial code))

  attach-stays : Stays g s Step.Attach (on_queries s Reply.Attach (attach s.queries))
  unfolding attach
  attach-stays = go s.queries.attached refl
    where
      go : (b : Bool) → s.queries.attached ≡ b → Stays g s Step.Attach (on_queries s Reply.Attach (record s.queries { attached = true }, not b))
      go true is = left Step.Attach _ (record { policy = refl; queries = ap (λ (b : Bool). record s.queries { attached = b }) (sym is); ended = refl; editors = refl; trees = refl; cursors = inl refl })
      go false is = other-reply Step.Attach _ (Reply.Attach true) refl refl

  detach-stays : Stays g s Step.Detach (on_queries s Reply.Detach (detach s.queries))
  unfolding detach
  detach-stays = go s.queries.attached
    where
      go : (b : Bool) → Stays g s Step.Detach (on_queries s Reply.Detach (if b then (record { attached = false; all = map closed s.queries.all }, true) else (s.queries, false)))
      go true = other-reply Step.Detach _ (Reply.Detach true) refl refl
      go false = left Step.Detach _ (unchanged Step.Detach)

  edit-stays : (e : ℕ) (file : FileKind) (line : Text) → Stays g s (Step.Edit e file line) (edit_by g s e file line)
  unfolding edit_step
  edit-stays zero file line = unfit-stays (Step.Edit zero file line)
  edit-stays (suc e) file line = by_editor (slice_get s.editors e)
    where
      cursor : Cursor
      cursor = unwrap_or (slice_get s.cursors e) None

      done : Edited
      done = apply_line g s.policy file cursor line

      emptied : (done.cursor ≡ cursor) ⊎ ((done.cursor ≡ None) × SelectsNone g s.policy file line) → (slice_set s.cursors e done.cursor ≡ s.cursors) ⊎ IsEmptied g s (Step.Edit (suc e) file line) (slice_set s.cursors e done.cursor)
      emptied (inl kept) = inl (ap (slice_set s.cursors e) kept ∙ set-same s.cursors e)
      emptied (inr (none, selects)) = inr (e, file, line, refl, selects, ap (slice_set s.cursors e) none)

      by_done : (b : Bool) → is_done done.reply ≡ b → Stays g s (Step.Edit (suc e) file line) (let a : Applied = record { state = record s { policy = done.policy; cursors = slice_set s.cursors e done.cursor }; reply = Some (Reply.Edit done.reply) } in a)
      by_done true is = other-reply (Step.Edit (suc e) file line) _ (Reply.Edit done.reply) refl (rw is refl)
      by_done false is =
          let parts = line-refuses g s.policy file cursor line is in
          left (Step.Edit (suc e) file line) _ (record { policy = parts.0; queries = refl; ended = refl; editors = refl; trees = refl; cursors = emptied parts.1 })

      by_manager : (b : Bool) → Stays g s (Step.Edit (suc e) file line) (if b then (let a : Applied = record { state = s; reply = Some (Reply.Edit EditReply.NotManager) } in a) else (let a : Applied = record { state = record s { policy = done.policy; cursors = slice_set s.cursors e done.cursor }; reply = Some (Reply.Edit done.reply) } in a))
      by_manager true = left (Step.Edit (suc e) file line) _ (unchanged (Step.Edit (suc e) file line))
      by_manager false = by_done (is_done done.reply) refl

      by_editor : (o : Option Editor) → Stays g s (Step.Edit (suc e) file line) (option_map_or (λ editor. edit_step g s e file line editor cursor) o (unfit s))
      by_editor None = unfit-stays (Step.Edit (suc e) file line)
      by_editor (Some editor) = by_manager (not (is_manager s.policy editor))

  step-stays : (step : Step) → Stays g s step (apply g s step)
  unfolding apply
  step-stays (Step.Learn d entry) = test-stays (Step.Learn d entry) (fits_entry g entry) _ (learn-stays d entry)
  step-stays (Step.Make d name) = test-stays (Step.Make d name) (fits_name g s d name) _ (make-stays d name)
  step-stays (Step.Fail d) = fail-stays d
  step-stays (Step.Ask d retry text) = ask-stays d retry text
  step-stays (Step.Answer serial code) = answer-stays serial code
  step-stays Step.Attach = attach-stays
  step-stays Step.Detach = detach-stays
  step-stays (Step.Edit e file line) = edit-stays e file line
  step-stays (Step.End t) = test-stays (Step.End t) (nat_lt 0 t && nat_le t s.trees) _ (other-reply (Step.End t) (let done : Applied = record { state = record s { ended = put_member t s.ended }; reply = Some Reply.End } in done) Reply.End refl refl)

pub refused-steps-change-nothing : RefusedStepsChangeNothing
refused-steps-change-nothing g s step r is refuses = step-stays g s step r is refuses
