-- An opened policy stays opened, whatever steps are made: one live domain a name, a live `<kernel>`
-- first, profiles that are there, aggregators to paths.
use Rattle.std.proofs.Common.{◌≡◌, ◌≢◌, ℕ, zero, suc, ◌+◌, List, [], ◌∷◌, ◌++◌, length, Bool, true, false, true≢false, refl, sym, ap, ◌∙◌, subst, arith, inl, inr, ◌⊎◌}
use Rattle.std.specs.Prelude.{Option, Some, None, Ok, Err, Result, ◌&&◌, ◌==◌, cond, if◌then◌else◌, slice_get, unwrap_or, not, is_some, nat_lt, nat_le}
use Rattle.std.specs.List.{list_any, position_from}
use Rattle.std.specs.Option.{option_and_then, option_map_or}
use Rattle.std.proofs.lemmas.Bool.{and_from, and_parts, eq-eqb}
use Rattle.tm_word.specs.Prelude.{Text, texts_equal}
use Rattle.tm_rules.specs.Prelude.{Cursor, DomainName, Edited, Grammar, IsGrammar, acl_group, adding, apply_line, apply_parsed, apply_read, at_key, changed_at, changed_domain, changing_namespace, choosing, chosen, dead, deleting, deleting_domain, domain_at, domain_line, edited, except_line, except_there, fail, group_line, has_part, in_domain, is_domain_name, is_manager, joining, kernel, learn, learn_reply, learned_domain, leaving, live_domain, made_new, make, making_domain, manager_line, namespace_named, namespace_word, new_domain, on_chosen, profile_numbered, profile_of, put_key, refused, remove_key, removing, selecting, with_group}
use Rattle.tm_rules.specs.Types.{Domain, DomainRule, EditReply, Editor, Entry, ExceptRule, FileKind, GroupLine, LearnReply, LineKind, MakeReply, ManagerRule, Policy, PolicyLine, Profile, Run, Step}
use Rattle.tm_legal.specs.Prelude.{CanPlay, DomainIn, IsOpened, Scene, State, after, apply, edit_step, final_policy, fits_entry, fits_name, opening_of, steps_of}
use Rattle.tm_legal.proofs.Kept.{Sound, ready-fits, same_texts, position_holds}
use Rattle.tm_legal.proofs.Edits.{line-evolves}

-- one live domain a name, and a live `<kernel>` first
pub record Headed (p : Policy) : Type 0 where
  pub one_live : (d e : ℕ) (x y : Domain) → domain_at p d ≡ Some x → domain_at p e ≡ Some y → x.live ≡ true → y.live ≡ true → x.name ≡ y.name → d ≡ e
  pub kernel_first : (x : Domain) × (domain_at p 0 ≡ Some x) × (x.name ≡ kernel) × (x.live ≡ true)

-- equal domains
same-headed : (p q : Policy) → q.domains ≡ p.domains → Headed p → Headed q
same-headed p q same h =
    record {
      one_live = λ d e x y at there. h.one_live d e x y (rw same at at) (rw same at there);
      kernel_first = (h.kernel_first.0, rw same h.kernel_first.1, h.kernel_first.2, h.kernel_first.3);
    }

-- A domain that is changed

-- the name stays, what is live was live, and a live `<kernel>` stays live
pub record Heads (d : ℕ) (x y : Domain) : Type 0 where
  pub name : y.name ≡ x.name
  pub live : y.live ≡ true → x.live ≡ true
  pub first : d ≡ 0 → x.live ≡ true → y.live ≡ true

got-changed : (change : Domain → Domain) (xs : List Domain) (d e k : ℕ) (old y : Domain) → slice_get xs d ≡ Some old → Heads k old (change old) → slice_get (changed_at d change xs) e ≡ Some y → (x : Domain) × (slice_get xs e ≡ Some x) × (y.name ≡ x.name) × (y.live ≡ true → x.live ≡ true)
got-changed change [] d e k old y was heads at = absurd cc
got-changed change (a ∷ xs) zero zero k old y was heads at =
    let first : a ≡ old = cc in
    let second : change old ≡ y = ap change (sym first) ∙ (let is : change a ≡ y = cc in is) in
    (a, refl, ap (λ (z : Domain). z.name) (sym second) ∙ heads.name ∙ ap (λ (z : Domain). z.name) (sym first), λ live. ap (λ (z : Domain). z.live) first ∙ heads.live (ap (λ (z : Domain). z.live) second ∙ live))
got-changed change (a ∷ xs) zero (suc e) k old y was heads at = (y, at, refl, λ live. live)
got-changed change (a ∷ xs) (suc d) zero k old y was heads at = (y, at, refl, λ live. live)
got-changed change (a ∷ xs) (suc d) (suc e) k old y was heads at = got-changed change xs d e k old y was heads at

kernel-changed : (change : Domain → Domain) (xs : List Domain) (d : ℕ) (old x : Domain) → slice_get xs d ≡ Some old → Heads d old (change old) → slice_get xs 0 ≡ Some x → x.name ≡ kernel → x.live ≡ true → (y : Domain) × (slice_get (changed_at d change xs) 0 ≡ Some y) × (y.name ≡ kernel) × (y.live ≡ true)
kernel-changed change [] d old x was heads at name live = absurd cc
kernel-changed change (a ∷ xs) zero old x was heads at name live =
    let first : a ≡ old = cc in
    let second : a ≡ x = cc in
    let same : old ≡ x = sym first ∙ second in
    (change a, refl, ap (λ z. (change z).name) first ∙ heads.name ∙ ap (λ (z : Domain). z.name) same ∙ name, ap (λ z. (change z).live) first ∙ heads.first refl (ap (λ (z : Domain). z.live) same ∙ live))
kernel-changed change (a ∷ xs) (suc d) old x was heads at name live = (x, at, name, live)

changed-headed : (p : Policy) (change : Domain → Domain) (d : ℕ) (old : Domain) → domain_at p d ≡ Some old → Heads d old (change old) → Headed p → Headed (record p { domains = changed_at d change p.domains })
changed-headed p change d old was heads h =
    record {
      one_live = λ a b x y at there live alive same.
          let first = got-changed change p.domains d a d old x was heads at in
          let second = got-changed change p.domains d b d old y was heads there in
          h.one_live a b first.0 second.0 first.1 second.1 (first.3 live) (second.3 alive) (sym first.2 ∙ same ∙ second.2);
      kernel_first = kernel-changed change p.domains d old h.kernel_first.0 was heads h.kernel_first.1 h.kernel_first.2 h.kernel_first.3;
    }

same_heads : (d : ℕ) (x y : Domain) → y.name ≡ x.name → y.live ≡ x.live → Heads d x y
same_heads d x y name live = record { name = name; live = λ alive. sym live ∙ alive; first = λ e alive. live ∙ alive }

-- A domain that is made

same_text : (x : Text) → texts_equal x x ≡ true
same_text [] = refl
same_text (b ∷ x) = and_from (b == b) (texts_equal x x) (eq-eqb b b refl) (same_text x)

pub position-none : {A : Type 0} (t : A → Bool) (i : ℕ) (xs : List A) (k : ℕ) (x : A) → position_from t i xs ≡ None → slice_get xs k ≡ Some x → t x ≡ false
position-none t i [] k x none at = absurd cc
position-none {A} t i (y ∷ xs) k x none at = go (t y) refl none k at (λ n e got. position-none t (i + 1) xs n x e got)
  where
    go : (b : Bool) → t y ≡ b → cond b (Some i) (position_from t (i + 1) xs) ≡ None → (n : ℕ) → slice_get (y ∷ xs) n ≡ Some x → ((m : ℕ) → position_from t (i + 1) xs ≡ None → slice_get xs m ≡ Some x → t x ≡ false) → t x ≡ false
    go true is e n got later = absurd cc
    go false is e zero got later = let same : y ≡ x = cc in rw (← same) is
    go false is e (suc m) got later = later m e got

-- no live domain has a name that a search doesn't find
none-live : (p : Policy) (name : DomainName) (d : ℕ) (x : Domain) → live_domain p name ≡ None → domain_at p d ≡ Some x → x.live ≡ true → x.name ≡ name → ⊥
unfolding live_domain
none-live p name d x none at live same =
    true≢false (sym (and_from x.live (texts_equal x.name name) live (rw same (same_text name))) ∙ position-none (λ (domain : Domain). domain.live && texts_equal domain.name name) 0 p.domains d x none at)

got-pushed : (xs : List Domain) (new : Domain) (d : ℕ) (x : Domain) → slice_get (xs ++ new ∷ []) d ≡ Some x → (slice_get xs d ≡ Some x) ⊎ ((d ≡ length xs) × (x ≡ new))
got-pushed [] new zero x at = inr (refl, (let same : new ≡ x = cc in sym same))
got-pushed [] new (suc d) x at = absurd cc
got-pushed (a ∷ xs) new zero x at = inl at
got-pushed (a ∷ xs) new (suc d) x at = go (got-pushed xs new d x at)
  where
    go : (slice_get xs d ≡ Some x) ⊎ ((d ≡ length xs) × (x ≡ new)) → (slice_get xs d ≡ Some x) ⊎ ((suc d ≡ suc (length xs)) × (x ≡ new))
    go (inl there) = inl there
    go (inr last) = inr (ap suc last.0, last.1)

get-front : (xs : List Domain) (new : Domain) (d : ℕ) (x : Domain) → slice_get xs d ≡ Some x → slice_get (xs ++ new ∷ []) d ≡ Some x
get-front [] new d x at = absurd cc
get-front (a ∷ xs) new zero x at = at
get-front (a ∷ xs) new (suc d) x at = get-front xs new d x at

made-headed : (p : Policy) (new : Domain) → live_domain p new.name ≡ None → Headed p → Headed (record p { domains = p.domains ++ new ∷ [] })
made-headed p new none h =
    record {
      one_live = λ d e x y at there live alive same. go d e x y live alive same (got-pushed p.domains new d x at) (got-pushed p.domains new e y there);
      kernel_first = (h.kernel_first.0, get-front p.domains new 0 h.kernel_first.0 h.kernel_first.1, h.kernel_first.2, h.kernel_first.3);
    }
  where
    go : (d e : ℕ) (x y : Domain) → x.live ≡ true → y.live ≡ true → x.name ≡ y.name → (slice_get p.domains d ≡ Some x) ⊎ ((d ≡ length p.domains) × (x ≡ new)) → (slice_get p.domains e ≡ Some y) ⊎ ((e ≡ length p.domains) × (y ≡ new)) → d ≡ e
    go d e x y live alive same (inl at) (inl there) = h.one_live d e x y at there live alive same
    go d e x y live alive same (inl at) (inr last) = absurd (none-live p new.name d x none at live (same ∙ ap (λ (z : Domain). z.name) last.1))
    go d e x y live alive same (inr last) (inl there) = absurd (none-live p new.name e y none there alive (sym same ∙ ap (λ (z : Domain). z.name) last.1))
    go d e x y live alive same (inr last) (inr end) = last.0 ∙ sym end.0

-- a live domain that a search finds has the name
live_named : (p : Policy) (name : DomainName) (d : ℕ) → live_domain p name ≡ Some d → (x : Domain) × (domain_at p d ≡ Some x) × (x.name ≡ name)
unfolding live_domain
live_named p name d e =
    let found = position_holds (λ (domain : Domain). domain.live && texts_equal domain.name name) 0 p.domains d e in (
      found.1,
      subst (λ k. domain_at p k ≡ Some found.1) (let is : d ≡ 0 + found.0 = found.2 in let same : found.0 ≡ d = omega arith in same) found.3,
      same_texts found.1.name name (and_parts found.1.live (texts_equal found.1.name name) found.4).1,
    )

-- Policy lines

abbrev Headed_by : Edited → Type 0
Headed_by done = Headed done.policy

by_test : (b : Bool) (one other : Edited) → Headed_by one → Headed_by other → Headed_by (if b then one else other)
by_test true one other h k = h
by_test false one other h k = k

module _ (p : Policy) (cursor : Cursor) (h : Headed p) where
  -- name and life of the chosen domain stay
  chosen-headed : (change : ℕ → Domain → Edited) → ((d : ℕ) (x : Domain) → domain_at p d ≡ Some x → Headed_by (change d x)) → Headed_by (on_chosen p cursor change)
  chosen-headed change f = by_cursor cursor
    where
      by_live : (d : ℕ) (x : Domain) → domain_at p d ≡ Some x → (b : Bool) → Headed_by (option_map_or (λ (pair : ℕ × Domain). change pair.0 pair.1) (if b then Some (d, x) else None) (refused p cursor EditReply.NoDomain))
      by_live d x at true = f d x at
      by_live d x at false = h

      by_domain : (d : ℕ) (o : Option Domain) → domain_at p d ≡ o → Headed_by (option_map_or (λ (pair : ℕ × Domain). change pair.0 pair.1) (option_and_then (λ (domain : Domain). if domain.live then Some (d, domain) else None) o) (refused p cursor EditReply.NoDomain))
      by_domain d None at = h
      by_domain d (Some x) at = by_live d x at x.live

      by_cursor : (c : Cursor) → Headed_by (option_map_or (λ (pair : ℕ × Domain). change pair.0 pair.1) (chosen p c) (refused p cursor EditReply.NoDomain))
      by_cursor None = h
      by_cursor (Some d) = by_domain d (domain_at p d) refl

  stays : (new : Domain → Domain) → ((x : Domain) → (new x).name ≡ x.name) → ((x : Domain) → (new x).live ≡ x.live) → (d : ℕ) (x : Domain) → domain_at p d ≡ Some x → Headed_by (changed_domain p cursor d (new x))
  stays new name live d x at = changed-headed p (λ z. new x) d x at (same_heads d x (new x) (name x) (live x)) h

  removing-stays : (there : Domain → Bool) (new : Domain → Domain) → ((x : Domain) → (new x).name ≡ x.name) → ((x : Domain) → (new x).live ≡ x.live) → (d : ℕ) (x : Domain) → domain_at p d ≡ Some x → Headed_by (removing p cursor (there x) (changed_domain p cursor d (new x)))
  removing-stays there new name live d x at = by_test (there x) _ _ (stays new name live d x at) h

  choosing-headed : (name : DomainName) → Headed_by (choosing p cursor name)
  choosing-headed name = go (live_domain p name) refl
    where
      making : live_domain p name ≡ None → Headed_by (making_domain p cursor name)
      making none = by_test (p.opened && not (is_some (profile_numbered p (namespace_word name) 0))) _ _ h (made-headed p (new_domain name 0 []) none h)

      go : (o : Option ℕ) → live_domain p name ≡ o → Headed_by (option_map_or (λ d. edited p (Some d)) o (making_domain p cursor name))
      go None e = making e
      go (Some d) e = h

  selecting-headed : (name : DomainName) → Headed_by (selecting p name)
  selecting-headed name = go (live_domain p name)
    where
      go : (o : Option ℕ) → Headed_by (option_map_or (λ d. edited p (Some d)) o (refused p None EditReply.NoDomain))
      go None = h
      go (Some d) = h

  -- `<kernel>` isn't deleted
  deleting-headed : (name : DomainName) → name ≢ kernel → Headed_by (deleting_domain p cursor name)
  deleting-headed name other = go (live_domain p name) refl
    where
      go : (o : Option ℕ) → live_domain p name ≡ o → Headed_by (option_map_or (λ d. edited (record p { domains = changed_at d dead p.domains }) None) o (refused p cursor EditReply.NoSuchLine))
      go None e = h
      go (Some d) e =
          let found = live_named p name d e in
          changed-headed p dead d found.0 found.1
          (record { name = refl; live = λ alive. absurd (true≢false (sym alive)); first = λ zero_ alive. absurd (other (sym found.2 ∙ kernel_name d found.0 zero_ found.1)) })
          h
        where
          kernel_name : (k : ℕ) (x : Domain) → k ≡ 0 → domain_at p k ≡ Some x → x.name ≡ kernel
          kernel_name k x zero_ at =
              let there : domain_at p 0 ≡ Some x = rw zero_ at at in
              let both : Some h.kernel_first.0 ≡ Some x = sym h.kernel_first.1 ∙ there in
              let same : h.kernel_first.0 ≡ x = cc in
              ap (λ (z : Domain). z.name) (sym same) ∙ h.kernel_first.2

  domain-headed : (rule : DomainRule) → ((name : DomainName) → rule ≡ DomainRule.Delete name → name ≢ kernel) → Headed_by (domain_line p cursor rule)
  unfolding domain_line
  domain-headed (DomainRule.Choose name) other = choosing-headed name
  domain-headed (DomainRule.Select name) other = selecting-headed name
  domain-headed (DomainRule.Delete name) other = deleting-headed name (other name refl)
  domain-headed (DomainRule.UseProfile n) other =
      chosen-headed _ (λ d x at. by_test (is_some (profile_numbered p (namespace_word x.name) n)) _ _ (stays (λ z. record z { profile = n }) (λ z. refl) (λ z. refl) d x at) h)
  domain-headed (DomainRule.UseGroup false n) other = chosen-headed _ (stays (λ x. record x { groups = put_key n tt x.groups }) (λ x. refl) (λ x. refl))
  domain-headed (DomainRule.UseGroup true n) other = chosen-headed _ (removing-stays (λ x. is_some (at_key x.groups n)) (λ x. record x { groups = remove_key n x.groups }) (λ x. refl) (λ x. refl))
  domain-headed (DomainRule.QuotaExceeded false) other = chosen-headed _ (stays (λ x. record x { quota_exceeded = true }) (λ x. refl) (λ x. refl))
  domain-headed (DomainRule.QuotaExceeded true) other = chosen-headed _ (removing-stays (λ x. x.quota_exceeded) (λ x. record x { quota_exceeded = false }) (λ x. refl) (λ x. refl))
  domain-headed (DomainRule.TransitionFailed false) other = chosen-headed _ (stays (λ x. record x { transition_failed = true }) (λ x. refl) (λ x. refl))
  domain-headed (DomainRule.TransitionFailed true) other = chosen-headed _ (removing-stays (λ x. x.transition_failed) (λ x. record x { transition_failed = false }) (λ x. refl) (λ x. refl))
  domain-headed (DomainRule.Acl false entry) other = chosen-headed _ (stays (λ x. record x { entries = adding entry x.entries }) (λ x. refl) (λ x. refl))
  domain-headed (DomainRule.Acl true entry) other = chosen-headed _ (removing-stays (λ x. has_part entry x.entries) (λ x. record x { entries = deleting entry x.entries }) (λ x. refl) (λ x. refl))

  except-headed : (delete : Bool) (name : Text) (rule : ExceptRule) → Headed_by (except_line p cursor delete name rule)
  unfolding except_line
  except-headed false name rule = same-headed p (except_line p cursor false name rule).policy refl h
  except-headed true name rule = by_test (except_there rule (namespace_named p name)) _ _ (same-headed p (record p { namespaces = _ }) refl h) h

  manager-headed : (delete : Bool) (rule : ManagerRule) → Headed_by (manager_line p cursor delete rule)
  unfolding manager_line
  manager-headed false ManagerRule.ByNonRoot = same-headed p (record p { by_non_root = true }) refl h
  manager-headed true ManagerRule.ByNonRoot = by_test p.by_non_root _ _ (same-headed p (record p { by_non_root = false }) refl h) h
  manager-headed false (ManagerRule.Name name) = same-headed p (record p { managers = joining texts_equal name p.managers }) refl h
  manager-headed true (ManagerRule.Name name) = by_test (list_any (texts_equal name) p.managers) _ _ (same-headed p (record p { managers = leaving texts_equal name p.managers }) refl h) h

  group-headed : (line : GroupLine) → Headed_by (group_line p cursor line)
  unfolding group_line
  group-headed line =
      by_test line.delete _ _
      (by_test (has_part line.entry (acl_group (namespace_named p line.namespace) line.group)) _ _ (same-headed p (changing_namespace p line.namespace (λ ns. with_group line.group (deleting line.entry (acl_group ns line.group)) ns)) refl h) h)
      (same-headed p (changing_namespace p line.namespace (λ ns. with_group line.group (adding line.entry (acl_group ns line.group)) ns)) refl h)

pub line-headed : (g : Grammar) (p : Policy) (file : FileKind) (cursor : Cursor) (line : Text) → IsGrammar g → Headed p → Headed (apply_line g p file cursor line).policy
unfolding apply_line apply_read
line-headed g p file cursor line grammar h = go (g.read_line file line) refl
  where
    go : (r : Result PolicyLine LineKind) → g.read_line file line ≡ r → Headed (apply_parsed p cursor r).policy
    go (Err kind) e = h
    go (Ok PolicyLine.Nothing) e = h
    go (Ok (PolicyLine.Profile effect)) e = same-headed p (apply_parsed p cursor (Ok (PolicyLine.Profile effect))).policy refl h
    go (Ok (PolicyLine.Exception rule)) e = except-headed p cursor h rule.delete rule.namespace rule.rule
    go (Ok (PolicyLine.Group entry)) e = group-headed p cursor h entry
    go (Ok (PolicyLine.Domain rule)) e = domain-headed p cursor h rule (λ name is same. grammar.kernel_stays file line (e ∙ ap (λ r. Ok (PolicyLine.Domain r)) (is ∙ ap DomainRule.Delete same)))
    go (Ok (PolicyLine.Manager delete rule)) e = manager-headed p cursor h delete rule

-- Steps

-- what an opened policy keeps, in two parts
abbrev pub Both : Policy → Type 0
Both p = Sound p × Headed p

module _ (g : Grammar) (grammar : IsGrammar g) (s : State) (both : Both s.policy) where
  learn-both : (d : ℕ) (entry : Entry) → Both (apply g s (Step.Learn d entry)).state.policy
  unfolding apply learn
  learn-both d entry = by_fit (fits_entry g entry) refl
    where
      by_profile : fits_entry g entry ≡ true → (x : Domain) → domain_at s.policy d ≡ Some x → (o : Option Profile) → profile_of s.policy x ≡ o → Both (apply g s (Step.Learn d entry)).state.policy
      by_profile e x at None has = rw (e, at, has) both
      by_profile e x at (Some profile) has =
          let reply : LearnReply = learn_reply profile x entry in (
            (ready-fits g s (Step.Learn d entry) both.0 (e, (let there : DomainIn s.policy d = record { domain = x; there = at; profile = profile; profiled = has } in there))).evolves.sound,
            rw (e, at, has) (changed-headed s.policy (λ z. learned_domain reply x entry) d x at (learned_heads reply) both.1),
          )
        where
          learned_heads : (reply : LearnReply) → Heads d x (learned_domain reply x entry)
          learned_heads LearnReply.Added = same_heads d x (learned_domain LearnReply.Added x entry) refl refl
          learned_heads LearnReply.There = same_heads d x x refl refl
          learned_heads LearnReply.Mode = same_heads d x x refl refl
          learned_heads LearnReply.Quota = same_heads d x (learned_domain LearnReply.Quota x entry) refl refl

      by_domain : fits_entry g entry ≡ true → (o : Option Domain) → domain_at s.policy d ≡ o → Both (apply g s (Step.Learn d entry)).state.policy
      by_domain e None at = rw (e, at) both
      by_domain e (Some x) at = by_profile e x at (profile_of s.policy x) refl

      by_fit : (b : Bool) → fits_entry g entry ≡ b → Both (apply g s (Step.Learn d entry)).state.policy
      by_fit false e = rw e both
      by_fit true e = by_domain e (domain_at s.policy d) refl

  fail-both : (d : ℕ) → Both (apply g s (Step.Fail d)).state.policy
  unfolding apply fail
  fail-both d = by_domain (domain_at s.policy d) refl
    where
      by_profile : (x : Domain) → domain_at s.policy d ≡ Some x → (o : Option Profile) → profile_of s.policy x ≡ o → Both (apply g s (Step.Fail d)).state.policy
      by_profile x at None has = rw (at, has) both
      by_profile x at (Some profile) has = (
        (ready-fits g s (Step.Fail d) both.0 (record { domain = x; there = at; profile = profile; profiled = has })).evolves.sound,
        rw (at, has) (changed-headed s.policy (λ z. record x { transition_failed = true }) d x at (same_heads d x (record x { transition_failed = true }) refl refl) both.1),
      )

      by_domain : (o : Option Domain) → domain_at s.policy d ≡ o → Both (apply g s (Step.Fail d)).state.policy
      by_domain None at = rw at both
      by_domain (Some x) at = by_profile x at (profile_of s.policy x) refl

  make-both : (d : ℕ) (name : DomainName) → Both (apply g s (Step.Make d name)).state.policy
  unfolding apply make
  make-both d name = by_fit (fits_name g s d name) refl
    where
      by_live : (x : Domain) (o : Option ℕ) → live_domain s.policy name ≡ o → Headed (option_map_or (λ n. (s.policy, MakeReply.Old n)) o (made_new s.policy name x)).0
      by_live x None e = made-headed s.policy (new_domain name x.profile x.groups) e both.1
      by_live x (Some n) e = both.1

      by_profile : fits_name g s d name ≡ true → (x : Domain) → domain_at s.policy d ≡ Some x → (o : Option Profile) → profile_of s.policy x ≡ o → Both (apply g s (Step.Make d name)).state.policy
      by_profile e x at None has = rw (e, at, has) both
      by_profile e x at (Some profile) has =
          let there : DomainIn s.policy d = record { domain = x; there = at; profile = profile; profiled = has } in
          let right : (is_domain_name g.is_path name && texts_equal (namespace_word name) (namespace_word x.name)) ≡ true = rw at at e in
          ((ready-fits g s (Step.Make d name) both.0 (there, right)).evolves.sound, rw (e, at, has) (by_live x (live_domain s.policy name) refl))

      by_domain : fits_name g s d name ≡ true → (o : Option Domain) → domain_at s.policy d ≡ o → Both (apply g s (Step.Make d name)).state.policy
      by_domain e None at = rw (e, at) both
      by_domain e (Some x) at = by_profile e x at (profile_of s.policy x) refl

      by_fit : (b : Bool) → fits_name g s d name ≡ b → Both (apply g s (Step.Make d name)).state.policy
      by_fit false e = rw e both
      by_fit true e = by_domain e (domain_at s.policy d) refl

  edit-both : (e : ℕ) (file : FileKind) (line : Text) → Both (apply g s (Step.Edit e file line)).state.policy
  unfolding apply edit_step
  edit-both zero file line = both
  edit-both (suc e) file line = by_editor (slice_get s.editors e) refl
    where
      by_manager : (editor : Editor) (b : Bool) → not (is_manager s.policy editor) ≡ b → Both (edit_step g s e file line editor (unwrap_or (slice_get s.cursors e) None)).state.policy
      by_manager editor true is = rw is both
      by_manager editor false is =
          rw is ((line-evolves g s.policy file (unwrap_or (slice_get s.cursors e) None) line grammar both.0).sound, line-headed g s.policy file (unwrap_or (slice_get s.cursors e) None) line grammar both.1)

      by_editor : (o : Option Editor) → slice_get s.editors e ≡ o → Both (apply g s (Step.Edit (suc e) file line)).state.policy
      by_editor None is = rw is both
      by_editor (Some editor) is = rw is (by_manager editor (not (is_manager s.policy editor)) refl)

  ask-both : (d retry : ℕ) (text : Text) → Both (apply g s (Step.Ask d retry text)).state.policy
  unfolding apply
  ask-both d retry text = go (in_domain s.policy d (λ domain profile. domain.name)) refl
    where
      go : (o : Option Text) → in_domain s.policy d (λ domain profile. domain.name) ≡ o → Both (apply g s (Step.Ask d retry text)).state.policy
      go None is = rw is both
      go (Some name) is = rw is both

  end-both : (t : ℕ) → Both (apply g s (Step.End t)).state.policy
  unfolding apply
  end-both t = go (nat_lt 0 t && nat_le t s.trees) refl
    where
      go : (b : Bool) → (nat_lt 0 t && nat_le t s.trees) ≡ b → Both (apply g s (Step.End t)).state.policy
      go true is = rw is both
      go false is = rw is both

  -- every step
  step-both : (step : Step) → Both (apply g s step).state.policy
  unfolding apply
  step-both (Step.Learn d entry) = learn-both d entry
  step-both (Step.Make d name) = make-both d name
  step-both (Step.Fail d) = fail-both d
  step-both (Step.Ask d retry text) = ask-both d retry text
  step-both (Step.Answer serial code) = both
  step-both Step.Attach = both
  step-both Step.Detach = both
  step-both (Step.Edit e file line) = edit-both e file line
  step-both (Step.End t) = end-both t

-- An opened policy stays opened

both-of : (p : Policy) → IsOpened p → Both p
both-of p h = (record { opened = h.opened; profiles = h.profiles; aggregators = h.aggregators }, record { one_live = h.one_live; kernel_first = h.kernel_first })

opened-of : (p : Policy) → Both p → IsOpened p
opened-of p h = record { opened = h.0.opened; one_live = h.1.one_live; kernel_first = h.1.kernel_first; profiles = h.0.profiles; aggregators = h.0.aggregators }

-- whatever the line
pub line_keeps_opened : (g : Grammar) (p : Policy) (file : FileKind) (cursor : Cursor) (line : Text) → IsGrammar g → IsOpened p → IsOpened (apply_line g p file cursor line).policy
line_keeps_opened g p file cursor line grammar h =
    let both : Both p = both-of p h in
    opened-of (apply_line g p file cursor line).policy ((line-evolves g p file cursor line grammar both.0).sound, line-headed g p file cursor line grammar both.1)

-- whatever the step
pub step_keeps_opened : (g : Grammar) (s : State) (step : Step) → IsGrammar g → IsOpened s.policy → IsOpened (apply g s step).state.policy
step_keeps_opened g s step grammar h = opened-of (apply g s step).state.policy (step-both g grammar s (both-of s.policy h) step)

-- whatever the steps
pub steps_keep_opened : (g : Grammar) (s : State) (steps : List Step) → IsGrammar g → IsOpened s.policy → IsOpened (after g s steps).policy
unfolding after
steps_keep_opened g s [] grammar h = h
steps_keep_opened g s (step ∷ steps) grammar h = steps_keep_opened g (apply g s step).state steps grammar (step_keeps_opened g s step grammar h)

-- so the policy in which a run ends is opened
pub final_is_opened : (scene : Scene) (run : Run) → CanPlay scene → IsOpened (final_policy scene run)
final_is_opened scene run can = steps_keep_opened scene.grammar (opening_of scene) (steps_of run.steps) can.grammar can.opened
