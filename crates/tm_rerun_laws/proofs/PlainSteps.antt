-- What a clean step changes.
use Rattle.std.proofs.Common.{◌≡◌, ℕ, zero, suc, List, [], ◌∷◌, Bool, true, false, true≢false, refl, sym, ap, ◌∙◌, subst}
use Rattle.std.specs.Prelude.{Option, Some, None, ◌&&◌, nat_lt, nat_le, if◌then◌else◌, slice_get, slice_set, option_map, unwrap_or, not, map}
use Rattle.std.specs.List.{AllByRecursion}
use Rattle.std.specs.Option.{option_and_then, option_map_or}
use Rattle.tm_word.specs.Prelude.{Text}
use Rattle.tm_rules.specs.Prelude.{Cursor, Edited, Grammar, IsGrammar, apply_line, ask, changed_at, closed, detach, domain_at, in_domain, is_clean_step, is_done, is_manager, learn, learn_reply, learned_domain, live_domain, made_new, make, profile_of, put_member, with_domain}
use Rattle.tm_rules.specs.Types.{Domain, EditReply, Editor, Entry, FileKind, LearnReply, MakeReply, Policy, Profile, Reply, Step}
use Rattle.tm_legal.specs.Prelude.{Applied, History, Replies, State, after, apply, at, edit_step, fits_entry, fits_name, on_policy, on_queries, steps_of, unfit}
use Rattle.tm_rerun_laws.proofs.QuietLines.{Quietly, line-quietly, quiet-lines-grow}
use Rattle.tm_rerun_laws.proofs.PlainLaws.{Plain, Cleanly, LearnsPlain, cleanly-plain}

-- the same element in its place
changed-same : {A : Type 0} (xs : List A) (d : ℕ) (x : A) → slice_get xs d ≡ Some x → changed_at d (λ y. x) xs ≡ xs
changed-same [] d x at = refl
changed-same (y ∷ xs) zero x at = let same : y ≡ x = cc in ap (λ z. z ∷ xs) (sym same)
changed-same (y ∷ xs) (suc d) x at = ap (λ zs. y ∷ zs) (changed-same xs d x at)

stays : (step : Step) (p : Policy) → Cleanly step p p
stays step p = Cleanly.Quiet (Quietly.Others refl refl)

module _ (g : Grammar) (grammar : IsGrammar g) where
  -- a step that the machine replied so, and that is clean
  abbrev Changes : Step → Policy → Applied → Type 0
  Changes step p done = (r : Reply) → done.reply ≡ Some r → is_clean_step (step, r) ≡ true → Cleanly step p done.state.policy

  learn-changes : (s : State) (d : ℕ) (entry : Entry) → Changes (Step.Learn d entry) s.policy (on_policy s Reply.Learn (learn s.policy d entry))
  unfolding learn
  learn-changes s d entry = by_domain (domain_at s.policy d) refl
    where
      by_reply : (x : Domain) → domain_at s.policy d ≡ Some x → (reply : LearnReply) → Changes (Step.Learn d entry) s.policy (on_policy s Reply.Learn (Some (with_domain s.policy d (learned_domain reply x entry), reply)))
      by_reply x at LearnReply.Added r e clean = Cleanly.Learned d x entry refl at refl
      by_reply x at LearnReply.There r e clean = Cleanly.Quiet (Quietly.Others (changed-same s.policy.domains d x at) refl)
      by_reply x at LearnReply.Mode r e clean = Cleanly.Quiet (Quietly.Others (changed-same s.policy.domains d x at) refl)
      by_reply x at LearnReply.Quota r e clean = absurd (true≢false (sym clean ∙ (let is : r ≡ Reply.Learn LearnReply.Quota = cc in rw is refl)))

      by_profile : (x : Domain) → domain_at s.policy d ≡ Some x → (o : Option Profile) → Changes (Step.Learn d entry) s.policy (on_policy s Reply.Learn (option_map (λ profile. (with_domain s.policy d (learned_domain (learn_reply profile x entry) x entry), learn_reply profile x entry)) o))
      by_profile x at None r e clean = absurd cc
      by_profile x at (Some profile) r e clean = by_reply x at (learn_reply profile x entry) r e clean

      by_domain : (o : Option Domain) → domain_at s.policy d ≡ o → Changes (Step.Learn d entry) s.policy (on_policy s Reply.Learn (option_and_then (λ x. option_map (λ profile. (with_domain s.policy d (learned_domain (learn_reply profile x entry) x entry), learn_reply profile x entry)) (profile_of s.policy x)) o))
      by_domain None at r e clean = absurd cc
      by_domain (Some x) at r e clean = by_profile x at (profile_of s.policy x) r e clean

  make-changes : (s : State) (d : ℕ) (name : Text) → Changes (Step.Make d name) s.policy (on_policy s Reply.Make (make s.policy d name))
  unfolding make
  make-changes s d name = by_domain (domain_at s.policy d)
    where
      by_live : (x : Domain) (o : Option ℕ) → Changes (Step.Make d name) s.policy (on_policy s Reply.Make (Some (option_map_or (λ n. (s.policy, MakeReply.Old n)) o (made_new s.policy name x))))
      by_live x None r e clean = Cleanly.Made _ refl refl
      by_live x (Some n) r e clean = stays (Step.Make d name) s.policy

      by_profile : (x : Domain) (o : Option Profile) → Changes (Step.Make d name) s.policy (on_policy s Reply.Make (option_map (λ profile. option_map_or (λ n. (s.policy, MakeReply.Old n)) (live_domain s.policy name) (made_new s.policy name x)) o))
      by_profile x None r e clean = absurd cc
      by_profile x (Some profile) r e clean = by_live x (live_domain s.policy name) r e clean

      by_domain : (o : Option Domain) → Changes (Step.Make d name) s.policy (on_policy s Reply.Make (option_and_then (λ x. option_map (λ profile. option_map_or (λ n. (s.policy, MakeReply.Old n)) (live_domain s.policy name) (made_new s.policy name x)) (profile_of s.policy x)) o))
      by_domain None r e clean = absurd cc
      by_domain (Some x) r e clean = by_profile x (profile_of s.policy x) r e clean

  edit-changes : (s : State) (k : ℕ) (file : FileKind) (line : Text) (editor : Editor) (c : Cursor) → Changes (Step.Edit (suc k) file line) s.policy (edit_step g s k file line editor c)
  unfolding edit_step
  edit-changes s k file line editor c = by_manager (not (is_manager s.policy editor))
    where
      done : Edited
      done = apply_line g s.policy file c line

      step : Step
      step = Step.Edit (suc k) file line

      same : is_done done.reply ≡ false → Cleanly step s.policy done.policy
      same e = subst (λ q. Cleanly step s.policy q) (sym ((quiet-lines-grow g grammar).refused s.policy file c line e)) (stays step s.policy)

      by_reply : (reply : EditReply) → done.reply ≡ reply → (r : Reply) → Some (Reply.Edit reply) ≡ Some r → is_clean_step (step, r) ≡ true → Cleanly step s.policy done.policy
      by_reply EditReply.Done is r e clean = Cleanly.Quiet (line-quietly g s.policy file c line grammar (subst (λ q. is_clean_step (step, q) ≡ true) (let back : r ≡ Reply.Edit EditReply.Done = cc in back) clean))
      by_reply EditReply.NotManager is r e clean = same (rw is refl)
      by_reply (EditReply.BadLine kind) is r e clean = same (rw is refl)
      by_reply EditReply.NoDomain is r e clean = same (rw is refl)
      by_reply EditReply.NoProfile is r e clean = same (rw is refl)
      by_reply EditReply.NoSuchLine is r e clean = same (rw is refl)

      by_manager : (b : Bool) → Changes step s.policy (if b then (let a : Applied = record { state = s; reply = Some (Reply.Edit EditReply.NotManager) } in a) else (let a : Applied = record { state = record s { policy = done.policy; cursors = slice_set s.cursors k done.cursor }; reply = Some (Reply.Edit done.reply) } in a))
      by_manager true r e clean = stays step s.policy
      by_manager false r e clean = by_reply done.reply refl r e clean

  pub step-changes : (s : State) (step : Step) → Changes step s.policy (apply g s step)
  unfolding apply detach
  step-changes s (Step.Learn d entry) = by_fit (fits_entry g entry)
    where
      by_fit : (b : Bool) → Changes (Step.Learn d entry) s.policy (if b then on_policy s Reply.Learn (learn s.policy d entry) else unfit s)
      by_fit true r e clean = learn-changes s d entry r e clean
      by_fit false r e clean = absurd cc
  step-changes s (Step.Make d name) = by_fit (fits_name g s d name)
    where
      by_fit : (b : Bool) → Changes (Step.Make d name) s.policy (if b then on_policy s Reply.Make (make s.policy d name) else unfit s)
      by_fit true r e clean = make-changes s d name r e clean
      by_fit false r e clean = absurd cc
  step-changes s (Step.Fail d) = λ r e clean. absurd (true≢false (sym clean))
  step-changes s (Step.Ask d retry line) = by_name (in_domain s.policy d (λ domain profile. domain.name))
    where
      by_name : (o : Option Text) → Changes (Step.Ask d retry line) s.policy (option_map_or (λ name. on_queries s Reply.Ask (ask s.queries name line retry)) o (unfit s))
      by_name None r e clean = stays _ s.policy
      by_name (Some name) r e clean = stays _ s.policy
  step-changes s (Step.Answer serial code) = λ r e clean. stays _ s.policy
  step-changes s Step.Attach = λ r e clean. stays _ s.policy
  step-changes s Step.Detach = λ r e clean. by_flag s.queries.attached
    where
      by_flag : (b : Bool) → Cleanly Step.Detach s.policy (on_queries s Reply.Detach (if b then (record { attached = false; all = map closed s.queries.all }, true) else (s.queries, false))).state.policy
      by_flag true = stays Step.Detach s.policy
      by_flag false = stays Step.Detach s.policy
  step-changes s (Step.Edit zero file line) = λ r e clean. stays _ s.policy
  step-changes s (Step.Edit (suc k) file line) = by_editor (slice_get s.editors k)
    where
      by_editor : (o : Option Editor) → Changes (Step.Edit (suc k) file line) s.policy (option_map_or (λ editor. edit_step g s k file line editor (unwrap_or (slice_get s.cursors k) None)) o (unfit s))
      by_editor None r e clean = stays _ s.policy
      by_editor (Some editor) r e clean = edit-changes s k file line editor (unwrap_or (slice_get s.cursors k) None) r e clean
  step-changes s (Step.End t) = by_there (nat_lt 0 t && nat_le t s.trees)
    where
      by_there : (b : Bool) → Changes (Step.End t) s.policy (if b then (let done : Applied = record { state = record s { ended = put_member t s.ended }; reply = Some Reply.End } in done) else unfit s)
      by_there true r e clean = stays _ s.policy
      by_there false r e clean = stays _ s.policy

  -- over a clean history in which plain lines are learned
  pub history-plain : (s : State) (h : History) → Replies g s h → AllByRecursion (λ pair. is_clean_step pair ≡ true) h → AllByRecursion (λ pair. LearnsPlain pair.0) h → Plain s.policy → (k : ℕ) → Plain (at g s (steps_of h) k).policy
  unfolding after
  history-plain s h replies clean learns plain zero = plain
  history-plain s [] replies clean learns plain (suc k) = plain
  history-plain s (pair ∷ h) replies clean learns plain (suc k) =
      history-plain (apply g s pair.0).state h replies.1 clean.1 learns.1 (cleanly-plain pair.0 s.policy (apply g s pair.0).state.policy (step-changes s pair.0 pair.1 replies.0 clean.0) learns.0 plain) k
