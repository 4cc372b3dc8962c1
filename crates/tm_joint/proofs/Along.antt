-- What others' steps leave: a query that is first stays first, and no query comes where nobody
-- asks; a tree is over only by its own end.
use Rattle.std.proofs.Common.{◌≡◌, ◌≤◌, ◌<◌, ℕ, zero, suc, ◌+◌, List, [], ◌∷◌, ◌++◌, length, take, Bool, true, false, true≢false, refl, sym, ap, ◌∙◌, subst, arith, inl, inr, ◌⊎◌}
use Rattle.std.specs.Prelude.{Option, Some, None, if◌then◌else◌, ◌&&◌, slice_get, slice_set, unwrap_or, is_some, not, nat_lt, nat_le}
use Rattle.std.specs.Option.{option_map_or}
use Rattle.std.proofs.lemmas.Bool.{and_parts, leb-true, ltb-true}
use Rattle.tm_word.specs.Prelude.{Text}
use Rattle.tm_rules.specs.Prelude.{Cursor, Edited, Grammar, Queries, Standing, apply_line, ask, fail, first_query, first_unanswered, in_domain, is_manager, learn, make, put_member}
use Rattle.tm_rules.specs.Types.{EditReply, Editor, FileKind, Held, Made, Policy, Query, Reply, Step}
use Rattle.tm_legal.specs.Prelude.{Applied, Scene, State, after, apply, edit_by, edit_step, fits_entry, fits_name, is_end, is_some_end, on_policy, on_queries, opening_of, state_at, steps_of, unfit}
use Rattle.tm_legal.proofs.Histories.{state_at-next}
use Rattle.tm_legal.proofs.Walks.{is_over}
use Rattle.tm_legal.proofs.Onward.{over-put, length-put}
use Rattle.tm_legal.proofs.Scripts.{over_count, counted-put, counted-none}
use Rattle.tm_made.specs.Made.{history_made, made_step}
use Rattle.tm_made.proofs.Telling.{step_at-made}
use Rattle.tm_made.proofs.Fits.{steps-last}
use Rattle.tm_joint.proofs.NumberKinds.{is_of_desk, end-of}

-- somebody is asked
abbrev pub is_ask : Step → Bool
is_ask (Step.Ask d retry line) = true
is_ask _ = false

-- One step

-- queries and ended trees are as they were
pub record Aside (s s' : State) : Type 0 where
  pub queries : s'.queries ≡ s.queries
  pub ended : s'.ended ≡ s.ended

aside-policy : {R : Type 0} (s : State) (reply : R → Reply) (o : Option (Policy × R)) → Aside s (on_policy s reply o).state
aside-policy s reply None = record { queries = refl; ended = refl }
aside-policy s reply (Some done) = record { queries = refl; ended = refl }

aside-test : (s : State) (b : Bool) (done : Applied) → Aside s done.state → Aside s (if b then done else unfit s).state
aside-test s true done h = h
aside-test s false done h = record { queries = refl; ended = refl }

aside-edit : (g : Grammar) (s : State) (e : ℕ) (file : FileKind) (line : Text) → Aside s (edit_by g s e file line).state
unfolding edit_step
aside-edit g s zero file line = record { queries = refl; ended = refl }
aside-edit g s (suc e) file line = by_editor (slice_get s.editors e)
  where
    cursor : Cursor
    cursor = unwrap_or (slice_get s.cursors e) None

    done : Edited
    done = apply_line g s.policy file cursor line

    by_manager : (b : Bool) → Aside s (if b then (let a : Applied = record { state = s; reply = Some (Reply.Edit EditReply.NotManager) } in a) else (let a : Applied = record { state = record s { policy = done.policy; cursors = slice_set s.cursors e done.cursor }; reply = Some (Reply.Edit done.reply) } in a)).state
    by_manager true = record { queries = refl; ended = refl }
    by_manager false = record { queries = refl; ended = refl }

    by_editor : (o : Option Editor) → Aside s (option_map_or (λ editor. edit_step g s e file line editor cursor) o (unfit s)).state
    by_editor None = record { queries = refl; ended = refl }
    by_editor (Some editor) = by_manager (not (is_manager s.policy editor))

module _ (g : Grammar) (s : State) where
  -- only an Ask and the supervisor change the queries
  pub queries-kept : (step : Step) → is_of_desk step ≡ false → is_ask step ≡ false → (apply g s step).state.queries ≡ s.queries
  unfolding apply
  queries-kept (Step.Learn d entry) a b = (aside-test s (fits_entry g entry) (on_policy s Reply.Learn (learn s.policy d entry)) (aside-policy s Reply.Learn (learn s.policy d entry))).queries
  queries-kept (Step.Make d name) a b = (aside-test s (fits_name g s d name) (on_policy s Reply.Make (make s.policy d name)) (aside-policy s Reply.Make (make s.policy d name))).queries
  queries-kept (Step.Fail d) a b = (aside-policy s Reply.Fail (fail s.policy d)).queries
  queries-kept (Step.Ask d retry line) a b = absurd (true≢false b)
  queries-kept (Step.Answer serial code) a b = absurd (true≢false a)
  queries-kept Step.Attach a b = absurd (true≢false a)
  queries-kept Step.Detach a b = absurd (true≢false a)
  queries-kept (Step.Edit e file line) a b = (aside-edit g s e file line).queries
  queries-kept (Step.End t) a b = go (nat_lt 0 t && nat_le t s.trees)
    where
      go : (b : Bool) → (if b then (let done : Applied = record { state = record s { ended = put_member t s.ended }; reply = Some Reply.End } in done) else unfit s).state.queries ≡ s.queries
      go true = refl
      go false = refl

  -- only an end changes which trees have ended
  pub ended-kept : (step : Step) → is_some_end step ≡ false → (apply g s step).state.ended ≡ s.ended
  unfolding apply
  ended-kept (Step.Learn d entry) a = (aside-test s (fits_entry g entry) (on_policy s Reply.Learn (learn s.policy d entry)) (aside-policy s Reply.Learn (learn s.policy d entry))).ended
  ended-kept (Step.Make d name) a = (aside-test s (fits_name g s d name) (on_policy s Reply.Make (make s.policy d name)) (aside-policy s Reply.Make (make s.policy d name))).ended
  ended-kept (Step.Fail d) a = (aside-policy s Reply.Fail (fail s.policy d)).ended
  ended-kept (Step.Ask d retry line) a = go (in_domain s.policy d (λ domain profile. domain.name))
    where
      go : (o : Option Text) → (option_map_or (λ name. on_queries s Reply.Ask (ask s.queries name line retry)) o (unfit s)).state.ended ≡ s.ended
      go None = refl
      go (Some name) = refl
  ended-kept (Step.Answer serial code) a = refl
  ended-kept Step.Attach a = refl
  ended-kept Step.Detach a = refl
  ended-kept (Step.Edit e file line) a = (aside-edit g s e file line).ended
  ended-kept (Step.End t) a = absurd (true≢false a)

  -- an end, where the tree is there
  pub ended-by : (t : ℕ) → ((0 < t) × (t ≤ s.trees) × ((apply g s (Step.End t)).state.ended ≡ put_member t s.ended)) ⊎ ((apply g s (Step.End t)).state.ended ≡ s.ended)
  unfolding apply
  ended-by t = go (nat_lt 0 t && nat_le t s.trees) refl
    where
      go : (b : Bool) → (nat_lt 0 t && nat_le t s.trees) ≡ b → (let done : Applied = if b then (let there : Applied = record { state = record s { ended = put_member t s.ended }; reply = Some Reply.End } in there) else unfit s in ((0 < t) × (t ≤ s.trees) × (done.state.ended ≡ put_member t s.ended)) ⊎ (done.state.ended ≡ s.ended))
      go true e = let parts = and_parts (nat_lt 0 t) (nat_le t s.trees) e in inl (ltb-true 0 t parts.0, leb-true t s.trees parts.1, refl)
      go false e = inr refl

-- a tree that has ended, but for its own end
pub over-kept : (g : Grammar) (s : State) (t : ℕ) (step : Step) → is_end t step ≡ false → is_over t (apply g s step).state.ended ≡ is_over t s.ended
over-kept g s t (Step.End u) other = go (ended-by g s u)
  where
    go : ((0 < u) × (u ≤ s.trees) × ((apply g s (Step.End u)).state.ended ≡ put_member u s.ended)) ⊎ ((apply g s (Step.End u)).state.ended ≡ s.ended) → is_over t (apply g s (Step.End u)).state.ended ≡ is_over t s.ended
    go (inl (pos, le, is)) = rw is (over-put t u s.ended ∙ rw other refl)
    go (inr is) = rw is refl
over-kept g s t (Step.Learn d entry) other = rw (ended-kept g s (Step.Learn d entry) refl) refl
over-kept g s t (Step.Make d name) other = rw (ended-kept g s (Step.Make d name) refl) refl
over-kept g s t (Step.Fail d) other = rw (ended-kept g s (Step.Fail d) refl) refl
over-kept g s t (Step.Ask d retry line) other = rw (ended-kept g s (Step.Ask d retry line) refl) refl
over-kept g s t (Step.Answer serial code) other = rw (ended-kept g s (Step.Answer serial code) refl) refl
over-kept g s t Step.Attach other = rw (ended-kept g s Step.Attach refl) refl
over-kept g s t Step.Detach other = rw (ended-kept g s Step.Detach refl) refl
over-kept g s t (Step.Edit e file line) other = rw (ended-kept g s (Step.Edit e file line) refl) refl

-- a query that comes last isn't first
first-push : (xs : List Standing) (new : Standing) (query : Query) → first_unanswered xs ≡ Some query → first_unanswered (xs ++ new ∷ []) ≡ Some query
first-push [] new query h = absurd cc
first-push (x ∷ xs) new query h = go (is_some x.answer) h (first-push xs new query)
  where
    go : (b : Bool) → (if b then first_unanswered xs else Some x.query) ≡ Some query → (first_unanswered xs ≡ Some query → first_unanswered (xs ++ new ∷ []) ≡ Some query) → (if b then first_unanswered (xs ++ new ∷ []) else Some x.query) ≡ Some query
    go true e later = later e
    go false e later = e

ask-first : (queries : Queries) (name line : Text) (retry : ℕ) (query : Query) → first_query queries ≡ Some query → first_query (ask queries name line retry).0 ≡ Some query
unfolding first_query ask
ask-first queries name line retry query h = go queries.attached
  where
    new : Standing
    new = record { query = record { serial = suc (length queries.all); retry = retry; domain = name; line = line }; answer = None }

    asked : Queries × Held
    asked = (record queries { all = queries.all ++ new ∷ [] }, Held.Serial (suc (length queries.all)))

    go : (b : Bool) → first_unanswered (let pair : Queries × Held = if not b then (queries, Held.Nobody) else asked in pair).0.all ≡ Some query
    go true = first-push queries.all new query h
    go false = h

-- the first query stays first, but for the supervisor's steps
pub first-kept : (g : Grammar) (s : State) (step : Step) (query : Query) → is_of_desk step ≡ false → first_query s.queries ≡ Some query → first_query (apply g s step).state.queries ≡ Some query
unfolding apply
first-kept g s (Step.Ask d retry line) query other h = go (in_domain s.policy d (λ domain profile. domain.name))
  where
    go : (o : Option Text) → first_query (option_map_or (λ name. on_queries s Reply.Ask (ask s.queries name line retry)) o (unfit s)).state.queries ≡ Some query
    go None = h
    go (Some name) = ask-first s.queries name line retry query h
first-kept g s (Step.Learn d entry) query other h = ap first_query (queries-kept g s (Step.Learn d entry) other refl) ∙ h
first-kept g s (Step.Make d name) query other h = ap first_query (queries-kept g s (Step.Make d name) other refl) ∙ h
first-kept g s (Step.Fail d) query other h = ap first_query (queries-kept g s (Step.Fail d) other refl) ∙ h
first-kept g s (Step.Answer serial code) query other h = absurd (true≢false other)
first-kept g s Step.Attach query other h = absurd (true≢false other)
first-kept g s Step.Detach query other h = absurd (true≢false other)
first-kept g s (Step.Edit e file line) query other h = ap first_query (queries-kept g s (Step.Edit e file line) other refl) ∙ h
first-kept g s (Step.End t) query other h = ap first_query (queries-kept g s (Step.End t) other refl) ∙ h

-- Versions of a list

-- there is a step with each number from 1 to the last
pub step-there : (list : List Made) (n : ℕ) → n < length list → (step : Step) × (made_step list (suc n) ≡ Some step)
step-there [] n lt = absurd (omega arith)
step-there (made ∷ list) zero lt = (made.step, refl)
step-there (made ∷ list) (suc n) lt = step-there list n (omega arith)

module _ (scene : Scene) (list : List Made) where
  -- the state at a version
  abbrev pub version : ℕ → State
  version n = state_at scene (history_made scene list) n

  pub version-next : (n : ℕ) (step : Step) → made_step list (suc n) ≡ Some step → version (suc n) ≡ (apply scene.grammar (version n) step).state
  version-next n step at = state_at-next scene (history_made scene list) n step (step_at-made scene list (suc n) ∙ at)

  -- what the steps of some versions leave
  along : (P : State → Type 0) (Q : Step → Type 0) → ((s : State) (step : Step) → Q step → P s → P (apply scene.grammar s step).state) → (n d : ℕ) → n + d ≤ length list → ((k : ℕ) (step : Step) → n < k → k ≤ n + d → made_step list k ≡ Some step → Q step) → P (version n) → P (version (n + d))
  along P Q keep n zero le each h = let same : n ≡ n + 0 = omega arith in subst (λ k. P (version k)) same h
  along P Q keep n (suc d) le each h =
      let found = step-there list (n + d) (omega arith) in
      let number : suc (n + d) ≡ n + suc d = omega arith in
      let before : P (version (n + d)) = along P Q keep n d (omega arith) (λ k step lt most at. each k step lt (omega arith) at) h in
      subst (λ k. P (version k)) number
      (subst P (sym (version-next (n + d) found.0 found.1)) (keep (version (n + d)) found.0 (each (suc (n + d)) found.0 (omega arith) (omega arith) found.1) before))

  -- a first query stays first while the supervisor makes no step
  pub first-stays : (n d : ℕ) (query : Query) → n + d ≤ length list → ((k : ℕ) (step : Step) → n < k → k ≤ n + d → made_step list k ≡ Some step → is_of_desk step ≡ false) → first_query (version n).queries ≡ Some query → first_query (version (n + d)).queries ≡ Some query
  first-stays n d query le each h =
      along (λ s. first_query s.queries ≡ Some query) (λ step. is_of_desk step ≡ false) (λ s step other first. first-kept scene.grammar s step query other first) n d le each h

  -- no query comes while nobody asks
  pub none-stays : (n d : ℕ) → n + d ≤ length list → ((k : ℕ) (step : Step) → n < k → k ≤ n + d → made_step list k ≡ Some step → (is_of_desk step ≡ false) × (is_ask step ≡ false)) → first_query (version n).queries ≡ None → first_query (version (n + d)).queries ≡ None
  none-stays n d le each h =
      along (λ s. first_query s.queries ≡ None) (λ step. (is_of_desk step ≡ false) × (is_ask step ≡ false))
      (λ s step other none. ap first_query (queries-kept scene.grammar s step other.0 other.1) ∙ none) n d le each h

  -- Trees that have ended

  -- a tree that has ended did so by its end, which stands among the steps so far
  pub over-stands : (t n : ℕ) → n ≤ length list → is_over t (version n).ended ≡ true → (k : ℕ) × (k ≤ n) × (made_step list k ≡ Some (Step.End t))
  unfolding after
  over-stands t zero le over = absurd (true≢false (sym over))
  over-stands t (suc n) le over =
      let found = step-there list n (omega arith) in
      go found.0 found.1 (is_end t found.0) refl (λ was. over-stands t n (omega arith) was)
    where
      go : (step : Step) → made_step list (suc n) ≡ Some step → (b : Bool) → is_end t step ≡ b → (is_over t (version n).ended ≡ true → (k : ℕ) × (k ≤ n) × (made_step list k ≡ Some (Step.End t))) → (k : ℕ) × (k ≤ suc n) × (made_step list k ≡ Some (Step.End t))
      go step at true e before = (suc n, omega arith, at ∙ ap Some (end-of t step e))
      go step at false e before =
          let was : is_over t (version n).ended ≡ true = sym (over-kept scene.grammar (version n) t step e) ∙ ap (λ (s : State). is_over t s.ended) (sym (version-next n step at)) ∙ over in
          let (k, most, there) = before was in
          (k, omega arith, there)

  -- the trees stay
  pub trees-stay : (n : ℕ) → (version n).trees ≡ length scene.trace
  trees-stay n = (steps-last scene.grammar (opening_of scene) (take n (steps_of (history_made scene list)))).trees

  -- where each tree ends once at most, the set of those that have ended is as large as their number
  pub ended-counted : ((t k m : ℕ) → made_step list k ≡ Some (Step.End t) → made_step list m ≡ Some (Step.End t) → k ≡ m) → (n : ℕ) → n ≤ length list → length (version n).ended ≡ over_count (length scene.trace) (version n).ended
  unfolding after
  ended-counted once zero le = sym (counted-none (length scene.trace))
  ended-counted once (suc n) le =
      let found = step-there list n (omega arith) in
      subst (λ (s : State). length s.ended ≡ over_count (length scene.trace) s.ended) (sym (version-next n found.0 found.1)) (go found.0 found.1 (ended-counted once n (omega arith)))
    where
      kept : (step : Step) → is_some_end step ≡ false → length (version n).ended ≡ over_count (length scene.trace) (version n).ended → length (apply scene.grammar (version n) step).state.ended ≡ over_count (length scene.trace) (apply scene.grammar (version n) step).state.ended
      kept step other h = rw (ended-kept scene.grammar (version n) step other) h

      not-over : (t : ℕ) → made_step list (suc n) ≡ Some (Step.End t) → (b : Bool) → is_over t (version n).ended ≡ b → is_over t (version n).ended ≡ false
      not-over t at true e =
          let (k, most, there) = over-stands t n (omega arith) e in
          absurd (let same : k ≡ suc n = once t k (suc n) there at in omega arith)
      not-over t at false e = e

      by_end : (t : ℕ) → made_step list (suc n) ≡ Some (Step.End t) → length (version n).ended ≡ over_count (length scene.trace) (version n).ended → ((0 < t) × (t ≤ (version n).trees) × ((apply scene.grammar (version n) (Step.End t)).state.ended ≡ put_member t (version n).ended)) ⊎ ((apply scene.grammar (version n) (Step.End t)).state.ended ≡ (version n).ended) → length (apply scene.grammar (version n) (Step.End t)).state.ended ≡ over_count (length scene.trace) (apply scene.grammar (version n) (Step.End t)).state.ended
      by_end t at h (inl (pos, le_, is)) =
          let open_ : is_over t (version n).ended ≡ false = not-over t at (is_over t (version n).ended) refl in
          let within : t ≤ length scene.trace = rw (trees-stay n) at le_ in
          rw (is, length-put t (version n).ended open_, counted-put (length scene.trace) t (version n).ended pos within open_) (ap suc h)
      by_end t at h (inr is) = rw is h

      go : (step : Step) → made_step list (suc n) ≡ Some step → length (version n).ended ≡ over_count (length scene.trace) (version n).ended → length (apply scene.grammar (version n) step).state.ended ≡ over_count (length scene.trace) (apply scene.grammar (version n) step).state.ended
      go (Step.End t) at h = by_end t at h (ended-by scene.grammar (version n) t)
      go (Step.Learn d entry) at h = kept (Step.Learn d entry) refl h
      go (Step.Make d name) at h = kept (Step.Make d name) refl h
      go (Step.Fail d) at h = kept (Step.Fail d) refl h
      go (Step.Ask d retry line) at h = kept (Step.Ask d retry line) refl h
      go (Step.Answer serial code) at h = kept (Step.Answer serial code) refl h
      go Step.Attach at h = kept Step.Attach refl h
      go Step.Detach at h = kept Step.Detach refl h
      go (Step.Edit e file line) at h = kept (Step.Edit e file line) refl h
