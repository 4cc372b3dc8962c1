-- What each step leaves of a state to everybody else.
use Rattle.std.proofs.Common.{◌≡◌, ◌≤◌, ℕ, zero, suc, List, [], ◌∷◌, ◌++◌, length, map, Bool, true, false, true≢false, refl, sym, ap, ◌∙◌, arith, inl, inr, ◌⊎◌}
use Rattle.std.specs.Prelude.{Option, Some, None, IsSome, option_map, slice_get, slice_set, if◌then◌else◌, ◌==◌, ◌||◌, unwrap_or, not, nat_lt, nat_le}
use Rattle.std.specs.Option.{option_and_then, option_map_or}
use Rattle.std.proofs.lemmas.Bool.{eqb-true, le-leb, leb-true, lt-ltb}
use Rattle.tm_word.specs.Prelude.{Text}
use Rattle.tm_rules.specs.Prelude.{Cursor, DomainName, Edited, Grammar, IsGrammar, Queries, Standing, answer, answer_coded, answer_fault, apply_line, ask, attach, changed_at, closed, detach, domain_at, fail, in_domain, is_manager, learn, make, numbered, profile_of, put_member, with_answer}
use Rattle.tm_rules.specs.Types.{AnswerFault, Answered, Domain, EditReply, Editor, Entry, FileKind, Held, Policy, Profile, Reply, Step}
use Rattle.tm_legal.specs.Prelude.{Applied, DomainIn, Ready, State, apply, edit_step, fits_entry, fits_name, on_policy, on_queries, unfit}
use Rattle.tm_legal.proofs.Kept.{Sound, Keeps-refl, Evolves, Fits, ready-fits}
use Rattle.tm_legal.proofs.Edits.{line-evolves}
use Rattle.tm_legal.proofs.Walks.{StandingKeeps, is_over, Onward}

-- Queries by serial

pub Standing-refl : (xs : List Standing) → StandingKeeps xs xs
Standing-refl xs n x at = (x, at, refl)

get-front : (xs : List Standing) (new : Standing) (n : ℕ) (x : Standing) → slice_get xs n ≡ Some x → slice_get (xs ++ new ∷ []) n ≡ Some x
get-front [] new n x at = absurd cc
get-front (a ∷ xs) new zero x at = at
get-front (a ∷ xs) new (suc n) x at = get-front xs new n x at

get-last : (xs : List Standing) (new : Standing) → slice_get (xs ++ new ∷ []) (length xs) ≡ Some new
get-last [] new = refl
get-last (a ∷ xs) new = get-last xs new

Standing-push : (xs : List Standing) (new : Standing) → StandingKeeps xs (xs ++ new ∷ [])
Standing-push xs new zero x at = absurd cc
Standing-push xs new (suc n) x at = (x, get-front xs new n x at, refl)

get-changed : (change : Standing → Standing) → ((x : Standing) → (change x).query ≡ x.query) → (xs : List Standing) (k n : ℕ) (x : Standing) → slice_get xs n ≡ Some x → (y : Standing) × (slice_get (changed_at k change xs) n ≡ Some y) × (y.query ≡ x.query)
get-changed change same [] k n x at = absurd cc
get-changed change same (a ∷ xs) zero zero x at = (change a, refl, same a ∙ ap (λ (o : Standing). o.query) (let e : a ≡ x = cc in e))
get-changed change same (a ∷ xs) zero (suc n) x at = (x, at, refl)
get-changed change same (a ∷ xs) (suc k) zero x at = (x, at, refl)
get-changed change same (a ∷ xs) (suc k) (suc n) x at = get-changed change same xs k n x at

Standing-changed : (change : Standing → Standing) → ((x : Standing) → (change x).query ≡ x.query) → (xs : List Standing) (k : ℕ) → StandingKeeps xs (changed_at k change xs)
Standing-changed change same xs k zero x at = absurd cc
Standing-changed change same xs k (suc n) x at = get-changed change same xs k n x at

get-closed : (xs : List Standing) (n : ℕ) (x : Standing) → slice_get xs n ≡ Some x → (y : Standing) × (slice_get (map closed xs) n ≡ Some y) × (y.query ≡ x.query)
get-closed [] n x at = absurd cc
get-closed (a ∷ xs) zero x at = (closed a, refl, ap (λ (o : Standing). o.query) (let e : a ≡ x = cc in e))
get-closed (a ∷ xs) (suc n) x at = get-closed xs n x at

Standing-closed : (xs : List Standing) → StandingKeeps xs (map closed xs)
Standing-closed xs zero x at = absurd cc
Standing-closed xs (suc n) x at = get-closed xs n x at

evolves-refl : (p : Policy) → Sound p → Evolves p p
evolves-refl p sound = record { keeps = Keeps-refl p; sound = sound }

-- Own steps

-- a process's own step changes the policy alone
pub own-onward : (s : State) (step : Step) (done : Applied) → Fits s step done → Onward step s done.state
own-onward s step done fits =
    record {
      evolves = fits.evolves;
      standing = rw fits.others (Standing-refl s.queries.all);
      over = λ t other. rw fits.others refl;
      editors = rw fits.others refl;
      trees = rw fits.others refl;
    }

-- an Ask is replied by a serial, of a query with its retry number, or by nobody; where nobody is
-- there it changes nothing
pub record Asks (s : State) (step : Step) (retry : ℕ) (done : Applied) : Type 0 where
  pub held : Held
  pub replied : done.reply ≡ Some (Reply.Ask held)
  pub onward : Onward step s done.state
  pub attached : done.state.queries.attached ≡ s.queries.attached
  pub alone : s.queries.attached ≡ false → done.state.queries ≡ s.queries
  pub ended : done.state.ended ≡ s.ended
  pub grows : (held ≡ Held.Nobody) × (done.state.queries.all ≡ s.queries.all) ⊎ ((new : Standing) × (done.state.queries.all ≡ s.queries.all ++ new ∷ []) × (new.answer ≡ None) × (new.query.serial ≡ suc (length s.queries.all)))
  pub query : (serial : ℕ) → held ≡ Held.Serial serial → (standing : Standing) × (numbered done.state.queries.all serial ≡ Some standing) × (standing.query.retry ≡ retry)

pub ask-done : (g : Grammar) (s : State) (d retry : ℕ) (text : Text) → Sound s.policy → DomainIn s.policy d → Asks s (Step.Ask d retry text) retry (apply g s (Step.Ask d retry text))
unfolding apply ask
ask-done g s d retry text sound h = rw (h.there, h.profiled) (by_desk s.queries.attached refl)
  where
    new : Standing
    new = record { query = record { serial = suc (length s.queries.all); retry = retry; domain = h.domain.name; line = text }; answer = None }

    asked : Queries × Held
    asked = (record s.queries { all = s.queries.all ++ new ∷ [] }, Held.Serial (suc (length s.queries.all)))

    by_desk : (b : Bool) → s.queries.attached ≡ b → Asks s (Step.Ask d retry text) retry (let pair : Queries × Held = if not b then (s.queries, Held.Nobody) else asked in let done : Applied = record { state = record s { queries = pair.0 }; reply = Some (Reply.Ask pair.1) } in done)
    by_desk false e =
        record {
          held = Held.Nobody;
          replied = refl;
          onward = record { evolves = evolves-refl s.policy sound; standing = Standing-refl s.queries.all; over = λ t other. refl; editors = refl; trees = refl };
          attached = refl;
          alone = λ alone. refl;
          ended = refl;
          grows = inl (refl, refl);
          query = λ serial is. absurd cc;
        }
    by_desk true e =
        record {
          held = Held.Serial (suc (length s.queries.all));
          replied = refl;
          onward = record { evolves = evolves-refl s.policy sound; standing = Standing-push s.queries.all new; over = λ t other. refl; editors = refl; trees = refl };
          attached = refl;
          alone = λ alone. absurd (true≢false (sym e ∙ alone));
          ended = refl;
          grows = inr (new, refl, refl, refl);
          query = λ serial is. let same : suc (length s.queries.all) ≡ serial = cc in (new, rw (← same) (get-last s.queries.all new), refl);
        }

-- Edits

-- an editor's line has a reply, and changes the policy and that editor's cursor
pub record EditDone (s : State) (step : Step) (done : Applied) : Type 0 where
  pub reply : Reply
  pub replied : done.reply ≡ Some reply
  pub onward : Onward step s done.state
  pub queries : done.state.queries ≡ s.queries
  pub ended : done.state.ended ≡ s.ended

pub edit-done : (g : Grammar) (s : State) (e : ℕ) (editor : Editor) (file : FileKind) (line : Text) → IsGrammar g → Sound s.policy → slice_get s.editors e ≡ Some editor → EditDone s (Step.Edit (suc e) file line) (apply g s (Step.Edit (suc e) file line))
unfolding apply edit_step
edit-done g s e editor file line grammar sound there = rw there (by_manager (not (is_manager s.policy editor)))
  where
    cursor : Cursor
    cursor = unwrap_or (slice_get s.cursors e) None

    done : Edited
    done = apply_line g s.policy file cursor line

    by_manager : (b : Bool) → EditDone s (Step.Edit (suc e) file line) (if b then (let a : Applied = record { state = s; reply = Some (Reply.Edit EditReply.NotManager) } in a) else (let a : Applied = record { state = record s { policy = done.policy; cursors = slice_set s.cursors e done.cursor }; reply = Some (Reply.Edit done.reply) } in a))
    by_manager true =
        record {
          reply = Reply.Edit EditReply.NotManager;
          replied = refl;
          onward = record { evolves = evolves-refl s.policy sound; standing = Standing-refl s.queries.all; over = λ t other. refl; editors = refl; trees = refl };
          queries = refl;
          ended = refl;
        }
    by_manager false =
        record {
          reply = Reply.Edit done.reply;
          replied = refl;
          onward = record { evolves = line-evolves g s.policy file cursor line grammar sound; standing = Standing-refl s.queries.all; over = λ t other. refl; editors = refl; trees = refl };
          queries = refl;
          ended = refl;
        }

-- Ends

-- who is over once a tree has ended: that one, and who was
pub over-put : (n t : ℕ) (ended : List ℕ) → is_over n (put_member t ended) ≡ (if t == n then true else is_over n ended)
over-put n t [] = go (t == n)
  where
    go : (b : Bool) → (b || false) ≡ (if b then true else false)
    go true = refl
    go false = refl
over-put n t (m ∷ ms) = go (m == t) refl (nat_lt t m) (over-put n t ms)
  where
    first : (a c : Bool) → (a ≡ true → c ≡ true) → (c || is_over n ms) ≡ (if a then true else (c || is_over n ms))
    first true c h = rw (h refl) refl
    first false c h = refl

    second : (a : Bool) → (a || is_over n (m ∷ ms)) ≡ (if a then true else is_over n (m ∷ ms))
    second true = refl
    second false = refl

    third : (a c : Bool) → (c || (if a then true else is_over n ms)) ≡ (if a then true else (c || is_over n ms))
    third true true = refl
    third true false = refl
    third false c = refl

    go : (b : Bool) → (m == t) ≡ b → (l : Bool) → is_over n (put_member t ms) ≡ (if t == n then true else is_over n ms) → is_over n (if b then m ∷ ms else (if l then t ∷ m ∷ ms else m ∷ put_member t ms)) ≡ (if t == n then true else is_over n (m ∷ ms))
    go true e l ih = first (t == n) (m == n) (λ same. rw (eqb-true m t e) same)
    go false e true ih = second (t == n)
    go false e false ih = rw ih (third (t == n) (m == n))

-- a tree that wasn't over makes one more
pub length-put : (t : ℕ) (ended : List ℕ) → is_over t ended ≡ false → length (put_member t ended) ≡ suc (length ended)
length-put t [] h = refl
length-put t (m ∷ ms) h = go (m == t) refl (nat_lt t m) (length-put t ms)
  where
    go : (b : Bool) → (m == t) ≡ b → (l : Bool) → (is_over t ms ≡ false → length (put_member t ms) ≡ suc (length ms)) → length (if b then m ∷ ms else (if l then t ∷ m ∷ ms else m ∷ put_member t ms)) ≡ suc (suc (length ms))
    go true e l ih = absurd (true≢false (sym (rw e refl) ∙ h))
    go false e true ih = refl
    go false e false ih = ap suc (ih (rw e at h))

-- a tree that is there ends
pub record EndDone (s : State) (t : ℕ) (done : Applied) : Type 0 where
  pub replied : done.reply ≡ Some Reply.End
  pub onward : Onward (Step.End t) s done.state
  pub queries : done.state.queries ≡ s.queries
  pub ended : done.state.ended ≡ put_member t s.ended

pub end-done : (g : Grammar) (s : State) (t : ℕ) → Sound s.policy → suc t ≤ s.trees → EndDone s (suc t) (apply g s (Step.End (suc t)))
unfolding apply
end-done g s t sound le =
    let there : nat_le (suc t) s.trees ≡ true = le-leb (suc t) s.trees le in
    let first : nat_lt 0 (suc t) ≡ true = lt-ltb 0 (suc t) (omega arith) in
    rw (first, there)
    (record {
      replied = refl;
      onward = record {
        evolves = evolves-refl s.policy sound;
        standing = Standing-refl s.queries.all;
        over = λ n other. over-put n (suc t) s.ended ∙ rw other refl;
        editors = refl;
        trees = refl;
      };
      queries = refl;
      ended = refl;
    })

-- The supervisor's steps

-- an answer has a reply, and leaves these queries
pub record AnswerDone (s : State) (step : Step) (after : Queries) (done : Applied) : Type 0 where
  pub reply : Reply
  pub replied : done.reply ≡ Some reply
  pub onward : Onward step s done.state
  pub attached : done.state.queries.attached ≡ s.queries.attached
  pub ended : done.state.ended ≡ s.ended
  pub queries : done.state.queries ≡ after

pub answer-done : (g : Grammar) (s : State) (serial code : ℕ) → Sound s.policy → AnswerDone s (Step.Answer serial code) (answer s.queries serial code).0 (apply g s (Step.Answer serial code))
unfolding apply answer
answer-done g s serial code sound = by_fault (answer_fault (numbered s.queries.all serial) code)
  where
    given : (n : ℕ) → (x : Option Answered) → StandingKeeps s.queries.all (with_answer s.queries n x).all × ((with_answer s.queries n x).attached ≡ s.queries.attached)
    given zero x = (Standing-refl s.queries.all, refl)
    given (suc n) x = (Standing-changed (λ (o : Standing). record o { answer = x }) (λ o. refl) s.queries.all n, refl)

    by_fault : (o : Option AnswerFault) → (let after : Queries × Option AnswerFault = option_map_or (λ fault. (s.queries, Some fault)) o (with_answer s.queries serial (answer_coded code), None) in let done : Applied = record { state = record s { queries = after.0 }; reply = Some (Reply.Answer after.1) } in AnswerDone s (Step.Answer serial code) after.0 done)
    by_fault None =
        let given_ = given serial (answer_coded code) in
        record {
          reply = Reply.Answer None;
          replied = refl;
          onward = record { evolves = evolves-refl s.policy sound; standing = given_.0; over = λ t other. refl; editors = refl; trees = refl };
          attached = given_.1;
          ended = refl;
          queries = refl;
        }
    by_fault (Some fault) =
        record {
          reply = Reply.Answer (Some fault);
          replied = refl;
          onward = record { evolves = evolves-refl s.policy sound; standing = Standing-refl s.queries.all; over = λ t other. refl; editors = refl; trees = refl };
          attached = refl;
          ended = refl;
          queries = refl;
        }

-- the supervisor comes
pub record AttachDone (s : State) (done : Applied) : Type 0 where
  pub reply : Reply
  pub replied : done.reply ≡ Some reply
  pub onward : Onward Step.Attach s done.state
  pub queries : done.state.queries ≡ record s.queries { attached = true }
  pub ended : done.state.ended ≡ s.ended

pub attach-done : (g : Grammar) (s : State) → Sound s.policy → AttachDone s (apply g s Step.Attach)
unfolding apply attach
attach-done g s sound =
    record {
      reply = Reply.Attach (not s.queries.attached);
      replied = refl;
      onward = record { evolves = evolves-refl s.policy sound; standing = Standing-refl s.queries.all; over = λ t other. refl; editors = refl; trees = refl };
      queries = refl;
      ended = refl;
    }

-- the supervisor leaves
pub record DetachDone (s : State) (done : Applied) : Type 0 where
  pub reply : Reply
  pub replied : done.reply ≡ Some reply
  pub onward : Onward Step.Detach s done.state
  pub attached : done.state.queries.attached ≡ false
  pub all : done.state.queries.all ≡ map closed s.queries.all
  pub ended : done.state.ended ≡ s.ended

pub detach-done : (g : Grammar) (s : State) → Sound s.policy → s.queries.attached ≡ true → DetachDone s (apply g s Step.Detach)
unfolding apply detach
detach-done g s sound there =
    rw there
    (record {
      reply = Reply.Detach true;
      replied = refl;
      onward = record { evolves = evolves-refl s.policy sound; standing = Standing-closed s.queries.all; over = λ t other. refl; editors = refl; trees = refl };
      attached = refl;
      all = refl;
      ended = refl;
    })

-- Any step

some-policy : {R : Type 0} (s : State) (reply : R → Reply) (o : Option (Policy × R)) → IsSome (on_policy s reply o).reply → IsSome o
some-policy s reply None has = absurd (true≢false (sym has))
some-policy s reply (Some done) has = refl

in_domain-there : {A : Type 0} (p : Policy) (d : ℕ) (change : Domain → Profile → A) → IsSome (in_domain p d change) → DomainIn p d
in_domain-there {A} p d change has = by_domain (domain_at p d) refl has
  where
    by_profile : (x : Domain) → domain_at p d ≡ Some x → (o : Option Profile) → profile_of p x ≡ o → IsSome (option_map (change x) o) → DomainIn p d
    by_profile x at None is some = absurd (true≢false (sym some))
    by_profile x at (Some profile) is some = record { domain = x; there = at; profile = profile; profiled = is }

    by_domain : (o : Option Domain) → domain_at p d ≡ o → IsSome (option_and_then (λ (domain : Domain). option_map (change domain) (profile_of p domain)) o) → DomainIn p d
    by_domain None at some = absurd (true≢false (sym some))
    by_domain (Some x) at some = by_profile x at (profile_of p x) refl some

-- a process's own step that has a reply was owed to be made
learn-ready : (g : Grammar) (s : State) (d : ℕ) (entry : Entry) → IsSome (apply g s (Step.Learn d entry)).reply → Ready g s.policy (Step.Learn d entry)
unfolding apply learn
learn-ready g s d entry has = by_fit (fits_entry g entry) refl has
  where
    by_fit : (b : Bool) → fits_entry g entry ≡ b → IsSome (if b then on_policy s Reply.Learn (learn s.policy d entry) else unfit s).reply → Ready g s.policy (Step.Learn d entry)
    by_fit true e some = (e, in_domain-there s.policy d _ (some-policy s Reply.Learn (learn s.policy d entry) some))
    by_fit false e some = absurd (true≢false (sym some))

make-ready : (g : Grammar) (s : State) (d : ℕ) (name : DomainName) → IsSome (apply g s (Step.Make d name)).reply → Ready g s.policy (Step.Make d name)
unfolding apply make
make-ready g s d name has = by_fit (fits_name g s d name) refl has
  where
    by_fit : (b : Bool) → fits_name g s d name ≡ b → IsSome (if b then on_policy s Reply.Make (make s.policy d name) else unfit s).reply → Ready g s.policy (Step.Make d name)
    by_fit true e some = let h : DomainIn s.policy d = in_domain-there s.policy d _ (some-policy s Reply.Make (make s.policy d name) some) in (h, rw h.there at e)
    by_fit false e some = absurd (true≢false (sym some))

fail-ready : (g : Grammar) (s : State) (d : ℕ) → IsSome (apply g s (Step.Fail d)).reply → Ready g s.policy (Step.Fail d)
unfolding apply fail
fail-ready g s d has = in_domain-there s.policy d _ (some-policy s Reply.Fail (fail s.policy d) has)

ask-there : (g : Grammar) (s : State) (d retry : ℕ) (text : Text) → IsSome (apply g s (Step.Ask d retry text)).reply → DomainIn s.policy d
unfolding apply
ask-there g s d retry text has = in_domain-there s.policy d _ (by_name (in_domain s.policy d (λ domain profile. domain.name)) has)
  where
    by_name : (o : Option Text) → IsSome (option_map_or (λ name. on_queries s Reply.Ask (ask s.queries name text retry)) o (unfit s)).reply → IsSome o
    by_name None some = absurd (true≢false (sym some))
    by_name (Some name) some = refl

editor-there : (g : Grammar) (s : State) (e : ℕ) (file : FileKind) (line : Text) → IsSome (apply g s (Step.Edit (suc e) file line)).reply → (editor : Editor) × (slice_get s.editors e ≡ Some editor)
unfolding apply
editor-there g s e file line has = by_editor (slice_get s.editors e) refl has
  where
    by_editor : (o : Option Editor) → slice_get s.editors e ≡ o → IsSome (option_map_or (λ editor. edit_step g s e file line editor (unwrap_or (slice_get s.cursors e) None)) o (unfit s)).reply → (editor : Editor) × (slice_get s.editors e ≡ Some editor)
    by_editor None at some = absurd (true≢false (sym some))
    by_editor (Some editor) at some = (editor, at)

tree-there : (g : Grammar) (s : State) (t : ℕ) → IsSome (apply g s (Step.End t)).reply → (n : ℕ) × (t ≡ suc n) × (t ≤ s.trees)
unfolding apply
tree-there g s zero has = absurd (true≢false (sym has))
tree-there g s (suc n) has = by_trees (nat_le (suc n) s.trees) refl (rw first at has)
  where
    first : nat_lt 0 (suc n) ≡ true
    first = lt-ltb 0 (suc n) (omega arith)

    by_trees : (b : Bool) → nat_le (suc n) s.trees ≡ b → IsSome (if b then (let done : Applied = record { state = record s { ended = put_member (suc n) s.ended }; reply = Some Reply.End } in done) else unfit s).reply → (m : ℕ) × (suc n ≡ suc m) × (suc n ≤ s.trees)
    by_trees true e some = (n, refl, leb-true (suc n) s.trees e)
    by_trees false e some = absurd (true≢false (sym some))

-- the supervisor leaves, or wasn't there
detach-onward : (g : Grammar) (s : State) → Sound s.policy → Onward Step.Detach s (apply g s Step.Detach).state
unfolding apply detach
detach-onward g s sound = by_flag s.queries.attached refl
  where
    by_flag : (b : Bool) → s.queries.attached ≡ b → Onward Step.Detach s (apply g s Step.Detach).state
    by_flag true there = (detach-done g s sound there).onward
    by_flag false alone =
        rw alone (record { evolves = evolves-refl s.policy sound; standing = Standing-refl s.queries.all; over = λ t other. refl; editors = refl; trees = refl })

-- editors are numbered from 1
no-editor : (g : Grammar) (s : State) (file : FileKind) (line : Text) → IsSome (apply g s (Step.Edit zero file line)).reply → ⊥
unfolding apply
no-editor g s file line has = true≢false (sym has)

-- each step that fits leaves the others their domains, their queries and their ends
pub fitting-onward : (g : Grammar) (s : State) (step : Step) → IsGrammar g → Sound s.policy → IsSome (apply g s step).reply → Onward step s (apply g s step).state
fitting-onward g s (Step.Learn d entry) grammar sound has = own-onward s (Step.Learn d entry) (apply g s (Step.Learn d entry)) (ready-fits g s (Step.Learn d entry) sound (learn-ready g s d entry has))
fitting-onward g s (Step.Make d name) grammar sound has = own-onward s (Step.Make d name) (apply g s (Step.Make d name)) (ready-fits g s (Step.Make d name) sound (make-ready g s d name has))
fitting-onward g s (Step.Fail d) grammar sound has = own-onward s (Step.Fail d) (apply g s (Step.Fail d)) (ready-fits g s (Step.Fail d) sound (fail-ready g s d has))
fitting-onward g s (Step.Ask d retry text) grammar sound has = (ask-done g s d retry text sound (ask-there g s d retry text has)).onward
fitting-onward g s (Step.Answer serial code) grammar sound has = (answer-done g s serial code sound).onward
fitting-onward g s Step.Attach grammar sound has = (attach-done g s sound).onward
fitting-onward g s Step.Detach grammar sound has = detach-onward g s sound
fitting-onward g s (Step.Edit zero file line) grammar sound has = absurd (no-editor g s file line has)
fitting-onward g s (Step.Edit (suc e) file line) grammar sound has = let editor = editor-there g s e file line has in (edit-done g s e editor.0 file line grammar sound editor.1).onward
fitting-onward g s (Step.End t) grammar sound has =
    let (n, is, le) = tree-there g s t has in
    rw is (end-done g s n sound (rw is at le)).onward
