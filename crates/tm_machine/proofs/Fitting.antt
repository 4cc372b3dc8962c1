-- What a step asks for, by its kind.
use Rattle.std.proofs.Common.{◌≡◌, ◌<◌, ℕ, zero, suc, Bool, true, false, List, [], ◌∷◌, length, refl, sym, ap, ◌∙◌, ⊎_elim, arith}
use Rattle.std.proofs.lemmas.Bool.{lt-ltb}
use Rattle.std.proofs.lemmas.Bool.Decides.{leb_tells}
use Rattle.std.proofs.lemmas.Option.{slice_get_past}
use Rattle.std.specs.Prelude.{Option, Some, None, is_some, ◌&&◌, if◌then◌else◌, nat_lt, nat_le, not, slice_get, slice_set, unwrap_or, option_map}
use Rattle.std.specs.Option.{option_and_then, option_map_or}
use Rattle.tm_word.specs.Prelude.{Text}
use Rattle.tm_rules.specs.Prelude.{Cursor, DomainName, Edited, apply_line, ask, domain_at, fail, in_domain, is_manager, learn, make, profile_of}
use Rattle.tm_rules.specs.Types.{Domain, EditReply, Editor, Entry, FileKind, Policy, Profile, Reply, Step}
use Rattle.tm_rep.specs.Tomoyo.{tomoyo_grammar}
use Rattle.tm_legal.specs.Prelude.{Applied, State, apply, edit_step, fits_entry, fits_name, on_policy, on_queries, unfit}
use Rattle.tm_machine.specs.Fitting.{is_there, fits_now}

-- whatever is done there, a domain with its profile has to be there
there : {A B : Type 0} (policy : Policy) (d : ℕ) (f : Domain → Profile → A) (g : Domain → Profile → B)
    → is_some (in_domain policy d f) ≡ is_some (in_domain policy d g)
there policy d f g = by_domain (domain_at policy d)
  where
    by_profile : (x : Domain) (o : Option Profile)
        → is_some (option_map (f x) o) ≡ is_some (option_map (g x) o)
    by_profile x None = refl
    by_profile x (Some profile) = refl

    by_domain : (o : Option Domain)
        → is_some (option_and_then (λ domain. option_map (f domain) (profile_of policy domain)) o)
        ≡ is_some (option_and_then (λ domain. option_map (g domain) (profile_of policy domain)) o)
    by_domain None = refl
    by_domain (Some x) = by_profile x (profile_of policy x)

-- a test comes first
tested : {R : Type 0} (state : State) (reply : R → Reply) (b : Bool) (changed : Option (Policy × R))
    → is_some (if b then on_policy state reply changed else unfit state).reply
    ≡ (b && is_some changed)
tested state reply false changed = refl
tested state reply true None = refl
tested state reply true (Some x) = refl

pub learn_fits : (state : State) (d : ℕ) (entry : Entry)
    → fits_now state (Step.Learn d entry)
    ≡ (fits_entry tomoyo_grammar entry && is_there state.policy d)
unfolding apply learn
learn_fits state d entry =
    tested state Reply.Learn (fits_entry tomoyo_grammar entry) (learn state.policy d entry)
    ∙ ap (λ (b : Bool). fits_entry tomoyo_grammar entry && b)
    (there state.policy d _ (λ domain profile. domain.name))

pub make_fits : (state : State) (d : ℕ) (name : DomainName)
    → fits_now state (Step.Make d name)
    ≡ (fits_name tomoyo_grammar state d name && is_there state.policy d)
unfolding apply make
make_fits state d name =
    tested state Reply.Make (fits_name tomoyo_grammar state d name) (make state.policy d name)
    ∙ ap (λ (b : Bool). fits_name tomoyo_grammar state d name && b)
    (there state.policy d _ (λ domain profile. domain.name))

pub fail_fits : (state : State) (d : ℕ)
    → fits_now state (Step.Fail d) ≡ is_there state.policy d
unfolding apply fail
fail_fits state d =
    tested state Reply.Fail true (fail state.policy d)
    ∙ there state.policy d _ (λ domain profile. domain.name)

pub ask_fits : (state : State) (d retry : ℕ) (line : Text)
    → fits_now state (Step.Ask d retry line) ≡ is_there state.policy d
unfolding apply
ask_fits state d retry line = go (in_domain state.policy d (λ domain profile. domain.name))
  where
    go : (o : Option DomainName)
        → is_some (option_map_or (λ name. on_queries state Reply.Ask (ask state.queries name line retry)) o (unfit state)).reply
        ≡ is_some o
    go None = refl
    go (Some name) = refl

-- what is at a place is there exactly within the list
some_in : {X : Type 0} (xs : List X) (n : ℕ) → n < length xs → is_some (slice_get xs n) ≡ true
some_in [] n lt = absurd (omega (arith, lt))
some_in (x ∷ xs) zero lt = refl
some_in (x ∷ xs) (suc n) lt = some_in xs n (omega (arith, lt))

inside : {X : Type 0} (xs : List X) (n : ℕ) → is_some (slice_get xs n) ≡ nat_le (suc n) (length xs)
inside xs n =
    ⊎_elim (λ t. some_in xs n (omega (arith, t.1)) ∙ sym t.0)
    (λ f. ap is_some (slice_get_past xs n (omega (arith, f.1))) ∙ sym f.0)
    (leb_tells (suc n) (length xs))

-- whatever an editor's line is, it has a reply
either : (b : Bool) (done other : Applied) → is_some done.reply ≡ true → is_some other.reply ≡ true
    → is_some (if b then done else other).reply ≡ true
either true done other h k = h
either false done other h k = k

edit_replied : (state : State) (e : ℕ) (file : FileKind) (line : Text) (editor : Editor) (cursor : Cursor)
    → is_some (edit_step tomoyo_grammar state e file line editor cursor).reply ≡ true
unfolding edit_step
edit_replied state e file line editor cursor =
    let done : Edited = apply_line tomoyo_grammar state.policy file cursor line in
    let refused : Applied = record { state = state; reply = Some (Reply.Edit EditReply.NotManager) } in
    let made : Applied = record { state = record state { policy = done.policy; cursors = slice_set state.cursors e done.cursor }; reply = Some (Reply.Edit done.reply) } in
    either (not (is_manager state.policy editor)) refused made refl refl

-- editors are numbered from 1
pub edit_fits : (state : State) (e : ℕ) (file : FileKind) (line : Text)
    → fits_now state (Step.Edit e file line)
    ≡ (nat_lt 0 e && nat_le e (length state.editors))
unfolding apply
edit_fits state zero file line = refl
edit_fits state (suc e) file line =
    go (slice_get state.editors e)
    ∙ (inside state.editors e
    ∙ sym (ap (λ (b : Bool). b && nat_le (suc e) (length state.editors)) (lt-ltb 0 (suc e) (omega arith))))
  where
    go : (o : Option Editor)
        → is_some (option_map_or (λ editor. edit_step tomoyo_grammar state e file line editor (unwrap_or (slice_get state.cursors e) None)) o (unfit state)).reply
        ≡ is_some o
    go None = refl
    go (Some editor) = edit_replied state e file line editor (unwrap_or (slice_get state.cursors e) None)

-- a test alone
alone : (state : State) (b : Bool) (done : Applied) → is_some done.reply ≡ true
    → is_some (if b then done else unfit state).reply ≡ b
alone state true done h = h
alone state false done h = refl

pub end_fits : (state : State) (t : ℕ)
    → fits_now state (Step.End t) ≡ (nat_lt 0 t && nat_le t state.trees)
unfolding apply
end_fits state t = alone state (nat_lt 0 t && nat_le t state.trees) _ refl
