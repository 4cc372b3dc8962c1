-- A clean run from a plain opening has a plain policy at every version.
use Rattle.std.proofs.Common.{◌≡◌, ◌≤◌, ℕ, suc, List, [], ◌∷◌, ◌++◌, length, map, Bool, true, false, true≢false, refl, sym, ap, ◌∙◌, subst}
use Rattle.std.specs.Prelude.{Option, Some, None, IsTrue, ◌&&◌, ◌||◌, ◌==◌, if◌then◌else◌, slice_get, not, is_some}
use Rattle.std.specs.List.{AllByRecursion, list_all}
use Rattle.std.proofs.lemmas.Bool.{and_parts, eqb-false}
use Rattle.std.proofs.lemmas.Nat.Bits.{bit_at-pow_other}
use Rattle.tm_word.specs.Prelude.{Text, Word}
use Rattle.tm_rules.specs.Types.{Args, Attr, Attributes, Entry, Look, Mode, Move, NamePlace, Reason, Request, Run, Step, Verdict, function_of}
use Rattle.tm_rules.specs.Prelude.{DomainName, Grammar, are_literal, has_its_attributes, has_permission, is_clean, is_execute, is_manual, is_plain, is_plain_clause, is_plain_entry, is_request, is_word, learned_line, permission}
use Rattle.tm_legal.specs.Prelude.{CanPlay, Case, History, Legal, LookHolds, OwnSteps, Scene, Subject, cases_of, look_grants, opening_of, retry_written, state_at, step_at, steps_asked, steps_of_line, steps_of_move, subject_of, times_owned}
use Rattle.tm_legal.proofs.Asked.{All-append}
use Rattle.tm_rerun_laws.proofs.CleanRuns.{clean-parts}
use Rattle.tm_rerun_laws.proofs.PlainLaws.{plain-of, is_plain-of, LearnsPlain, or-true}
use Rattle.tm_rerun_laws.proofs.PlainSteps.{history-plain}
use Rattle.tm_rerun_laws.proofs.Cases.{each-take, IsAsked, each-asked, EachOwn, own-holds}
use Rattle.tm_rerun_laws.proofs.VerdictParts.{IsLineOf, verdict-shows}
use Rattle.tm_rerun_laws.proofs.Takes.{all_hold}
use Rattle.tm_rerun_laws.proofs.Lists.{All-both}

-- Learned lines are plain

no_execute : (k : ℕ) → (k == 0) ≡ false → has_permission (permission k) 0 ≡ false
no_execute k e = rw (bit_at-pow_other k 0 (λ same. eqb-false k 0 e (sym same))) refl

exec-clauses : (real argument : Option Word) → list_all is_plain_clause (is_word Attr.RealPath real ++ is_word (Attr.Argv 0) argument) ≡ true
exec-clauses None None = refl
exec-clauses None (Some a) = refl
exec-clauses (Some r) None = refl
exec-clauses (Some r) (Some a) = refl

literal-asked : (is_path : Text → Bool) (request : Request) → is_request is_path request ≡ true → are_literal is_path request.args ≡ true
unfolding is_request
literal-asked is_path request is =
    let asked : Bool = is_some (function_of request.args request.perm) || (is_manual request && request.perm == 0) in
    (and_parts (are_literal is_path request.args) asked (and_parts (are_literal is_path request.args && asked) (has_its_attributes request) is).0).0

pub line-plain : (is_path : Text → Bool) (request : Request) (name : Word) → is_request is_path request ≡ true → is_plain_entry (learned_line request name) ≡ true
unfolding learned_line
line-plain is_path request name is = go (is_execute request) refl
  where
    other : (args : Args) (perm : ℕ) (attributes : Attributes) → (let r : Request = record { args = args; perm = perm; attributes = attributes } in let line : Entry = record { args = args; perms = record { bits = permission perm }; cond = record { clauses = is_word Attr.Target attributes.target; grant_log = None } } in is_execute r ≡ false → are_literal is_path args ≡ true → is_plain_entry line ≡ true)
    other (Args.Path n) perm attributes e literal = rw (no_execute perm e) refl
    other (Args.Execute n prefer) perm attributes e literal = absurd (true≢false (sym literal))
    other (Args.PathNumber n k) perm attributes e literal = refl
    other (Args.Device n a b c) perm attributes e literal = refl
    other (Args.Path2 n m) perm attributes e literal = refl
    other (Args.Mount a b c d) perm attributes e literal = refl
    other (Args.Inet a b c) perm attributes e literal = refl
    other (Args.Unix a b) perm attributes e literal = refl
    other (Args.Env n) perm attributes e literal = refl
    other (Args.Manual n) perm attributes e literal = refl

    go : (b : Bool) → is_execute request ≡ b → is_plain_entry (learned_line request name) ≡ true
    go true e = rw (e, exec-clauses request.attributes.real_path (slice_get request.attributes.argv 0)) (or-true (not (has_permission (permission request.perm) 0)))
    go false e = rw e (other request.args request.perm request.attributes e (literal-asked is_path request is))

-- The steps that a look asks for

asked-line : (g : Grammar) (d retry : ℕ) (request : Request) → is_request g.is_path request ≡ true → (mode : Option Mode) (reason : Reason) (name : NamePlace) (step : Move) (target : Option DomainName) (line : Option Entry) → IsLineOf request line → (let v : Verdict = record { mode = mode; reason = reason; name = name; step = step; target = target; line = line } in AllByRecursion LearnsPlain (steps_of_line g d retry v))
asked-line g d retry request is mode Reason.Learn name step target (Some line) h = (rw h.1 (line-plain g.is_path request h.0 is), tt)
asked-line g d retry request is mode Reason.Learn name step target None h = tt
asked-line g d retry request is mode Reason.Ask name step target (Some line) h = (tt, tt)
asked-line g d retry request is mode Reason.Ask name step target None h = tt
asked-line g d retry request is mode (Reason.Entry place) name step target line h = tt
asked-line g d retry request is mode Reason.Disabled name step target line h = tt
asked-line g d retry request is mode Reason.Permissive name step target line h = tt
asked-line g d retry request is mode Reason.Quota name step target line h = tt
asked-line g d retry request is mode Reason.NoEntry name step target line h = tt
asked-line g d retry request is mode Reason.NotReady name step target line h = tt
asked-line g d retry request is mode Reason.NoManual name step target line h = tt

asked-move : (d : ℕ) (mode : Option Mode) (reason : Reason) (name : NamePlace) (step : Move) (target : Option DomainName) (line : Option Entry) → (let v : Verdict = record { mode = mode; reason = reason; name = name; step = step; target = target; line = line } in AllByRecursion LearnsPlain (steps_of_move d v))
asked-move d mode reason name Move.Stay target line = tt
asked-move d mode reason name (Move.Enter n) target line = tt
asked-move d mode reason name Move.Make None line = tt
asked-move d mode reason name Move.Make (Some made) line = (tt, tt)
asked-move d mode reason name Move.Fail target line = (tt, tt)

asked-plain : (g : Grammar) (d retry : ℕ) (request : Request) (v : Verdict) (granted : Bool) → is_request g.is_path request ≡ true → IsLineOf request v.line → AllByRecursion LearnsPlain (steps_asked g d retry v granted)
unfolding steps_asked
asked-plain g d retry request v granted is h =
    All-append LearnsPlain (steps_of_line g d retry v) (if granted then steps_of_move d v else []) (asked-line g d retry request is v.mode v.reason v.name v.step v.target v.line h) (go granted)
  where
    go : (b : Bool) → AllByRecursion LearnsPlain (if b then steps_of_move d v else [])
    go true = asked-move d v.mode v.reason v.name v.step v.target v.line
    go false = tt

-- a step of this number learns a plain line
abbrev PlainAt : Option Step → Type 0
PlainAt None = Unit {0}
PlainAt (Some step) = LearnsPlain step

mapped-plain : (f : ℕ → Option Step) (ns : List ℕ) (steps : List Step) → map f ns ≡ map Some steps → AllByRecursion LearnsPlain steps → AllByRecursion (λ n. PlainAt (f n)) ns
mapped-plain f [] steps e all = tt
mapped-plain f (n ∷ ns) [] e all = absurd cc
mapped-plain f (n ∷ ns) (step ∷ steps) e all =
    let first : Some step ≡ f n = cc in
    let rest : map f ns ≡ map Some steps = cc in
    (subst PlainAt first all.0, mapped-plain f ns steps rest all.1)

look-plain : (scene : Scene) (history : History) (s : Subject) (look : Look) → is_request scene.grammar.is_path s.request ≡ true → LookHolds scene history s look → OwnSteps scene history s look → AllByRecursion (λ n. PlainAt (step_at history n)) look.own
look-plain scene history s look is holds own =
    let v : Verdict = holds.0 in
    let state = state_at scene history look.version in
    let shows = verdict-shows scene.grammar.is_path state.policy state.queries.attached s.domain s.process s.request v holds.1 in
    mapped-plain (step_at history) look.own (steps_asked scene.grammar s.domain (retry_written history look) v (look_grants look)) (rw holds.1 at own.asked)
    (asked-plain scene.grammar s.domain (retry_written history look) s.request v (look_grants look) is shows.line)

-- each step that a process makes learns a plain line
own-plain : (scene : Scene) (run : Run) → CanPlay scene → Legal scene run → AllByRecursion (EachOwn (λ n. PlainAt (step_at run.steps n))) run.takes
own-plain scene run can legal =
    each-take scene run legal.takes (EachOwn (λ n. PlainAt (step_at run.steps n)))
    (All-both (IsAsked scene.grammar.is_path) BothHold (λ (c : Case). EachOwn (λ n. PlainAt (step_at run.steps n)) c.taken) (cases_of scene run)
    (λ c is both. All-both (LookHolds scene run.steps (subject_of c)) (OwnSteps scene run.steps (subject_of c)) (λ (look : Look). AllByRecursion (λ n. PlainAt (step_at run.steps n)) look.own) c.taken.looks (λ look. look-plain scene run.steps (subject_of c) look is) both.0 both.1)
    (each-asked scene run can)
    (All-both Shown Owned BothHold (cases_of scene run) (λ c h k. (h, k)) (all_hold scene run legal) legal.own_steps))
  where
    Shown : Case → Type 0
    Shown c = AllByRecursion (LookHolds scene run.steps (subject_of c)) c.taken.looks

    Owned : Case → Type 0
    Owned c = AllByRecursion (OwnSteps scene run.steps (subject_of c)) c.taken.looks

    BothHold : Case → Type 0
    BothHold c = Shown c × Owned c

at-plain : (scene : Scene) (run : Run) → CanPlay scene → Legal scene run → (n : ℕ) → PlainAt (step_at run.steps n)
at-plain scene run can legal n = go (step_at run.steps n) refl
  where
    go : (o : Option Step) → step_at run.steps n ≡ o → PlainAt o
    go None e = tt
    go (Some (Step.Learn d entry)) e = subst PlainAt e (own-holds (λ m. PlainAt (step_at run.steps m)) n run.takes (own-plain scene run can legal) (legal.places.own n ∙ ap times_owned e))
    go (Some (Step.Make d name)) e = tt
    go (Some (Step.Fail d)) e = tt
    go (Some (Step.Ask d retry line)) e = tt
    go (Some (Step.Answer serial code)) e = tt
    go (Some Step.Attach) e = tt
    go (Some Step.Detach) e = tt
    go (Some (Step.Edit by file line)) e = tt
    go (Some (Step.End t)) e = tt

steps-plain : (h : History) → ((k : ℕ) → PlainAt (step_at h (suc k))) → AllByRecursion (λ pair. LearnsPlain pair.0) h
steps-plain [] f = tt
steps-plain (pair ∷ h) f = (f 0, steps-plain h (λ k. f (suc k)))

pub plain_stays : (scene : Scene) (run : Run) → CanPlay scene → IsTrue (is_plain scene.policy) → Legal scene run → IsTrue (is_clean run) → (k : ℕ) → k ≤ length run.steps → IsTrue (is_plain (state_at scene run.steps k).policy)
plain_stays scene run can plain legal clean k within =
    is_plain-of (state_at scene run.steps k).policy
    (history-plain scene.grammar can.grammar (opening_of scene) run.steps legal.places.replies (clean-parts run clean).1 (steps-plain run.steps (λ n. at-plain scene run can legal (suc n))) (plain-of scene.policy plain) k)
