-- What an Ask asks for is a printed entry that can be written.
use Rattle.std.proofs.Common.{◌≡◌, ℕ, suc, ◌&&◌, Bool, true, false, not, List, [], ◌∷◌, map, take, Ok, refl, sym, subst}
use Rattle.std.specs.Prelude.{Option, Some, None, if◌then◌else◌, slice_get, IfSome, flat_map}
use Rattle.std.specs.List.{AllByRecursion}
use Rattle.std.proofs.lemmas.Bool.{and_parts}
use Rattle.tm_word.specs.Prelude.{Text, is_empty, joined, texts_equal}
use Rattle.tm_rules.specs.Prelude.{DomainName, Grammar, is_request}
use Rattle.tm_rules.specs.Types.{Entry, Look, Mode, Move, NamePlace, Reason, Reply, Run, Step, Take, Verdict}
use Rattle.tm_domain.specs.Names.{is_path}
use Rattle.tm_domain.proofs.NameLaws.{texts_same}
use Rattle.tm_line.proofs.WholeLaws.{words_again}
use Rattle.tm_trace.specs.Entries.{entry_words, entry_of, acl_line, is_entry}
use Rattle.tm_trace.proofs.EntryLaws.{entry_again}
use Rattle.tm_trace.proofs.EntryText.{entry_are}
use Rattle.tm_trace.specs.Written.{is_trace_request}
use Rattle.tm_grammar.specs.Tomoyo.{tomoyo_grammar}
use Rattle.tm_legal.specs.Prelude.{CanPlay, Case, IsOpened, Legal, LookHolds, OwnSteps, Scene, Subject, TakeHolds, cases_of, look_grants, opening_of, own_numbers, retry_written, state_at, step_at, steps_asked, steps_of, steps_of_line, steps_of_move, subject_of, times}
use Rattle.tm_legal.proofs.Asked.{All-append}
use Rattle.tm_legal.proofs.Opened.{steps_keep_opened}
use Rattle.tm_run.specs.Written.{is_line}
use Rattle.tm_run_laws.specs.Scenes.{IsReadScene}
use Rattle.tm_run_laws.proofs.Lists.{All-map, All-both, to-images, All-flat, at-number, at-numbers}
use Rattle.tm_legal.proofs.Legality.{cases_take}
use Rattle.tm_run_laws.proofs.Cases.{IsAsked, cases_ask, take_of}
use Rattle.tm_run_laws.proofs.Verdicts.{LineWritten, line_written}

-- ---- the steps that a verdict asks for

-- an Ask's line is that of an entry that can be written
abbrev pub AsksEntry : Grammar → Step → Type 0
AsksEntry g (Step.Ask d retry line) = (entry : Entry) × (g.can_write entry ≡ true) × (line ≡ g.print_entry entry)
AsksEntry g _ = Unit {0}

line_asks : (g : Grammar) (d r : ℕ) (mode : Option Mode) (reason : Reason) (name : NamePlace) (step : Move) (target : Option DomainName) (line : Option Entry) → IfSome line (λ entry. g.can_write entry ≡ true)
    → (let v : Verdict = record { mode = mode; reason = reason; name = name; step = step; target = target; line = line } in AllByRecursion (AsksEntry g) (steps_of_line g d r v))
line_asks g d r mode Reason.Learn name step target (Some line) h = (tt, tt)
line_asks g d r mode Reason.Learn name step target None h = tt
line_asks g d r mode Reason.Ask name step target (Some line) h = ((line, h, refl), tt)
line_asks g d r mode Reason.Ask name step target None h = tt
line_asks g d r mode _ name step target line h = tt

move_asks : (g : Grammar) (d : ℕ) (mode : Option Mode) (reason : Reason) (name : NamePlace) (step : Move) (target : Option DomainName) (line : Option Entry)
    → (let v : Verdict = record { mode = mode; reason = reason; name = name; step = step; target = target; line = line } in AllByRecursion (AsksEntry g) (steps_of_move d v))
move_asks g d mode reason name Move.Stay target line = tt
move_asks g d mode reason name (Move.Enter n) target line = tt
move_asks g d mode reason name Move.Make None line = tt
move_asks g d mode reason name Move.Make (Some made) line = (tt, tt)
move_asks g d mode reason name Move.Fail target line = (tt, tt)

verdict_asks : (g : Grammar) (d r : ℕ) (v : Verdict) (granted : Bool) → LineWritten g v → AllByRecursion (AsksEntry g) (steps_asked g d r v granted)
unfolding steps_asked
verdict_asks g d r v granted h =
    All-append (AsksEntry g) (steps_of_line g d r v) (if granted then steps_of_move d v else []) (line_asks g d r v.mode v.reason v.name v.step v.target v.line h) (by_grant granted)
  where
    by_grant : (b : Bool) → AllByRecursion (AsksEntry g) (if b then steps_of_move d v else [])
    by_grant true = move_asks g d v.mode v.reason v.name v.step v.target v.line
    by_grant false = tt

-- ---- the own steps of each look

module _ (scene : Scene) (run : Run) (can : CanPlay scene) where
  -- the step with this number asks for a printed entry, if it is an Ask
  abbrev IsWrittenAt : ℕ → Type 0
  IsWrittenAt number = IfSome (step_at run.steps number) (AsksEntry scene.grammar)

  opened_at : (version : ℕ) → IsOpened (state_at scene run.steps version).policy
  opened_at version = steps_keep_opened scene.grammar (opening_of scene) (take version (steps_of run.steps)) can.grammar can.opened

  look_asks : (s : Subject) (look : Look) → is_request scene.grammar.is_path s.request ≡ true → OwnSteps scene run.steps s look → LookHolds scene run.steps s look → AllByRecursion IsWrittenAt look.own
  look_asks s look is own holds =
      let state = state_at scene run.steps look.version in
      let v : Verdict = holds.0 in
      let written : LineWritten scene.grammar v =
      subst (λ o. IfSome o (LineWritten scene.grammar)) holds.1 (line_written scene.grammar state.policy state.queries.attached s.domain s.process s.request can.grammar (opened_at look.version).aggregators is) in
      let asked = subst (λ o. IfSome o (λ (w : Verdict). map (step_at run.steps) look.own ≡ map Some (steps_asked scene.grammar s.domain (retry_written run.steps look) w (look_grants look)))) holds.1 own.asked in
      at-numbers (AsksEntry scene.grammar) (step_at run.steps) look.own (steps_asked scene.grammar s.domain (retry_written run.steps look) v (look_grants look)) asked
      (verdict_asks scene.grammar s.domain (retry_written run.steps look) v (look_grants look) written)

  -- of every look of a take
  abbrev TakeAsks : Take → Type 0
  TakeAsks t = AllByRecursion (λ (look : Look). AllByRecursion IsWrittenAt look.own) t.looks

  looks_ask : (s : Subject) (looks : List Look) → is_request scene.grammar.is_path s.request ≡ true → AllByRecursion (OwnSteps scene run.steps s) looks → AllByRecursion (LookHolds scene run.steps s) looks
      → AllByRecursion (λ (look : Look). AllByRecursion IsWrittenAt look.own) looks
  looks_ask s [] is own holds = tt
  looks_ask s (look ∷ looks) is own holds = (look_asks s look is own.0 holds.0, looks_ask s looks is own.1 holds.1)

  -- what a case gives
  abbrev Facts : Case → Type 0
  Facts c = (is_request scene.grammar.is_path c.request ≡ true) × (AllByRecursion (OwnSteps scene run.steps (subject_of c)) c.taken.looks × TakeHolds scene run.steps c)

  case_asks : (c : Case) → Facts c → TakeAsks c.taken
  case_asks c f = looks_ask (subject_of c) c.taken.looks f.0 f.1.0 f.1.1.shown

  takes_ask : AllByRecursion Facts (cases_of scene run) → map take_of (cases_of scene run) ≡ run.takes → AllByRecursion TakeAsks run.takes
  takes_ask facts same = subst (AllByRecursion TakeAsks) same (to-images TakeAsks take_of (cases_of scene run) (All-map Facts (λ c. TakeAsks c.taken) (cases_of scene run) case_asks facts))

  numbers_ask : AllByRecursion TakeAsks run.takes → AllByRecursion IsWrittenAt (own_numbers run.takes)
  numbers_ask h =
      All-flat IsWrittenAt (λ (t : Take). flat_map (λ (look : Look). look.own) t.looks) run.takes
      (All-map TakeAsks (λ (t : Take). AllByRecursion IsWrittenAt (flat_map (λ (look : Look). look.own) t.looks)) run.takes (λ t k. All-flat IsWrittenAt (λ (look : Look). look.own) t.looks k) h)

-- ---- an Ask's line

-- an entry's words are a line
pub entry_line : (entry : Entry) → is_entry entry ≡ true → is_line (joined (entry_words entry)) ≡ true
unfolding is_line entry_of acl_line
entry_line entry h =
    let words = words_again (entry_words entry) (entry_are entry h) in
    rw words (by_words (entry_words entry) (entry_again entry h))
  where
    by_words : (words : List Text) → entry_of words ≡ Ok entry → (not (is_empty words) && texts_equal (joined words) (joined words)) ≡ true
    by_words [] e = absurd cc
    by_words (word ∷ words) e = texts_same (joined (word ∷ words)) (joined (word ∷ words)) refl

asked_line : (g : Grammar) (line : Text) → g ≡ tomoyo_grammar → (entry : Entry) × (g.can_write entry ≡ true) × (line ≡ g.print_entry entry) → is_line line ≡ true
asked_line g line same h =
    let here = subst (λ (f : Grammar). (entry : Entry) × (f.can_write entry ≡ true) × (line ≡ f.print_entry entry)) same h in
    subst (λ (text : Text). is_line text ≡ true) (sym here.2) (entry_line here.0 here.1)

trace_request : (request : _) → is_trace_request request ≡ true → is_request is_path request ≡ true
unfolding is_trace_request
trace_request request h = (and_parts _ _ (and_parts _ _ (and_parts _ _ (and_parts _ _ h).0).0).0).0

-- what the cases of a legal run give
pub facts_of : (scene : Scene) (run : Run) → (read : IsReadScene scene) → Legal scene run → AllByRecursion (Facts scene run read.can_play) (cases_of scene run)
facts_of scene run read legal =
    let asked = All-map IsAsked (λ c. is_request scene.grammar.is_path c.request ≡ true) (cases_of scene run) (λ c h. subst (λ (f : Grammar). is_request f.is_path c.request ≡ true) (sym read.grammar) (trace_request c.request h)) (cases_ask scene run read.trace.trees) in
    let own = All-both (λ (c : Case). AllByRecursion (OwnSteps scene run.steps (subject_of c)) c.taken.looks) (TakeHolds scene run.steps) (cases_of scene run) legal.own_steps legal.verdicts in
    All-both (λ (c : Case). is_request scene.grammar.is_path c.request ≡ true) (λ c. AllByRecursion (OwnSteps scene run.steps (subject_of c)) c.taken.looks × TakeHolds scene run.steps c) (cases_of scene run) asked own

-- the line of an Ask that a legal run has
pub ask_line : (scene : Scene) (run : Run) (k d retry : ℕ) (line : Text) (reply : Reply) → IsReadScene scene → Legal scene run → slice_get run.steps k ≡ Some (Step.Ask d retry line, reply) → is_line line ≡ true
ask_line scene run k d retry line reply read legal at =
    let takes = takes_ask scene run read.can_play (facts_of scene run read legal) (cases_take scene run legal.takes) in
    let here : step_at run.steps (suc k) ≡ Some (Step.Ask d retry line) = rw at refl in
    let once : times (suc k) (own_numbers run.takes) ≡ 1 = rw here at (legal.places.own (suc k)) in
    let written = at-number (IsWrittenAt scene run read.can_play) (suc k) 0 (own_numbers run.takes) (numbers_ask scene run read.can_play takes) once in
    asked_line scene.grammar line read.grammar (rw here at written)
