-- What was read can be played.
use Rattle.std.proofs.Common.{◌≡◌, ℕ, ◌+◌, Bool, true, false, not, ◌&&◌, List, [], ◌∷◌, length, refl, sym, ap, ◌∙◌, subst}
use Rattle.std.specs.Prelude.{Option, Some, None, Result, Ok, Err, IsSome, is_some, nat_lt, if◌then◌else◌}
use Rattle.std.specs.List.{AllByRecursion, position_from, list_all}
use Rattle.tm_word.specs.Prelude.{Text, ◌>>=◌}
use Rattle.tm_rules.specs.Prelude.{Trace, live_domain}
use Rattle.tm_rules.specs.Types.{Book, BookRule, LoadFault, Policy, Run, ScriptKind, TraceKind, Tree, Turn}
use Rattle.tm_call.specs.declared.status.Status.{Status}
use Rattle.tm_io.specs.declared.names.FileName.{FileName}
use Rattle.tm_core.specs.Tomoyo.{tomoyo_grammar}
use Rattle.tm_core.proofs.IsOne.{is_one}
use Rattle.tm_trace.specs.Reading.{trace_of}
use Rattle.tm_trace.proofs.EachAsked.{requests_bounded}
use Rattle.tm_trace.proofs.TraceRead.{trace_read}
use Rattle.tm_run.specs.Reading as run
use Rattle.tm_script.specs.Edits.{edits_of}
use Rattle.tm_script.specs.Answers.{answers_of}
use Rattle.tm_script.specs.Schedule.{schedule_of}
use Rattle.tm_script.specs.Written.{is_rule, is_book, has_supervisor, edit_count}
use Rattle.tm_script.proofs.ReadLaws.{books_right}
use Rattle.tm_legal.specs.Prelude.{CanPlay, book_ends, ends_so}
use Rattle.tm_legal.proofs.Loads.{loads_opened}
use Rattle.tm_call.specs.declared.status.What.{What}
use Rattle.tm_call_input.specs.declared.reading.Loaded.{Loaded}
use Rattle.tm_call_input.specs.declared.reading.Judging.{Judging}
use Rattle.tm_call.specs.Fetches.{Texts, content}
use Rattle.tm_call_input.specs.Policies.{policy_files, policy_of}
use Rattle.tm_call_input.specs.Reading.{of_policy, of_trace, of_script, of_run, record_count, excess, homeless, within_limits, with_homes, admitted, parts_reading, scene_reading, step_reading, judging_reading, scene_of}

-- Readings in steps

-- a reading that is done
abbrev done : Loaded → Result Loaded Status
done loaded = Ok loaded

-- both steps of a reading that is done
bound : {A B E : Type 0} (r : Result A E) (f : A → Result B E) (y : B) → (r >>= f) ≡ Ok y → (x : A) × (r ≡ Ok x) × (f x ≡ Ok y)
bound (Ok x) f y e = (x, refl, e)
bound (Err fault) f y e = absurd cc

done-is : (x y : Loaded) → done x ≡ done y → x ≡ y
done-is x y e = cc

policy-read : {A : Type 0} (r : Result A LoadFault) (x : A) → of_policy r ≡ Ok x → r ≡ Ok x
policy-read (Ok y) x e = ap (λ r. r) (let same : y ≡ x = cc in ap Ok same)
policy-read (Err fault) x e = absurd cc

trace-read : {A : Type 0} (r : Result A (ℕ × TraceKind)) (x : A) → of_trace r ≡ Ok x → r ≡ Ok x
trace-read (Ok y) x e = let same : y ≡ x = cc in ap Ok same
trace-read (Err fault) x e = absurd cc

script-read : {A : Type 0} (name : FileName) (r : Result A (ℕ × ScriptKind)) (x : A) → of_script name r ≡ Ok x → r ≡ Ok x
script-read name (Ok y) x e = let same : y ≡ x = cc in ap Ok same
script-read name (Err fault) x e = absurd cc

within-read : (o : Option What) (loaded few : Loaded) → within_limits o loaded ≡ Ok few → few ≡ loaded
within-read None loaded few e = let same : loaded ≡ few = cc in sym same
within-read (Some what) loaded few e = absurd cc

homes-read : (text : Text) (o : Option ℕ) (few loaded : Loaded) → with_homes text o few ≡ Ok loaded → (loaded ≡ few) × (o ≡ None)
homes-read text None few loaded e = let same : few ≡ loaded = cc in (sym same, refl)
homes-read text (Some place) few loaded e = absurd cc

-- what is admitted stays as it is, and each tree has a home
admitted-read : (text : Text) (read loaded : Loaded) → admitted text read ≡ Ok loaded → (loaded ≡ read) × (homeless read.policy read.trace ≡ None)
admitted-read text read loaded e =
    let (few, within, homes) = bound (within_limits (excess read) read) (λ few. with_homes text (homeless few.policy few.trace) few) loaded e in
    let same : few ≡ read = within-read (excess read) read few within in
    let told = homes-read text (homeless few.policy few.trace) few loaded homes in
    (told.0 ∙ same, subst (λ (l : Loaded). homeless l.policy l.trace ≡ None) same told.1)

-- The parts of what was read

-- each part is read from its file, and each tree has a home
pub record AreRead (texts : Texts) (loaded : Loaded) : Type 0 where
  pub policy : policy_of texts ≡ Ok loaded.policy
  pub trace : trace_of (content texts FileName.Trace) ≡ Ok loaded.trace
  pub editors : edits_of (content texts FileName.Edits) ≡ Ok loaded.editors
  pub book : answers_of (content texts FileName.Answers) ≡ Ok loaded.book
  pub homes : homeless loaded.policy loaded.trace ≡ None

-- the parts, without their homes
record PartsAreRead (texts : Texts) (loaded : Loaded) : Type 0 where
  policy : policy_of texts ≡ Ok loaded.policy
  trace : trace_of (content texts FileName.Trace) ≡ Ok loaded.trace
  editors : edits_of (content texts FileName.Edits) ≡ Ok loaded.editors
  book : answers_of (content texts FileName.Answers) ≡ Ok loaded.book

parts-are : (texts : Texts) (parts : Loaded) → parts_reading texts ≡ Ok parts → PartsAreRead texts parts
unfolding parts_reading
parts-are texts parts e =
    let (policy, p, after_policy) = bound (of_policy (policy_of texts)) _ parts e in
    let (trace, t, after_trace) = bound (of_trace (trace_of (content texts FileName.Trace))) _ parts after_policy in
    let (editors, d, after_editors) = bound (of_script FileName.Edits (edits_of (content texts FileName.Edits))) _ parts after_trace in
    let (book, b, after_book) = bound (of_script FileName.Answers (answers_of (content texts FileName.Answers))) _ parts after_editors in
    let read : Loaded = record { policy = policy; trace = trace; editors = editors; book = book; schedule = [] } in
    let same : read ≡ parts = done-is read parts after_book in
    subst (PartsAreRead texts) same
    (record {
      policy = policy-read (policy_of texts) policy p;
      trace = trace-read (trace_of (content texts FileName.Trace)) trace t;
      editors = script-read FileName.Edits (edits_of (content texts FileName.Edits)) editors d;
      book = script-read FileName.Answers (answers_of (content texts FileName.Answers)) book b;
    })

-- parts that are admitted, with whatever schedule
are-read : (texts : Texts) (parts loaded : Loaded) (schedule : List Turn) → PartsAreRead texts parts
    → admitted (content texts FileName.Trace) (record parts { schedule = schedule }) ≡ Ok loaded → AreRead texts loaded
are-read texts parts loaded schedule read e =
    let (same, homes) = admitted-read (content texts FileName.Trace) (record parts { schedule = schedule }) loaded e in
    subst (AreRead texts) (sym same) (record { policy = read.policy; trace = read.trace; editors = read.editors; book = read.book; homes = homes })

-- what is read without a schedule
pub scene-read : (texts : Texts) (loaded : Loaded) → scene_reading texts ≡ Ok loaded → AreRead texts loaded
unfolding scene_reading
scene-read texts loaded e =
    let (parts, p, after_parts) = bound (parts_reading texts) (λ parts. admitted (content texts FileName.Trace) parts) loaded e in
    are-read texts parts loaded parts.schedule (parts-are texts parts p) after_parts

-- what is read with a schedule
pub step-read : (texts : Texts) (loaded : Loaded) → step_reading texts ≡ Ok loaded → AreRead texts loaded
unfolding step_reading
step-read texts loaded e =
    let (parts, p, after_parts) = bound (parts_reading texts) _ loaded e in
    let (schedule, s, after_schedule) =
    bound (of_script FileName.Schedule (schedule_of (length parts.trace) (length parts.editors) (content texts FileName.Schedule))) _ loaded after_parts in
    are-read texts parts loaded schedule (parts-are texts parts p) after_schedule

-- what is within all limits with some turns is so without turns
fewer : (a b c d e : Bool) (v w x y z : What)
    → (if a then Some v else if b then Some w else if c then Some x else if d then Some y else if e then Some z else None) ≡ None
    → (if a then Some v else if b then Some w else if c then Some x else if d then Some y else None) ≡ None
fewer true b c d e v w x y z h = absurd cc
fewer false true c d e v w x y z h = absurd cc
fewer false false true d e v w x y z h = absurd cc
fewer false false false true e v w x y z h = absurd cc
fewer false false false false e v w x y z h = refl

no-excess : (o : Option What) (loaded few : Loaded) → within_limits o loaded ≡ Ok few → o ≡ None
no-excess None loaded few e = refl
no-excess (Some what) loaded few e = absurd cc

-- what is admitted with turns is admitted without them
admitted-alone : (text : Text) (parts loaded : Loaded) (turns : List Turn) → parts.schedule ≡ []
    → admitted text (record parts { schedule = turns }) ≡ Ok loaded → admitted text parts ≡ Ok (record loaded { schedule = [] })
admitted-alone text parts loaded turns none e =
    let turned : Loaded = record parts { schedule = turns } in
    let (few, within, homes) = bound (within_limits (excess turned) turned) (λ few. with_homes text (homeless few.policy few.trace) few) loaded e in
    let same : few ≡ turned = within-read (excess turned) turned few within in
    let told = homes-read text (homeless few.policy few.trace) few loaded homes in
    let is : loaded ≡ turned = told.0 ∙ same in
    let home : homeless parts.policy parts.trace ≡ None = subst (λ (l : Loaded). homeless l.policy l.trace ≡ None) same told.1 in
    let limits : excess parts ≡ None =
    rw none (fewer (nat_lt 200000 (record_count parts.trace)) (nat_lt 4096 (length parts.trace)) (nat_lt 10000 (edit_count parts.editors)) (nat_lt 8 (length parts.editors)) (nat_lt 1000000 (length turns))
    What.Records What.Trees What.Edits What.Editors What.Turns (no-excess (excess turned) turned few within)) in
    let left : record loaded { schedule = [] } ≡ parts = ap (λ (l : Loaded). record l { schedule = [] }) is ∙ unturned parts none in
    rw (limits, home) (ap (λ (l : Loaded). Ok l) (sym left))
  where
    unturned : (parts : Loaded) → parts.schedule ≡ [] → record parts { schedule = [] } ≡ parts
    unturned parts none = ap (λ (turns : List Turn). record parts { schedule = turns }) (sym none)

-- the parts have no schedule
parts-alone : (texts : Texts) (parts : Loaded) → parts_reading texts ≡ Ok parts → parts.schedule ≡ []
unfolding parts_reading
parts-alone texts parts e =
    let (policy, p, after_policy) = bound (of_policy (policy_of texts)) _ parts e in
    let (trace, t, after_trace) = bound (of_trace (trace_of (content texts FileName.Trace))) _ parts after_policy in
    let (editors, d, after_editors) = bound (of_script FileName.Edits (edits_of (content texts FileName.Edits))) _ parts after_trace in
    let (book, b, after_book) = bound (of_script FileName.Answers (answers_of (content texts FileName.Answers))) _ parts after_editors in
    ap (λ (l : Loaded). l.schedule) (sym (done-is (record { policy = policy; trace = trace; editors = editors; book = book; schedule = [] }) parts after_book))

-- what is read with a schedule is read without one
pub step-scene : (texts : Texts) (loaded : Loaded) → step_reading texts ≡ Ok loaded → scene_reading texts ≡ Ok (record loaded { schedule = [] })
unfolding step_reading scene_reading
step-scene texts loaded e =
    let (parts, p, after_parts) = bound (parts_reading texts) _ loaded e in
    let (schedule, s, after_schedule) =
    bound (of_script FileName.Schedule (schedule_of (length parts.trace) (length parts.editors) (content texts FileName.Schedule))) _ loaded after_parts in
    rw p (admitted-alone (content texts FileName.Trace) parts loaded schedule (parts-alone texts parts p) after_schedule)

-- what is judged: its scene is read, and then its run
pub record IsJudgingRead (texts : Texts) (judging : Judging) : Type 0 where
  pub scene : scene_reading texts ≡ Ok judging.scene
  pub run_is : run.run_of (content texts FileName.Run) ≡ Ok judging.run

run-read : (r : Result Run ℕ) (x : Run) → of_run r ≡ Ok x → r ≡ Ok x
run-read (Ok y) x e = let same : y ≡ x = cc in ap Ok same
run-read (Err line) x e = absurd cc

abbrev judged : Judging → Result Judging Status
judged judging = Ok judging

judging-is : (x y : Judging) → judged x ≡ judged y → x ≡ y
judging-is x y e = cc

pub judging-read : (texts : Texts) (judging : Judging) → judging_reading texts ≡ Ok judging → IsJudgingRead texts judging
unfolding judging_reading
judging-read texts judging e =
    let (scene, s, after_scene) = bound (scene_reading texts) _ judging e in
    let (given, r, after_run) = bound (of_run (run.run_of (content texts FileName.Run))) _ judging after_scene in
    let same : record { scene = scene; run = given } ≡ judging = judging-is (record { scene = scene; run = given }) judging after_run in
    subst (IsJudgingRead texts) same (record { scene = s; run_is = run-read (run.run_of (content texts FileName.Run)) given r })

-- Playing

is-there : {A : Type 0} (o : Option A) → not (is_some o) ≡ false → IsSome o
is-there None e = absurd cc
is-there (Some x) e = refl

pub homes-there : (policy : Policy) (k : ℕ) (trees : Trace) → position_from (λ (tree : Tree). not (is_some (live_domain policy tree.start))) k trees ≡ None → AllByRecursion (λ (tree : Tree). IsSome (live_domain policy tree.start)) trees
homes-there policy k [] e = tt
homes-there policy k (tree ∷ trees) e = go (not (is_some (live_domain policy tree.start))) refl (homes-there policy (k + 1) trees) e
  where
    go : (b : Bool) → not (is_some (live_domain policy tree.start)) ≡ b
        → (position_from (λ (tree : Tree). not (is_some (live_domain policy tree.start))) (k + 1) trees ≡ None → AllByRecursion (λ (tree : Tree). IsSome (live_domain policy tree.start)) trees) → (if b then Some k else position_from (λ (tree : Tree). not (is_some (live_domain policy tree.start))) (k + 1) trees) ≡ None → IsSome (live_domain policy tree.start) × AllByRecursion (λ (tree : Tree). IsSome (live_domain policy tree.start)) trees
    go true is others none = absurd cc
    go false is others none = (is-there (live_domain policy tree.start) is, others none)

first-part : (a b : Bool) → (a && b) ≡ true → a ≡ true
first-part true b h = refl
first-part false b h = h

second-part : (a b : Bool) → (a && b) ≡ true → b ≡ true
second-part true b h = h
second-part false b h = absurd cc

rule-ends : (rule : BookRule) → is_rule rule ≡ true → ends_so rule ≡ true
unfolding is_rule
rule-ends rule e = first-part _ _ (first-part _ _ e)

rules-end : (rules : List BookRule) → list_all is_rule rules ≡ true → list_all ends_so rules ≡ true
rules-end [] e = refl
rules-end (rule ∷ rules) e = rw (rule-ends rule (first-part (is_rule rule) (list_all is_rule rules) e)) (rules-end rules (second-part (is_rule rule) (list_all is_rule rules) e))

book-ends : (book : Book) → is_book book ≡ true → list_all ends_so book.rules ≡ true
unfolding is_book
book-ends book e = rules-end book.rules (first-part _ _ e)

answers-end : (desk : Bool) (book : Book) → list_all ends_so book.rules ≡ true → book_ends (if desk then Some book else None) ≡ true
answers-end true book e = e
answers-end false book e = refl

-- what was read can be played
pub can-play : (texts : Texts) (loaded : Loaded) → AreRead texts loaded → CanPlay (scene_of loaded)
unfolding policy_of
can-play texts loaded read =
    let opened = loads_opened tomoyo_grammar (policy_files texts) loaded.policy is_one read.policy in
    record {
      grammar = is_one;
      opened = opened.0;
      named = opened.1;
      starts = homes-there loaded.policy 0 loaded.trace read.homes;
      requests = requests_bounded loaded.trace (trace_read (content texts FileName.Trace) loaded.trace read.trace);
      answers = answers-end (has_supervisor loaded.book) loaded.book (book-ends loaded.book (books_right (content texts FileName.Answers) loaded.book read.book));
    }
