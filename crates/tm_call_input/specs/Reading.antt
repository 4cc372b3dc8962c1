-- What is played of the files, and what is refused of them.
use Rattle.std.specs.Prelude.{◌≡◌, ⊤, ℕ, ◌+◌, not, nat_lt, [], ◌∷◌, length, Option, Some, None, Result, Ok, Err, if◌then◌else◌, is_some, unwrap_or}
use Rattle.std.specs.List.{position_from}
use Rattle.tm_word.specs.Prelude.{Text, ◌>>=◌}
use Rattle.tm_rules.specs.Prelude.{Trace, live_domain}
use Rattle.tm_rules.specs.Types.{LoadFault, Policy, ScriptKind, Start, TraceKind, Tree}
use Rattle.tm_io.specs.declared.names.FileName.{FileName}
use Rattle.tm_trace.specs.Reading.{trace_of, tree_line_at}
use Rattle.tm_run.specs.Reading.{run_of}
use Rattle.tm_script.specs.Edits.{edits_of}
use Rattle.tm_script.specs.Answers.{answers_of}
use Rattle.tm_script.specs.Schedule.{schedule_of}
use Rattle.tm_script.specs.Written.{edit_count, has_supervisor}
use Rattle.tm_legal.specs.Prelude.{Scene}
use Rattle.tm_core.specs.Scenes as scenes
use Rattle.tm_call.specs.declared.status.Status.{Status}
use Rattle.tm_call.specs.declared.status.What.{What}
use Rattle.tm_call_input.specs.declared.reading.Loaded.{Loaded}
use Rattle.tm_call_input.specs.declared.reading.Judging.{Judging}
use Rattle.tm_call.specs.Fetches.{Texts, content}
use Rattle.tm_call_input.specs.Policies.{policy_of, fault_status}

-- the cause of a refusal in what was read; want of memory has none
abbrev pub status_cause : Status → Option Status
status_cause Status.OutOfMemory = None
status_cause status = Some status

-- how faults of policies, traces and scripts end the call
abbrev pub of_policy : {A : Type 0} → Result A LoadFault → Result A Status
of_policy (Ok x) = Ok x
of_policy (Err fault) = Err (fault_status fault)

abbrev pub of_trace : {A : Type 0} → Result A (ℕ × TraceKind) → Result A Status
of_trace (Ok x) = Ok x
of_trace (Err fault) = Err (Status.BadTrace fault.0 fault.1)

abbrev pub of_script : {A : Type 0} → FileName → Result A (ℕ × ScriptKind) → Result A Status
of_script name (Ok x) = Ok x
of_script name (Err fault) = Err (Status.BadScript name fault.0 fault.1)

-- how a fault of a given run ends the call
abbrev pub of_run : {A : Type 0} → Result A ℕ → Result A Status
of_run (Ok x) = Ok x
of_run (Err line) = Err (Status.BadRun line)

-- how many `do`, `ids` and `fork` lines a trace has
abbrev pub record_count : Trace → ℕ
record_count [] = 0
record_count (tree ∷ trees) = length tree.records + record_count trees

-- the first limit that is passed: 200,000 records, 4,096 trees, 10,000 edits, 8 editors, 1,000,000
-- turns
abbrev pub excess : Loaded → Option What
excess loaded =
    if nat_lt 200000 (record_count loaded.trace) then Some What.Records
    else if nat_lt 4096 (length loaded.trace) then Some What.Trees
    else if nat_lt 10000 (edit_count loaded.editors) then Some What.Edits
    else if nat_lt 8 (length loaded.editors) then Some What.Editors
    else if nat_lt 1000000 (length loaded.schedule) then Some What.Turns
    else None

-- the place of the first tree whose domain isn't live in the opening
abbrev pub homeless : Policy → Trace → Option ℕ
homeless policy trace = position_from (λ (tree : Tree). not (is_some (live_domain policy tree.start))) 0 trace

-- a limit that is passed refuses what was read
abbrev pub within_limits : Option What → Loaded → Result Loaded Status
within_limits None loaded = Ok loaded
within_limits (Some what) loaded = Err (Status.TooMany what)

-- a tree whose domain isn't live refuses what was read, at the tree's line
abbrev pub with_homes : Text → Option ℕ → Loaded → Result Loaded Status
with_homes text None loaded = Ok loaded
with_homes text (Some place) loaded = Err (Status.BadTrace (unwrap_or (tree_line_at text place) 0) TraceKind.NoDomain)

-- what is read is within the limits, and each tree starts in a live domain
abbrev pub admitted : Text → Loaded → Result Loaded Status
admitted text loaded = within_limits (excess loaded) loaded >>= λ few. with_homes text (homeless few.policy few.trace) few

-- the opening, the trace, the edits and the supervisor's book, in this order; the first that is
-- refused decides
unfoldable pub parts_reading : Texts → Result Loaded Status
parts_reading texts = do
  policy ← of_policy (policy_of texts)
  trace ← of_trace (trace_of (content texts FileName.Trace))
  editors ← of_script FileName.Edits (edits_of (content texts FileName.Edits))
  book ← of_script FileName.Answers (answers_of (content texts FileName.Answers))
  Ok (record { policy = policy; trace = trace; editors = editors; book = book; schedule = [] })

-- what is played or judged without a schedule
unfoldable pub scene_reading : Texts → Result Loaded Status
scene_reading texts = parts_reading texts >>= λ parts. admitted (content texts FileName.Trace) parts

-- a scene with the run that a text gives
abbrev pub with_run : Text → Loaded → Result Judging Status
with_run text scene = of_run (run_of text) >>= λ run. Ok (record { scene = scene; run = run })

-- a given run is read after all that it is judged by
unfoldable pub judging_reading : Texts → Result Judging Status
judging_reading texts = scene_reading texts >>= λ scene. with_run (content texts FileName.Run) scene

-- what is played by a schedule, which is read before anything is compared with its limit
unfoldable pub step_reading : Texts → Result Loaded Status
step_reading texts = do
  parts ← parts_reading texts
  schedule ← of_script FileName.Schedule (schedule_of (length parts.trace) (length parts.editors) (content texts FileName.Schedule))
  admitted (content texts FileName.Trace) (record parts { schedule = schedule })

-- the refusal of a reading
abbrev pub refused : {A : Type 0} → Result A Status → Option Status
refused (Ok read) = None
refused (Err status) = Some status

unfoldable pub step_refusal : Texts → Option Status
step_refusal texts = refused (step_reading texts)

-- what ends with this refusal; want of memory is free
abbrev pub RefusedBy : Option Status → Status → Type 0
RefusedBy refusal Status.OutOfMemory = ⊤
RefusedBy refusal status = refusal ≡ Some status

-- what a machine starts from: a supervisor stands where its book has a line
abbrev pub start_of : Loaded → Start
start_of loaded = record { policy = loaded.policy; editors = loaded.editors; trees = length loaded.trace; desk = has_supervisor loaded.book }

-- what was read, as a scene
abbrev pub scene_of : Loaded → Scene
scene_of loaded = scenes.scene_of (start_of loaded) loaded.trace loaded.book
