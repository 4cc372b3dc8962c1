-- How the readings of files are refused.
use Rattle.std.proofs.Common.{◌≡◌, ℕ, Option, Some, None, Result, Ok, Err, ap, refl, sym, subst, ◌⊎◌, inl, inr, length}
use Rattle.std.specs.Prelude.{unwrap_or}
use Rattle.tm_word.specs.Prelude.{Fails, Text, ◌>>=◌}
use Rattle.tm_io.specs.declared.names.FileName.{FileName}
use Rattle.tm_call.specs.declared.status.Status.{Status}
use Rattle.tm_call.specs.declared.status.What.{What}
use Rattle.tm_call_input.specs.declared.reading.Loaded.{Loaded}
use Rattle.tm_rules.specs.Types.{EditReply, FileKind, LoadFault, Policy, Run, ScriptKind, TraceKind}
use Rattle.tm_trace.specs.Reading.{trace_of, tree_line_at}
use Rattle.tm_run.specs.Reading as run
use Rattle.tm_script.specs.Edits.{edits_of}
use Rattle.tm_script.specs.Answers.{answers_of}
use Rattle.tm_script.specs.Schedule.{schedule_of}
use Rattle.tm_call.specs.Fetches.{Texts, content}
use Rattle.tm_call_input.specs.Policies.{policy_of, fault_status, load_refusal}
use Rattle.tm_call_input.specs.Reading.{of_policy, of_trace, of_script, of_run, excess, homeless, within_limits, with_homes, admitted, refused, parts_reading, scene_reading, step_reading, judging_reading, step_refusal, status_cause, RefusedBy}

-- What isn't read

-- the statuses of faults beside the policy
abbrev pub IsLater : Status → Type 0
IsLater (Status.BadTrace line kind) = Unit {0}
IsLater (Status.BadScript name line kind) = Unit {0}
IsLater (Status.TooMany what) = Unit {0}
IsLater _ = ⊥

-- a reading in two steps fails as its first step or as its second
pub failed : {A B : Type 0} (P : Status → Type 0) (r : Result A Status) (f : A → Result B Status) (status : Status) → ((s : Status) → r ≡ Err s → P s) → ((x : A) → f x ≡ Err status → P status) → (r >>= f) ≡ Err status → P status
failed P (Ok x) f status first second e = second x e
failed P (Err s) f status first second e = let same : s ≡ status = cc in subst P same (first s refl)

trace-later : {A : Type 0} (r : Result A (ℕ × TraceKind)) (status : Status) → of_trace r ≡ Err status → IsLater status
trace-later (Ok x) status e = absurd cc
trace-later (Err fault) status e = let same : Status.BadTrace fault.0 fault.1 ≡ status = cc in subst (λ (s : Status). IsLater s) same tt

script-later : {A : Type 0} (name : FileName) (r : Result A (ℕ × ScriptKind)) (status : Status) → of_script name r ≡ Err status → IsLater status
script-later name (Ok x) status e = absurd cc
script-later name (Err fault) status e = let same : Status.BadScript name fault.0 fault.1 ≡ status = cc in subst (λ (s : Status). IsLater s) same tt

limits-later : (o : Option What) (loaded : Loaded) (status : Status) → within_limits o loaded ≡ Err status → IsLater status
limits-later None loaded status e = absurd cc
limits-later (Some what) loaded status e = let same : Status.TooMany what ≡ status = cc in subst (λ (s : Status). IsLater s) same tt

homes-later : (text : Text) (o : Option ℕ) (loaded : Loaded) (status : Status) → with_homes text o loaded ≡ Err status → IsLater status
homes-later text None loaded status e = absurd cc
homes-later text (Some place) loaded status e = let same : Status.BadTrace (unwrap_or (tree_line_at text place) 0) TraceKind.NoDomain ≡ status = cc in subst (λ (s : Status). IsLater s) same tt

-- how a reading of the policy and of what comes after it fails
abbrev pub FailsSo : Texts → Status → Type 0
FailsSo texts status = ((fault : LoadFault) × (policy_of texts ≡ Err fault) × (fault_status fault ≡ status)) ⊎ IsLater status

policy-fails : {A : Type 0} (r : Result Policy LoadFault) (f : Policy → Result A Status) (status : Status) → ((policy : Policy) → f policy ≡ Err status → IsLater status) → (of_policy r >>= f) ≡ Err status
    → ((fault : LoadFault) × (r ≡ Err fault) × (fault_status fault ≡ status)) ⊎ IsLater status
policy-fails (Ok policy) f status later e = inr (later policy e)
policy-fails (Err fault) f status later e = let same : fault_status fault ≡ status = cc in inl (fault, refl, same)

-- what the first parts fail with
parts-fail : (texts : Texts) (status : Status) → parts_reading texts ≡ Err status → FailsSo texts status
unfolding parts_reading
parts-fail texts status e =
    policy-fails (policy_of texts) _ status
    (λ policy after_policy. failed IsLater (of_trace (trace_of (content texts FileName.Trace))) _ status (trace-later (trace_of (content texts FileName.Trace)))
    (λ trace after_trace. failed IsLater (of_script FileName.Edits (edits_of (content texts FileName.Edits))) _ status (script-later FileName.Edits (edits_of (content texts FileName.Edits)))
    (λ editors after_editors. failed IsLater (of_script FileName.Answers (answers_of (content texts FileName.Answers))) _ status (script-later FileName.Answers (answers_of (content texts FileName.Answers)))
    (λ book after_book. absurd cc) after_editors) after_trace) after_policy) e

-- what isn't admitted fails with
admitted-later : (text : Text) (read : Loaded) (status : Status) → admitted text read ≡ Err status → IsLater status
admitted-later text read status e =
    failed IsLater (within_limits (excess read) read) (λ few. with_homes text (homeless few.policy few.trace) few) status (limits-later (excess read) read)
    (λ few after_limits. homes-later text (homeless few.policy few.trace) few status after_limits) e

scene-fails : (texts : Texts) (status : Status) → scene_reading texts ≡ Err status → FailsSo texts status
unfolding scene_reading
scene-fails texts status e =
    failed (FailsSo texts) (parts_reading texts) (λ parts. admitted (content texts FileName.Trace) parts) status (parts-fail texts)
    (λ parts after_parts. inr (admitted-later (content texts FileName.Trace) parts status after_parts)) e

step-fails : (texts : Texts) (status : Status) → step_reading texts ≡ Err status → FailsSo texts status
unfolding step_reading
step-fails texts status e =
    failed (FailsSo texts) (parts_reading texts) _ status (parts-fail texts)
    (λ parts after_parts.
    let schedule = of_script FileName.Schedule (schedule_of (length parts.trace) (length parts.editors) (content texts FileName.Schedule)) in
    failed (FailsSo texts) schedule _ status
    (λ s is. inr (script-later FileName.Schedule (schedule_of (length parts.trace) (length parts.editors) (content texts FileName.Schedule)) s is))
    (λ turns after_schedule. inr (admitted-later (content texts FileName.Trace) (record parts { schedule = turns }) status after_schedule)) after_parts) e

pub was-refused : {A : Type 0} (r : Result A Status) (status : Status) → refused r ≡ Some status → r ≡ Err status
was-refused (Ok read) status e = absurd cc
was-refused (Err s) status e = let same : s ≡ status = cc in ap (λ x. Err x) same

pub scene-refused : (texts : Texts) (status : Status) → refused (scene_reading texts) ≡ Some status → FailsSo texts status
scene-refused texts status e = scene-fails texts status (was-refused (scene_reading texts) status e)

pub step-refused : (texts : Texts) (status : Status) → step_refusal texts ≡ Some status → FailsSo texts status
unfolding step_refusal
step-refused texts status e = step-fails texts status (was-refused (step_reading texts) status e)

-- a fault of a given run
abbrev pub IsRunFault : Status → Type 0
IsRunFault status = (line : ℕ) × (status ≡ Status.BadRun line)

run-fault : (r : Result Run ℕ) (status : Status) → of_run r ≡ Err status → IsRunFault status
run-fault (Ok x) status e = absurd cc
run-fault (Err line) status e = let same : Status.BadRun line ≡ status = cc in (line, sym same)

-- what is judged is refused as its scene is, or by its run
pub judging-refused : (texts : Texts) (status : Status) → refused (judging_reading texts) ≡ Some status
    → (refused (scene_reading texts) ≡ Some status) ⊎ IsRunFault status
unfolding judging_reading
judging-refused texts status e =
    failed (λ (s : Status). (refused (scene_reading texts) ≡ Some s) ⊎ IsRunFault s) (scene_reading texts) _ status (λ s is. inl (ap refused is))
    (λ scene after_scene. failed (λ (s : Status). (refused (scene_reading texts) ≡ Some s) ⊎ IsRunFault s) (of_run (run.run_of (content texts FileName.Run))) _ status
    (λ s is. inr (run-fault (run.run_of (content texts FileName.Run)) s is)) (λ given after_run. absurd cc) after_scene) (was-refused (judging_reading texts) status e)

-- The statuses of refusals

abbrev pub IsRefusal : Status → Type 0
IsRefusal (Status.BadPolicy file line reply) = Unit {0}
IsRefusal (Status.UndefinedProfile domain) = Unit {0}
IsRefusal (Status.BadTrace line kind) = Unit {0}
IsRefusal (Status.BadScript name line kind) = Unit {0}
IsRefusal (Status.TooMany what) = Unit {0}
IsRefusal Status.OutOfMemory = Unit {0}
IsRefusal _ = ⊥

fault-kind : (fault : LoadFault) → IsRefusal (fault_status fault)
fault-kind (LoadFault.Line file line reply) = tt
fault-kind (LoadFault.UndefinedProfile domain) = tt
fault-kind LoadFault.NoMemory = tt

later-kind : (status : Status) → IsLater status → IsRefusal status
later-kind (Status.BadTrace line kind) h = tt
later-kind (Status.BadScript name line kind) h = tt
later-kind (Status.TooMany what) h = tt
later-kind Status.Done h = h
later-kind (Status.BadWords place) h = h
later-kind (Status.ReadFault name) h = h
later-kind (Status.Absent name) h = h
later-kind (Status.TooLong name) h = h
later-kind (Status.BadPolicy file line reply) h = tt
later-kind (Status.UndefinedProfile domain) h = tt
later-kind (Status.BadRules line kind) h = h
later-kind (Status.BadAudit line) h = h
later-kind (Status.BadRun line) h = h
later-kind (Status.WriteFault name) h = h
later-kind Status.OutOfMemory h = tt

pub step-kind : (texts : Texts) (status : Status) → FailsSo texts status → IsRefusal status
step-kind texts status (inl h) = subst (λ (s : Status). IsRefusal s) h.2 (fault-kind h.0)
step-kind texts status (inr later) = later-kind status later

-- a fault of loading, by the refusal
pub load-refused : (r : Result Policy LoadFault) (status : Status) → load_refusal r ≡ Some status → (fault : LoadFault) × (r ≡ Err fault) × (fault_status fault ≡ status)
load-refused (Ok policy) status e = absurd cc
load-refused (Err fault) status e = let same : fault_status fault ≡ status = cc in (fault, refl, same)

-- The causes of the statuses of refusals

abbrev pub HasFault : Texts → Status → Type 0
HasFault texts status = (fault : LoadFault) × (policy_of texts ≡ Err fault) × (fault_status fault ≡ status)

pub early : (texts : Texts) (status : Status) → ¬ IsLater status → FailsSo texts status → HasFault texts status
early texts status not_later (inl h) = h
early texts status not_later (inr later) = absurd (not_later later)

pub fault-line : (fault : LoadFault) (file : FileKind) (line : ℕ) (reply : EditReply) → fault_status fault ≡ Status.BadPolicy file line reply → fault ≡ LoadFault.Line file line reply
fault-line (LoadFault.Line f n y) file line reply e = cc
fault-line (LoadFault.UndefinedProfile domain) file line reply e = cc
fault-line LoadFault.NoMemory file line reply e = cc

pub fault-undefined : (fault : LoadFault) (domain : ℕ) → fault_status fault ≡ Status.UndefinedProfile domain → fault ≡ LoadFault.UndefinedProfile domain
fault-undefined (LoadFault.Line f n y) domain e = cc
fault-undefined (LoadFault.UndefinedProfile d) domain e = cc
fault-undefined LoadFault.NoMemory domain e = cc

-- `print` has no fault beside the policy
pub fault-early : (fault : LoadFault) (status : Status) → fault_status fault ≡ status → ¬ IsLater status
fault-early (LoadFault.Line file line reply) status e = subst (λ (s : Status). ¬ IsLater s) e (λ h. h)
fault-early (LoadFault.UndefinedProfile domain) status e = subst (λ (s : Status). ¬ IsLater s) e (λ h. h)
fault-early LoadFault.NoMemory status e = subst (λ (s : Status). ¬ IsLater s) e (λ h. h)

-- a reading that fails is refused
pub refuses : {A : Type 0} (read : Result A Status) (status : Status) → Fails (status_cause status) read → RefusedBy (refused read) status
refuses read Status.OutOfMemory h = tt
refuses read Status.Done h = ap refused h
refuses read (Status.BadWords place) h = ap refused h
refuses read (Status.ReadFault name) h = ap refused h
refuses read (Status.Absent name) h = ap refused h
refuses read (Status.TooLong name) h = ap refused h
refuses read (Status.BadPolicy file line reply) h = ap refused h
refuses read (Status.UndefinedProfile domain) h = ap refused h
refuses read (Status.BadTrace line kind) h = ap refused h
refuses read (Status.BadScript name line kind) h = ap refused h
refuses read (Status.TooMany what) h = ap refused h
refuses read (Status.BadRules line kind) h = ap refused h
refuses read (Status.BadAudit line) h = ap refused h
refuses read (Status.BadRun line) h = ap refused h
refuses read (Status.WriteFault name) h = ap refused h
