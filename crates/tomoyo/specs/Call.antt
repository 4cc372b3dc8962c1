-- The top call: what each command reads, stores and allows, and the cause of each status.
use Rattle.std.specs.Prelude.{◌≡◌, ℕ, ◌⊎◌, List, [], ◌∷◌, ◌++◌, map, Bool, true, false, ⊤}
use Rattle.std.specs.Prelude.{Result, Ok, Err, Option, Some, None}
use Rattle.std.specs.List.{AllByRecursion}
use Rattle.tm_io.specs.declared.names.FileName.{FileName}
use Rattle.tm_rules.specs.Types.{LoadFault, Policy, Run}
use Rattle.tm_text.specs.DomainText.{domain_text}
use Rattle.tm_text.specs.ExceptionText.{exception_text}
use Rattle.tm_text.specs.ManagerText.{manager_text}
use Rattle.tm_text.specs.ProfileText.{profile_text}
use Rattle.tm_rerun.specs.Rerun.{no_rerun_text}
use Rattle.tm_io.specs.Causes.{Rose}
use Rattle.tm_io.specs.Bytes.{then_bytes}
use Rattle.tm_io.specs.Files.{FileState, Files, SameFiles}
use Rattle.tm_call.specs.declared.status.Status.{Status}
use Rattle.tm_call.specs.declared.status.OutName.{OutName}
use Rattle.tm_call.specs.declared.fetches.Want.{Want}
use Rattle.tm_call.specs.declared.carry.Outcome.{Outcome}
use Rattle.tm_word.specs.Prelude.{Text}
use Rattle.tomoyo.specs.declared.play.Printed.{Printed}
use Rattle.tomoyo.specs.declared.play.Played.{Played}
use Rattle.tomoyo.specs.declared.learn.RerunTexts.{RerunTexts}
use Rattle.tomoyo.specs.declared.learn.Learned.{Learned}
use Rattle.tm_call.specs.declared.words.How.{How}
use Rattle.tm_call.specs.declared.words.Command.{Command}
use Rattle.tm_call.specs.Fetches.{want, Texts, AllGiven, FetchStops, TellsAll, told, told_texts, or_else, first_unread}
use Rattle.tm_call.specs.Stores.{names_of, is_named}
use Rattle.tm_io.specs.Notes.{Noted}
use Rattle.tm_call.specs.Calls.{Names, wanted, FetchesOf, StoresOf}
use Rattle.tm_call.specs.Ends.{Outside, Untouched, Ends}
use Rattle.tm_legal.specs.Prelude.{Legal}
use Rattle.tm_run.specs.Reading.{run_of}
use Rattle.tm_run.specs.RunText.{run_text}
use Rattle.tm_gen_laws.specs.CallInputLoaded.{Loaded}
use Rattle.tm_gen_laws.specs.Judging.{Judging}
use Rattle.tm_gen_laws.specs.Reading.{refused, scene_reading, judging_reading, scene_of, RefusedBy}
use Rattle.tm_verify_laws.specs.declared.broken.Broken.{Broken}
use Rattle.tm_verify.specs.Verified.{IsVerified}
use Rattle.tomoyo.specs.Play.{reading_of, Plays}
use Rattle.tomoyo.specs.Rerun.{Learns}
use Rattle.tm_gen_laws.specs.Policies.{policy_of, policy_refusal}
use Rattle.tm_gen_laws.specs.Generated.{generated_files}
use Rattle.tm_sort.specs.declared.rules.Rule.{Rule}
use Rattle.tm_sort.specs.declared.parts.Part.{Part}
use Rattle.tm_sort.specs.Parts.{part_numbers, is_part, named_numbers, parts_of, PartsShare}
use Rattle.tomoyo.specs.declared.sort.Sorting.{Sorting}
use Rattle.tomoyo.specs.Print.{counts_text, printed_policy}
use Rattle.tomoyo.specs.Sort.{sort_reading, sort_outcome}
use Rattle.tomoyo.specs.Verify.{verdict_text, verify_outcome}

-- the files of a policy, in order, and whether they have to be there
abbrev pub policy_wants : List Want
policy_wants =
    want FileName.Profile true ∷ want FileName.ExceptionPolicy false ∷ want FileName.DomainPolicy true
    ∷ want FileName.Manager false ∷ []

-- what a run is one of, in order
abbrev pub scene_wants : List Want
scene_wants =
    policy_wants ++ want FileName.Trace true ∷ want FileName.Edits false ∷ want FileName.Answers false ∷ []

-- what is played, in order; threads have no schedule
abbrev pub played_wants : How → List Want
played_wants How.ByTurns = scene_wants ++ want FileName.Schedule false ∷ []
played_wants how = scene_wants

-- what a command reads, in order, and whether it has to be there
abbrev pub wants_of : Command → List Want
wants_of Command.Print = policy_wants
wants_of (Command.Play how again) = played_wants how
wants_of Command.Verify = scene_wants ++ want FileName.Run true ∷ []
wants_of Command.Sort = want FileName.Audit true ∷ want FileName.Sorter true ∷ []
wants_of (Command.Gen seed size) = []

-- the files that a command reads, in order
abbrev pub read_by : Command → List FileName
read_by command = wanted (wants_of command)

-- the files of a printed policy, in order
abbrev pub policy_files : List FileName
policy_files =
    FileName.ProfileNew ∷ FileName.ExceptionPolicyNew ∷ FileName.DomainPolicyNew ∷ FileName.ManagerNew ∷ []

-- the files of a run and of its rerun, in order
abbrev pub run_files : List FileName
run_files = FileName.Run ∷ FileName.Audit ∷ policy_files

abbrev pub rerun_files : List FileName
rerun_files = FileName.Run2 ∷ FileName.Audit2 ∷ []

-- the files of what is played, in order, and whether it is played again
abbrev pub played_files : Bool → List FileName
played_files false = run_files
played_files true = run_files ++ rerun_files

-- the files that are generated, in order
abbrev pub generated_names : List FileName
generated_names =
    FileName.Profile ∷ FileName.ExceptionPolicy ∷ FileName.DomainPolicy ∷ FileName.Manager ∷ FileName.Trace ∷ []

-- the files that a command stores, in order; a rerun that is left out leaves out its two, and
-- `sort` all but the first that its rules don't name
abbrev pub stored_by : Command → List FileName
stored_by Command.Print = policy_files
stored_by (Command.Play how again) = played_files again
stored_by Command.Verify = []
stored_by Command.Sort = map FileName.AuditPart part_numbers
stored_by (Command.Gen seed size) = generated_names ++ run_files

-- a printed policy as files, in order
abbrev pub policy_stores : Printed → Texts
policy_stores policy =
    (FileName.ProfileNew, policy.profile) ∷ (FileName.ExceptionPolicyNew, policy.exception)
    ∷ (FileName.DomainPolicyNew, policy.domain) ∷ (FileName.ManagerNew, policy.manager) ∷ []

-- the text of a run, its audit texts and a printed policy as files, in order
abbrev pub stores_of : Text → Text → Printed → Texts
stores_of run audit policy = (FileName.Run, run) ∷ (FileName.Audit, audit) ∷ policy_stores policy

-- what a play stores, in order
abbrev pub step_stores : Played → Texts
step_stores played = stores_of played.run played.audit played.policy

-- what it stores and puts of what was played
abbrev pub step_outcome : Played → Outcome
step_outcome played = record { stores = step_stores played; line = played.summary }

-- the files of a rerun, in order
abbrev pub rerun_stores : Option RerunTexts → Texts
rerun_stores None = []
rerun_stores (Some rerun) = (FileName.Run2, rerun.run) ∷ (FileName.Audit2, rerun.audit) ∷ []

-- what a rerun adds to the summary
abbrev pub rerun_line : Option RerunTexts → Text
rerun_line None = no_rerun_text
rerun_line (Some rerun) = rerun.line

-- what a play and its rerun store, in order
abbrev pub learn_stores : Learned → Texts
learn_stores learned = step_stores learned.played ++ rerun_stores learned.rerun

-- what they put: the summary, and the rerun's line
abbrev pub learn_line : Learned → Text
learn_line learned = learned.played.summary ++ rerun_line learned.rerun

-- what they store and put of what was learned
abbrev pub learn_outcome : Learned → Outcome
learn_outcome learned = record { stores = learn_stores learned; line = learn_line learned }

-- what is stored, in order, of files that are stored first and of what was played of them
abbrev pub with_stores : Texts → Played → Texts
with_stores files played = files ++ step_stores played

-- what is stored and put of them
abbrev pub with_files : Texts → Played → Outcome
with_files files played = record { stores = with_stores files played; line = played.summary }

-- what `print` stores and puts of the policy that the files load to
abbrev pub print_outcome : Policy → Outcome
print_outcome policy =
    record { stores = policy_stores (printed_policy policy); line = counts_text policy }

-- what a play makes of what was read, and what it makes where the trace is played again
abbrev pub MakesPlay : How → Bool → Texts → Outcome → Type 0
MakesPlay how false texts outcome =
    (played : Played) × Plays how texts played × (outcome ≡ step_outcome played)
MakesPlay how true texts outcome =
    (learned : Learned) × Learns how texts learned × (outcome ≡ learn_outcome learned)

-- what a command makes of what was read
abbrev pub Makes : Command → Texts → Outcome → Type 0
Makes Command.Print texts outcome =
    (policy : Policy) × (policy_of texts ≡ Ok policy) × (outcome ≡ print_outcome policy)
Makes (Command.Play how again) texts outcome = MakesPlay how again texts outcome
Makes Command.Verify texts outcome =
    (judging : Judging) × (broken : Option Broken) × (judging_reading texts ≡ Ok judging)
    × IsVerified (scene_of judging.scene) judging.run broken × (outcome ≡ verify_outcome broken)
Makes Command.Sort texts outcome =
    (sorting : Sorting) × (sort_reading texts ≡ Ok sorting) × (outcome ≡ sort_outcome sorting)
Makes (Command.Gen seed size) texts outcome =
    (played : Played) × Plays How.ByTurns (generated_files seed size) played
    × (outcome ≡ with_files (generated_files seed size) played)

-- the refusal of what a command reads; what `gen` generates is never refused
abbrev pub refusal_of : Command → Texts → Option Status
refusal_of Command.Print texts = policy_refusal texts
refusal_of (Command.Play how again) texts = refused (reading_of how texts)
refusal_of Command.Verify texts = refused (judging_reading texts)
refusal_of Command.Sort texts = refused (sort_reading texts)
refusal_of (Command.Gen seed size) texts = None

-- a refusal of what was read; want of memory is free
abbrev pub Refuses : Command → Texts → Status → Type 0
Refuses command texts status = RefusedBy (refusal_of command texts) status

-- the outcomes that a command may have
abbrev pub Allows : Command → Texts → Outcome → Type 0
Allows command texts outcome = (refusal_of command texts ≡ None) × Makes command texts outcome

-- how the top call ends
abbrev pub CallEnds : Result Command ℕ → Outside → Outside → Status → Type 0
CallEnds (Err place) old new status = (status ≡ Status.BadWords place) × Untouched old new
CallEnds (Ok command) old new status =
    Ends (wants_of command) (Refuses command) (Allows command) old new status

-- a fault of loading what was read; `sort` loads nothing, and what `gen` generates has none
abbrev pub IsLoadFault : Command → Files → LoadFault → Type 0
IsLoadFault Command.Sort files fault = ⊥
IsLoadFault (Command.Gen seed size) files fault = ⊥
IsLoadFault command files fault =
    (texts : Texts) × AllGiven files (wants_of command) texts × (policy_of texts ≡ Err fault)

-- a refusal of what is played or judged beside the policy, but for a given run
abbrev pub IsStepFault : Command → Files → Status → Type 0
IsStepFault (Command.Play how again) files status =
    (texts : Texts) × AllGiven files (played_wants how) texts × (refused (reading_of how texts) ≡ Some status)
IsStepFault Command.Verify files status =
    (texts : Texts) × AllGiven files (wants_of Command.Verify) texts
    × (refused (scene_reading texts) ≡ Some status)
IsStepFault command files status = ⊥

-- a refusal of what `sort` reads
abbrev pub IsSortFault : Command → Files → Status → Type 0
IsSortFault Command.Sort files status =
    (texts : Texts) × AllGiven files (wants_of Command.Sort) texts
    × (refused (sort_reading texts) ≡ Some status)
IsSortFault command files status = ⊥

-- a refusal of the run that `verify` reads
abbrev pub IsRunFault : Command → Files → Status → Type 0
IsRunFault Command.Verify files status =
    (texts : Texts) × AllGiven files (wants_of Command.Verify) texts
    × (refused (judging_reading texts) ≡ Some status)
IsRunFault command files status = ⊥

-- a fetch that ends the call: nothing is stored, and nothing is put
abbrev pub IsUnfetched : Command → Outside → Outside → Status → Type 0
IsUnfetched command old new status =
    FetchStops old.files (wants_of command) (Rose old.shelf_faults new.shelf_faults) status × Untouched old new

-- the cause of each status of a command; the statuses that aren't named never come
abbrev pub CommandCause : Command → Outside → Outside → Status → Type 0
CommandCause command old new Status.Done = ⊤
CommandCause command old new (Status.ReadFault name) = IsUnfetched command old new (Status.ReadFault name)
CommandCause command old new (Status.Absent name) = IsUnfetched command old new (Status.Absent name)
CommandCause command old new (Status.TooLong name) = IsUnfetched command old new (Status.TooLong name)
CommandCause command old new (Status.BadPolicy file line reply) =
    IsLoadFault command old.files (LoadFault.Line file line reply) × Untouched old new
CommandCause command old new (Status.UndefinedProfile domain) =
    IsLoadFault command old.files (LoadFault.UndefinedProfile domain) × Untouched old new
CommandCause command old new (Status.BadTrace line kind) =
    IsStepFault command old.files (Status.BadTrace line kind) × Untouched old new
CommandCause command old new (Status.BadScript name line kind) =
    IsStepFault command old.files (Status.BadScript name line kind) × Untouched old new
CommandCause command old new (Status.TooMany what) =
    (IsStepFault command old.files (Status.TooMany what) ⊎ IsSortFault command old.files (Status.TooMany what))
    × Untouched old new
CommandCause command old new (Status.BadRun line) =
    IsRunFault command old.files (Status.BadRun line) × Untouched old new
CommandCause command old new (Status.BadRules line kind) =
    IsSortFault command old.files (Status.BadRules line kind) × Untouched old new
CommandCause command old new (Status.BadAudit line) =
    IsSortFault command old.files (Status.BadAudit line) × Untouched old new
CommandCause command old new (Status.WriteFault (OutName.File name)) =
    Rose old.shelf_faults new.shelf_faults × (is_named (stored_by command) name ≡ true)
    × (new.written ≡ old.written)
CommandCause command old new (Status.WriteFault OutName.StandardOutput) = Rose old.sink_faults new.sink_faults
CommandCause command old new Status.OutOfMemory = new.written ≡ old.written
CommandCause command old new _ = ⊥

-- the cause of each status: faulty words exactly where the words name no command
abbrev pub HasCause : Result Command ℕ → Outside → Outside → Status → Type 0
HasCause (Err place) old new status = (status ≡ Status.BadWords place) × Untouched old new
HasCause (Ok command) old new status = CommandCause command old new status

abbrev pub or_done : Option Status → Status
or_done None = Status.Done
or_done (Some status) = status

-- the status of a command on told files, by the files alone: the first fetch that ends it, else the
-- refusal of what they hold, else Done
abbrev pub answer_of : Command → Files → Status
answer_of command files =
    or_done
    (or_else (first_unread (wants_of command) files) (refusal_of command (told_texts (wants_of command) files)))

-- a status that no fault and no want of memory has caused is the answer; a store is begun only
-- where the answer is Done
abbrev pub Answers : Status → Status → Type 0
Answers answer (Status.ReadFault name) = ⊤
Answers answer Status.OutOfMemory = ⊤
Answers answer (Status.WriteFault name) = answer ≡ Status.Done
Answers answer status = answer ≡ status

abbrev pub IsExact : Result Command ℕ → Files → Status → Type 0
IsExact (Err place) files status = ⊤
IsExact (Ok command) files status = TellsAll files → Answers (answer_of command files) status

-- where neither count rose, the call ends with the answer, or wants memory
abbrev pub IsComplete : Result Command ℕ → Outside → Outside → Status → Type 0
IsComplete (Err place) old new status = ⊤
IsComplete (Ok command) old new status =
    TellsAll old.files → ¬ Rose old.shelf_faults new.shelf_faults → ¬ Rose old.sink_faults new.sink_faults
    → (status ≡ answer_of command old.files) ⊎ (status ≡ Status.OutOfMemory)

-- at every status, every file that the command doesn't store is as it was
abbrev pub KeepsOthers : Result Command ℕ → Files → Files → Type 0
KeepsOthers (Err place) old new = SameFiles old new
KeepsOthers (Ok command) old new =
    (name : FileName) → is_named (stored_by command) name ≡ false → new name ≡ old name

-- the files are fetched in their order, each once, and nothing after the fetch that decides; at
-- faulty words nothing is fetched
abbrev pub FetchesInOrder : Result Command ℕ → Outside → Outside → Status → Type 0
FetchesInOrder (Err place) old new status = Noted [] old.fetched new.fetched
FetchesInOrder (Ok command) old new status = FetchesOf (read_by command) status old.fetched new.fetched

-- the stores of an outcome that a command allows for what was read, by the status
pub record StoresOutcome (command : Command) (files : Files) (status : Status) (old new : Names) : Type 0 where
  pub texts : Texts
  pub given : AllGiven files (wants_of command) texts
  pub outcome : Outcome
  pub allowed : Allows command texts outcome
  pub stores : StoresOf (names_of outcome.stores) status old new

-- the stores of a command: those of such an outcome where it is carried out, and else none; want of
-- memory comes before it or meanwhile
abbrev pub StoresBy : Command → Files → Status → Names → Names → Type 0
StoresBy command files Status.Done old new = StoresOutcome command files Status.Done old new
StoresBy command files (Status.WriteFault name) old new =
    StoresOutcome command files (Status.WriteFault name) old new
StoresBy command files Status.OutOfMemory old new =
    Noted [] old new ⊎ StoresOutcome command files Status.OutOfMemory old new
StoresBy command files _ old new = Noted [] old new

-- the files of the outcome are stored in their order, each once, and nothing after the store that
-- fails; at faulty words nothing is stored
abbrev pub StoresInOrder : Result Command ℕ → Outside → Outside → Status → Type 0
StoresInOrder (Err place) old new status = Noted [] old.stored new.stored
StoresInOrder (Ok command) old new status = StoresBy command old.files status old.stored new.stored

-- nothing is stored before all is fetched
abbrev pub StoresLast : Result Command ℕ → Outside → Outside → Type 0
StoresLast (Err place) old new = ⊤
StoresLast (Ok command) old new =
    Noted [] old.stored new.stored ⊎ Noted (read_by command) old.fetched new.fetched

-- these files hold these texts
abbrev pub Hold : Files → Texts → Type 0
Hold files stores = AllByRecursion (λ (store : FileName × List ℕ). files store.0 ≡ FileState.Holds store.1) stores

-- what a play of told files that is done has stored and put: the text of a run that they allow, its
-- audit texts, its final policy, and its summary
pub record IsPlayed (how : How) (old new : Outside) : Type 0 where
  pub played : Played
  pub plays : Plays how (told_texts (played_wants how) old.files) played
  pub stored : Hold new.files (step_stores played)
  pub summary : new.written ≡ then_bytes played.summary old.written

-- what a play with a rerun that is done has stored and put: what a play has, with the text of the
-- rerun and its audit texts, and its line after the summary; where the rerun is left out, its files
-- are as they were
pub record IsLearned (how : How) (old new : Outside) : Type 0 where
  pub learned : Learned
  pub learns : Learns how (told_texts (played_wants how) old.files) learned
  pub stored : Hold new.files (learn_stores learned)
  pub kept : learned.rerun ≡ None
      → (new.files FileName.Run2 ≡ old.files FileName.Run2) × (new.files FileName.Audit2 ≡ old.files FileName.Audit2)
  pub summary : new.written ≡ then_bytes (learn_line learned) old.written

-- what a `gen` that is done has stored and put: the generated files, and what a `step` on them has
pub record IsGenerated (seed size : ℕ) (old new : Outside) : Type 0 where
  pub played : Played
  pub plays : Plays How.ByTurns (generated_files seed size) played
  pub stored : Hold new.files (with_stores (generated_files seed size) played)
  pub summary : new.written ≡ then_bytes played.summary old.written

-- what a `print` that is done has stored and put: the printed texts of the policy that the told
-- files load to, and the line of its counts
pub record IsShown (old new : Outside) : Type 0 where
  pub policy : Policy
  pub loads : policy_of (told_texts (wants_of Command.Print) old.files) ≡ Ok policy
  pub profile : new.files FileName.ProfileNew ≡ FileState.Holds (profile_text policy)
  pub exception : new.files FileName.ExceptionPolicyNew ≡ FileState.Holds (exception_text policy)
  pub domain : new.files FileName.DomainPolicyNew ≡ FileState.Holds (domain_text policy)
  pub manager : new.files FileName.ManagerNew ≡ FileState.Holds (manager_text policy)
  pub counts : new.written ≡ then_bytes (counts_text policy) old.written

-- what a `sort` that is done has stored and put: in the file of each part that is named the records
-- that its rules send there, in order, with as many records in all parts as there are; the file of
-- no other part has changed, and what was put are the counts
pub record IsSorted (old new : Outside) : Type 0 where
  pub sorting : Sorting
  pub reads : sort_reading (told_texts (wants_of Command.Sort) old.files) ≡ Ok sorting
  pub stored : AllByRecursion
      (λ (part : Part). new.files (FileName.AuditPart part.number) ≡ FileState.Holds part.text)
      (parts_of sorting.rules sorting.records)
  pub shared : PartsShare sorting.rules sorting.records
  pub kept : (number : ℕ) → is_part sorting.rules number ≡ false
      → new.files (FileName.AuditPart number) ≡ old.files (FileName.AuditPart number)
  pub counts : new.written ≡ then_bytes (sort_outcome sorting).line old.written

-- what a `verify` that is done has put: that the run that `run` holds is legal for the other files,
-- or the clause that it breaks first and its least place
pub record IsJudged (old new : Outside) : Type 0 where
  pub judging : Judging
  pub reads : judging_reading (told_texts (wants_of Command.Verify) old.files) ≡ Ok judging
  pub broken : Option Broken
  pub verdict : IsVerified (scene_of judging.scene) judging.run broken
  pub line : new.written ≡ then_bytes (verdict_text broken) old.written

-- what a command that is done has done
abbrev pub IsDone : Command → Outside → Outside → Type 0
IsDone Command.Print old new = IsShown old new
IsDone (Command.Play how false) old new = IsPlayed how old new
IsDone (Command.Play how true) old new = IsLearned how old new
IsDone Command.Verify old new = IsJudged old new
IsDone Command.Sort old new = IsSorted old new
IsDone (Command.Gen seed size) old new = IsGenerated seed size old new

-- the headline: on told files, a call that is done has printed, sorted, judged or played them, by
-- turns or on threads, or learned from them and played them again, or has played files that it
-- generated
abbrev pub HasDone : Result Command ℕ → Outside → Outside → Status → Type 0
HasDone (Err place) old new status = ¬ (status ≡ Status.Done)
HasDone (Ok command) old new status = TellsAll old.files → status ≡ Status.Done → IsDone command old new

-- the run that `run` holds is legal for the other files
pub record HoldsLegalRun (files : Files) : Type 0 where
  pub loaded : Loaded
  pub read : scene_reading (told_texts scene_wants files) ≡ Ok loaded
  pub run : Run
  pub run_is : run_of (told (files FileName.Run)) ≡ Ok run
  pub is_legal : Legal (scene_of loaded) run

-- `run` is the text of such a run
pub record HoldsPlayedRun (files : Files) : Type 0 where
  pub holds : HoldsLegalRun files
  pub text : told (files FileName.Run) ≡ run_text holds.run

-- what was played leaves the text of such a run, of `gen` where there are no edits and no answers;
-- and of every file that is read as such a run `verify` says yes
abbrev pub LegalRuns : Result Command ℕ → Outside → Outside → Status → Type 0
LegalRuns (Ok (Command.Play how again)) old new status =
    TellsAll old.files → status ≡ Status.Done → HoldsPlayedRun new.files
LegalRuns (Ok Command.Verify) old new status =
    TellsAll old.files → HoldsLegalRun old.files → status ≡ Status.Done
    → new.written ≡ then_bytes (verdict_text None) old.written
LegalRuns (Ok (Command.Gen seed size)) old new status =
    TellsAll old.files → status ≡ Status.Done → told (old.files FileName.Edits) ≡ []
    → told (old.files FileName.Answers) ≡ [] → HoldsPlayedRun new.files
LegalRuns read old new status = ⊤

-- whatever the files hold, a `gen` is done, wants memory, or ends by a counted fault of a store or
-- of the sink
abbrev pub IsGenEnd : Outside → Outside → Status → Type 0
IsGenEnd old new Status.Done = ⊤
IsGenEnd old new Status.OutOfMemory = ⊤
IsGenEnd old new (Status.WriteFault (OutName.File name)) = Rose old.shelf_faults new.shelf_faults
IsGenEnd old new (Status.WriteFault OutName.StandardOutput) = Rose old.sink_faults new.sink_faults
IsGenEnd old new _ = ⊥

abbrev pub GenEnds : Result Command ℕ → Outside → Outside → Status → Type 0
GenEnds (Ok (Command.Gen seed size)) old new status = IsGenEnd old new status
GenEnds _ old new status = ⊤

-- the contract of the top call: a call whose words were read so ends with this status, and what was
-- outside before and after is so
pub record Called (read : Result Command ℕ) (old new : Outside) (status : Status) : Type 0 where
  pub headline : HasDone read old new status
  pub kept : KeepsOthers read old.files new.files
  pub causes : HasCause read old new status
  pub exact : IsExact read old.files status
  pub complete : IsComplete read old new status
  pub generated : GenEnds read old new status
  pub verified : LegalRuns read old new status
  pub fetches : FetchesInOrder read old new status
  pub stores : StoresInOrder read old new status
  pub stores_last : StoresLast read old new
  pub ends : CallEnds read old new status
