-- What commands refuse, and why.
use Rattle.std.proofs.Common.{◌≡◌, ℕ, Bool, true, false, Some, Result, Ok, Err, subst, sym, ◌⊎◌, inl, inr, length, List, nat_lt, if◌then◌else◌}
use Rattle.tm_io.specs.declared.names.FileName.{FileName}
use Rattle.tm_io.specs.Files.{Files}
use Rattle.tm_rules.specs.Types.{EditReply, FileKind, LoadFault, ScriptKind, TraceKind}
use Rattle.tm_sort.specs.declared.record.Record.{Record}
use Rattle.tm_sort.specs.declared.rules.Rule.{Rule}
use Rattle.tm_sort.specs.Records.{records_of}
use Rattle.tm_sort.specs.Rules.{rules_of}
use Rattle.tm_call.specs.declared.status.Status.{Status}
use Rattle.tm_call.specs.declared.status.What.{What}
use Rattle.tm_call.specs.declared.words.Command.{Command}
use Rattle.tm_call.specs.declared.fetches.Want.{Want}
use Rattle.tm_call.specs.Fetches.{Texts, AllGiven, content}
use Rattle.tm_gen_laws.specs.Policies.{policy_of}
use Rattle.tm_gen_laws.specs.Reading.{refused, scene_reading, judging_reading}
use Rattle.tm_gen_laws.proofs.Refusals.{IsLater, failed, was-refused, scene-refused, load-refused, step-kind, HasFault, early, fault-line, fault-undefined, fault-early, IsRefusal, IsRunFault, judging-refused}
use Rattle.tomoyo.specs.declared.sort.Sorting.{Sorting}
use Rattle.tomoyo.specs.Sort.{of_audit, of_rules, few_rules, sort_reading}
use Rattle.tomoyo.specs.Call.{played_wants, wants_of, refusal_of, IsLoadFault, IsStepFault, IsSortFault}
use Rattle.tomoyo.specs.Call as call
use Rattle.tomoyo.proofs.HowLaws.{played-refused}

-- What `sort` refuses

abbrev pub IsSortRefusal : Status → Type 0
IsSortRefusal (Status.BadAudit line) = Unit {0}
IsSortRefusal (Status.BadRules line kind) = Unit {0}
IsSortRefusal (Status.TooMany What.Rules) = Unit {0}
IsSortRefusal _ = ⊥

audit-fails : {A : Type 0} (r : Result A ℕ) (status : Status) → of_audit r ≡ Err status → IsSortRefusal status
audit-fails (Ok x) status e = absurd cc
audit-fails (Err line) status e = let same : Status.BadAudit line ≡ status = cc in subst (λ (s : Status). IsSortRefusal s) same tt

rules-fail : {A : Type 0} (r : Result A (ℕ × ScriptKind)) (status : Status) → of_rules r ≡ Err status → IsSortRefusal status
rules-fail (Ok x) status e = absurd cc
rules-fail (Err fault) status e = let same : Status.BadRules fault.0 fault.1 ≡ status = cc in subst (λ (s : Status). IsSortRefusal s) same tt

many-fail : (rules : List Rule) (records : List Record) (status : Status) → few_rules rules records ≡ Err status → IsSortRefusal status
many-fail rules records status e = go (nat_lt 256 (length rules)) (record { rules = rules; records = records }) e
  where
    go : (many : Bool) (sorting : Sorting) → (if many then Err (Status.TooMany What.Rules) else Ok sorting) ≡ Err status → IsSortRefusal status
    go true sorting h = let same : Status.TooMany What.Rules ≡ status = cc in subst (λ (s : Status). IsSortRefusal s) same tt
    go false sorting h = absurd cc

sort-refused : (texts : Texts) (status : Status) → refused (sort_reading texts) ≡ Some status → IsSortRefusal status
unfolding sort_reading
sort-refused texts status e =
    failed IsSortRefusal (of_audit (records_of (content texts FileName.Audit))) _ status (audit-fails (records_of (content texts FileName.Audit)))
    (λ records after_records. failed IsSortRefusal (of_rules (rules_of (content texts FileName.Sorter))) _ status (rules-fail (rules_of (content texts FileName.Sorter)))
    (λ rules after_rules. many-fail rules records status after_rules) after_records) (was-refused (sort_reading texts) status e)

-- The statuses of refusals

abbrev pub IsRefused : Status → Type 0
IsRefused (Status.BadPolicy file line reply) = Unit {0}
IsRefused (Status.UndefinedProfile domain) = Unit {0}
IsRefused (Status.BadTrace line kind) = Unit {0}
IsRefused (Status.BadScript name line kind) = Unit {0}
IsRefused (Status.TooMany what) = Unit {0}
IsRefused Status.OutOfMemory = Unit {0}
IsRefused (Status.BadRules line kind) = Unit {0}
IsRefused (Status.BadAudit line) = Unit {0}
IsRefused (Status.BadRun line) = Unit {0}
IsRefused _ = ⊥

of-reading : (status : Status) → IsRefusal status → IsRefused status
of-reading Status.Done h = absurd h
of-reading (Status.BadWords place) h = absurd h
of-reading (Status.ReadFault name) h = absurd h
of-reading (Status.Absent name) h = absurd h
of-reading (Status.TooLong name) h = absurd h
of-reading (Status.BadPolicy file line reply) h = tt
of-reading (Status.UndefinedProfile domain) h = tt
of-reading (Status.BadTrace line kind) h = tt
of-reading (Status.BadScript name line kind) h = tt
of-reading (Status.TooMany what) h = tt
of-reading (Status.WriteFault name) h = absurd h
of-reading Status.OutOfMemory h = tt
of-reading (Status.BadRules line kind) h = tt
of-reading (Status.BadAudit line) h = tt
of-reading (Status.BadRun line) h = tt

of-sorting : (status : Status) → IsSortRefusal status → IsRefused status
of-sorting Status.Done h = absurd h
of-sorting (Status.BadWords place) h = absurd h
of-sorting (Status.ReadFault name) h = absurd h
of-sorting (Status.Absent name) h = absurd h
of-sorting (Status.TooLong name) h = absurd h
of-sorting (Status.BadPolicy file line reply) h = tt
of-sorting (Status.UndefinedProfile domain) h = tt
of-sorting (Status.BadTrace line kind) h = tt
of-sorting (Status.BadScript name line kind) h = tt
of-sorting (Status.TooMany what) h = tt
of-sorting (Status.WriteFault name) h = absurd h
of-sorting Status.OutOfMemory h = tt
of-sorting (Status.BadRules line kind) h = tt
of-sorting (Status.BadAudit line) h = tt
of-sorting (Status.BadRun line) h = tt

of-run : (status : Status) → IsRunFault status → IsRefused status
of-run status (line, same) = subst (λ (s : Status). IsRefused s) (sym same) tt

-- what `verify` reads is refused as its scene is, where its run isn't at fault
of-judging : (texts : Texts) (status : Status) → (refused (scene_reading texts) ≡ Some status) ⊎ IsRunFault status → IsRefused status
of-judging texts status (inl e) = of-reading status (step-kind texts status (scene-refused texts status e))
of-judging texts status (inr h) = of-run status h

scene-alone : (texts : Texts) (status : Status) → ¬ IsRunFault status → refused (judging_reading texts) ≡ Some status → refused (scene_reading texts) ≡ Some status
scene-alone texts status none e = go (judging-refused texts status e)
  where
    go : (refused (scene_reading texts) ≡ Some status) ⊎ IsRunFault status → refused (scene_reading texts) ≡ Some status
    go (inl h) = h
    go (inr h) = absurd (none h)

pub refusal-kind : (command : Command) (texts : Texts) (status : Status) → refusal_of command texts ≡ Some status → IsRefused status
refusal-kind (Command.Play how again) texts status e = of-reading status (step-kind texts status (played-refused how texts status e))
refusal-kind (Command.Gen seed size) texts status e = absurd cc
refusal-kind Command.Verify texts status e = of-judging texts status (judging-refused texts status e)
refusal-kind Command.Sort texts status e = of-sorting status (sort-refused texts status e)
refusal-kind Command.Print texts status e = of-reading status (step-kind texts status (inl (load-refused (policy_of texts) status e)))

-- The causes of the statuses of refusals

-- what a line of a policy file is refused with
line-fault : (wants : List Want) (files : Files) (texts : Texts) (file : FileKind) (line : ℕ) (reply : EditReply) → AllGiven files wants texts → HasFault texts (Status.BadPolicy file line reply)
    → (ts : Texts) × AllGiven files wants ts × (policy_of ts ≡ Err (LoadFault.Line file line reply))
line-fault wants files texts file line reply given (fault, is, same) =
    (texts, given, subst (λ (f : LoadFault). policy_of texts ≡ Err f) (fault-line fault file line reply same) is)

pub bad-policy : (command : Command) (files : Files) (texts : Texts) (file : FileKind) (line : ℕ) (reply : EditReply) → AllGiven files (wants_of command) texts → refusal_of command texts ≡ Some (Status.BadPolicy file line reply)
    → IsLoadFault command files (LoadFault.Line file line reply)
bad-policy (Command.Play how again) files texts file line reply given e =
    line-fault (played_wants how) files texts file line reply given (early texts (Status.BadPolicy file line reply) (λ h. h) (played-refused how texts (Status.BadPolicy file line reply) e))
bad-policy Command.Print files texts file line reply given e =
    line-fault (wants_of Command.Print) files texts file line reply given (load-refused (policy_of texts) (Status.BadPolicy file line reply) e)
bad-policy Command.Verify files texts file line reply given e =
    line-fault (wants_of Command.Verify) files texts file line reply given (early texts (Status.BadPolicy file line reply) (λ h. h) (scene-refused texts (Status.BadPolicy file line reply) (scene-alone texts (Status.BadPolicy file line reply) (λ h. let other : Status.BadPolicy file line reply ≡ Status.BadRun h.0 = h.1 in absurd cc) e)))
bad-policy Command.Sort files texts file line reply given e = absurd (sort-refused texts (Status.BadPolicy file line reply) e)
bad-policy (Command.Gen seed size) files texts file line reply given e = absurd cc

-- a live domain without its profile
domain-fault : (wants : List Want) (files : Files) (texts : Texts) (domain : ℕ) → AllGiven files wants texts → HasFault texts (Status.UndefinedProfile domain)
    → (ts : Texts) × AllGiven files wants ts × (policy_of ts ≡ Err (LoadFault.UndefinedProfile domain))
domain-fault wants files texts domain given (fault, is, same) =
    (texts, given, subst (λ (f : LoadFault). policy_of texts ≡ Err f) (fault-undefined fault domain same) is)

pub undefined-profile : (command : Command) (files : Files) (texts : Texts) (domain : ℕ) → AllGiven files (wants_of command) texts → refusal_of command texts ≡ Some (Status.UndefinedProfile domain)
    → IsLoadFault command files (LoadFault.UndefinedProfile domain)
undefined-profile (Command.Play how again) files texts domain given e =
    domain-fault (played_wants how) files texts domain given (early texts (Status.UndefinedProfile domain) (λ h. h) (played-refused how texts (Status.UndefinedProfile domain) e))
undefined-profile Command.Print files texts domain given e =
    domain-fault (wants_of Command.Print) files texts domain given (load-refused (policy_of texts) (Status.UndefinedProfile domain) e)
undefined-profile Command.Verify files texts domain given e =
    domain-fault (wants_of Command.Verify) files texts domain given (early texts (Status.UndefinedProfile domain) (λ h. h) (scene-refused texts (Status.UndefinedProfile domain) (scene-alone texts (Status.UndefinedProfile domain) (λ h. let other : Status.UndefinedProfile domain ≡ Status.BadRun h.0 = h.1 in absurd cc) e)))
undefined-profile Command.Sort files texts domain given e = absurd (sort-refused texts (Status.UndefinedProfile domain) e)
undefined-profile (Command.Gen seed size) files texts domain given e = absurd cc

-- `print` has no fault beside the policy
print-early : (texts : Texts) (status : Status) → IsLater status → refusal_of Command.Print texts ≡ Some status → ⊥
print-early texts status later e = let (fault, is, same) = load-refused (policy_of texts) status e in fault-early fault status same later

pub bad-trace : (command : Command) (files : Files) (texts : Texts) (line : ℕ) (kind : TraceKind) → AllGiven files (wants_of command) texts → refusal_of command texts ≡ Some (Status.BadTrace line kind)
    → IsStepFault command files (Status.BadTrace line kind)
bad-trace (Command.Play how again) files texts line kind given e = (texts, given, e)
bad-trace Command.Print files texts line kind given e = print-early texts (Status.BadTrace line kind) tt e
bad-trace Command.Verify files texts line kind given e = (texts, given, scene-alone texts (Status.BadTrace line kind) (λ h. let other : Status.BadTrace line kind ≡ Status.BadRun h.0 = h.1 in absurd cc) e)
bad-trace Command.Sort files texts line kind given e = sort-refused texts (Status.BadTrace line kind) e
bad-trace (Command.Gen seed size) files texts line kind given e = absurd cc

pub bad-script : (command : Command) (files : Files) (texts : Texts) (name : FileName) (line : ℕ) (kind : ScriptKind) → AllGiven files (wants_of command) texts → refusal_of command texts ≡ Some (Status.BadScript name line kind)
    → IsStepFault command files (Status.BadScript name line kind)
bad-script (Command.Play how again) files texts name line kind given e = (texts, given, e)
bad-script Command.Print files texts name line kind given e = print-early texts (Status.BadScript name line kind) tt e
bad-script Command.Verify files texts name line kind given e = (texts, given, scene-alone texts (Status.BadScript name line kind) (λ h. let other : Status.BadScript name line kind ≡ Status.BadRun h.0 = h.1 in absurd cc) e)
bad-script Command.Sort files texts name line kind given e = sort-refused texts (Status.BadScript name line kind) e
bad-script (Command.Gen seed size) files texts name line kind given e = absurd cc

pub too-many : (command : Command) (files : Files) (texts : Texts) (what : What) → AllGiven files (wants_of command) texts → refusal_of command texts ≡ Some (Status.TooMany what)
    → IsStepFault command files (Status.TooMany what) ⊎ IsSortFault command files (Status.TooMany what)
too-many (Command.Play how again) files texts what given e = inl (texts, given, e)
too-many Command.Print files texts what given e = absurd (print-early texts (Status.TooMany what) tt e)
too-many Command.Verify files texts what given e = inl (texts, given, scene-alone texts (Status.TooMany what) (λ h. let other : Status.TooMany what ≡ Status.BadRun h.0 = h.1 in absurd cc) e)
too-many Command.Sort files texts what given e = inr (texts, given, e)
too-many (Command.Gen seed size) files texts what given e = absurd cc

pub bad-rules : (command : Command) (files : Files) (texts : Texts) (line : ℕ) (kind : ScriptKind) → AllGiven files (wants_of command) texts → refusal_of command texts ≡ Some (Status.BadRules line kind) → IsSortFault command files (Status.BadRules line kind)
bad-rules (Command.Play how again) files texts line kind given e = step-kind texts (Status.BadRules line kind) (played-refused how texts (Status.BadRules line kind) e)
bad-rules Command.Print files texts line kind given e = step-kind texts (Status.BadRules line kind) (inl (load-refused (policy_of texts) (Status.BadRules line kind) e))
bad-rules Command.Verify files texts line kind given e = step-kind texts (Status.BadRules line kind) (scene-refused texts (Status.BadRules line kind) (scene-alone texts (Status.BadRules line kind) (λ h. let other : Status.BadRules line kind ≡ Status.BadRun h.0 = h.1 in absurd cc) e))
bad-rules Command.Sort files texts line kind given e = (texts, given, e)
bad-rules (Command.Gen seed size) files texts line kind given e = absurd cc

pub bad-audit : (command : Command) (files : Files) (texts : Texts) (line : ℕ) → AllGiven files (wants_of command) texts → refusal_of command texts ≡ Some (Status.BadAudit line) → IsSortFault command files (Status.BadAudit line)
bad-audit (Command.Play how again) files texts line given e = step-kind texts (Status.BadAudit line) (played-refused how texts (Status.BadAudit line) e)
bad-audit Command.Print files texts line given e = step-kind texts (Status.BadAudit line) (inl (load-refused (policy_of texts) (Status.BadAudit line) e))
bad-audit Command.Verify files texts line given e = step-kind texts (Status.BadAudit line) (scene-refused texts (Status.BadAudit line) (scene-alone texts (Status.BadAudit line) (λ h. let other : Status.BadAudit line ≡ Status.BadRun h.0 = h.1 in absurd cc) e))
bad-audit Command.Sort files texts line given e = (texts, given, e)
bad-audit (Command.Gen seed size) files texts line given e = absurd cc

pub bad-run : (command : Command) (files : Files) (texts : Texts) (line : ℕ) → AllGiven files (wants_of command) texts → refusal_of command texts ≡ Some (Status.BadRun line) → call.IsRunFault command files (Status.BadRun line)
bad-run (Command.Play how again) files texts line given e = step-kind texts (Status.BadRun line) (played-refused how texts (Status.BadRun line) e)
bad-run Command.Print files texts line given e = step-kind texts (Status.BadRun line) (inl (load-refused (policy_of texts) (Status.BadRun line) e))
bad-run Command.Verify files texts line given e = (texts, given, e)
bad-run Command.Sort files texts line given e = sort-refused texts (Status.BadRun line) e
bad-run (Command.Gen seed size) files texts line given e = absurd cc
