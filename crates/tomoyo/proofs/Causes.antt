-- The cause of each status, from how the call ends.
use Rattle.std.proofs.Common.{◌≡◌, ℕ, ◌⊎◌, inl, inr, [], ◌++◌, slice_get, Some, Ok}
use Rattle.tm_io.specs.Causes.{Rose}
use Rattle.tm_io.specs.Files.{Files}
use Rattle.tm_call.specs.declared.fetches.Want.{Want}
use Rattle.tm_call.specs.declared.status.Status.{Status}
use Rattle.tm_call.specs.declared.status.OutName.{OutName}
use Rattle.tm_call.specs.declared.carry.Outcome.{Outcome}
use Rattle.tm_call.specs.declared.words.Command.{Command}
use Rattle.tm_call.specs.Fetches.{Texts, AllGiven, FetchStops}
use Rattle.tm_call.specs.Stores.{names_of}
use Rattle.tm_call.specs.Ends.{Outside, Untouched, Ends, CarriedOut}
use Rattle.tomoyo.specs.Call.{wants_of, Refuses, Allows, CommandCause, IsGenEnd, GenEnds}
use Rattle.tomoyo.proofs.Refusals.{refusal-kind, bad-policy, undefined-profile, bad-trace, bad-script, too-many, bad-rules, bad-audit, bad-run}
use Rattle.tomoyo.proofs.Named.{names-allowed, named-by}
use Rattle.tm_call.proofs.Others.{named-at, self-same}

-- a fetch that ends the call
fetch-cause : (command : Command) (old new : Outside) (status : Status) → FetchStops old.files (wants_of command) (Rose old.shelf_faults new.shelf_faults) status → Untouched old new → CommandCause command old new status
fetch-cause command old new Status.Done stops untouched = absurd stops.cause
fetch-cause command old new (Status.ReadFault name) stops untouched = (stops, untouched)
fetch-cause command old new (Status.WriteFault name) stops untouched = absurd stops.cause
fetch-cause command old new Status.OutOfMemory stops untouched = untouched.written
fetch-cause command old new (Status.BadWords place) stops untouched = absurd stops.cause
fetch-cause command old new (Status.Absent name) stops untouched = (stops, untouched)
fetch-cause command old new (Status.TooLong name) stops untouched = (stops, untouched)
fetch-cause command old new (Status.BadPolicy file line reply) stops untouched = absurd stops.cause
fetch-cause command old new (Status.UndefinedProfile domain) stops untouched = absurd stops.cause
fetch-cause command old new (Status.BadTrace line kind) stops untouched = absurd stops.cause
fetch-cause command old new (Status.BadScript name line kind) stops untouched = absurd stops.cause
fetch-cause command old new (Status.TooMany what) stops untouched = absurd stops.cause
fetch-cause command old new (Status.BadRules line kind) stops untouched = absurd stops.cause
fetch-cause command old new (Status.BadAudit line) stops untouched = absurd stops.cause
fetch-cause command old new (Status.BadRun line) stops untouched = absurd stops.cause

-- a refusal of what was read
refused-cause : (command : Command) (old new : Outside) (texts : Texts) (status : Status) → AllGiven old.files (wants_of command) texts → Refuses command texts status → Untouched old new → CommandCause command old new status
refused-cause command old new texts Status.Done given refused untouched = tt
refused-cause command old new texts (Status.ReadFault name) given refused untouched = absurd (refusal-kind command texts (Status.ReadFault name) refused)
refused-cause command old new texts (Status.WriteFault name) given refused untouched = absurd (refusal-kind command texts (Status.WriteFault name) refused)
refused-cause command old new texts Status.OutOfMemory given refused untouched = untouched.written
refused-cause command old new texts (Status.BadWords place) given refused untouched = absurd (refusal-kind command texts (Status.BadWords place) refused)
refused-cause command old new texts (Status.Absent name) given refused untouched = absurd (refusal-kind command texts (Status.Absent name) refused)
refused-cause command old new texts (Status.TooLong name) given refused untouched = absurd (refusal-kind command texts (Status.TooLong name) refused)
refused-cause command old new texts (Status.BadPolicy file line reply) given refused untouched = (bad-policy command old.files texts file line reply given refused, untouched)
refused-cause command old new texts (Status.UndefinedProfile domain) given refused untouched = (undefined-profile command old.files texts domain given refused, untouched)
refused-cause command old new texts (Status.BadTrace line kind) given refused untouched = (bad-trace command old.files texts line kind given refused, untouched)
refused-cause command old new texts (Status.BadScript name line kind) given refused untouched = (bad-script command old.files texts name line kind given refused, untouched)
refused-cause command old new texts (Status.TooMany what) given refused untouched = (too-many command old.files texts what given refused, untouched)
refused-cause command old new texts (Status.BadRules line kind) given refused untouched = (bad-rules command old.files texts line kind given refused, untouched)
refused-cause command old new texts (Status.BadRun line) given refused untouched = (bad-run command old.files texts line given refused, untouched)
refused-cause command old new texts (Status.BadAudit line) given refused untouched = (bad-audit command old.files texts line given refused, untouched)

-- an outcome that is carried out
carried-cause : (command : Command) (old new : Outside) (texts : Texts) (outcome : Outcome) (status : Status) → Allows command texts outcome → CarriedOut outcome old new status → CommandCause command old new status
carried-cause command old new texts outcome Status.Done allowed h = tt
carried-cause command old new texts outcome (Status.ReadFault name) allowed h = absurd h.0
carried-cause command old new texts outcome (Status.WriteFault (OutName.File name)) allowed h =
    (h.0.1, named-by command (names_of outcome.stores) name (names-allowed command texts outcome allowed) (named-at outcome.stores h.0.0.made name h.0.0.bytes (self-same name) h.0.0.at), h.1)
carried-cause command old new texts outcome (Status.WriteFault OutName.StandardOutput) allowed h = h.rose
carried-cause command old new texts outcome Status.OutOfMemory allowed h = h.1
carried-cause command old new texts outcome (Status.BadWords place) allowed h = absurd h.0
carried-cause command old new texts outcome (Status.Absent name) allowed h = absurd h.0
carried-cause command old new texts outcome (Status.TooLong name) allowed h = absurd h.0
carried-cause command old new texts outcome (Status.BadPolicy file line reply) allowed h = absurd h.0
carried-cause command old new texts outcome (Status.UndefinedProfile domain) allowed h = absurd h.0
carried-cause command old new texts outcome (Status.BadTrace line kind) allowed h = absurd h.0
carried-cause command old new texts outcome (Status.BadScript name line kind) allowed h = absurd h.0
carried-cause command old new texts outcome (Status.TooMany what) allowed h = absurd h.0
carried-cause command old new texts outcome (Status.BadRules line kind) allowed h = absurd h.0
carried-cause command old new texts outcome (Status.BadAudit line) allowed h = absurd h.0
carried-cause command old new texts outcome (Status.BadRun line) allowed h = absurd h.0

pub cause-of : (command : Command) (old new : Outside) (status : Status) → Ends (wants_of command) (Refuses command) (Allows command) old new status → CommandCause command old new status
cause-of command old new status (Ends.Not_fetched stops untouched) = fetch-cause command old new status stops untouched
cause-of command old new status (Ends.Refused texts given refused untouched) = refused-cause command old new texts status given refused untouched
cause-of command old new status (Ends.Made texts outcome given allowed carried) = carried-cause command old new texts outcome status allowed carried

-- no fetch ends a call that fetches nothing
unfetched : {files : Files} {rose : Type 0} {status : Status} → FetchStops files [] rose status → ⊥
unfetched stops = no-want stops.place stops.want stops.stands
  where
    no-want : (place : ℕ) (want : Want) → slice_get [] place ≡ Some want → ⊥
    no-want place want e = absurd cc

neither : ⊥ ⊎ ⊥ → ⊥
neither (inl h) = h
neither (inr h) = h

-- a `gen` ends so by the causes of its statuses
gen-end : (seed size : ℕ) (old new : Outside) (status : Status) → CommandCause (Command.Gen seed size) old new status → IsGenEnd old new status
gen-end seed size old new Status.Done cause = tt
gen-end seed size old new Status.OutOfMemory cause = tt
gen-end seed size old new (Status.WriteFault (OutName.File name)) cause = cause.0
gen-end seed size old new (Status.WriteFault OutName.StandardOutput) cause = cause
gen-end seed size old new (Status.BadWords place) cause = absurd cause
gen-end seed size old new (Status.ReadFault name) cause = unfetched cause.0
gen-end seed size old new (Status.Absent name) cause = unfetched cause.0
gen-end seed size old new (Status.TooLong name) cause = unfetched cause.0
gen-end seed size old new (Status.BadPolicy file line reply) cause = absurd cause.0
gen-end seed size old new (Status.UndefinedProfile domain) cause = absurd cause.0
gen-end seed size old new (Status.BadTrace line kind) cause = absurd cause.0
gen-end seed size old new (Status.BadScript name line kind) cause = absurd cause.0
gen-end seed size old new (Status.TooMany what) cause = neither cause.0
gen-end seed size old new (Status.BadRules line kind) cause = absurd cause.0
gen-end seed size old new (Status.BadAudit line) cause = absurd cause.0
gen-end seed size old new (Status.BadRun line) cause = absurd cause.0

pub gen-ends : (command : Command) (old new : Outside) (status : Status) → CommandCause command old new status → GenEnds (Ok command) old new status
gen-ends (Command.Gen seed size) old new status cause = gen-end seed size old new status cause
gen-ends (Command.Play how again) old new status cause = tt
gen-ends Command.Print old new status cause = tt
gen-ends Command.Verify old new status cause = tt
gen-ends Command.Sort old new status cause = tt
