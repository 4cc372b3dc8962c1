-- On told files the status is the answer, but for faults and want of memory.
use Rattle.std.proofs.Common.{◌≡◌, ◌∙◌, ◌⊎◌, inl, inr, Some, None, ap, sym, refl}
use Rattle.tm_io.specs.Causes.{Rose}
use Rattle.tm_io.specs.Files.{Files}
use Rattle.tm_call.specs.declared.status.Status.{Status}
use Rattle.tm_call.specs.declared.status.OutName.{OutName}
use Rattle.tm_call.specs.declared.carry.Outcome.{Outcome}
use Rattle.tm_call.specs.declared.words.Command.{Command}
use Rattle.tm_call.specs.Fetches.{Texts, AllGiven, FetchStops, TellsAll, told_texts}
use Rattle.tm_call.specs.Ends.{Outside, Ends, CarriedOut}
use Rattle.tomoyo.specs.Call.{wants_of, refusal_of, Refuses, Allows, CommandCause, answer_of, Answers}
use Rattle.tomoyo.proofs.Refusals.{refusal-kind}
use Rattle.tm_call.proofs.Told.{texts-told, all-read, absent-unread, too-long-unread, stop-unread}

-- a fetch that ends the call
fetch-exact : (command : Command) (files : Files) (rose : Type 0) (status : Status) → TellsAll files → FetchStops files (wants_of command) rose status → Answers (answer_of command files) status
fetch-exact command files rose Status.Done tells stops = absurd stops.cause
fetch-exact command files rose (Status.ReadFault name) tells stops = tt
fetch-exact command files rose (Status.WriteFault name) tells stops = absurd stops.cause
fetch-exact command files rose Status.OutOfMemory tells stops = tt
fetch-exact command files rose (Status.BadWords place) tells stops = absurd stops.cause
fetch-exact command files rose (Status.Absent name) tells stops =
    rw (stop-unread files (wants_of command) stops.place stops.want stops.texts rose (Status.Absent name) (λ want state is h. absent-unread want state rose name is h) tells stops.stands stops.before stops.cause) refl
fetch-exact command files rose (Status.TooLong name) tells stops =
    rw (stop-unread files (wants_of command) stops.place stops.want stops.texts rose (Status.TooLong name) (λ want state is h. too-long-unread want state rose name is h) tells stops.stands stops.before stops.cause) refl
fetch-exact command files rose (Status.BadPolicy file line reply) tells stops = absurd stops.cause
fetch-exact command files rose (Status.UndefinedProfile domain) tells stops = absurd stops.cause
fetch-exact command files rose (Status.BadTrace line kind) tells stops = absurd stops.cause
fetch-exact command files rose (Status.BadScript name line kind) tells stops = absurd stops.cause
fetch-exact command files rose (Status.TooMany what) tells stops = absurd stops.cause
fetch-exact command files rose (Status.BadRules line kind) tells stops = absurd stops.cause
fetch-exact command files rose (Status.BadAudit line) tells stops = absurd stops.cause
fetch-exact command files rose (Status.BadRun line) tells stops = absurd stops.cause

-- what was read decides
refused-answer : (command : Command) (files : Files) (texts : Texts) (status : Status) → TellsAll files → AllGiven files (wants_of command) texts → refusal_of command texts ≡ Some status → answer_of command files ≡ status
refused-answer command files texts status tells given refused =
    let same : refusal_of command (told_texts (wants_of command) files) ≡ Some status = ap (refusal_of command) (sym (texts-told files (wants_of command) texts tells given)) ∙ refused in
    rw (all-read files (wants_of command) texts tells given, same) refl

done-answer : (command : Command) (files : Files) (texts : Texts) → TellsAll files → AllGiven files (wants_of command) texts → refusal_of command texts ≡ None → answer_of command files ≡ Status.Done
done-answer command files texts tells given allowed =
    let same : refusal_of command (told_texts (wants_of command) files) ≡ None = ap (refusal_of command) (sym (texts-told files (wants_of command) texts tells given)) ∙ allowed in
    rw (all-read files (wants_of command) texts tells given, same) refl

-- a refusal of what was read
refused-exact : (command : Command) (files : Files) (texts : Texts) (status : Status) → TellsAll files → AllGiven files (wants_of command) texts → Refuses command texts status → Answers (answer_of command files) status
refused-exact command files texts Status.Done tells given refused = absurd (refusal-kind command texts Status.Done refused)
refused-exact command files texts (Status.ReadFault name) tells given refused = tt
refused-exact command files texts (Status.WriteFault name) tells given refused = absurd (refusal-kind command texts (Status.WriteFault name) refused)
refused-exact command files texts Status.OutOfMemory tells given refused = tt
refused-exact command files texts (Status.BadWords place) tells given refused = refused-answer command files texts (Status.BadWords place) tells given refused
refused-exact command files texts (Status.Absent name) tells given refused = refused-answer command files texts (Status.Absent name) tells given refused
refused-exact command files texts (Status.TooLong name) tells given refused = refused-answer command files texts (Status.TooLong name) tells given refused
refused-exact command files texts (Status.BadPolicy file line reply) tells given refused = refused-answer command files texts (Status.BadPolicy file line reply) tells given refused
refused-exact command files texts (Status.UndefinedProfile domain) tells given refused = refused-answer command files texts (Status.UndefinedProfile domain) tells given refused
refused-exact command files texts (Status.BadTrace line kind) tells given refused = refused-answer command files texts (Status.BadTrace line kind) tells given refused
refused-exact command files texts (Status.BadScript name line kind) tells given refused = refused-answer command files texts (Status.BadScript name line kind) tells given refused
refused-exact command files texts (Status.TooMany what) tells given refused = refused-answer command files texts (Status.TooMany what) tells given refused
refused-exact command files texts (Status.BadRules line kind) tells given refused = refused-answer command files texts (Status.BadRules line kind) tells given refused
refused-exact command files texts (Status.BadAudit line) tells given refused = refused-answer command files texts (Status.BadAudit line) tells given refused
refused-exact command files texts (Status.BadRun line) tells given refused = refused-answer command files texts (Status.BadRun line) tells given refused

-- an outcome that is carried out
carried-exact : (answer : Status) (old new : Outside) (outcome : Outcome) (status : Status) → answer ≡ Status.Done → CarriedOut outcome old new status → Answers answer status
carried-exact answer old new outcome Status.Done is h = is
carried-exact answer old new outcome (Status.ReadFault name) is h = tt
carried-exact answer old new outcome (Status.WriteFault name) is h = is
carried-exact answer old new outcome Status.OutOfMemory is h = tt
carried-exact answer old new outcome (Status.BadWords place) is h = absurd h.0
carried-exact answer old new outcome (Status.Absent name) is h = absurd h.0
carried-exact answer old new outcome (Status.TooLong name) is h = absurd h.0
carried-exact answer old new outcome (Status.BadPolicy file line reply) is h = absurd h.0
carried-exact answer old new outcome (Status.UndefinedProfile domain) is h = absurd h.0
carried-exact answer old new outcome (Status.BadTrace line kind) is h = absurd h.0
carried-exact answer old new outcome (Status.BadScript name line kind) is h = absurd h.0
carried-exact answer old new outcome (Status.TooMany what) is h = absurd h.0
carried-exact answer old new outcome (Status.BadRules line kind) is h = absurd h.0
carried-exact answer old new outcome (Status.BadAudit line) is h = absurd h.0
carried-exact answer old new outcome (Status.BadRun line) is h = absurd h.0

pub exact-of : (command : Command) (old new : Outside) (status : Status) → Ends (wants_of command) (Refuses command) (Allows command) old new status → TellsAll old.files → Answers (answer_of command old.files) status
exact-of command old new status (Ends.Not_fetched stops untouched) tells = fetch-exact command old.files _ status tells stops
exact-of command old new status (Ends.Refused texts given refused untouched) tells = refused-exact command old.files texts status tells given refused
exact-of command old new status (Ends.Made texts outcome given allowed carried) tells =
    carried-exact (answer_of command old.files) old new outcome status (done-answer command old.files texts tells given allowed.0) carried

-- where neither count rose
pub complete-by : (command : Command) (answer : Status) (old new : Outside) (status : Status) → CommandCause command old new status → Answers answer status → ¬ Rose old.shelf_faults new.shelf_faults → ¬ Rose old.sink_faults new.sink_faults → (status ≡ answer) ⊎ (status ≡ Status.OutOfMemory)
complete-by command answer old new Status.Done cause exact shelf sink = inl (sym exact)
complete-by command answer old new (Status.ReadFault name) cause exact shelf sink = absurd (shelf cause.0.cause.1)
complete-by command answer old new (Status.WriteFault (OutName.File name)) cause exact shelf sink = absurd (shelf cause.0)
complete-by command answer old new (Status.WriteFault OutName.StandardOutput) cause exact shelf sink = absurd (sink cause)
complete-by command answer old new Status.OutOfMemory cause exact shelf sink = inr refl
complete-by command answer old new (Status.BadWords place) cause exact shelf sink = inl (sym exact)
complete-by command answer old new (Status.Absent name) cause exact shelf sink = inl (sym exact)
complete-by command answer old new (Status.TooLong name) cause exact shelf sink = inl (sym exact)
complete-by command answer old new (Status.BadPolicy file line reply) cause exact shelf sink = inl (sym exact)
complete-by command answer old new (Status.UndefinedProfile domain) cause exact shelf sink = inl (sym exact)
complete-by command answer old new (Status.BadTrace line kind) cause exact shelf sink = inl (sym exact)
complete-by command answer old new (Status.BadScript name line kind) cause exact shelf sink = inl (sym exact)
complete-by command answer old new (Status.TooMany what) cause exact shelf sink = inl (sym exact)
complete-by command answer old new (Status.BadRules line kind) cause exact shelf sink = inl (sym exact)
complete-by command answer old new (Status.BadAudit line) cause exact shelf sink = inl (sym exact)
complete-by command answer old new (Status.BadRun line) cause exact shelf sink = inl (sym exact)
