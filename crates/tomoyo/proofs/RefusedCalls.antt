-- The order of fetches where what was read is refused.
use Rattle.std.proofs.Common.{List}
use Rattle.tm_io.specs.declared.names.FileName.{FileName}
use Rattle.tm_io.specs.Notes.{Noted}
use Rattle.tm_call.specs.declared.status.Status.{Status}
use Rattle.tm_call.specs.declared.words.Command.{Command}
use Rattle.tm_call.specs.Fetches.{Texts}
use Rattle.tm_call.specs.Calls.{Names, FetchesOf}
use Rattle.tm_call.proofs.Calls.{first-all}
use Rattle.tomoyo.specs.Call.{Refuses}
use Rattle.tomoyo.proofs.Refusals.{refusal-kind}

-- what was read is refused after all fetches, and before anything is stored
pub fetches-refused : (command : Command) (files : List FileName) (texts : Texts) (status : Status) (a b : Names) → Refuses command texts status → Noted files a b → FetchesOf files status a b
fetches-refused command files texts Status.Done a b refused all = all
fetches-refused command files texts (Status.BadWords place) a b refused all = all
fetches-refused command files texts (Status.ReadFault name) a b refused all = absurd (refusal-kind command texts (Status.ReadFault name) refused)
fetches-refused command files texts (Status.Absent name) a b refused all = absurd (refusal-kind command texts (Status.Absent name) refused)
fetches-refused command files texts (Status.TooLong name) a b refused all = absurd (refusal-kind command texts (Status.TooLong name) refused)
fetches-refused command files texts (Status.BadPolicy file line reply) a b refused all = all
fetches-refused command files texts (Status.UndefinedProfile domain) a b refused all = all
fetches-refused command files texts (Status.BadTrace line kind) a b refused all = all
fetches-refused command files texts (Status.BadScript name line kind) a b refused all = all
fetches-refused command files texts (Status.TooMany what) a b refused all = all
fetches-refused command files texts (Status.BadRules line kind) a b refused all = all
fetches-refused command files texts (Status.BadAudit line) a b refused all = all
fetches-refused command files texts (Status.BadRun line) a b refused all = all
fetches-refused command files texts (Status.WriteFault name) a b refused all = all
fetches-refused command files texts Status.OutOfMemory a b refused all = first-all files a b all
