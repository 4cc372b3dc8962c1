-- The policy that the four policy files hold, and what is refused of them.
use Rattle.std.specs.Prelude.{◌≡◌, Bool, false, nat_lt, Option, Some, None, Result, Ok, Err}
use Rattle.tm_rules.specs.Types.{LoadFault, Policy, PolicyFiles}
use Rattle.tm_rules.specs.Prelude.{load}
use Rattle.tm_core.specs.Tomoyo.{tomoyo_grammar}
use Rattle.tm_io.specs.declared.names.FileName.{FileName}
use Rattle.tm_io.specs.Names.{file_place}
use Rattle.tm_call.specs.declared.status.Status.{Status}
use Rattle.tm_call.specs.Fetches.{Texts, content}

-- the first four names are those of the policy files
abbrev pub is_policy_file : FileName → Bool
is_policy_file name = nat_lt (file_place name) 4

-- all other files hold what they held
abbrev pub OthersStay : Texts → Texts → Type 0
OthersStay old new = (name : FileName) → is_policy_file name ≡ false → content new name ≡ content old name

-- the four policy files
abbrev pub policy_files : Texts → PolicyFiles
policy_files texts =
    record {
      profile = content texts FileName.Profile;
      exception = content texts FileName.ExceptionPolicy;
      domain = content texts FileName.DomainPolicy;
      manager = content texts FileName.Manager;
    }

-- the policy that the files load to, or the fault of loading them: a line that isn't done, or a
-- domain without its profile
unfoldable pub policy_of : Texts → Result Policy LoadFault
policy_of texts = load tomoyo_grammar (policy_files texts)

-- how a fault of loading ends the call
abbrev pub fault_status : LoadFault → Status
fault_status (LoadFault.Line file line reply) = Status.BadPolicy file line reply
fault_status (LoadFault.UndefinedProfile domain) = Status.UndefinedProfile domain
fault_status LoadFault.NoMemory = Status.OutOfMemory

abbrev pub load_refusal : Result Policy LoadFault → Option Status
load_refusal (Ok policy) = None
load_refusal (Err fault) = Some (fault_status fault)

-- the refusal of the policy files: the first line that isn't done, or else the first live domain
-- whose profile isn't defined
abbrev pub policy_refusal : Texts → Option Status
policy_refusal texts = load_refusal (policy_of texts)
