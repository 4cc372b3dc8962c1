-- How an outcome is carried out, and how a command ends.
use Rattle.std.specs.Prelude.{◌≡◌, ℕ, List, ◌++◌, Option}
use Rattle.tm_io.specs.declared.outside.Shelf as shelf
use Rattle.tm_io.specs.declared.outside.Sink as sink
use Rattle.tm_io.specs.Causes.{Rose}
use Rattle.tm_io.specs.Files.{Files, SameFiles}
use Rattle.tm_io.specs.Bytes.{then_bytes}
use Rattle.tm_call.specs.declared.status.Status.{Status}
use Rattle.tm_call.specs.declared.status.OutName.{OutName}
use Rattle.tm_call.specs.declared.fetches.Want.{Want}
use Rattle.tm_call.specs.declared.carry.Outcome.{Outcome}
use Rattle.tm_call.specs.Fetches.{Texts, AllGiven, FetchStops}
use Rattle.tm_call.specs.Stores.{Leaves, StoreStops}
use Rattle.tm_call.specs.Calls.{Names}

-- what a shelf and a sink tell at one moment: the files, what was written, the counts of faults, and
-- the names of the fetches and of the stores so far
pub record Outside : Type 0 where
  pub files : Files
  pub written : Option (List ℕ)
  pub shelf_faults : ℕ
  pub sink_faults : ℕ
  pub fetched : Names
  pub stored : Names

-- what is told by this shelf and this sink, whose types tell it so
abbrev pub outside : {S K : Type 0} → shelf.Ghosts S → sink.Ghosts K → S → K → Outside
outside tells puts files out =
    record {
      files = tells.file files;
      written = puts.written out;
      shelf_faults = tells.faults files;
      sink_faults = puts.faults out;
      fetched = tells.fetched files;
      stored = tells.stored files;
    }

-- nothing was stored, and nothing was put
pub record Untouched (old new : Outside) : Type 0 where
  pub files : SameFiles old.files new.files
  pub written : new.written ≡ old.written

-- all was stored, and a part of the line was put
pub record IsUntold (outcome : Outcome) (old new : Outside) : Type 0 where
  pub files : Leaves outcome.stores old.files new.files
  pub text : List ℕ
  pub rest : List ℕ
  pub line : text ++ rest ≡ outcome.line
  pub written : new.written ≡ then_bytes text old.written
  pub rose : Rose old.sink_faults new.sink_faults

-- how an outcome is carried out, by the status: all of it, all but the end of the line, or a prefix
-- of the stores
abbrev pub CarriedOut : Outcome → Outside → Outside → Status → Type 0
CarriedOut outcome old new Status.Done =
    Leaves outcome.stores old.files new.files × (new.written ≡ then_bytes outcome.line old.written)
CarriedOut outcome old new (Status.WriteFault OutName.StandardOutput) = IsUntold outcome old new
CarriedOut outcome old new status =
    StoreStops outcome.stores old.files new.files (Rose old.shelf_faults new.shelf_faults) status
    × (new.written ≡ old.written)

-- How a command ends: at a fetch, at a refusal of what was read, or by carrying out an allowed
-- outcome.
pub data Ends (wants : List Want) (Refuses : Texts → Status → Type 0) (Allows : Texts → Outcome → Type 0)
    (old new : Outside) (status : Status) : Type 0 where
  Not_fetched : FetchStops old.files wants (Rose old.shelf_faults new.shelf_faults) status
      → Untouched old new → Ends wants Refuses Allows old new status
  Refused : (texts : Texts) → AllGiven old.files wants texts → Refuses texts status
      → Untouched old new → Ends wants Refuses Allows old new status
  Made : (texts : Texts) → (outcome : Outcome) → AllGiven old.files wants texts → Allows texts outcome
      → CarriedOut outcome old new status → Ends wants Refuses Allows old new status
