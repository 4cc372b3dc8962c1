-- What is carried out after calls that changed nothing.
use Rattle.std.proofs.Common.{◌≡◌, ◌∙◌, ◌≤◌, ap, take}
use Rattle.tm_io.specs.Files.{Files, SameFiles}
use Rattle.tm_io.specs.Bytes.{then_bytes}
use Rattle.tm_call.specs.declared.status.Status.{Status}
use Rattle.tm_call.specs.declared.status.OutName.{OutName}
use Rattle.tm_call.specs.declared.carry.Outcome.{Outcome}
use Rattle.tm_call.specs.Fetches.{Texts}
use Rattle.tm_call.specs.Stores.{stored, Leaves}
use Rattle.tm_call.specs.Ends.{Outside, CarriedOut}
use Rattle.tm_call.proofs.Steps.{rose-earlier}

-- a call that changed nothing came between
pub record Quiet (old mid : Outside) : Type 0 where
  pub files : SameFiles old.files mid.files
  pub written : mid.written ≡ old.written
  pub shelf : old.shelf_faults ≤ mid.shelf_faults
  pub sink : old.sink_faults ≤ mid.sink_faults

pub leaves-after : (stores : Texts) (old mid new : Files) → SameFiles old mid → Leaves stores mid new → Leaves stores old new
leaves-after stores old mid new same leaves name = leaves name ∙ ap (stored stores name) (same name)

pub carried-after : (outcome : Outcome) (old mid new : Outside) (status : Status) → Quiet old mid → CarriedOut outcome mid new status → CarriedOut outcome old new status
carried-after outcome old mid new Status.Done quiet h =
    (leaves-after outcome.stores old.files mid.files new.files quiet.files h.0, h.1 ∙ ap (then_bytes outcome.line) quiet.written)
carried-after outcome old mid new (Status.WriteFault OutName.StandardOutput) quiet h =
    record {
      files = leaves-after outcome.stores old.files mid.files new.files quiet.files h.files;
      text = h.text;
      rest = h.rest;
      line = h.line;
      written = h.written ∙ ap (then_bytes h.text) quiet.written;
      rose = rose-earlier _ _ _ quiet.sink h.rose;
    }
carried-after outcome old mid new (Status.WriteFault (OutName.File name)) quiet h =
    ((record { made = h.0.0.made; bytes = h.0.0.bytes; at = h.0.0.at; files = leaves-after (take h.0.0.made outcome.stores) old.files mid.files new.files quiet.files h.0.0.files }, rose-earlier _ _ _ quiet.shelf h.0.1), h.1 ∙ quiet.written)
carried-after outcome old mid new Status.OutOfMemory quiet h =
    ((h.0.0, leaves-after (take h.0.0 outcome.stores) old.files mid.files new.files quiet.files h.0.1), h.1 ∙ quiet.written)
carried-after outcome old mid new (Status.BadWords place) quiet h = absurd h.0
carried-after outcome old mid new (Status.ReadFault name) quiet h = absurd h.0
carried-after outcome old mid new (Status.Absent name) quiet h = absurd h.0
carried-after outcome old mid new (Status.TooLong name) quiet h = absurd h.0
carried-after outcome old mid new (Status.BadPolicy file line reply) quiet h = absurd h.0
carried-after outcome old mid new (Status.UndefinedProfile domain) quiet h = absurd h.0
carried-after outcome old mid new (Status.BadTrace line kind) quiet h = absurd h.0
carried-after outcome old mid new (Status.BadScript name line kind) quiet h = absurd h.0
carried-after outcome old mid new (Status.TooMany what) quiet h = absurd h.0
carried-after outcome old mid new (Status.BadRules line kind) quiet h = absurd h.0
carried-after outcome old mid new (Status.BadAudit line) quiet h = absurd h.0
carried-after outcome old mid new (Status.BadRun line) quiet h = absurd h.0
