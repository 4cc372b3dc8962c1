-- What is read and refused, however it is played.
use Rattle.std.proofs.Common.{◌≡◌, ap}
use Rattle.std.specs.Prelude.{Some, None, Ok}
use Rattle.tm_rules.specs.Prelude.{IsFew}
use Rattle.tm_io.specs.declared.names.FileName.{FileName}
use Rattle.tm_trace.proofs.TraceRead.{trace_read}
use Rattle.tm_call.specs.declared.words.How.{How}
use Rattle.tm_call.specs.declared.status.Status.{Status}
use Rattle.tm_call.specs.Fetches.{Texts, content}
use Rattle.tm_gen_laws.specs.CallInputLoaded.{Loaded}
use Rattle.tm_gen_laws.specs.Reading.{refused, step_refusal}
use Rattle.tm_gen_laws.proofs.Readings.{AreRead, scene-read, step-read, can-play}
use Rattle.tm_gen_laws.proofs.Refusals.{FailsSo, step-refused, scene-refused}
use Rattle.tomoyo.specs.Play.{reading_of}
use Rattle.tomoyo.specs.Closures.{IsPlayable}

-- what is refused fails as its policy does, or as what comes after it
pub played-refused : (how : How) (texts : Texts) (status : Status) → refused (reading_of how texts) ≡ Some status → FailsSo texts status
unfolding step_refusal
played-refused How.ByTurns texts status e = step-refused texts status e
played-refused (How.OnThreads workers) texts status e = scene-refused texts status e
played-refused (How.Stealing workers) texts status e = scene-refused texts status e

-- what is read isn't refused
pub none-refused : (how : How) (texts : Texts) (loaded : Loaded) → reading_of how texts ≡ Ok loaded → refused (reading_of how texts) ≡ None
none-refused how texts loaded e = ap refused e

-- each part is read from its file
pub how-read : (how : How) (texts : Texts) (loaded : Loaded) → reading_of how texts ≡ Ok loaded → AreRead texts loaded
how-read How.ByTurns texts loaded e = step-read texts loaded e
how-read (How.OnThreads workers) texts loaded e = scene-read texts loaded e
how-read (How.Stealing workers) texts loaded e = scene-read texts loaded e

-- what is read can be played
pub playable : (how : How) (texts : Texts) (loaded : Loaded) → reading_of how texts ≡ Ok loaded → IsFew loaded.policy → IsPlayable loaded
playable how texts loaded e few =
    let read : AreRead texts loaded = how-read how texts loaded e in
    record { few = few; can = can-play texts loaded read; written = trace_read (content texts FileName.Trace) loaded.trace read.trace }
