-- The contract of the top call: from how a command ends, and where the words are faulty.
use Rattle.std.proofs.Common.{ℕ, [], Ok, Err, refl, sym, append-nil}
use Rattle.std.specs.Prelude.{Some, None}
use Rattle.tm_io.specs.Notes.{Noted}
use Rattle.tm_call.specs.declared.status.Status.{Status}
use Rattle.tm_call.specs.declared.words.Command.{Command}
use Rattle.tm_call.specs.Calls.{Names}
use Rattle.tm_call.specs.Ends.{Outside, Untouched}
use Rattle.tomoyo.specs.Call.{answer_of, KeepsOthers, HasCause, IsExact, HasDone, FetchesInOrder, StoresInOrder, StoresLast, CallEnds, Called}
use Rattle.tomoyo.proofs.Causes.{cause-of, gen-ends}
use Rattle.tomoyo.proofs.Exact.{exact-of, complete-by}
use Rattle.tomoyo.proofs.Headline.{kept-of, headline-of}
use Rattle.tomoyo.proofs.Verified.{legal-runs}

pub called-of : (command : Command) (old new : Outside) (status : Status) → CallEnds (Ok command) old new status → FetchesInOrder (Ok command) old new status
    → StoresInOrder (Ok command) old new status → StoresLast (Ok command) old new → Called (Ok command) old new status
called-of command old new status ends fetches stores stores_last =
    let headline : HasDone (Ok command) old new status = headline-of command old new status ends in
    let kept : KeepsOthers (Ok command) old.files new.files = kept-of command old new status ends in
    let causes : HasCause (Ok command) old new status = cause-of command old new status ends in
    let exact : IsExact (Ok command) old.files status = exact-of command old new status ends in
    record {
      headline = headline;
      kept = kept;
      causes = causes;
      exact = exact;
      complete = λ tells shelf sink. complete-by command (answer_of command old.files) old new status causes (exact tells) shelf sink;
      generated = gen-ends command old new status causes;
      verified = legal-runs command old new status headline kept;
      fetches = fetches;
      stores = stores;
      stores_last = stores_last;
      ends = ends;
    }

none-noted : (names : Names) → Noted [] names names
none-noted None = tt
none-noted (Some names) = sym (append-nil names)

-- at faulty words nothing is done
pub called-faulty : (place : ℕ) (old : Outside) → Called (Err place) old old (Status.BadWords place)
called-faulty place old =
    let untouched : Untouched old old = record { files = λ name. refl; written = refl } in
    record {
      headline = λ done. absurd cc;
      kept = λ name. refl;
      causes = (refl, untouched);
      exact = tt;
      complete = tt;
      generated = tt;
      verified = tt;
      fetches = none-noted old.fetched;
      stores = none-noted old.stored;
      stores_last = tt;
      ends = (refl, untouched);
    }
