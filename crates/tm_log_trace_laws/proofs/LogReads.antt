-- A log that is read from bytes: its records have pids of Linux, and numbers that rise.
use Rattle.std.proofs.Common.{◌≡◌, ℕ, suc, ◌+◌, ◌-◌, ◌^◌, ◌<◌, ◌≤◌, Bool, true, false, if◌then◌else◌, List, [], ◌∷◌, ◌++◌, length, refl, arith}
use Rattle.std.specs.Prelude.{Option, Some, None, Result, Ok, Err}
use Rattle.std.specs.List.{AllByRecursion}
use Rattle.std.proofs.lemmas.Bool.{lt-ltb}
use Rattle.tm_word.specs.Prelude.{Text, begins_with_byte, words_of}
use Rattle.tm_log.specs.declared.faults.Reason.{Reason}
use Rattle.tm_log.specs.declared.gather.Gatherer.{Gatherer}
use Rattle.tm_log.specs.declared.gather.Lines.{Lines}
use Rattle.tm_log.specs.declared.log.Log.{Log}
use Rattle.tm_log.specs.declared.log.Source.{Source}
use Rattle.tm_log.specs.declared.log.Used.{Used}
use Rattle.tm_log.specs.declared.record.Record.{Record}
use Rattle.tm_log.specs.Gathering.{next, sort_of, begun, with_line_of, gathered_as, gathered}
use Rattle.tm_log.specs.Records.{record_of}
use Rattle.tm_log.specs.Logs.{is_full, with_used, taken_as, taken, taken_if, Reading, nothing_read, ends_line, with_end, with_byte, fed, finished, log_of}
use Rattle.tm_log_trace_laws.specs.Told.{IsOfKernel, RisesFrom}
use Rattle.tm_log_trace_laws.proofs.Lists.{All-both, All-later}
use Rattle.tm_log_trace_laws.proofs.Passing.{OkIs}
use Rattle.tm_log_trace_laws.proofs.Pids.{HasRecord, record-pids}

abbrev IsBelow : ℕ → Used → Type 0
IsBelow bound used = used.source.number < bound

rises-push : (n : ℕ) (xs : List Used) (u : Used) → RisesFrom n xs → AllByRecursion (IsBelow u.source.number) xs → n ≤ u.source.number → RisesFrom n (xs ++ u ∷ [])
rises-push n [] u rises below le = (le, tt)
rises-push n (x ∷ xs) u rises below le = (rises.0, rises-push (suc x.source.number) xs u rises.1 below.1 (let b : x.source.number < u.source.number = below.0 in omega arith))

-- records with pids, whose numbers rise to this one
pub record LogOk (bound : ℕ) (log : Log) : Type 0 where
  pub pids : AllByRecursion IsOfKernel log.used
  pub rises : RisesFrom 0 log.used
  pub below : AllByRecursion (IsBelow bound) log.used

below-later : (bound more : ℕ) (xs : List Used) → bound ≤ more → AllByRecursion (IsBelow bound) xs → AllByRecursion (IsBelow more) xs
below-later bound more xs le all = All-later (IsBelow bound) (IsBelow more) xs (λ u lt. omega (arith, lt, le)) all

log-later : (bound more : ℕ) (log : Log) → bound ≤ more → LogOk bound log → LogOk more log
log-later bound more log le h = record { pids = h.pids; rises = h.rises; below = below-later bound more log.used le h.below }

taken-ok : (bound : ℕ) (log : Log) (lines : Lines) → LogOk bound log → bound ≤ lines.number → LogOk (suc lines.number) (taken log lines)
unfolding taken
taken-ok bound log lines h le = by (is_full log)
  where
    source : Source
    source = record { number = lines.number; line = lines.line }

    reasoned : (r : Result Record Reason) → OkIs HasRecord r → LogOk (suc lines.number) (taken_as log source r)
    reasoned (Ok one) pids =
        let made : Log = with_used log source one in
        record {
          pids = All-both IsOfKernel log.used _ h.pids (pids, tt);
          rises = rises-push 0 log.used _ h.rises (below-later bound lines.number log.used le h.below) (omega arith);
          below = All-both (IsBelow (suc lines.number)) log.used _ (below-later bound (suc lines.number) log.used (omega arith) h.below) (omega arith, tt);
        }
    reasoned (Err reason) pids = record { pids = h.pids; rises = h.rises; below = below-later bound (suc lines.number) log.used (omega arith) h.below }

    by : (b : Bool) → LogOk (suc lines.number) (if b then log else taken_as log source (record_of lines.texts))
    by true = log-later bound (suc lines.number) log (omega arith) h
    by false = reasoned (record_of lines.texts) (record-pids lines.texts)

-- the record that goes on is the latest
abbrev HasCurrent : ℕ → ℕ → Option Lines → Type 0
HasCurrent bound records None = bound ≤ suc records
HasCurrent bound records (Some lines) = (lines.number ≡ records) × (bound ≤ records)

-- after a line, which may have ended a record
abbrev AfterLine : ℕ → ℕ → Gatherer → Option Lines → Type 0
AfterLine bound count g None = HasCurrent bound g.records g.current × (g.records ≤ count)
AfterLine bound count g (Some lines) = (bound ≤ lines.number) × HasCurrent (suc lines.number) g.records g.current × (g.records ≤ count)

next-is : (n : ℕ) → n < 2 ^ 64 - 1 → next n ≡ n + 1
next-is n lt = rw (lt-ltb n (2 ^ 64 - 1) lt) refl

begun-ok : (bound count : ℕ) (g : Gatherer) (line : Text) → (o : Option Lines) → HasCurrent bound g.records o → g.records ≤ count → count < 2 ^ 64 - 1 → AfterLine bound (suc count) (begun g line).0 o
begun-ok bound count g line None h low room = (let e : next g.records ≡ g.records + 1 = next-is g.records (omega arith) in ((refl, rw e (omega arith)), rw e (omega arith)))
begun-ok bound count g line (Some lines) h low room =
    let e : next g.records ≡ g.records + 1 = next-is g.records (omega arith) in
    let number : lines.number ≡ g.records = h.0 in
    let le : bound ≤ g.records = h.1 in
    (omega arith, (refl, rw e (omega arith)), rw e (omega arith))

gathered-ok : (bound count : ℕ) (g : Gatherer) (line : Text) → HasCurrent bound g.records g.current → g.records ≤ count → count < 2 ^ 64 - 1 → AfterLine bound (suc count) (gathered g line).0 (gathered g line).1
unfolding sort_of
gathered-ok bound count g line h low room = by (words_of line)
  where
    ends : (o : Option Lines) → HasCurrent bound g.records o → AfterLine bound (suc count) (record g { lines = next g.lines; current = None }) o
    ends None h = (h, omega arith)
    ends (Some lines) h = (let number : lines.number ≡ g.records = h.0 in let le : bound ≤ g.records = h.1 in (omega arith, omega arith, omega arith))

    goes : (o : Option Lines) → g.current ≡ o → HasCurrent bound g.records o → AfterLine bound (suc count) (with_line_of g o line).0 (with_line_of g o line).1
    goes None e h = rw e (begun-ok bound count g line None h low room)
    goes (Some lines) e h = (h, omega arith)

    first : (word : Text) (words : List Text) (b : Bool) → begins_with_byte 35 word ≡ b → AfterLine bound (suc count) (gathered_as (sort_of (word ∷ words)) g line).0 (gathered_as (sort_of (word ∷ words)) g line).1
    first word words true e = rw e (begun-ok bound count g line g.current h low room)
    first word words false e = rw e (goes g.current refl h)

    by : (words : List Text) → AfterLine bound (suc count) (gathered_as (sort_of words) g line).0 (gathered_as (sort_of words) g line).1
    by [] = ends g.current h
    by (word ∷ words) = first word words (begins_with_byte 35 word) refl

-- what was read of so many bytes
pub record ReadOk (count : ℕ) (s : Reading) : Type 0 where
  pub bound : ℕ
  pub log : LogOk bound s.log
  pub current : HasCurrent bound s.gatherer.records s.gatherer.current
  pub records : s.gatherer.records ≤ count

end-ok : (count : ℕ) (s : Reading) → ReadOk count s → count < 2 ^ 64 - 1 → ReadOk (suc count) (with_end s)
end-ok count s h room = by (gathered s.gatherer s.line).0 (gathered s.gatherer s.line).1 (gathered-ok h.bound count s.gatherer s.line h.current h.records room)
  where
    by : (g : Gatherer) (o : Option Lines) → AfterLine h.bound (suc count) g o → ReadOk (suc count) (record { gatherer = g; line = []; log = taken_if s.log o })
    by g None after = record { bound = h.bound; log = h.log; current = after.0; records = after.1 }
    by g (Some lines) after = record { bound = suc lines.number; log = taken-ok h.bound s.log lines h.log after.0; current = after.1; records = after.2 }

fed-ok : (bytes : List ℕ) (count : ℕ) (s : Reading) → ReadOk count s → count + length bytes < 2 ^ 64 - 1 → ReadOk (count + length bytes) (fed s bytes)
fed-ok [] count s h room = (let e : count + 0 ≡ count = omega arith in rw e h)
fed-ok (b ∷ bytes) count s h room =
    let e : count + suc (length bytes) ≡ suc count + length bytes = omega arith in
    rw e (fed-ok bytes (suc count) (if ends_line b then with_end s else with_byte s b) (by (ends_line b)) (omega arith))
  where
    later : ReadOk (suc count) s
    later = record { bound = h.bound; log = h.log; current = h.current; records = (let le : s.gatherer.records ≤ count = h.records in omega arith) }

    by : (x : Bool) → ReadOk (suc count) (if x then with_end s else with_byte s b)
    by true = end-ok count s h (omega arith)
    by false = record { bound = later.bound; log = later.log; current = later.current; records = later.records }

finished-ok : (count : ℕ) (s : Reading) → ReadOk count s → count < 2 ^ 64 - 1 → (bound : ℕ) × LogOk bound (finished s)
finished-ok count s h room = by (with_end s).gatherer.current last.current
  where
    last : ReadOk (suc count) (with_end s)
    last = end-ok count s h room

    by : (o : Option Lines) → HasCurrent last.bound (with_end s).gatherer.records o → (bound : ℕ) × LogOk bound (taken_if (with_end s).log o)
    by None current = (last.bound, last.log)
    by (Some lines) current = (suc lines.number, taken-ok last.bound (with_end s).log lines last.log (let number : lines.number ≡ (with_end s).gatherer.records = current.0 in let le : last.bound ≤ (with_end s).gatherer.records = current.1 in omega arith))

nothing-ok : ReadOk 0 nothing_read
nothing-ok = record { bound = 0; log = record { pids = tt; rises = tt; below = tt }; current = omega arith; records = omega arith }

pub log-ok : (bytes : List ℕ) → length bytes < 2 ^ 64 - 1 → (bound : ℕ) × LogOk bound (log_of bytes)
log-ok bytes room =
    let all : ReadOk (0 + length bytes) (fed nothing_read bytes) = fed-ok bytes 0 nothing_read nothing-ok (omega arith) in
    finished-ok (0 + length bytes) (fed nothing_read bytes) all (omega arith)
