-- What the trace of a log tells of its records.
use Rattle.std.specs.Prelude.{◌≡◌, ⊤, ℕ, suc, ◌-◌, ◌^◌, ◌<◌, ◌≤◌, ◌==◌, nat_le, if◌then◌else◌, ◌⊎◌, List, [], ◌∷◌, ◌++◌, length, slice_get, Option, Some, None}
use Rattle.std.specs.List.{AllByRecursion, flat_map}
use Rattle.tm_rules.specs.Types.{Args, Item, Request, Tree}
use Rattle.tm_log.specs.declared.log.Log.{Log}
use Rattle.tm_log.specs.declared.log.Source.{Source}
use Rattle.tm_log.specs.declared.log.Used.{Used}
use Rattle.tm_rules.specs.Prelude.{pid_of_line}
use Rattle.tm_log_trace.specs.declared.made.Made.{Made}
use Rattle.tm_log_trace.specs.declared.notes.Note.{Note}
use Rattle.tm_log_trace.specs.declared.notes.Warning.{Warning}
use Rattle.tm_log_trace.specs.Making.{manual_request}
use Rattle.tm_log.specs.Logs.{log_of}
use Rattle.tm_log_trace.specs.Made.{trace_made}
use Rattle.tm_log_trace_laws.specs.History.{Happening, Replays, firsts_from}

-- the lines of a tree
abbrev pub items_in : ℕ → List Happening → List Item
items_in t [] = []
items_in t (h ∷ more) = if h.tree == t then h.item ∷ items_in t more else items_in t more

-- the records of lines, one of each line that is of one
abbrev pub record_in : Option Used → List Used
record_in None = []
record_in (Some used) = used ∷ []

abbrev pub records_of : List Happening → List Used
records_of history = flat_map (λ (h : Happening). record_in h.used) history

-- a line that is of a record is the `do` of its request, in its domain
abbrev pub IsOf : Option Used → Happening → Type 0
IsOf None h = ⊤
IsOf (Some used) h =
    (h.item ≡ Item.Do (pid_of_line h.item) used.«record».request) × (h.domain ≡ used.«record».domain)

-- the lines `do` that no record is of, each with its pid
abbrev pub supposed_in : Option Used → Item → List (ℕ × Request)
supposed_in (Some used) item = []
supposed_in None (Item.Ids pid ids) = []
supposed_in None (Item.Fork pid child) = []
supposed_in None (Item.Do pid request) = (pid, request) ∷ []

abbrev pub supposed_of : List Happening → List (ℕ × Request)
supposed_of history = flat_map (λ (h : Happening). supposed_in h.used h.item) history

-- the manual transitions of which warnings tell
abbrev pub manual_in : Warning → List (ℕ × Request)
manual_in (Warning.Manual pid domain) = (pid, manual_request domain) ∷ []
manual_in _ = []

abbrev pub manuals_in : List Note → List (ℕ × Request)
manuals_in notes = flat_map (λ (note : Note). manual_in note.warning) notes

-- where a log is cut, and the records from there on
abbrev pub IsCutBefore : Option Source → List Used → Type 0
IsCutBefore None rest = rest ≡ []
IsCutBefore (Some source) rest =
    (used : Used) × (more : List Used) × (rest ≡ used ∷ more) × (used.source ≡ source)

-- Pids

-- after a warning a key that means this process means this one
abbrev pub renamed : ℕ → ℕ → Warning → ℕ
renamed key pid (Warning.Again old next) = if old == key then next else pid
renamed key pid (Warning.Move old domain next refused) = if old == pid then next else pid
renamed key pid _ = pid

abbrev pub number_from : ℕ → ℕ → List Note → ℕ
number_from key pid [] = pid
number_from key pid (note ∷ notes) = number_from key (renamed key pid note.warning) notes

-- the process that a pid of the log means after these warnings: the one of this pid, until that is
-- used again or goes on as another one
abbrev pub number_told : ℕ → List Note → ℕ
number_told key notes = number_from key key notes

-- the warnings up to a record
abbrev pub notes_up_to : ℕ → List Note → List Note
notes_up_to number [] = []
notes_up_to number (note ∷ notes) =
    if nat_le note.source.number number then note ∷ notes_up_to number notes
    else notes_up_to number notes

abbrev pub number_at : List Note → Used → ℕ → ℕ
number_at warnings used key = number_told key (notes_up_to used.source.number warnings)

-- a line that is of a record is of the process that the record's pid means, or its global pid
abbrev pub IsNamed : List Note → Option Used → ℕ → Type 0
IsNamed warnings None pid = ⊤
IsNamed warnings (Some used) pid =
    (pid ≡ number_at warnings used used.«record».process.pid)
    ⊎ (pid ≡ number_at warnings used used.«record».global_pid)

-- the trace is these lines, tree by tree, each in order; those of records are all records up to the
-- cut, each once and in order, of the process that it names; any other `do` is a manual transition
-- of which a warning tells; and each process may be in the domain of each of its lines
pub record IsHistory (log : Log) (made : Made) (history : List Happening) (rest : List Used) : Type 0 where
  pub lines : (t : ℕ) (tree : Tree) → slice_get made.trace t ≡ Some tree → tree.records ≡ items_in t history
  pub within : AllByRecursion (λ (h : Happening). h.tree < length made.trace) history
  pub records : log.used ≡ records_of history ++ rest
  pub cut : IsCutBefore made.cut rest
  pub each : AllByRecursion (λ (h : Happening). IsOf h.used h) history
  pub named : AllByRecursion (λ (h : Happening). IsNamed made.warnings h.used (pid_of_line h.item)) history
  pub manuals : supposed_of history ≡ manuals_in made.warnings
  pub replays : Replays (firsts_from 0 made.trace) history

-- pids are at most 4,194,304, as Linux gives them
abbrev pub HasPids : Used → Type 0
HasPids used =
    (used.«record».global_pid ≤ 4194304) × (used.«record».process.pid ≤ 4194304)
    × (used.«record».process.ppid ≤ 4194304)

-- no record is of a manual transition
abbrev pub IsNoManual : Args → Type 0
IsNoManual (Args.Manual domain) = ⊥
IsNoManual _ = ⊤

-- what a kernel records
abbrev pub IsOfKernel : Used → Type 0
IsOfKernel used = HasPids used × IsNoManual used.«record».request.args

-- each record has a greater number than those before it, the first at least this one
abbrev pub RisesFrom : ℕ → List Used → Type 0
RisesFrom number [] = ⊤
RisesFrom number (used ∷ more) = (number ≤ used.source.number) × RisesFrom (suc used.source.number) more

abbrev pub HasHistory : Log → Type 0
HasHistory log =
    (history : List Happening) × (rest : List Used) × IsHistory log (trace_made log) history rest

-- each record is one line, in the trace of each log such as a kernel writes
abbrev pub EachRecordIsOneLine : Type 0
EachRecordIsOneLine =
    (log : Log) → AllByRecursion IsOfKernel log.used → RisesFrom 0 log.used → HasHistory log

-- the log that bytes are is such a one
abbrev pub EachRecordOfBytesIsOneLine : Type 0
EachRecordOfBytesIsOneLine =
    (bytes : List ℕ) → length bytes < 2 ^ 64 - 1 → HasHistory (log_of bytes)
