-- The trace of a log, and its report.
use Rattle.std.specs.Prelude.{ℕ, ◌+◌, ◌-◌, ◌^◌, ◌==◌, ◌&&◌, nat_lt, nat_le, Bool, true, false, not, if◌then◌else◌, List, [], ◌∷◌, ◌++◌, length, min, codes, Option, Some, None, is_some}
use Rattle.std.specs.List.{filter, flat_map}
use Rattle.std.specs.Fmt.{decimal}
use Rattle.tm_word.specs.Prelude.{Text}
use Rattle.tm_rules.specs.Types.{Tree}
use Rattle.tm_rules.specs.Prelude.{DomainName, Trace}
use Rattle.tm_log.specs.declared.record.Record.{Record}
use Rattle.tm_log.specs.Reasons.{reason_text}
use Rattle.tm_log.specs.declared.log.Log.{Log}
use Rattle.tm_log.specs.declared.log.Source.{Source}
use Rattle.tm_log.specs.declared.log.Used.{Used}
use Rattle.tm_log.specs.declared.notes.LeftOut.{LeftOut}
use Rattle.tm_log_processes.specs.Forests.{has_room, in_trees}
use Rattle.tm_log_trace.specs.declared.made.Counts.{Counts}
use Rattle.tm_log_trace.specs.declared.made.Made.{Made}
use Rattle.tm_log_trace.specs.declared.made.TakenAll.{TakenAll}
use Rattle.tm_log_trace.specs.declared.notes.Note.{Note}
use Rattle.tm_log_trace.specs.declared.notes.Warning.{Warning}
use Rattle.tm_log_trace.specs.Making.{Making, nothing_made, seen, taken}

-- The trace

-- the domain of the first record of each pid
abbrev pub all_seen : Making → List Used → Making
all_seen s [] = s
all_seen s (used ∷ more) = all_seen (seen s used.«record») more

-- one more than so many
abbrev pub count_next : ℕ → ℕ
count_next n = min (n + 1) (2 ^ 64 - 1)

-- a record is taken if it has room, else the log is cut there
abbrev pub step_if : Bool → TakenAll → Used → TakenAll
step_if false all used = record all { cut = Some used.source }
step_if true all used = record { maker = taken all.maker used; count = count_next all.count; cut = None }

-- nothing is taken after the cut
abbrev pub step_by : Option Source → TakenAll → Used → TakenAll
step_by (Some cut) all used = all
step_by None all used = step_if (has_room all.maker.forest used.size) all used

unfoldable pub step : TakenAll → Used → TakenAll
step all used = step_by all.cut all used

-- records are taken while there is room
abbrev pub taken_all : TakenAll → List Used → TakenAll
taken_all all [] = all
taken_all all (used ∷ more) = taken_all (step all used) more

abbrev pub none_taken : Making → TakenAll
none_taken s = record { maker = s; count = 0; cut = None }

-- what is left out before a record
abbrev pub left_before : List LeftOut → Source → List LeftOut
left_before left cut = filter (λ one. nat_lt one.source.number cut.number) left

-- how many records there are and are left out, up to where the log is cut
abbrev pub records_before : Option Source → ℕ → ℕ
records_before None records = records
records_before (Some cut) records = cut.number - 1

abbrev pub left_until : Option Source → List LeftOut → List LeftOut
left_until None left = left
left_until (Some cut) left = left_before left cut

abbrev pub counts_of : Making → ℕ → ℕ → Counts
counts_of s used records = record { records = records; used = used; trees = length s.forest.trees; processes = length s.list.processes }

abbrev pub made_with : Making → ℕ → Option Source → ℕ → List LeftOut → Made
made_with s used cut records left = record {
  trace = in_trees s.forest.trees s.forest.lines;
  left_out = left;
  warnings = s.warnings;
  counts = counts_of s used records;
  cut = cut;
}

abbrev pub made_of : TakenAll → Log → Made
made_of all log = made_with all.maker all.count all.cut (records_before all.cut log.records) (left_until all.cut log.left_out)

-- the trace of a log, and what is told of its making
unfoldable pub trace_made : Log → Made
trace_made log = made_of (taken_all (none_taken (all_seen nothing_made log.used)) log.used) log

-- The report

-- a text, and a number or a domain after one
unfoldable pub plain : Text → Text
plain text = text

unfoldable pub numbered : Text → ℕ → Text
numbered text n = text ++ decimal n

unfoldable pub placed : Text → DomainName → Text
placed text domain = text ++ domain

abbrev pub source_text : Source → Text
source_text source = numbered (codes "record ") source.number ++ numbered (codes " line ") source.line

abbrev pub left_text : LeftOut → Text
left_text left = source_text left.source ++ plain (codes ": left out: ") ++ reason_text left.reason ++ plain (codes "\n")

-- What each warning says

unfoldable pub tree_said : ℕ → DomainName → Text
tree_said pid domain = numbered (codes "tree ") pid ++ placed (codes " starts in ") domain ++ plain (codes ": domain_policy must have it")

unfoldable pub manual_said : ℕ → DomainName → Text
manual_said pid domain = numbered (codes "process ") pid ++ placed (codes " goes to ") domain ++ plain (codes " by a manual transition")

unfoldable pub thread_said : ℕ → ℕ → ℕ → Text
thread_said global pid key = numbered (codes "thread ") global ++ numbered (codes " of pid ") pid ++ numbered (codes " is process ") key

unfoldable pub handed_said : ℕ → ℕ → Text
handed_said pid ppid = numbered (codes "process ") pid ++ numbered (codes " was handed to ") ppid

unfoldable pub again_said : ℕ → ℕ → Text
again_said key next = numbered (codes "pid ") key ++ numbered (codes " is used again by process ") next

unfoldable pub goes_on_said : ℕ → DomainName → ℕ → Text
goes_on_said pid domain next = numbered (codes "process ") pid ++ placed (codes " is in ") domain ++ numbered (codes " and goes on as ") next

-- a kernel logs an execute as denied before it asks a supervisor
unfoldable pub cause_said : Bool → Text
cause_said refused =
    if refused then plain (codes ": its last execute was denied, or allowed by a supervisor (see mark_log)") else plain (codes ": no execute to it is recorded")

unfoldable pub move_said : ℕ → DomainName → ℕ → Bool → Text
move_said pid domain next refused = goes_on_said pid domain next ++ cause_said refused

unfoldable pub parent_said : ℕ → DomainName → Text
parent_said pid domain = numbered (codes "process ") pid ++ placed (codes " has no record yet and is made in ") domain

unfoldable pub start_said : ℕ → DomainName → Text
start_said pid domain = numbered (codes "process ") pid ++ placed (codes " starts in ") domain ++ plain (codes ": no execute to it is recorded")

unfoldable pub arguments_said : Text
arguments_said = plain (codes "the kernel cut the arguments")

unfoldable pub warning_text : Warning → Text
warning_text (Warning.Tree pid domain) = tree_said pid domain
warning_text (Warning.Manual pid domain) = manual_said pid domain
warning_text (Warning.Thread global pid key) = thread_said global pid key
warning_text (Warning.Handed pid ppid) = handed_said pid ppid
warning_text (Warning.Again key next) = again_said key next
warning_text (Warning.Move pid domain next refused) = move_said pid domain next refused
warning_text (Warning.Parent ppid domain) = parent_said ppid domain
warning_text (Warning.Start pid domain) = start_said pid domain
warning_text Warning.Arguments = arguments_said

abbrev pub note_text : Note → Text
note_text note = source_text note.source ++ plain (codes ": warning: ") ++ warning_text note.warning ++ plain (codes "\n")

-- the warnings up to a record, and those after it
abbrev pub notes_until : ℕ → List Note → Text × List Note
notes_until number [] = ([], [])
notes_until number (note ∷ notes) =
    if nat_lt number note.source.number then ([], note ∷ notes) else (note_text note ++ (notes_until number notes).0, (notes_until number notes).1)

-- lines by the numbers of their records
abbrev pub lines_text : List Note → List LeftOut → Text
lines_text notes [] = flat_map note_text notes
lines_text notes (left ∷ more) =
    (notes_until left.source.number notes).0 ++ left_text left ++ lines_text (notes_until left.source.number notes).1 more

abbrev pub cut_text : Option Source → Text
cut_text None = []
cut_text (Some source) = source_text source ++ plain (codes ": the trace is full: the log is cut here\n")

abbrev pub counts_text : Counts → ℕ → ℕ → Text
counts_text counts left warnings =
    numbered (codes "records ") counts.records ++ numbered (codes " used ") counts.used ++ numbered (codes " left out ") left
    ++ numbered (codes " trees ") counts.trees ++ numbered (codes " processes ") counts.processes ++ numbered (codes " warnings ") warnings ++ plain (codes "\n")

unfoldable pub report_text : Made → Text
report_text made =
    lines_text made.warnings made.left_out ++ cut_text made.cut ++ counts_text made.counts (length made.left_out) (length made.warnings)
