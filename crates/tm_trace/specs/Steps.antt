-- What the steps of the code give: the next of what was read, or a kind of fault.
use Rattle.std.specs.Prelude.{◌≡◌, ℕ, ◌||◌, List, [], ◌∷◌, Option, Some, None, Result, Ok, Err}
use Rattle.std.specs.Ordering.{nat_cmp}
use Rattle.std.specs.BTreeSet.{BTreeSet, contains}
use Rattle.tm_word.specs.Prelude.{Text, ◌>>=◌}
use Rattle.tm_rules.specs.Types.{Args, Item, LineFault, Request, TraceFault, TraceKind, Tree, no_attributes}
use Rattle.tm_trace.specs.declared.faults.StepFault.{StepFault}
use Rattle.tm_trace.specs.Lines.{fault_of, in_trace}
use Rattle.tm_trace.specs.Attributes.{request, attributes_from}
use Rattle.tm_trace.specs.Trees.{is_among, tree_pids, Trees, with_record}
use Rattle.tm_trace.specs.Reading.{process_at}

-- the kind of a fault; want of memory has none
abbrev pub step_cause : StepFault → Option TraceKind
step_cause StepFault.NoMemory = None
step_cause (StepFault.Kind kind) = Some kind

-- a fault of a line as one of a trace
abbrev pub step_fault : TraceKind → LineFault → StepFault
step_fault kind LineFault.NoMemory = StepFault.NoMemory
step_fault kind (LineFault.Kind fault) = StepFault.Kind (fault_of kind fault)

-- what a step of a line returned, as a step of a trace
abbrev pub as_step : {X : Type 0} → TraceKind → Result X LineFault → Result X StepFault
as_step kind (Ok x) = Ok x
as_step kind (Err fault) = Err (step_fault kind fault)

-- a fault stands in this line
abbrev pub line_fault : ℕ → StepFault → TraceFault
line_fault line StepFault.NoMemory = TraceFault.NoMemory
line_fault line (StepFault.Kind kind) = TraceFault.Line line kind

-- what a step returned in this line
abbrev pub in_line : {X : Type 0} → ℕ → Result X StepFault → Result X TraceFault
in_line line (Ok x) = Ok x
in_line line (Err fault) = Err (line_fault line fault)

-- a set holds these pids, and no others
abbrev pub Holds : BTreeSet ℕ → List ℕ → Type 0
Holds set pids = (pid : ℕ) → contains nat_cmp set pid ≡ is_among pids pid

-- a set with one pid more
unfoldable pub HasMore : BTreeSet ℕ → BTreeSet ℕ → ℕ → Type 0
HasMore set next pid =
    (q : ℕ) → contains nat_cmp next q ≡ (contains nat_cmp set q || is_among (pid ∷ []) q)

-- a set with this pid alone
unfoldable pub IsOnly : BTreeSet ℕ → ℕ → Type 0
IsOnly set pid = Holds set (pid ∷ [])

-- the processes of the last tree
abbrev pub last_pids : Option Tree → List ℕ
last_pids None = []
last_pids (Some tree) = tree_pids tree

-- a process of the last tree
abbrev pub process_in : Option Tree → List Text → Result (ℕ × List Text) TraceKind
process_in None words = Err TraceKind.NoTree
process_in (Some tree) words = process_at tree words

-- one record more of the last tree
abbrev pub recorded : Trees → Option Tree → Item → Result Trees TraceKind
recorded trees None item = Err TraceKind.NoTree
recorded trees (Some tree) item = Ok (with_record trees tree item)

-- a request with these arguments, and its attributes after it
abbrev pub with_attributes : Args → ℕ → List Text → Result Request TraceKind
with_attributes args perm words =
    in_trace TraceKind.Attribute (attributes_from args perm no_attributes words)
    >>= λ attributes. Ok (request args perm attributes)
