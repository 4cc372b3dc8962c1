-- Reading a line of a trace, word by word, up to the first word at which it can't go on: the kind
-- of fault that stands there is the line's.
use Rattle.std.specs.Prelude.{ℕ, Option, Some, None, Result, Ok, Err}
use Rattle.tm_rules.specs.Types.{LineKind, TraceFault, TraceKind}

-- the line and the kind of a fault; want of memory has none
abbrev pub trace_cause : TraceFault → Option (ℕ × TraceKind)
trace_cause TraceFault.NoMemory = None
trace_cause (TraceFault.Line line kind) = Some (line, kind)

-- a missing word is one in a trace too, and every other fault is of this kind
abbrev pub fault_of : TraceKind → LineKind → TraceKind
fault_of kind LineKind.Arity = TraceKind.Arity
fault_of kind _ = kind

-- a step of lines as a step of a trace
abbrev pub in_trace : {A : Type 0} → TraceKind → Result A LineKind → Result A TraceKind
in_trace kind (Ok x) = Ok x
in_trace kind (Err fault) = Err (fault_of kind fault)
