-- Why no text is given of a log's trace.
use Rattle.std.specs.Prelude.{⊤}
use Rattle.std.specs.Result.{IsErr}
use Rattle.tm_word.specs.Prelude.{Text}
use Rattle.tm_trace.specs.Reading.{trace_of}
use Rattle.tm_log_trace.specs.declared.text.TextFault.{TextFault}

-- the text isn't one of a trace; want of memory is free
abbrev pub FaultCause : Text → TextFault → Type 0
FaultCause text TextFault.Unreadable = IsErr (trace_of text)
FaultCause text TextFault.NoMemory = ⊤
