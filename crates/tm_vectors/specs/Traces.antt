-- What is said of a recorded trace: whether it is read, and printed as it was.
use Rattle.std.specs.Prelude.{ℕ, if◌then◌else◌, ◌++◌, codes, decimal, Result, Ok, Err}
use Rattle.tm_word.specs.Prelude.{Text, texts_equal}
use Rattle.tm_rules.specs.Prelude.{Trace}
use Rattle.tm_rules.specs.Types.{TraceKind}
use Rattle.tm_types.specs.Texts.{trace_text as kind_text}
use Rattle.tm_trace.specs.Reading.{trace_of}
use Rattle.tm_trace.specs.Printing.{trace_text}
use Rattle.tm_vectors.specs.declared.traces.TraceRead.{TraceRead}

-- a trace that was read is printed again; one that is refused has its first faulty line
abbrev pub reading_of : Text → Result Trace (ℕ × TraceKind) → TraceRead
reading_of text (Ok trace) = if texts_equal (trace_text trace) text then TraceRead.Same else TraceRead.Other
reading_of text (Err fault) = TraceRead.Refused fault.0 fault.1

abbrev pub read_again : Text → TraceRead
read_again text = reading_of text (trace_of text)

-- a text and a number
abbrev pub numbered : Text → ℕ → Text
numbered text number = text ++ decimal number

-- what is said at the end of a line
abbrev pub line_end : Text → Text
line_end text = codes ": " ++ (text ++ codes "\n")

-- the line at which a trace is refused, and the kind of its fault
abbrev pub refusal_text : ℕ → TraceKind → Text
refusal_text line kind = numbered (codes ": refused at line ") line ++ line_end (kind_text kind)

-- in words
abbrev pub reading_text : TraceRead → Text
reading_text TraceRead.Same = codes ": read, and printed as it is\n"
reading_text TraceRead.Other = codes ": read, and printed otherwise\n"
reading_text (TraceRead.Refused line kind) = refusal_text line kind

-- what is said of the trace of a name
unfoldable pub trace_said : Text → Text → Text
trace_said name text = name ++ reading_text (read_again text)
