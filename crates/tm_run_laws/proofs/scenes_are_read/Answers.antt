use Rattle.tm_script.proofs.ReadLaws.{editors_right}
use Rattle.tm_trace.proofs.TraceRead.{trace_read}
use Rattle.tm_run_laws.proofs.scenes_are_read.Goals as goal

pub returns : goal.returns
returns c = λ scene trace edits grammar can read_trace read_edits. record { grammar = grammar; can_play = can; trace = trace_read trace scene.trace read_trace; editors = editors_right edits scene.editors read_edits }
