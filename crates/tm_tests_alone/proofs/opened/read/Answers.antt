use Rattle.tm_io.specs.declared.names.FileName.{FileName}
use Rattle.tm_trace.proofs.TraceRead.{trace_read}
use Rattle.tm_call.specs.Fetches.{content}
use Rattle.tm_call_input.proofs.Readings.{scene-read, can-play}
use Rattle.tm_tests_alone.proofs.opened.read.Goals as goal

pub returns-in-Ok-clause-can : goal.returns-in-Ok-clause-can
returns-in-Ok-clause-can c = can-play c.args.texts c.in-Ok.loaded (scene-read c.args.texts c.in-Ok.loaded c.in-Ok.ensures.exact)

pub returns-in-Ok-clause-written : goal.returns-in-Ok-clause-written
returns-in-Ok-clause-written c =
    let read = scene-read c.args.texts c.in-Ok.loaded c.in-Ok.ensures.exact in
    trace_read (content c.args.texts FileName.Trace) c.in-Ok.loaded.trace read.trace
