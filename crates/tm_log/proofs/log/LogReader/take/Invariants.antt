use Rattle.std.proofs.Common.{◌≡◌, drop}
use Rattle.tm_log.specs.Logs.{fed}
use Rattle.tm_log.proofs.log.LogReader.take.Given as goal

-- from here on it gives what the whole gives
abbrev pub invariant-loop-byte : goal.invariant-loop-byte
invariant-loop-byte l = fed l.reader (drop l.byte-index l.bytes) ≡ fed l.initial.reader l.bytes
