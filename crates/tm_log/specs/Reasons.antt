-- Why a record is left out.
use Rattle.std.specs.Prelude.{codes, Option, Some, None, Result, Ok, Err}
use Rattle.tm_word.specs.Prelude.{Text}
use Rattle.tm_rules.specs.Types.{LineFault, LineKind}
use Rattle.tm_log.specs.declared.faults.Reason.{Reason}
use Rattle.tm_log.specs.declared.faults.RecordFault.{RecordFault}

-- the reason of a fault; want of memory has none
abbrev pub record_cause : RecordFault → Option Reason
record_cause RecordFault.NoMemory = None
record_cause (RecordFault.Reason reason) = Some reason

-- a fault of a line as one of a record
abbrev pub with_reason : Reason → LineFault → RecordFault
with_reason reason (LineFault.Kind kind) = RecordFault.Reason reason
with_reason reason LineFault.NoMemory = RecordFault.NoMemory

-- what reading a line returned, where each fault of it is this reason
abbrev pub as_reason : {X : Type 0} → Reason → Result X LineFault → Result X RecordFault
as_reason reason (Ok x) = Ok x
as_reason reason (Err fault) = Err (with_reason reason fault)

-- what reading a line gives, where each fault of it is this reason
abbrev pub for_reason : {X : Type 0} → Reason → Result X LineKind → Result X Reason
for_reason reason (Ok x) = Ok x
for_reason reason (Err kind) = Err reason

-- its name in a report
abbrev pub reason_text : Reason → Text
reason_text Reason.Cut = codes "cut"
reason_text Reason.Long = codes "long"
reason_text Reason.Header = codes "header"
reason_text Reason.Domain = codes "domain"
reason_text Reason.Flag = codes "flag"
reason_text Reason.Request = codes "request"
reason_text Reason.Arguments = codes "arguments"
