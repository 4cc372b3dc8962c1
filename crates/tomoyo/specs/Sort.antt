-- What `sort` reads of the files, what is refused of them, and what it stores and puts.
use Rattle.std.specs.Prelude.{ℕ, nat_lt, List, length, map, Result, Ok, Err, if◌then◌else◌}
use Rattle.tm_word.specs.Prelude.{Text, ◌>>=◌}
use Rattle.tm_rules.specs.Types.{ScriptKind}
use Rattle.tm_io.specs.declared.names.FileName.{FileName}
use Rattle.tm_sort.specs.declared.record.Record.{Record}
use Rattle.tm_sort.specs.declared.rules.Rule.{Rule}
use Rattle.tm_sort.specs.declared.parts.Part.{Part}
use Rattle.tm_sort.specs.Records.{records_of}
use Rattle.tm_sort.specs.Rules.{rules_of}
use Rattle.tm_sort.specs.Parts.{parts_of, summary_text}
use Rattle.tm_call.specs.declared.status.Status.{Status}
use Rattle.tm_call.specs.declared.status.What.{What}
use Rattle.tm_call.specs.declared.carry.Outcome.{Outcome}
use Rattle.tm_call.specs.Fetches.{Texts, content}
use Rattle.tomoyo.specs.declared.sort.Sorting.{Sorting}

-- how faults of audit files and of rules end the call
abbrev pub of_audit : {A : Type 0} → Result A ℕ → Result A Status
of_audit (Ok x) = Ok x
of_audit (Err line) = Err (Status.BadAudit line)

abbrev pub of_rules : {A : Type 0} → Result A (ℕ × ScriptKind) → Result A Status
of_rules (Ok x) = Ok x
of_rules (Err fault) = Err (Status.BadRules fault.0 fault.1)

-- there are at most 256 rules
abbrev pub few_rules : List Rule → List Record → Result Sorting Status
few_rules rules records =
    if nat_lt 256 (length rules) then Err (Status.TooMany What.Rules)
    else Ok (record { rules = rules; records = records })

-- the records and then the rules; the first that is refused decides
unfoldable pub sort_reading : Texts → Result Sorting Status
sort_reading texts = do
  records ← of_audit (records_of (content texts FileName.Audit))
  rules ← of_rules (rules_of (content texts FileName.Sorter))
  few_rules rules records

-- a part is stored under its number
abbrev pub part_store : Part → FileName × Text
part_store part = (FileName.AuditPart part.number, part.text)

-- each part in a file, by rising number, and a line of counts for each
abbrev pub parts_outcome : ℕ → List Part → Outcome
parts_outcome records parts = record { stores = map part_store parts; line = summary_text records parts }

abbrev pub sort_outcome : Sorting → Outcome
sort_outcome sorting = parts_outcome (length sorting.records) (parts_of sorting.rules sorting.records)
