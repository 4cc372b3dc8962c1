-- The exit statuses of the program, and what it prints of each.
use Rattle.std.specs.Prelude.{ℕ, List, ◌++◌, codes, decimal}
use Rattle.tm_types.specs.Texts.{policy_text, trace_text, script_text, edit_text}
use Rattle.tm_io.specs.Names.{file_text}
use Rattle.tm_call.specs.declared.status.What.{What}
use Rattle.tm_call.specs.declared.status.OutName.{OutName}
use Rattle.tm_call.specs.declared.status.Status.{Status}

-- each status has its exit status
abbrev pub exit_code : Status → ℕ
exit_code Status.Done = 0
exit_code (Status.BadWords place) = 1
exit_code (Status.ReadFault name) = 2
exit_code (Status.Absent name) = 3
exit_code (Status.TooLong name) = 4
exit_code (Status.BadPolicy file line reply) = 5
exit_code (Status.UndefinedProfile domain) = 6
exit_code (Status.BadTrace line kind) = 7
exit_code (Status.BadScript name line kind) = 8
exit_code (Status.TooMany what) = 9
exit_code (Status.WriteFault name) = 10
exit_code Status.OutOfMemory = 11
exit_code (Status.BadRun line) = 13
exit_code (Status.BadRules line kind) = 14
exit_code (Status.BadAudit line) = 15

-- what there is too much of
abbrev pub what_text : What → List ℕ
what_text What.Records = codes "records"
what_text What.Trees = codes "trees"
what_text What.Edits = codes "edits"
what_text What.Editors = codes "editors"
what_text What.Turns = codes "turns"
what_text What.Rules = codes "rules"

-- where a write failed
abbrev pub out_text : OutName → List ℕ
out_text (OutName.File name) = file_text name
out_text OutName.StandardOutput = codes "standard output"

-- a line of a file, and what is said of it
abbrev pub line_text : List ℕ → ℕ → List ℕ → List ℕ
line_text file line said = file ++ codes " line " ++ decimal line ++ codes ": " ++ said

-- what the program prints of a status
abbrev pub status_text : Status → List ℕ
status_text Status.Done = codes "done"
status_text (Status.BadWords place) = codes "bad words at " ++ decimal place
status_text (Status.ReadFault name) = codes "can't read " ++ file_text name
status_text (Status.Absent name) = file_text name ++ codes " is missing"
status_text (Status.TooLong name) = file_text name ++ codes " is too long"
status_text (Status.BadPolicy file line reply) = line_text (policy_text file) line (edit_text reply)
status_text (Status.UndefinedProfile domain) = codes "domain " ++ decimal domain ++ codes " has no profile"
status_text (Status.BadTrace line kind) = line_text (codes "trace") line (trace_text kind)
status_text (Status.BadScript name line kind) = line_text (file_text name) line (script_text kind)
status_text (Status.TooMany what) = codes "too many " ++ what_text what
status_text (Status.WriteFault name) = codes "can't write " ++ out_text name
status_text Status.OutOfMemory = codes "out of memory"
status_text (Status.BadRun line) = line_text (codes "run") line (codes "bad run")
status_text (Status.BadRules line kind) = line_text (codes "sorter") line (script_text kind)
status_text (Status.BadAudit line) = line_text (codes "audit") line (codes "bad audit")
