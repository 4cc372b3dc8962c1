-- What our crates answer to the question of a row, by the definitions of readers, printers,
-- patterns and controls.
use Rattle.std.specs.Prelude.{Bool, true, false, List, [], ◌∷◌, codes, Option, Some, None, is_some, option_map, option_and_then, unwrap_or}
use Rattle.std.specs.Result.{result_ok}
use Rattle.tm_word.specs.Prelude.{Text, joined, matches, pieces, spelled_word}
use Rattle.tm_pattern.specs.Reading.{pattern_of}
use Rattle.tm_rules.specs.Types.{Control, DomainRule, Entry, ExceptRule, FileKind, GroupLine, Namespace, PolicyLine}
use Rattle.tm_rules.specs.Prelude.{DomainName, control_kind, target_name}
use Rattle.tm_rules.specs.Transition.{By_control}
use Rattle.tm_domain.specs.Names.{domain_of}
use Rattle.tm_entry.specs.Entries.{entry_words}
use Rattle.tm_except.specs.Printing.{rule_words}
use Rattle.tm_policy_line.specs.Reading.{read_line}
use Rattle.tm_vectors.specs.declared.table.Table.{Table}

-- Lines of policy files

-- what a line of a policy file says; none where it is refused
abbrev pub said_by : FileKind → Text → Option PolicyLine
said_by file line = result_ok (read_line file line)

-- the entry that a line adds to a domain, if it does
abbrev pub added_entry : PolicyLine → Option Entry
added_entry (PolicyLine.Domain (DomainRule.Acl false entry)) = Some entry
added_entry _ = None

-- its printed text
abbrev pub added_text : PolicyLine → Option Text
added_text said = option_map (λ entry. joined (entry_words entry)) (added_entry said)

-- the printed text of the entry that a line of the domain policy adds; none where it is refused or
-- adds no entry
abbrev pub entry_text : Text → Option Text
entry_text line = option_and_then added_text (said_by FileKind.Domain line)

-- the line of an ACL group as a rule: its words are those of its printed entry
abbrev pub group_rule : GroupLine → ExceptRule
group_rule group = ExceptRule.Acl group.group (entry_words group.entry)

-- the rule that a line of the exception policy adds or removes
abbrev pub rule_said : PolicyLine → Option ExceptRule
rule_said (PolicyLine.Exception line) = Some line.rule
rule_said (PolicyLine.Group group) = Some (group_rule group)
rule_said _ = None

-- its printed text, without the namespace word
abbrev pub rule_text : PolicyLine → Option Text
rule_text said = option_map (λ rule. joined (rule_words rule)) (rule_said said)

-- the printed text of the rule of a line of the exception policy; none where the line is refused
abbrev pub exception_text : Text → Option Text
exception_text line = option_and_then rule_text (said_by FileKind.Exception line)

-- Where an execute leads

-- the control that a rule is, if it is one
abbrev pub control_of : ExceptRule → Option Control
control_of (ExceptRule.PathGroup name member) = None
control_of (ExceptRule.NumberGroup name member) = None
control_of (ExceptRule.AddressGroup name member) = None
control_of (ExceptRule.Aggregator one other) = None
control_of (ExceptRule.Control control) = Some control
control_of (ExceptRule.Acl group words) = None

-- the control that is said
abbrev pub said_control : PolicyLine → Option Control
said_control said = option_and_then control_of (rule_said said)

-- the control that a line of the exception policy adds; none where it adds no control
abbrev pub control_line : Text → Option Control
control_line line = option_and_then said_control (said_by FileKind.Exception line)

-- the controls that these lines add, in their order; none where one of the lines adds no control
abbrev pub controls_of : List Text → Option (List Control)
controls_of [] = Some []
controls_of (line ∷ lines) = option_and_then (λ control. option_map (λ others. control ∷ others) (controls_of lines)) (control_line line)

-- lines with `|` between them; an empty text has none
abbrev pub bar_lines : Text → List Text
bar_lines [] = []
bar_lines (b ∷ text) = pieces 124 (b ∷ text)

-- the namespace `<kernel>` with these controls alone
abbrev pub kernel_with : List Control → Namespace
kernel_with controls = record { name = codes "<kernel>"; profiles = []; groups = record { paths = []; numbers = []; addrs = [] }; aggregators = []; controls = controls; acl_groups = [] }

-- the domain to which an execute of a program leads under these controls; none where no domain can
-- have that name
abbrev pub domain_under : DomainName → Text → List Control → Option DomainName
domain_under domain program controls =
    result_ok (domain_of (unwrap_or (target_name domain program (By_control (control_kind (kernel_with controls) domain program))) domain))

-- the same under the controls that these lines add
abbrev pub domain_after : DomainName → Text → Text → Option DomainName
domain_after domain program lines = option_and_then (domain_under domain program) (controls_of (bar_lines lines))

-- Patterns

-- whether a text is a right pattern
abbrev pub is_right : Text → Bool
is_right text = is_some (result_ok (pattern_of text))

-- whether a pattern matches a name; none where one of the two isn't rightly spelled
abbrev pub is_matched : Text → Text → Option Bool
is_matched pattern_ name = option_and_then (λ components. option_map (matches components) (spelled_word name)) (result_ok (pattern_of pattern_))

-- Every table

abbrev pub decision : Bool → Text
decision true = codes "yes"
decision false = codes "no"

-- the answer to the fields of a question; none where it is refused, or is no question of that table
abbrev pub answer_to : Table → List Text → Option Text
answer_to Table.AclLines (line ∷ []) = entry_text line
answer_to Table.ExceptionLines (line ∷ []) = exception_text line
answer_to Table.Transitions (number ∷ domain ∷ program ∷ controls ∷ []) = domain_after domain program controls
answer_to Table.PatternVectors (pattern_ ∷ name ∷ []) = option_map decision (is_matched pattern_ name)
answer_to Table.PatternValidity (text ∷ []) = Some (decision (is_right text))
answer_to table question = None

-- the answer in words
unfoldable pub answer : Table → List Text → Text
answer table question = unwrap_or (answer_to table question) (codes "refused")
