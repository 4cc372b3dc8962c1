-- Worked lines and requests of the grammar.
use Rattle.std.proofs.Common.{◌≡◌, ℕ, true, false, [], ◌∷◌, None, Some, Ok, refl}
use Rattle.std.specs.Prelude.{codes}
use Rattle.std.specs.Fmt.{digits}
use Rattle.tm_word.specs.Prelude.{Word, literal, literal_word, spelled_pattern, words_of}
use Rattle.tm_rules.specs.Types.{Args, Attributes, DomainRule, Entry, FileKind, NameUnion, PolicyLine, Request, function_of}
use Rattle.tm_types.specs.Numbers.{value_of, number_of, plain_of}
use Rattle.tm_policy_line.specs.Grammar.{is_right}
use Rattle.tm_policy_line.specs.Tokens.{token_at}
use Rattle.tm_policy_line.specs.PatternReading.{step, ended, parsed, pattern_of}
use Rattle.tm_rules.specs.Prelude.{is_quiet, is_request, learned_line}
use Rattle.tm_policy_line.specs.Names.{is_path, domain_of}
use Rattle.tm_policy_line.specs.Arguments.{pattern_word, plain_word, name_word, name_at}
use Rattle.tm_policy_line.specs.Namespaces.{namespace_of, namespace_at}
use Rattle.tm_policy_line.specs.Permissions.{perms_of, perm_on}
use Rattle.tm_policy_line.specs.LinePrinting.{name_spelling}
use Rattle.tm_policy_line.specs.LineWritten.{is_name}
use Rattle.tm_policy_line.specs.FileLines.{row_of, args_at, row_line, perms_line, file_line, file_words, is_file}
use Rattle.tm_policy_line.specs.Preferences.{prefer_at, path_at}
use Rattle.tm_policy_line.specs.NetLines.{is_net}
use Rattle.tm_policy_line.specs.Attributes.{attr_text}
use Rattle.tm_policy_line.specs.CondReading.{cond_from, cond_of, right_text, clause_text, cond_words}
use Rattle.tm_policy_line.specs.CondWritten.{is_attr, is_side, is_clause, is_cond}
use Rattle.tm_policy_line.specs.Entries.{acl_line, entry_of, acl_words, entry_words, is_entry}
use Rattle.tm_policy_line.specs.ExceptReading.{acl_group, head_of, rule_at, named_line}
use Rattle.tm_policy_line.specs.ExceptReading.{line_of as except_of}
use Rattle.tm_policy_line.specs.Reading.{setting_rule, domain_rule, read_words, read_line}
use Rattle.tm_trace.specs.Printing.{attribute_words, request_words}
use Rattle.tm_grammar.specs.Tomoyo.{tomoyo_grammar}

-- the definitions that reading, printing and judging go through
unfoldable pub computed : Unit {0}
unfolding digits words_of literal literal_word spelled_pattern function_of value_of number_of is_right token_at step ended parsed pattern_of is_path domain_of is_quiet learned_line is_request pattern_word plain_word plain_of name_word name_at namespace_of namespace_at perms_of perm_on name_spelling is_name row_of args_at row_line perms_line file_line file_words is_file prefer_at path_at is_net attr_text cond_from cond_of right_text clause_text cond_words is_attr is_side is_clause is_cond acl_line entry_of acl_words entry_words is_entry acl_group head_of rule_at named_line except_of setting_rule domain_rule read_words read_line attribute_words request_words
computed = tt

abbrev named : Word → NameUnion
named word = NameUnion.One (literal word)

-- `file read /a` and `file execute /a`
abbrev entry : ℕ → Entry
entry bits = record { args = Args.Path (named (codes "/a")); perms = record { bits = bits }; cond = record { clauses = []; grant_log = None } }

-- Lines

reads : tomoyo_grammar.read_line FileKind.Domain (codes "file read /a") ≡ Ok (PolicyLine.Domain (DomainRule.Acl false (entry 2)))
unfolding computed
reads = refl

reads_is_quiet : is_quiet FileKind.Domain (codes "file read /a") ≡ true
unfolding computed
reads_is_quiet = refl

executes : tomoyo_grammar.read_line FileKind.Domain (codes "file execute /a") ≡ Ok (PolicyLine.Domain (DomainRule.Acl false (entry 1)))
unfolding computed
executes = refl

executes_is_loud : is_quiet FileKind.Domain (codes "file execute /a") ≡ false
unfolding computed
executes_is_loud = refl

group_reads :
    tomoyo_grammar.read_line FileKind.Exception (codes "</s> acl_group 3 file read /a") ≡ Ok (PolicyLine.Group (record { delete = false; namespace = codes "</s>"; group = 3; entry = entry 2 }))
unfolding computed
group_reads = refl

group_is_quiet : is_quiet FileKind.Exception (codes "</s> acl_group 3 file read /a") ≡ true
unfolding computed
group_is_quiet = refl

prints : tomoyo_grammar.print_entry (entry 3) ≡ codes "file execute/read /a"
unfolding computed
prints = refl

-- Requests

abbrev none : Attributes
none = record { real_path = None; argv = []; envp = []; target = None; stats = [] }

-- `/bin/sh`, whose argument 0 is this word
abbrev execute : Word → Request
execute word = record { args = Args.Path (named (codes "/bin/sh")); perm = 0; attributes = record none { real_path = Some (codes "/bin/dash"); argv = word ∷ codes "-c" ∷ [] } }

request_is_printed : tomoyo_grammar.print_request (execute (codes "sh")) ≡ codes "file execute /bin/sh"
unfolding computed
request_is_printed = refl

attributes_are_printed : tomoyo_grammar.print_attributes (execute (codes "sh")) ≡ codes " exec.realpath=\"/bin/dash\" exec.argv=\"sh\" exec.argv=\"-c\""
unfolding computed
attributes_are_printed = refl

learned_is_printed : tomoyo_grammar.print_entry (learned_line (execute (codes "sh")) (codes "/bin/sh")) ≡ codes "file execute /bin/sh exec.realpath=\"/bin/dash\" exec.argv[0]=\"sh\""
unfolding computed
learned_is_printed = refl

request_can_be_asked : is_request tomoyo_grammar.is_path (execute (codes "sh")) ≡ true
unfolding computed
request_can_be_asked = refl

learned_can_be_written : tomoyo_grammar.can_write (learned_line (execute (codes "sh")) (codes "/bin/sh")) ≡ true
unfolding computed
learned_can_be_written = refl

-- a word of what is no byte can't
wide_is_no_request : is_request tomoyo_grammar.is_path (execute (300 ∷ [])) ≡ false
unfolding computed
wide_is_no_request = refl

wide_cannot_be_written : tomoyo_grammar.can_write (learned_line (execute (300 ∷ [])) (codes "/bin/sh")) ≡ false
unfolding computed
wide_cannot_be_written = refl
