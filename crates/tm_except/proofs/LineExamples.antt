-- Worked examples: what each form of an exception line gives, and the kind of each wrong one.
use Rattle.std.proofs.Common.{◌≡◌, true, false, [], ◌∷◌, Some, None, Ok, Err, refl}
use Rattle.std.specs.Prelude.{codes}
use Rattle.tm_word.specs.Prelude.{spelled_word, word_of, words_of}
use Rattle.tm_word.specs.Spelling.{head_of as byte_head}
use Rattle.tm_rules.specs.Types.{Addr, Base, ControlKind, ExceptRule, LineKind}
use Rattle.tm_number.specs.Numbers.{number_of, value_of, plain_of}
use Rattle.tm_number.specs.Numbers.{range_of as number_range_of}
use Rattle.tm_line.specs.AddrReading.{quad_of, v4_of, group_of, last_of, groups_after, side_of, v6_of, addr_of, range_of}
use Rattle.tm_pattern.specs.Tokens.{token_at}
use Rattle.tm_pattern.specs.Reading.{step, ended, parsed, pattern_of}
use Rattle.tm_line.specs.Names.{is_path, domain_of}
use Rattle.tm_rules.specs.Prelude.{kernel}
use Rattle.tm_line.specs.Arguments.{group_word, pattern_word, path_word, range_word, addr_range_word, plain_word}
use Rattle.tm_line.specs.Domains.{domain_words, domain_to_end}
use Rattle.tm_line.specs.Namespaces.{namespace_of, namespace_at}
use Rattle.tm_except.specs.Reading.{member_word, first_word, literal_word, path_group, number_group, address_group, aggregator, acl_group, program_word, domain_side, from_side, program_line, keep_line, control_word, head_of, begins_list, begins_control, begins_rule, rule_at, line, named_line, line_of}

-- the definitions that a line's reading goes through
unfoldable computed : Unit {0}
unfolding words_of number_of value_of number_range_of plain_of quad_of v4_of group_of last_of groups_after side_of v6_of addr_of range_of token_at step ended parsed pattern_of spelled_word word_of byte_head is_path domain_of group_word pattern_word path_word range_word addr_range_word plain_word domain_words domain_to_end namespace_of namespace_at member_word first_word literal_word path_group number_group address_group aggregator acl_group program_word domain_side from_side program_line keep_line control_word head_of begins_list begins_control begins_rule rule_at named_line line_of
computed = tt

pub control_any : line_of (words_of (codes "initialize_domain any from any")) ≡ Ok (line false kernel (ExceptRule.Control (record { kind = ControlKind.Initialize; program = None; domain = None; last = false })))
unfolding computed
control_any = refl

pub control_program_alone : line_of (words_of (codes "initialize_domain /a")) ≡ Ok (line false kernel (ExceptRule.Control (record { kind = ControlKind.Initialize; program = Some (codes "/a"); domain = None; last = false })))
unfolding computed
control_program_alone = refl

pub control_path : line_of (words_of (codes "no_reset_domain any from /b")) ≡ Ok (line false kernel (ExceptRule.Control (record { kind = ControlKind.NoReset; program = None; domain = Some (codes "/b"); last = true })))
unfolding computed
control_path = refl

pub control_name : line_of (words_of (codes "</s> reset_domain /a from <kernel> /b")) ≡ Ok (line false (codes "</s>") (ExceptRule.Control (record { kind = ControlKind.Reset; program = Some (codes "/a"); domain = Some (codes "<kernel> /b"); last = false })))
unfolding computed
control_name = refl

pub keep_name_alone : line_of (words_of (codes "keep_domain <kernel> /b")) ≡ Ok (line false kernel (ExceptRule.Control (record { kind = ControlKind.Keep; program = None; domain = Some (codes "<kernel> /b"); last = false })))
unfolding computed
keep_name_alone = refl

pub keep_path_alone : line_of (words_of (codes "keep_domain /bin/ls")) ≡ Ok (line false kernel (ExceptRule.Control (record { kind = ControlKind.Keep; program = None; domain = Some (codes "/bin/ls"); last = true })))
unfolding computed
keep_path_alone = refl

pub keep_any_alone : line_of (words_of (codes "no_keep_domain any")) ≡ Ok (line false kernel (ExceptRule.Control (record { kind = ControlKind.NoKeep; program = None; domain = None; last = false })))
unfolding computed
keep_any_alone = refl

pub keep_both : line_of (words_of (codes "delete keep_domain /a from any")) ≡ Ok (line true kernel (ExceptRule.Control (record { kind = ControlKind.Keep; program = Some (codes "/a"); domain = None; last = false })))
unfolding computed
keep_both = refl

pub acl_line : line_of (words_of (codes "acl_group 255 file read")) ≡ Ok (line false kernel (ExceptRule.Acl 255 (codes "file" ∷ codes "read" ∷ [])))
unfolding computed
acl_line = refl

pub number_member : line_of (words_of (codes "number_group @@odd 0x5-0X5")) ≡ Ok (line false kernel (ExceptRule.NumberGroup (codes "@@odd") (record { low = record { value = 5; base = Base.Hex }; high = record { value = 5; base = Base.Hex } })))
unfolding computed
number_member = refl

pub address_member : line_of (words_of (codes "delete <kernel> address_group A ::1")) ≡ Ok (line true kernel (ExceptRule.AddressGroup (codes "A") (record { low = Addr.V6 1; high = Addr.V6 1 })))
unfolding computed
address_member = refl

pub no_word : line_of (words_of (codes "")) ≡ Err LineKind.Arity
unfolding computed
no_word = refl

pub namespace_alone : line_of (words_of (codes "<kernel>")) ≡ Err LineKind.Arity
unfolding computed
namespace_alone = refl

pub namespace_unfinished : line_of (words_of (codes "<kern")) ≡ Err LineKind.Domain
unfolding computed
namespace_unfinished = refl

pub namespace_wrong : line_of (words_of (codes "<a> path_group A /a")) ≡ Err LineKind.Domain
unfolding computed
namespace_wrong = refl

pub delete_alone : line_of (words_of (codes "delete")) ≡ Err LineKind.Arity
unfolding computed
delete_alone = refl

pub delete_unfinished : line_of (words_of (codes "del")) ≡ Err LineKind.Arity
unfolding computed
delete_unfinished = refl

pub delete_and_more : line_of (words_of (codes "del path_group A /a")) ≡ Err LineKind.Keyword
unfolding computed
delete_and_more = refl

pub delete_twice : line_of (words_of (codes "delete delete")) ≡ Err LineKind.Keyword
unfolding computed
delete_twice = refl

pub delete_again_unfinished : line_of (words_of (codes "delete del")) ≡ Err LineKind.Keyword
unfolding computed
delete_again_unfinished = refl

pub delete_after_namespace : line_of (words_of (codes "<kernel> delete path_group A /a")) ≡ Err LineKind.Keyword
unfolding computed
delete_after_namespace = refl

pub delete_unfinished_after_namespace : line_of (words_of (codes "<kernel> del")) ≡ Err LineKind.Keyword
unfolding computed
delete_unfinished_after_namespace = refl

pub delete_namespace_wrong : line_of (words_of (codes "delete <kern")) ≡ Err LineKind.Domain
unfolding computed
delete_namespace_wrong = refl

pub head_unfinished : line_of (words_of (codes "path_gr")) ≡ Err LineKind.Arity
unfolding computed
head_unfinished = refl

pub control_unfinished : line_of (words_of (codes "<kernel> no_")) ≡ Err LineKind.Arity
unfolding computed
control_unfinished = refl

pub head_wrong : line_of (words_of (codes "path_groups")) ≡ Err LineKind.Keyword
unfolding computed
head_wrong = refl

pub head_unfinished_and_more : line_of (words_of (codes "path_gr A")) ≡ Err LineKind.Keyword
unfolding computed
head_unfinished_and_more = refl

pub acl_unfinished : line_of (words_of (codes "acl")) ≡ Err LineKind.Arity
unfolding computed
acl_unfinished = refl

pub group_missing : line_of (words_of (codes "path_group")) ≡ Err LineKind.Arity
unfolding computed
group_missing = refl

pub member_missing : line_of (words_of (codes "path_group A")) ≡ Err LineKind.Arity
unfolding computed
member_missing = refl

pub member_extra : line_of (words_of (codes "path_group A /a /b")) ≡ Err LineKind.Arity
unfolding computed
member_extra = refl

pub group_wrong : line_of (words_of (codes "path_group \\q /a")) ≡ Err LineKind.Name
unfolding computed
group_wrong = refl

pub member_group : line_of (words_of (codes "path_group A @B")) ≡ Err LineKind.Name
unfolding computed
member_group = refl

pub member_wrong : line_of (words_of (codes "path_group A /\\q")) ≡ Err LineKind.Name
unfolding computed
member_wrong = refl

pub range_wrong : line_of (words_of (codes "number_group N 08")) ≡ Err LineKind.Number
unfolding computed
range_wrong = refl

pub range_backwards : line_of (words_of (codes "number_group N 10-2")) ≡ Err LineKind.Number
unfolding computed
range_backwards = refl

pub range_group : line_of (words_of (codes "number_group N @A")) ≡ Err LineKind.Number
unfolding computed
range_group = refl

pub number_name_wrong : line_of (words_of (codes "number_group \\q 1")) ≡ Err LineKind.Name
unfolding computed
number_name_wrong = refl

pub address_wrong : line_of (words_of (codes "address_group A 1.2.3")) ≡ Err LineKind.Address
unfolding computed
address_wrong = refl

pub addresses_mixed : line_of (words_of (codes "address_group A 10.0.0.1-::1")) ≡ Err LineKind.Address
unfolding computed
addresses_mixed = refl

pub address_extra : line_of (words_of (codes "address_group A ::1 ::2")) ≡ Err LineKind.Arity
unfolding computed
address_extra = refl

pub first_wrong : line_of (words_of (codes "aggregator /\\q /z")) ≡ Err LineKind.Name
unfolding computed
first_wrong = refl

pub second_pattern : line_of (words_of (codes "aggregator /a /z\\*")) ≡ Err LineKind.Name
unfolding computed
second_pattern = refl

pub second_no_path : line_of (words_of (codes "aggregator /a z")) ≡ Err LineKind.Name
unfolding computed
second_no_path = refl

pub second_missing : line_of (words_of (codes "aggregator /a")) ≡ Err LineKind.Arity
unfolding computed
second_missing = refl

pub group_number_missing : line_of (words_of (codes "acl_group")) ≡ Err LineKind.Arity
unfolding computed
group_number_missing = refl

pub group_number_alone : line_of (words_of (codes "acl_group 0")) ≡ Err LineKind.Arity
unfolding computed
group_number_alone = refl

pub group_number_big : line_of (words_of (codes "acl_group 256 file read /a")) ≡ Err LineKind.Number
unfolding computed
group_number_big = refl

pub group_number_zero : line_of (words_of (codes "acl_group 01 file read /a")) ≡ Err LineKind.Number
unfolding computed
group_number_zero = refl

pub program_missing : line_of (words_of (codes "initialize_domain")) ≡ Err LineKind.Arity
unfolding computed
program_missing = refl

pub program_unfinished : line_of (words_of (codes "initialize_domain an")) ≡ Err LineKind.Arity
unfolding computed
program_unfinished = refl

pub program_unfinished_and_more : line_of (words_of (codes "initialize_domain an from any")) ≡ Err LineKind.Name
unfolding computed
program_unfinished_and_more = refl

pub program_wrong : line_of (words_of (codes "initialize_domain a\\*")) ≡ Err LineKind.Name
unfolding computed
program_wrong = refl

pub program_name : line_of (words_of (codes "initialize_domain <kernel>")) ≡ Err LineKind.Name
unfolding computed
program_name = refl

pub no_from : line_of (words_of (codes "initialize_domain /a x")) ≡ Err LineKind.Arity
unfolding computed
no_from = refl

pub keep_no_from : line_of (words_of (codes "keep_domain any x")) ≡ Err LineKind.Arity
unfolding computed
keep_no_from = refl

pub from_unfinished : line_of (words_of (codes "initialize_domain /a fr")) ≡ Err LineKind.Arity
unfolding computed
from_unfinished = refl

pub domain_missing : line_of (words_of (codes "initialize_domain /a from")) ≡ Err LineKind.Arity
unfolding computed
domain_missing = refl

pub domain_unfinished : line_of (words_of (codes "initialize_domain /a from a")) ≡ Err LineKind.Arity
unfolding computed
domain_unfinished = refl

pub domain_wrong : line_of (words_of (codes "initialize_domain /a from d")) ≡ Err LineKind.Name
unfolding computed
domain_wrong = refl

pub domain_name_wrong : line_of (words_of (codes "initialize_domain /a from <kern")) ≡ Err LineKind.Domain
unfolding computed
domain_name_wrong = refl

pub domain_path_wrong : line_of (words_of (codes "keep_domain any from <kernel> x")) ≡ Err LineKind.Domain
unfolding computed
domain_path_wrong = refl

pub word_after_any : line_of (words_of (codes "initialize_domain /a from any x")) ≡ Err LineKind.Arity
unfolding computed
word_after_any = refl

pub word_after_path : line_of (words_of (codes "no_initialize_domain any from /d /e")) ≡ Err LineKind.Arity
unfolding computed
word_after_path = refl

pub keep_wrong : line_of (words_of (codes "keep_domain d")) ≡ Err LineKind.Name
unfolding computed
keep_wrong = refl

pub keep_name_wrong : line_of (words_of (codes "keep_domain <kern")) ≡ Err LineKind.Domain
unfolding computed
keep_name_wrong = refl

pub keep_unfinished : line_of (words_of (codes "keep_domain a")) ≡ Err LineKind.Arity
unfolding computed
keep_unfinished = refl

pub keep_name_from : line_of (words_of (codes "keep_domain <kernel> from any")) ≡ Err LineKind.Domain
unfolding computed
keep_name_from = refl

-- no word of a line is empty, and none may be where a pattern stands

pub member_empty : line_of (codes "path_group" ∷ codes "A" ∷ [] ∷ []) ≡ Err LineKind.Name
unfolding computed
member_empty = refl

pub first_empty : line_of (codes "aggregator" ∷ [] ∷ codes "/a" ∷ []) ≡ Err LineKind.Name
unfolding computed
first_empty = refl
