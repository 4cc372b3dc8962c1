-- Policy lines that are right next to wrong ones, and lines with several wrong words.
use Rattle.std.specs.Prelude.{◌≡◌, ℕ, false, List, [], ◌∷◌, map, Option, Some, None, Result, Ok, Err, codes, refl}
use Rattle.tm_word.specs.Prelude.{Pattern, Text, literal, spelled_word, word_of, words_of}
use Rattle.tm_word.specs.Spelling.{head_of as byte_head}
use Rattle.tm_number.specs.Numbers.{number_of, value_of, range_of, plain_of}
use Rattle.tm_addr.specs.Reading.{quad_of, v4_of, group_of, last_of, groups_after, side_of, v6_of, addr_of}
use Rattle.tm_addr.specs.Reading.{range_of as addr_range_of}
use Rattle.tm_pattern.specs.Tokens.{token_at}
use Rattle.tm_pattern.specs.Reading.{step, ended, parsed, pattern_of}
use Rattle.tm_domain.specs.Names.{is_path, domain_of}
use Rattle.tm_rules.specs.Types.{Args, Base, DomainRule, Element, ExceptRule, FileKind, LineKind, NameUnion, Number, PolicyLine, ProfileEffect, Repeat}
use Rattle.tm_rules.specs.Prelude.{kernel}
use Rattle.tm_line.specs.Permissions.{perms_of}
use Rattle.tm_line.specs.Arguments.{group_word, pattern_word, path_word, range_word, addr_range_word, name_word, number_word, address_word, plain_word, name_at, number_at, address_at}
use Rattle.tm_line.specs.Domains.{domain_words, domain_at, domain_to_end}
use Rattle.tm_line.specs.Namespaces.{namespace_of, namespace_at}
use Rattle.tm_file.specs.FileLines.{row_of, starts_any, args_at, mount_at, row_line, perms_line, file_line}
use Rattle.tm_file.specs.Preferences.{prefer_at, path_at}
use Rattle.tm_net.specs.NetLines.{perms_at, inet_line, unix_line, network_line, env_word, misc_line, task_line, net_line}
use Rattle.tm_cond.specs.Attributes.{without_last, id_word, field_word, parent_word, numeric_word, other_word, argv_word, envp_word, attr_word}
use Rattle.tm_cond.specs.Reading.{quoted_name, name_or_group, right_word, sides, clause_word, log_word, cond_from, cond_of}
use Rattle.tm_entry.specs.Entries.{acl_line, entry_of}
use Rattle.tm_except.specs.Reading.{member_word, first_word, literal_word, path_group, number_group, address_group, aggregator, acl_group, program_word, domain_side, from_side, program_line, keep_line, control_word, head_of, begins_list, begins_control, begins_rule, rule_at, line, named_line}
use Rattle.tm_except.specs.Reading.{line_of as except_of}
use Rattle.tm_profile.specs.Slots.{function_text, slot_text}
use Rattle.tm_profile.specs.Reading.{key_of, seen_after, closed, setting_after, limits_with, limits_after, slot_of, begins_some_slot, begins_effect, numbered, effect_at}
use Rattle.tm_profile.specs.Reading.{line as profile_line_of}
use Rattle.tm_profile.specs.Reading.{line_of as profile_of}
use Rattle.tm_policy_line.specs.Reading.{begins_setting, begins_domain, setting_rule, delete_domain, delete_rule, domain_rule, begins_manager, manager_rule, manager_of, read_words, read_line}

-- the definitions that a line's reading goes through
unfoldable pub read : Unit {0}
unfolding words_of literal number_of value_of range_of plain_of quad_of v4_of group_of last_of groups_after side_of v6_of addr_of addr_range_of token_at step ended parsed pattern_of spelled_word word_of byte_head head_of is_path domain_of perms_of group_word pattern_word path_word range_word addr_range_word name_word number_word address_word plain_word name_at number_at address_at domain_words domain_at domain_to_end namespace_of namespace_at row_of starts_any args_at mount_at row_line perms_line file_line prefer_at path_at perms_at inet_line unix_line network_line env_word misc_line task_line net_line without_last id_word field_word parent_word numeric_word other_word argv_word envp_word attr_word quoted_name name_or_group right_word sides clause_word log_word cond_from cond_of acl_line entry_of member_word literal_word first_word path_group number_group address_group aggregator acl_group program_word domain_side from_side program_line keep_line control_word begins_list begins_control begins_rule rule_at named_line except_of function_text slot_text key_of seen_after closed setting_after limits_with limits_after slot_of begins_some_slot begins_effect numbered effect_at profile_of begins_setting begins_domain setting_rule delete_domain delete_rule domain_rule begins_manager manager_rule manager_of read_words read_line
read = tt

-- the kind of a wrong line, none where it is right
abbrev pub kind : Result PolicyLine LineKind → Option LineKind
kind (Ok line) = None
kind (Err wrong) = Some wrong

abbrev kinds : FileKind → List Text → List (Option LineKind)
kinds file lines = map (λ text. kind (read_line file text)) lines

-- Namespace words and domain names

-- a path in angle brackets is a namespace word, also one with patterns, with brackets of its own,
-- or `/` alone
namespace_words : map (read_line FileKind.Domain) (codes "</\\*>" ∷ codes "</a>b>" ∷ codes "</>" ∷ []) ≡ map (λ name. Ok (PolicyLine.Domain (DomainRule.Choose name))) (codes "</\\*>" ∷ codes "</a>b>" ∷ codes "</>" ∷ [])
unfolding read
namespace_words = refl

-- what has no path between its brackets is none, in every file and also after `delete`
no_namespace_words : map (λ file. kinds file (codes "<>" ∷ codes "<a> x" ∷ codes "</\\q>" ∷ codes "</a" ∷ codes "delete <a> x" ∷ [])) (FileKind.Domain ∷ FileKind.Exception ∷ FileKind.Manager ∷ []) ≡ (Some LineKind.Domain ∷ Some LineKind.Domain ∷ Some LineKind.Domain ∷ Some LineKind.Domain ∷ Some LineKind.Domain ∷ []) ∷ (Some LineKind.Domain ∷ Some LineKind.Domain ∷ Some LineKind.Domain ∷ Some LineKind.Domain ∷ Some LineKind.Domain ∷ []) ∷ (Some LineKind.Domain ∷ Some LineKind.Domain ∷ Some LineKind.Domain ∷ Some LineKind.Domain ∷ Some LineKind.Domain ∷ []) ∷ []
unfolding read
no_namespace_words = refl

-- a profile line has no `delete`; its namespace word is judged as every other
no_namespace_of_profiles : kinds FileKind.Profile (codes "<>" ∷ codes "<a> 0-COMMENT=" ∷ codes "<kern" ∷ codes "delete <a> 0-COMMENT=" ∷ []) ≡ Some LineKind.Domain ∷ Some LineKind.Domain ∷ Some LineKind.Domain ∷ Some LineKind.Profile ∷ []
unfolding read
no_namespace_of_profiles = refl

-- Groups and aggregators

-- the name of a group may begin with `@`, and so may the first name of an aggregator, which is any
-- pattern
at_signs : map (read_line FileKind.Exception) (codes "path_group @@odd /a" ∷ codes "aggregator @a /b" ∷ codes "aggregator a /b" ∷ []) ≡ map (λ rule. Ok (PolicyLine.Exception (line false kernel rule))) (ExceptRule.PathGroup (codes "@@odd") (literal (codes "/a")) ∷ ExceptRule.Aggregator (literal (codes "@a")) (codes "/b") ∷ ExceptRule.Aggregator (literal (codes "a")) (codes "/b") ∷ [])
unfolding read
at_signs = refl

-- a member may not, and the second name of an aggregator is a literal path
no_at_signs : kinds FileKind.Exception (codes "path_group A @a" ∷ codes "aggregator /a @b" ∷ codes "aggregator /a b" ∷ codes "aggregator /a /\\*" ∷ codes "path_group \\q /a" ∷ []) ≡ Some LineKind.Name ∷ Some LineKind.Name ∷ Some LineKind.Name ∷ Some LineKind.Name ∷ Some LineKind.Name ∷ []
unfolding read
no_at_signs = refl

-- Numbers and addresses

-- leading zeros of octal and hexadecimal numbers are right and leave no trace; the base stays, also
-- in the two ends of a range
abbrev ends : Base → ℕ → Base → ℕ → ExceptRule
ends low_base low high_base high = ExceptRule.NumberGroup (codes "N") (record { low = record { value = low; base = low_base }; high = record { value = high; base = high_base } })

numbers : map (read_line FileKind.Exception) (codes "number_group N 00017" ∷ codes "number_group N 0x000F" ∷ codes "number_group N 00" ∷ codes "number_group N 0" ∷ codes "number_group N 5-05" ∷ codes "number_group N 0x5-0X5" ∷ []) ≡ map (λ rule. Ok (PolicyLine.Exception (line false kernel rule))) (ends Base.Octal 15 Base.Octal 15 ∷ ends Base.Hex 15 Base.Hex 15 ∷ ends Base.Octal 0 Base.Octal 0 ∷ ends Base.Decimal 0 Base.Decimal 0 ∷ ends Base.Decimal 5 Base.Octal 5 ∷ ends Base.Hex 5 Base.Hex 5 ∷ [])
unfolding read
numbers = refl

-- a number of 2^64 or more is as wrong as a word that is none
wrong_numbers : kinds FileKind.Exception (codes "number_group N 18446744073709551615" ∷ codes "number_group N 18446744073709551616" ∷ codes "number_group N 99999999999999999999999999" ∷ codes "number_group N x" ∷ codes "number_group N 08" ∷ codes "number_group N 0x" ∷ []) ≡ None ∷ Some LineKind.Number ∷ Some LineKind.Number ∷ Some LineKind.Number ∷ Some LineKind.Number ∷ Some LineKind.Number ∷ []
unfolding read
wrong_numbers = refl

-- a range of addresses with equal ends is one address
one_address : read_line FileKind.Exception (codes "address_group A ::1-::1") ≡ read_line FileKind.Exception (codes "address_group A ::1")
unfolding read
one_address = refl

-- `::` stands for one zero group or more; an IPv4 address may stand for the last two groups alone
addresses : kinds FileKind.Exception (codes "address_group A 1:2:3:4:5:6:7::" ∷ codes "address_group A 1:2:3:4:5:6:7:8::" ∷ codes "address_group A 1::1.2.3.4" ∷ codes "address_group A ::1.2.3.4" ∷ codes "address_group A 1.2.3.4::" ∷ codes "address_group A 1:2:3:4:5:6:1.2.3.4" ∷ codes "address_group A 1::2::3" ∷ codes "address_group A 1:2:3:4:5:6:7" ∷ codes "address_group A 12345::" ∷ []) ≡ None ∷ Some LineKind.Address ∷ None ∷ None ∷ Some LineKind.Address ∷ None ∷ Some LineKind.Address ∷ Some LineKind.Address ∷ Some LineKind.Address ∷ []
unfolding read
addresses = refl

-- a wrong group is a wrong name where a number or an address may stand, too
wrong_groups : kinds FileKind.Domain (codes "file mkdir /d @" ∷ codes "file mkdir /d @\\q" ∷ codes "network inet stream bind @ 80" ∷ codes "network inet stream bind ::1 @\\q" ∷ codes "file mkdir /d 1-0" ∷ codes "network inet stream bind ::2-::1 80" ∷ []) ≡ Some LineKind.Name ∷ Some LineKind.Name ∷ Some LineKind.Name ∷ Some LineKind.Name ∷ Some LineKind.Number ∷ Some LineKind.Address ∷ []
unfolding read
wrong_groups = refl

-- ACL lines

-- the line of an entry without conditions
abbrev entry_line : Args → ℕ → PolicyLine
entry_line args bits = PolicyLine.Domain (DomainRule.Acl false (record { args = args; perms = record { bits = bits }; cond = record { clauses = []; grant_log = None } }))

abbrev one_or_more : Pattern
one_or_more = record { repeat = Repeat.Once; first = []; minus = [] } ∷ record { repeat = Repeat.OneOrMore; first = Element.Byte 98 ∷ []; minus = [] } ∷ record { repeat = Repeat.Once; first = []; minus = [] } ∷ []

-- a name of the environment may begin with `@`, and may have slashes and repeated components; it
-- has no `=`
environment : map (read_line FileKind.Domain) (codes "misc env @A" ∷ codes "misc env /\\{b\\}/" ∷ codes "misc env A=B" ∷ []) ≡ Ok (entry_line (Args.Env (literal (codes "@A"))) 1) ∷ Ok (entry_line (Args.Env one_or_more) 1) ∷ Err LineKind.Name ∷ []
unfolding read
environment = refl

-- a permission that is repeated counts once
repeated_permissions : map (read_line FileKind.Domain) (codes "file execute/execute /a" ∷ codes "file execute /a" ∷ codes "file write/read/write /a" ∷ []) ≡ Ok (entry_line (Args.Path (NameUnion.One (literal (codes "/a")))) 1) ∷ Ok (entry_line (Args.Path (NameUnion.One (literal (codes "/a")))) 1) ∷ Ok (entry_line (Args.Path (NameUnion.One (literal (codes "/a")))) 6) ∷ []
unfolding read
repeated_permissions = refl

-- where a line goes on with conditions, a wrong word is a wrong condition, unfinished or extra
conditions : kinds FileKind.Domain (codes "file read /a task.ui" ∷ codes "file read /a x" ∷ codes "file execute /a kee" ∷ codes "file execute/execute /a keep" ∷ codes "file execute /a keep x" ∷ codes "file read /a grant_log=yes grant_log=no" ∷ []) ≡ Some LineKind.Condition ∷ Some LineKind.Condition ∷ Some LineKind.Condition ∷ Some LineKind.Condition ∷ Some LineKind.Condition ∷ Some LineKind.Condition ∷ []
unfolding read
conditions = refl

-- Profile lines

-- the words of a comment are never wrong
comments : map (read_line FileKind.Profile) (codes "0-COMMENT=\\q  <a>\t1-CONFIG={" ∷ codes "0-COMMENT=" ∷ []) ≡ map (λ text. Ok (PolicyLine.Profile (profile_line_of kernel (ProfileEffect.Comment 0 text)))) (codes "\\q <a> 1-CONFIG={" ∷ [] ∷ [])
unfolding read
comments = refl

-- Of several wrong words of a line the first decides, and what is missing comes last

first_wrong_words : kinds FileKind.Domain (codes "x y" ∷ codes "use_profile x y" ∷ codes "select <a> x" ∷ codes "file reed @ x" ∷ codes "file mkdir @ x" ∷ codes "file mkdir /d x y" ∷ codes "file mkdir /d 0 x" ∷ codes "file mkdir /d" ∷ codes "network inet stream bind x y" ∷ codes "network inet stream bind ::1 y" ∷ codes "delete use_profile x" ∷ codes "delete <kernel> x" ∷ codes "delete <kernel>" ∷ []) ≡ Some LineKind.Keyword ∷ Some LineKind.Number ∷ Some LineKind.Domain ∷ Some LineKind.Keyword ∷ Some LineKind.Name ∷ Some LineKind.Number ∷ Some LineKind.Condition ∷ Some LineKind.Arity ∷ Some LineKind.Address ∷ Some LineKind.Number ∷ Some LineKind.Keyword ∷ Some LineKind.Domain ∷ Some LineKind.KernelDomain ∷ []
unfolding read
first_wrong_words = refl

first_wrong_words_of_exceptions : kinds FileKind.Exception (codes "<a> x y" ∷ codes "<kernel> x y" ∷ codes "path_group \\q @a x" ∷ codes "path_group A @a x" ∷ codes "path_group A /a x" ∷ codes "acl_group 256 x" ∷ codes "acl_group 0 x" ∷ codes "initialize_domain a x y" ∷ codes "initialize_domain /a x y" ∷ codes "initialize_domain /a from x y" ∷ codes "initialize_domain /a from <kernel> y" ∷ codes "keep_domain <kern x" ∷ []) ≡ Some LineKind.Domain ∷ Some LineKind.Keyword ∷ Some LineKind.Name ∷ Some LineKind.Name ∷ Some LineKind.Arity ∷ Some LineKind.Number ∷ Some LineKind.Keyword ∷ Some LineKind.Name ∷ Some LineKind.Arity ∷ Some LineKind.Name ∷ Some LineKind.Domain ∷ Some LineKind.Domain ∷ []
unfolding read
first_wrong_words_of_exceptions = refl

first_wrong_words_of_profiles : kinds FileKind.Profile (codes "PROFILE_VERSION=1 x" ∷ codes "PROFILE_VERSION=20150505 x" ∷ codes "PROFILE_VERSION=" ∷ codes "<a> PROFILE_VERSION=1" ∷ codes "256-CONFIG={ x" ∷ codes "0-CONFIG={ mode=x }" ∷ codes "0-CONFIG={ mode=dis" ∷ codes "0-CONFIG={ mode=disabled } x" ∷ []) ≡ Some LineKind.Version ∷ Some LineKind.Profile ∷ Some LineKind.Arity ∷ Some LineKind.Domain ∷ Some LineKind.Profile ∷ Some LineKind.Profile ∷ Some LineKind.Arity ∷ Some LineKind.Profile ∷ []
unfolding read
first_wrong_words_of_profiles = refl

first_wrong_words_of_managers : kinds FileKind.Manager (codes "x" ∷ codes "manage_by" ∷ codes "manage_by_non_root x" ∷ codes "/\\*" ∷ codes "/a x" ∷ codes "<a> x" ∷ codes "delete" ∷ codes "del" ∷ codes "delete x" ∷ codes "delete manage_by" ∷ codes "delete del" ∷ codes "delete delete /a" ∷ []) ≡ Some LineKind.Keyword ∷ Some LineKind.Arity ∷ Some LineKind.Arity ∷ Some LineKind.Name ∷ Some LineKind.Arity ∷ Some LineKind.Domain ∷ Some LineKind.Arity ∷ Some LineKind.Arity ∷ Some LineKind.Keyword ∷ Some LineKind.Arity ∷ Some LineKind.Keyword ∷ Some LineKind.Keyword ∷ []
unfolding read
first_wrong_words_of_managers = refl
