-- Worked lines of all four files: what each form gives, and the kind of each wrong one.
use Rattle.std.proofs.Common.{◌≡◌, true, false, [], None, Ok, Err, refl}
use Rattle.std.specs.Prelude.{codes}
use Rattle.tm_word.specs.Prelude.{spelled_word, word_of, words_of}
use Rattle.tm_word.specs.Spelling.{head_of as byte_head}
use Rattle.tm_types.specs.Numbers.{number_of, value_of, range_of, plain_of}
use Rattle.tm_line.specs.AddrReading.{quad_of, v4_of, group_of, last_of, groups_after, side_of, v6_of, addr_of}
use Rattle.tm_line.specs.AddrReading.{range_of as addr_range_of}
use Rattle.tm_except.specs.Tokens.{token_at}
use Rattle.tm_except.specs.PatternReading.{step, ended, parsed, pattern_of}
use Rattle.tm_line.specs.Names.{is_path, domain_of}
use Rattle.tm_rules.specs.Types.{Args, ControlKind, DomainRule, Entry, ExceptRule, FileKind, LineKind, ManagerRule, PolicyLine, ProfileEffect}
use Rattle.tm_rules.specs.Prelude.{kernel}
use Rattle.tm_line.specs.Permissions.{perms_of}
use Rattle.tm_line.specs.Arguments.{group_word, pattern_word, path_word, range_word, addr_range_word, name_word, number_word, address_word, plain_word, name_at, number_at, address_at}
use Rattle.tm_line.specs.Domains.{domain_words, domain_at, domain_to_end}
use Rattle.tm_line.specs.Namespaces.{namespace_of, namespace_at}
use Rattle.tm_entry.specs.FileLines.{row_of, starts_any, args_at, mount_at, row_line, perms_line, file_line}
use Rattle.tm_entry.specs.Preferences.{prefer_at, path_at}
use Rattle.tm_entry.specs.NetLines.{perms_at, inet_line, unix_line, network_line, env_word, misc_line, task_line, net_line}
use Rattle.tm_entry.specs.Attributes.{without_last, id_word, field_word, parent_word, numeric_word, other_word, argv_word, envp_word, attr_word}
use Rattle.tm_entry.specs.Reading.{quoted_name, name_or_group, right_word, sides, clause_word, log_word, cond_from, cond_of}
use Rattle.tm_entry.specs.Entries.{acl_line, entry_of}
use Rattle.tm_except.specs.Reading.{member_word, first_word, literal_word, path_group, number_group, address_group, aggregator, acl_group, program_word, domain_side, from_side, program_line, keep_line, control_word, head_of, begins_list, begins_control, begins_rule, rule_at, line, named_line}
use Rattle.tm_except.specs.Reading.{line_of as except_of}
use Rattle.tm_profile.specs.Slots.{function_text, slot_text}
use Rattle.tm_profile.specs.Reading.{key_of, seen_after, closed, setting_after, limits_with, limits_after, slot_of, begins_some_slot, begins_effect, numbered, effect_at}
use Rattle.tm_profile.specs.Reading.{line as profile_line_of}
use Rattle.tm_profile.specs.Reading.{line_of as profile_of}
use Rattle.tm_policy_line.specs.Reading.{begins_setting, begins_domain, setting_rule, delete_domain, delete_rule, domain_rule, begins_manager, manager_rule, manager_of, read_words, read_line}

-- the definitions that a line's reading goes through
unfoldable pub computed : Unit {0}
unfolding words_of number_of value_of range_of plain_of quad_of v4_of group_of last_of groups_after side_of v6_of addr_of addr_range_of token_at step ended parsed pattern_of spelled_word word_of byte_head head_of is_path domain_of perms_of group_word pattern_word path_word range_word addr_range_word name_word number_word address_word plain_word name_at number_at address_at domain_words domain_at domain_to_end namespace_of namespace_at row_of starts_any args_at mount_at row_line perms_line file_line prefer_at path_at perms_at inet_line unix_line network_line env_word misc_line task_line net_line without_last id_word field_word parent_word numeric_word other_word argv_word envp_word attr_word quoted_name name_or_group right_word sides clause_word log_word cond_from cond_of acl_line entry_of member_word literal_word first_word path_group number_group address_group aggregator acl_group program_word domain_side from_side program_line keep_line control_word begins_list begins_control begins_rule rule_at named_line except_of function_text slot_text key_of seen_after closed setting_after limits_with limits_after slot_of begins_some_slot begins_effect numbered effect_at profile_of begins_setting begins_domain setting_rule delete_domain delete_rule domain_rule begins_manager manager_rule manager_of read_words read_line
computed = tt

-- the entry of `task manual_domain_transition <kernel> /a`
abbrev manual : Entry
manual = record { args = Args.Manual (codes "<kernel> /a"); perms = record { bits = 1 }; cond = record { clauses = []; grant_log = None } }

-- What is read

pub nothing_of_profiles : read_line FileKind.Profile (codes "") ≡ Ok (PolicyLine.Nothing)
unfolding computed
nothing_of_profiles = refl

pub nothing_of_exceptions : read_line FileKind.Exception (codes " \t ") ≡ Ok (PolicyLine.Nothing)
unfolding computed
nothing_of_exceptions = refl

pub nothing_of_domains : read_line FileKind.Domain (codes "  ") ≡ Ok (PolicyLine.Nothing)
unfolding computed
nothing_of_domains = refl

pub nothing_of_managers : read_line FileKind.Manager (codes "") ≡ Ok (PolicyLine.Nothing)
unfolding computed
nothing_of_managers = refl

pub kernel_chosen : read_line FileKind.Domain (codes "<kernel>") ≡ Ok (PolicyLine.Domain (DomainRule.Choose kernel))
unfolding computed
kernel_chosen = refl

pub name_chosen : read_line FileKind.Domain (codes "  <kernel>\t/a  /b") ≡ Ok (PolicyLine.Domain (DomainRule.Choose (codes "<kernel> /a /b")))
unfolding computed
name_chosen = refl

pub other_namespace_chosen : read_line FileKind.Domain (codes "</s> /\\*") ≡ Ok (PolicyLine.Domain (DomainRule.Choose (codes "</s> /\\*")))
unfolding computed
other_namespace_chosen = refl

pub name_selected : read_line FileKind.Domain (codes "select <kernel> /a") ≡ Ok (PolicyLine.Domain (DomainRule.Select (codes "<kernel> /a")))
unfolding computed
name_selected = refl

pub kernel_selected : read_line FileKind.Domain (codes "select <kernel>") ≡ Ok (PolicyLine.Domain (DomainRule.Select kernel))
unfolding computed
kernel_selected = refl

pub name_deleted : read_line FileKind.Domain (codes "delete <kernel> /a") ≡ Ok (PolicyLine.Domain (DomainRule.Delete (codes "<kernel> /a")))
unfolding computed
name_deleted = refl

pub namespace_deleted : read_line FileKind.Domain (codes "delete </s>") ≡ Ok (PolicyLine.Domain (DomainRule.Delete (codes "</s>")))
unfolding computed
namespace_deleted = refl

pub profile_used : read_line FileKind.Domain (codes "use_profile 255") ≡ Ok (PolicyLine.Domain (DomainRule.UseProfile 255))
unfolding computed
profile_used = refl

pub group_used : read_line FileKind.Domain (codes "use_group 0") ≡ Ok (PolicyLine.Domain (DomainRule.UseGroup false 0))
unfolding computed
group_used = refl

pub group_left : read_line FileKind.Domain (codes "delete use_group 3") ≡ Ok (PolicyLine.Domain (DomainRule.UseGroup true 3))
unfolding computed
group_left = refl

pub quota_raised : read_line FileKind.Domain (codes "quota_exceeded") ≡ Ok (PolicyLine.Domain (DomainRule.QuotaExceeded false))
unfolding computed
quota_raised = refl

pub quota_cleared : read_line FileKind.Domain (codes "delete quota_exceeded") ≡ Ok (PolicyLine.Domain (DomainRule.QuotaExceeded true))
unfolding computed
quota_cleared = refl

pub failed_raised : read_line FileKind.Domain (codes "transition_failed") ≡ Ok (PolicyLine.Domain (DomainRule.TransitionFailed false))
unfolding computed
failed_raised = refl

pub failed_cleared : read_line FileKind.Domain (codes "delete transition_failed") ≡ Ok (PolicyLine.Domain (DomainRule.TransitionFailed true))
unfolding computed
failed_cleared = refl

pub entry_added : read_line FileKind.Domain (codes "task manual_domain_transition <kernel> /a") ≡ Ok (PolicyLine.Domain (DomainRule.Acl false manual))
unfolding computed
entry_added = refl

pub entry_removed : read_line FileKind.Domain (codes "delete task manual_domain_transition <kernel> /a") ≡ Ok (PolicyLine.Domain (DomainRule.Acl true manual))
unfolding computed
entry_removed = refl

pub non_root_added : read_line FileKind.Manager (codes "manage_by_non_root") ≡ Ok (PolicyLine.Manager false ManagerRule.ByNonRoot)
unfolding computed
non_root_added = refl

pub non_root_removed : read_line FileKind.Manager (codes "delete manage_by_non_root") ≡ Ok (PolicyLine.Manager true ManagerRule.ByNonRoot)
unfolding computed
non_root_removed = refl

pub domain_added : read_line FileKind.Manager (codes "<kernel> /a") ≡ Ok (PolicyLine.Manager false (ManagerRule.Name (codes "<kernel> /a")))
unfolding computed
domain_added = refl

pub domain_removed : read_line FileKind.Manager (codes "delete <kernel>") ≡ Ok (PolicyLine.Manager true (ManagerRule.Name kernel))
unfolding computed
domain_removed = refl

pub path_added : read_line FileKind.Manager (codes "/a\\040b") ≡ Ok (PolicyLine.Manager false (ManagerRule.Name (codes "/a\\040b")))
unfolding computed
path_added = refl

pub path_removed : read_line FileKind.Manager (codes "delete /") ≡ Ok (PolicyLine.Manager true (ManagerRule.Name (codes "/")))
unfolding computed
path_removed = refl

pub group_added : read_line FileKind.Exception (codes "acl_group 255 task manual_domain_transition <kernel> /a") ≡ Ok (PolicyLine.Group (record { delete = false; namespace = kernel; group = 255; entry = manual }))
unfolding computed
group_added = refl

pub group_removed : read_line FileKind.Exception (codes "delete </s> acl_group 3 task manual_domain_transition <kernel> /a") ≡ Ok (PolicyLine.Group (record { delete = true; namespace = codes "</s>"; group = 3; entry = manual }))
unfolding computed
group_removed = refl

pub control_added : read_line FileKind.Exception (codes "no_keep_domain any") ≡ Ok (PolicyLine.Exception (line false kernel (ExceptRule.Control (record { kind = ControlKind.NoKeep; program = None; domain = None; last = false }))))
unfolding computed
control_added = refl

pub comment_set : read_line FileKind.Profile (codes "</s> 3-COMMENT= a") ≡ Ok (PolicyLine.Profile (profile_line_of (codes "</s>") (ProfileEffect.Comment 3 (codes "a"))))
unfolding computed
comment_set = refl

-- What is refused

pub domain_keyword_1 : read_line FileKind.Domain (codes "x") ≡ Err LineKind.Keyword
unfolding computed
domain_keyword_1 = refl

pub domain_keyword_2 : read_line FileKind.Domain (codes "files") ≡ Err LineKind.Keyword
unfolding computed
domain_keyword_2 = refl

pub domain_keyword_3 : read_line FileKind.Domain (codes "kernel") ≡ Err LineKind.Keyword
unfolding computed
domain_keyword_3 = refl

pub domain_keyword_4 : read_line FileKind.Domain (codes "sel <kernel>") ≡ Err LineKind.Keyword
unfolding computed
domain_keyword_4 = refl

pub domain_keyword_5 : read_line FileKind.Domain (codes "use_profiles 1") ≡ Err LineKind.Keyword
unfolding computed
domain_keyword_5 = refl

pub domain_keyword_6 : read_line FileKind.Domain (codes "use_profilex") ≡ Err LineKind.Keyword
unfolding computed
domain_keyword_6 = refl

pub domain_keyword_7 : read_line FileKind.Domain (codes "Select <kernel>") ≡ Err LineKind.Keyword
unfolding computed
domain_keyword_7 = refl

pub domain_keyword_8 : read_line FileKind.Domain (codes "/a") ≡ Err LineKind.Keyword
unfolding computed
domain_keyword_8 = refl

pub domain_keyword_9 : read_line FileKind.Domain (codes "delete x") ≡ Err LineKind.Keyword
unfolding computed
domain_keyword_9 = refl

pub domain_keyword_10 : read_line FileKind.Domain (codes "delete /a") ≡ Err LineKind.Keyword
unfolding computed
domain_keyword_10 = refl

pub domain_keyword_11 : read_line FileKind.Domain (codes "delete use_profile 1") ≡ Err LineKind.Keyword
unfolding computed
domain_keyword_11 = refl

pub domain_keyword_12 : read_line FileKind.Domain (codes "delete use_profile") ≡ Err LineKind.Keyword
unfolding computed
domain_keyword_12 = refl

pub domain_keyword_13 : read_line FileKind.Domain (codes "delete use_p") ≡ Err LineKind.Keyword
unfolding computed
domain_keyword_13 = refl

pub domain_keyword_14 : read_line FileKind.Domain (codes "delete delete") ≡ Err LineKind.Keyword
unfolding computed
domain_keyword_14 = refl

pub domain_keyword_15 : read_line FileKind.Domain (codes "delete del") ≡ Err LineKind.Keyword
unfolding computed
domain_keyword_15 = refl

pub domain_keyword_16 : read_line FileKind.Domain (codes "delete select <kernel>") ≡ Err LineKind.Keyword
unfolding computed
domain_keyword_16 = refl

pub domain_keyword_17 : read_line FileKind.Domain (codes "delete sel") ≡ Err LineKind.Keyword
unfolding computed
domain_keyword_17 = refl

pub domain_keyword_18 : read_line FileKind.Domain (codes "file reads /a") ≡ Err LineKind.Keyword
unfolding computed
domain_keyword_18 = refl

pub domain_keyword_19 : read_line FileKind.Domain (codes "delete file x /a") ≡ Err LineKind.Keyword
unfolding computed
domain_keyword_19 = refl

pub domain_keyword_20 : read_line FileKind.Domain (codes "quota_exceede x") ≡ Err LineKind.Keyword
unfolding computed
domain_keyword_20 = refl

pub domain_keyword_21 : read_line FileKind.Domain (codes "1") ≡ Err LineKind.Keyword
unfolding computed
domain_keyword_21 = refl

pub domain_arity_1 : read_line FileKind.Domain (codes "sel") ≡ Err LineKind.Arity
unfolding computed
domain_arity_1 = refl

pub domain_arity_2 : read_line FileKind.Domain (codes "s") ≡ Err LineKind.Arity
unfolding computed
domain_arity_2 = refl

pub domain_arity_3 : read_line FileKind.Domain (codes "d") ≡ Err LineKind.Arity
unfolding computed
domain_arity_3 = refl

pub domain_arity_4 : read_line FileKind.Domain (codes "delet") ≡ Err LineKind.Arity
unfolding computed
domain_arity_4 = refl

pub domain_arity_5 : read_line FileKind.Domain (codes "u") ≡ Err LineKind.Arity
unfolding computed
domain_arity_5 = refl

pub domain_arity_6 : read_line FileKind.Domain (codes "use_") ≡ Err LineKind.Arity
unfolding computed
domain_arity_6 = refl

pub domain_arity_7 : read_line FileKind.Domain (codes "use_p") ≡ Err LineKind.Arity
unfolding computed
domain_arity_7 = refl

pub domain_arity_8 : read_line FileKind.Domain (codes "use_g") ≡ Err LineKind.Arity
unfolding computed
domain_arity_8 = refl

pub domain_arity_9 : read_line FileKind.Domain (codes "quota") ≡ Err LineKind.Arity
unfolding computed
domain_arity_9 = refl

pub domain_arity_10 : read_line FileKind.Domain (codes "transition") ≡ Err LineKind.Arity
unfolding computed
domain_arity_10 = refl

pub domain_arity_11 : read_line FileKind.Domain (codes "t") ≡ Err LineKind.Arity
unfolding computed
domain_arity_11 = refl

pub domain_arity_12 : read_line FileKind.Domain (codes "fil") ≡ Err LineKind.Arity
unfolding computed
domain_arity_12 = refl

pub domain_arity_13 : read_line FileKind.Domain (codes "networ") ≡ Err LineKind.Arity
unfolding computed
domain_arity_13 = refl

pub domain_arity_14 : read_line FileKind.Domain (codes "m") ≡ Err LineKind.Arity
unfolding computed
domain_arity_14 = refl

pub domain_arity_15 : read_line FileKind.Domain (codes "select") ≡ Err LineKind.Arity
unfolding computed
domain_arity_15 = refl

pub domain_arity_16 : read_line FileKind.Domain (codes "delete") ≡ Err LineKind.Arity
unfolding computed
domain_arity_16 = refl

pub domain_arity_17 : read_line FileKind.Domain (codes "use_profile") ≡ Err LineKind.Arity
unfolding computed
domain_arity_17 = refl

pub domain_arity_18 : read_line FileKind.Domain (codes "use_group") ≡ Err LineKind.Arity
unfolding computed
domain_arity_18 = refl

pub domain_arity_19 : read_line FileKind.Domain (codes "delete u") ≡ Err LineKind.Arity
unfolding computed
domain_arity_19 = refl

pub domain_arity_20 : read_line FileKind.Domain (codes "delete use_") ≡ Err LineKind.Arity
unfolding computed
domain_arity_20 = refl

pub domain_arity_21 : read_line FileKind.Domain (codes "delete use_group") ≡ Err LineKind.Arity
unfolding computed
domain_arity_21 = refl

pub domain_arity_22 : read_line FileKind.Domain (codes "delete quota_exceede") ≡ Err LineKind.Arity
unfolding computed
domain_arity_22 = refl

pub domain_arity_23 : read_line FileKind.Domain (codes "delete transition_f") ≡ Err LineKind.Arity
unfolding computed
domain_arity_23 = refl

pub domain_arity_24 : read_line FileKind.Domain (codes "delete f") ≡ Err LineKind.Arity
unfolding computed
domain_arity_24 = refl

pub domain_arity_25 : read_line FileKind.Domain (codes "delete tas") ≡ Err LineKind.Arity
unfolding computed
domain_arity_25 = refl

pub domain_arity_26 : read_line FileKind.Domain (codes "file") ≡ Err LineKind.Arity
unfolding computed
domain_arity_26 = refl

pub domain_arity_27 : read_line FileKind.Domain (codes "file read") ≡ Err LineKind.Arity
unfolding computed
domain_arity_27 = refl

pub domain_arity_28 : read_line FileKind.Domain (codes "delete file read") ≡ Err LineKind.Arity
unfolding computed
domain_arity_28 = refl

pub domain_arity_29 : read_line FileKind.Domain (codes "use_profile 1 x") ≡ Err LineKind.Arity
unfolding computed
domain_arity_29 = refl

pub domain_arity_30 : read_line FileKind.Domain (codes "use_group 1 2") ≡ Err LineKind.Arity
unfolding computed
domain_arity_30 = refl

pub domain_arity_31 : read_line FileKind.Domain (codes "delete use_group 1 2") ≡ Err LineKind.Arity
unfolding computed
domain_arity_31 = refl

pub domain_arity_32 : read_line FileKind.Domain (codes "quota_exceeded x") ≡ Err LineKind.Arity
unfolding computed
domain_arity_32 = refl

pub domain_arity_33 : read_line FileKind.Domain (codes "transition_failed 1") ≡ Err LineKind.Arity
unfolding computed
domain_arity_33 = refl

pub domain_arity_34 : read_line FileKind.Domain (codes "delete quota_exceeded x") ≡ Err LineKind.Arity
unfolding computed
domain_arity_34 = refl

pub domain_arity_35 : read_line FileKind.Domain (codes "delete transition_failed <kernel>") ≡ Err LineKind.Arity
unfolding computed
domain_arity_35 = refl

pub domain_number_1 : read_line FileKind.Domain (codes "use_profile x") ≡ Err LineKind.Number
unfolding computed
domain_number_1 = refl

pub domain_number_2 : read_line FileKind.Domain (codes "use_profile 256") ≡ Err LineKind.Number
unfolding computed
domain_number_2 = refl

pub domain_number_3 : read_line FileKind.Domain (codes "use_profile 01") ≡ Err LineKind.Number
unfolding computed
domain_number_3 = refl

pub domain_number_4 : read_line FileKind.Domain (codes "use_profile 0x1") ≡ Err LineKind.Number
unfolding computed
domain_number_4 = refl

pub domain_number_5 : read_line FileKind.Domain (codes "use_profile 1-2") ≡ Err LineKind.Number
unfolding computed
domain_number_5 = refl

pub domain_number_6 : read_line FileKind.Domain (codes "use_profile @G") ≡ Err LineKind.Number
unfolding computed
domain_number_6 = refl

pub domain_number_7 : read_line FileKind.Domain (codes "use_profile x y") ≡ Err LineKind.Number
unfolding computed
domain_number_7 = refl

pub domain_number_8 : read_line FileKind.Domain (codes "use_profile 99999999999999999999999") ≡ Err LineKind.Number
unfolding computed
domain_number_8 = refl

pub domain_number_9 : read_line FileKind.Domain (codes "use_group -1") ≡ Err LineKind.Number
unfolding computed
domain_number_9 = refl

pub domain_number_10 : read_line FileKind.Domain (codes "use_group 00") ≡ Err LineKind.Number
unfolding computed
domain_number_10 = refl

pub domain_number_11 : read_line FileKind.Domain (codes "delete use_group 300") ≡ Err LineKind.Number
unfolding computed
domain_number_11 = refl

pub domain_domain_1 : read_line FileKind.Domain (codes "<kern") ≡ Err LineKind.Domain
unfolding computed
domain_domain_1 = refl

pub domain_domain_2 : read_line FileKind.Domain (codes "<kernel") ≡ Err LineKind.Domain
unfolding computed
domain_domain_2 = refl

pub domain_domain_3 : read_line FileKind.Domain (codes "<") ≡ Err LineKind.Domain
unfolding computed
domain_domain_3 = refl

pub domain_domain_4 : read_line FileKind.Domain (codes "<>") ≡ Err LineKind.Domain
unfolding computed
domain_domain_4 = refl

pub domain_domain_5 : read_line FileKind.Domain (codes "<a>") ≡ Err LineKind.Domain
unfolding computed
domain_domain_5 = refl

pub domain_domain_6 : read_line FileKind.Domain (codes "<kernel>x") ≡ Err LineKind.Domain
unfolding computed
domain_domain_6 = refl

pub domain_domain_7 : read_line FileKind.Domain (codes "<kern x") ≡ Err LineKind.Domain
unfolding computed
domain_domain_7 = refl

pub domain_domain_8 : read_line FileKind.Domain (codes "<kernel> x") ≡ Err LineKind.Domain
unfolding computed
domain_domain_8 = refl

pub domain_domain_9 : read_line FileKind.Domain (codes "<kernel> /a x") ≡ Err LineKind.Domain
unfolding computed
domain_domain_9 = refl

pub domain_domain_10 : read_line FileKind.Domain (codes "<kernel> /\\{a") ≡ Err LineKind.Domain
unfolding computed
domain_domain_10 = refl

pub domain_domain_11 : read_line FileKind.Domain (codes "<kernel> <kernel>") ≡ Err LineKind.Domain
unfolding computed
domain_domain_11 = refl

pub domain_domain_12 : read_line FileKind.Domain (codes "select x") ≡ Err LineKind.Domain
unfolding computed
domain_domain_12 = refl

pub domain_domain_13 : read_line FileKind.Domain (codes "select /a") ≡ Err LineKind.Domain
unfolding computed
domain_domain_13 = refl

pub domain_domain_14 : read_line FileKind.Domain (codes "select <kern") ≡ Err LineKind.Domain
unfolding computed
domain_domain_14 = refl

pub domain_domain_15 : read_line FileKind.Domain (codes "select <kernel> x") ≡ Err LineKind.Domain
unfolding computed
domain_domain_15 = refl

pub domain_domain_16 : read_line FileKind.Domain (codes "delete <kern") ≡ Err LineKind.Domain
unfolding computed
domain_domain_16 = refl

pub domain_domain_17 : read_line FileKind.Domain (codes "delete <a>") ≡ Err LineKind.Domain
unfolding computed
domain_domain_17 = refl

pub domain_domain_18 : read_line FileKind.Domain (codes "delete <kernel> x") ≡ Err LineKind.Domain
unfolding computed
domain_domain_18 = refl

pub domain_domain_19 : read_line FileKind.Domain (codes "delete <kernel> /a x") ≡ Err LineKind.Domain
unfolding computed
domain_domain_19 = refl

pub domain_kernel_domain_1 : read_line FileKind.Domain (codes "delete <kernel>") ≡ Err LineKind.KernelDomain
unfolding computed
domain_kernel_domain_1 = refl

pub domain_kernel_domain_2 : read_line FileKind.Domain (codes " delete\t<kernel> ") ≡ Err LineKind.KernelDomain
unfolding computed
domain_kernel_domain_2 = refl

pub domain_name_1 : read_line FileKind.Domain (codes "file read @") ≡ Err LineKind.Name
unfolding computed
domain_name_1 = refl

pub domain_number_12 : read_line FileKind.Domain (codes "file mkdir /a x") ≡ Err LineKind.Number
unfolding computed
domain_number_12 = refl

pub domain_address_1 : read_line FileKind.Domain (codes "network inet stream bind x 1") ≡ Err LineKind.Address
unfolding computed
domain_address_1 = refl

pub domain_condition_1 : read_line FileKind.Domain (codes "file read /a x") ≡ Err LineKind.Condition
unfolding computed
domain_condition_1 = refl

pub domain_condition_2 : read_line FileKind.Domain (codes "delete file read /a task.ui") ≡ Err LineKind.Condition
unfolding computed
domain_condition_2 = refl

pub domain_domain_20 : read_line FileKind.Domain (codes "task manual_domain_transition /a") ≡ Err LineKind.Domain
unfolding computed
domain_domain_20 = refl

pub manager_keyword_1 : read_line FileKind.Manager (codes "x") ≡ Err LineKind.Keyword
unfolding computed
manager_keyword_1 = refl

pub manager_keyword_2 : read_line FileKind.Manager (codes "1") ≡ Err LineKind.Keyword
unfolding computed
manager_keyword_2 = refl

pub manager_keyword_3 : read_line FileKind.Manager (codes "@G") ≡ Err LineKind.Keyword
unfolding computed
manager_keyword_3 = refl

pub manager_keyword_4 : read_line FileKind.Manager (codes "a/") ≡ Err LineKind.Keyword
unfolding computed
manager_keyword_4 = refl

pub manager_keyword_5 : read_line FileKind.Manager (codes "manage x") ≡ Err LineKind.Keyword
unfolding computed
manager_keyword_5 = refl

pub manager_keyword_6 : read_line FileKind.Manager (codes "manage_by_non_rootx") ≡ Err LineKind.Keyword
unfolding computed
manager_keyword_6 = refl

pub manager_keyword_7 : read_line FileKind.Manager (codes "delet /a") ≡ Err LineKind.Keyword
unfolding computed
manager_keyword_7 = refl

pub manager_keyword_8 : read_line FileKind.Manager (codes "delete x") ≡ Err LineKind.Keyword
unfolding computed
manager_keyword_8 = refl

pub manager_keyword_9 : read_line FileKind.Manager (codes "delete delete") ≡ Err LineKind.Keyword
unfolding computed
manager_keyword_9 = refl

pub manager_keyword_10 : read_line FileKind.Manager (codes "delete del") ≡ Err LineKind.Keyword
unfolding computed
manager_keyword_10 = refl

pub manager_keyword_11 : read_line FileKind.Manager (codes "delete x y") ≡ Err LineKind.Keyword
unfolding computed
manager_keyword_11 = refl

pub manager_arity_1 : read_line FileKind.Manager (codes "m") ≡ Err LineKind.Arity
unfolding computed
manager_arity_1 = refl

pub manager_arity_2 : read_line FileKind.Manager (codes "manage") ≡ Err LineKind.Arity
unfolding computed
manager_arity_2 = refl

pub manager_arity_3 : read_line FileKind.Manager (codes "d") ≡ Err LineKind.Arity
unfolding computed
manager_arity_3 = refl

pub manager_arity_4 : read_line FileKind.Manager (codes "delet") ≡ Err LineKind.Arity
unfolding computed
manager_arity_4 = refl

pub manager_arity_5 : read_line FileKind.Manager (codes "delete") ≡ Err LineKind.Arity
unfolding computed
manager_arity_5 = refl

pub manager_arity_6 : read_line FileKind.Manager (codes "delete m") ≡ Err LineKind.Arity
unfolding computed
manager_arity_6 = refl

pub manager_arity_7 : read_line FileKind.Manager (codes "delete manage_by_non_roo") ≡ Err LineKind.Arity
unfolding computed
manager_arity_7 = refl

pub manager_arity_8 : read_line FileKind.Manager (codes "manage_by_non_root x") ≡ Err LineKind.Arity
unfolding computed
manager_arity_8 = refl

pub manager_arity_9 : read_line FileKind.Manager (codes "delete manage_by_non_root x") ≡ Err LineKind.Arity
unfolding computed
manager_arity_9 = refl

pub manager_arity_10 : read_line FileKind.Manager (codes "/a x") ≡ Err LineKind.Arity
unfolding computed
manager_arity_10 = refl

pub manager_arity_11 : read_line FileKind.Manager (codes "/a /b") ≡ Err LineKind.Arity
unfolding computed
manager_arity_11 = refl

pub manager_arity_12 : read_line FileKind.Manager (codes "delete /a x") ≡ Err LineKind.Arity
unfolding computed
manager_arity_12 = refl

pub manager_name_1 : read_line FileKind.Manager (codes "/a\\*") ≡ Err LineKind.Name
unfolding computed
manager_name_1 = refl

pub manager_name_2 : read_line FileKind.Manager (codes "/a\\* x") ≡ Err LineKind.Name
unfolding computed
manager_name_2 = refl

pub manager_name_3 : read_line FileKind.Manager (codes "/\\{a\\}/") ≡ Err LineKind.Name
unfolding computed
manager_name_3 = refl

pub manager_name_4 : read_line FileKind.Manager (codes "delete /a\\?") ≡ Err LineKind.Name
unfolding computed
manager_name_4 = refl

pub manager_name_5 : read_line FileKind.Manager (codes "/a\\9") ≡ Err LineKind.Name
unfolding computed
manager_name_5 = refl

pub manager_name_6 : read_line FileKind.Manager (codes "delete /\\") ≡ Err LineKind.Name
unfolding computed
manager_name_6 = refl

pub manager_domain_1 : read_line FileKind.Manager (codes "<kern") ≡ Err LineKind.Domain
unfolding computed
manager_domain_1 = refl

pub manager_domain_2 : read_line FileKind.Manager (codes "<a>") ≡ Err LineKind.Domain
unfolding computed
manager_domain_2 = refl

pub manager_domain_3 : read_line FileKind.Manager (codes "<kernel> x") ≡ Err LineKind.Domain
unfolding computed
manager_domain_3 = refl

pub manager_domain_4 : read_line FileKind.Manager (codes "delete <>") ≡ Err LineKind.Domain
unfolding computed
manager_domain_4 = refl

pub manager_domain_5 : read_line FileKind.Manager (codes "delete <kernel> /a x") ≡ Err LineKind.Domain
unfolding computed
manager_domain_5 = refl

pub manager_domain_6 : read_line FileKind.Manager (codes "</a") ≡ Err LineKind.Domain
unfolding computed
manager_domain_6 = refl

pub exception_arity_1 : read_line FileKind.Exception (codes "acl_group 0") ≡ Err LineKind.Arity
unfolding computed
exception_arity_1 = refl

pub exception_arity_2 : read_line FileKind.Exception (codes "acl_group 0 fil") ≡ Err LineKind.Arity
unfolding computed
exception_arity_2 = refl

pub exception_arity_3 : read_line FileKind.Exception (codes "acl_group 0 file read") ≡ Err LineKind.Arity
unfolding computed
exception_arity_3 = refl

pub exception_keyword_1 : read_line FileKind.Exception (codes "acl_group 0 x") ≡ Err LineKind.Keyword
unfolding computed
exception_keyword_1 = refl

pub exception_keyword_2 : read_line FileKind.Exception (codes "acl_group 0 use_group 1") ≡ Err LineKind.Keyword
unfolding computed
exception_keyword_2 = refl

pub exception_keyword_3 : read_line FileKind.Exception (codes "acl_group 0 delete file read /a") ≡ Err LineKind.Keyword
unfolding computed
exception_keyword_3 = refl

pub exception_number_1 : read_line FileKind.Exception (codes "acl_group 256 x") ≡ Err LineKind.Number
unfolding computed
exception_number_1 = refl

pub exception_number_2 : read_line FileKind.Exception (codes "acl_group x file") ≡ Err LineKind.Number
unfolding computed
exception_number_2 = refl

pub exception_number_3 : read_line FileKind.Exception (codes "acl_group 01 file") ≡ Err LineKind.Number
unfolding computed
exception_number_3 = refl

pub exception_name_1 : read_line FileKind.Exception (codes "acl_group 0 file read @") ≡ Err LineKind.Name
unfolding computed
exception_name_1 = refl

pub exception_condition_1 : read_line FileKind.Exception (codes "acl_group 0 file read /a x") ≡ Err LineKind.Condition
unfolding computed
exception_condition_1 = refl

pub exception_domain_1 : read_line FileKind.Exception (codes "delete <kern acl_group 0 x") ≡ Err LineKind.Domain
unfolding computed
exception_domain_1 = refl

pub exception_address_1 : read_line FileKind.Exception (codes "acl_group 0 network inet stream bind x 1") ≡ Err LineKind.Address
unfolding computed
exception_address_1 = refl

pub exception_keyword_4 : read_line FileKind.Exception (codes "quota_exceeded") ≡ Err LineKind.Keyword
unfolding computed
exception_keyword_4 = refl

pub exception_arity_4 : read_line FileKind.Exception (codes "<kernel>") ≡ Err LineKind.Arity
unfolding computed
exception_arity_4 = refl

pub profile_version_1 : read_line FileKind.Profile (codes "PROFILE_VERSION=1") ≡ Err LineKind.Version
unfolding computed
profile_version_1 = refl

pub profile_arity_1 : read_line FileKind.Profile (codes "0-CONFIG=") ≡ Err LineKind.Arity
unfolding computed
profile_arity_1 = refl

pub profile_profile_1 : read_line FileKind.Profile (codes "0-CONFIG={ x }") ≡ Err LineKind.Profile
unfolding computed
profile_profile_1 = refl

pub profile_domain_1 : read_line FileKind.Profile (codes "<a> 0-COMMENT=") ≡ Err LineKind.Domain
unfolding computed
profile_domain_1 = refl

pub profile_profile_2 : read_line FileKind.Profile (codes "use_profile 1") ≡ Err LineKind.Profile
unfolding computed
profile_profile_2 = refl
