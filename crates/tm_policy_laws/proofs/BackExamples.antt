-- Worked example: a policy that four files give, its printed texts, and what they give again.
use Rattle.std.proofs.Common.{◌≡◌, Bool, true, false, List, [], ◌∷◌, None, Ok, Err, refl}
use Rattle.std.specs.Prelude.{codes}
use Rattle.std.specs.Fmt.{digits}
use Rattle.tm_word.specs.Prelude.{Text, spelled_word, word_of, words_of}
use Rattle.tm_rules.specs.Types.{Args, Domain, EditReply, Entry, FileKind, LoadFault, Namespace, Policy, PolicyFiles}
use Rattle.tm_rules.specs.Prelude.{adding, apply_line, apply_read, domain_line, empty_namespace, group_line, kernel, live_domain, live_part, load, load_lines, manager_line, namespace_named, new_domain, new_profile, profile_line}
use Rattle.tm_word.specs.Spelling.{head_of as byte_head}
use Rattle.tm_number.specs.Numbers.{number_of, value_of, plain_of}
use Rattle.tm_pattern.specs.Tokens.{token_at}
use Rattle.tm_pattern.specs.Reading.{step, ended, parsed, pattern_of}
use Rattle.tm_domain.specs.Names.{is_path, domain_of}
use Rattle.tm_line.specs.Arguments.{plain_word}
use Rattle.tm_line.specs.Domains.{domain_words, domain_at, domain_to_end}
use Rattle.tm_line.specs.Namespaces.{namespace_of, namespace_at}
use Rattle.tm_file.specs.FileLines.{file_line, file_words}
use Rattle.tm_net.specs.NetLines.{task_line, net_line, net_words}
use Rattle.tm_cond.specs.Reading.{cond_from, cond_of, cond_words}
use Rattle.tm_entry.specs.Entries.{acl_line, entry_of, acl_words, entry_words}
use Rattle.tm_except.specs.Reading.{literal_word, acl_group, head_of, begins_list, begins_control, begins_rule, rule_at, named_line}
use Rattle.tm_except.specs.Reading.{line_of as except_of}
use Rattle.tm_except.specs.Printing.{rule_words, line_words, lists_text}
use Rattle.tm_profile.specs.Reading.{key_of, seen_after, closed, setting_after, limits_with, limits_after, slot_of, begins_some_slot, begins_effect, numbered, effect_at}
use Rattle.tm_profile.specs.Reading.{line_of as profile_of}
use Rattle.tm_profile.specs.Printing.{audit_text, learning_text, profiles_text}
use Rattle.tm_profile.specs.Printing.{profile_text as numbered_text}
use Rattle.tm_policy_line.specs.Reading.{begins_setting, begins_domain, setting_rule, domain_rule, begins_manager, manager_rule, manager_of, read_words, read_line}
use Rattle.tm_policy_line.specs.Printing.{group_line_words}
use Rattle.tm_text.specs.DomainText.{block_text, domain_text}
use Rattle.tm_text.specs.ExceptionText.{exception_lines, exception_text}
use Rattle.tm_text.specs.ManagerText.{manager_text}
use Rattle.tm_text.specs.ProfileText.{by_name, profile_text}
use Rattle.tm_legal.specs.Prelude.{IsOpened}
use Rattle.tm_grammar.specs.Tomoyo.{tomoyo_grammar}
use Rattle.tm_policy_laws.specs.Policies.{IsWritten}
use Rattle.tm_policy_laws.specs.PolicyText.{policy_text}
use Rattle.tm_policy_laws.proofs.Versions.{loaded_both}

-- the definitions that a line's reading and doing goes through
unfoldable done : Unit {0}
unfolding words_of spelled_word word_of byte_head number_of value_of plain_of token_at step ended parsed pattern_of is_path domain_of plain_word domain_words domain_at domain_to_end namespace_of namespace_at file_line task_line net_line cond_from cond_of acl_line entry_of literal_word acl_group head_of begins_list begins_control begins_rule rule_at named_line except_of key_of seen_after closed setting_after limits_with limits_after slot_of begins_some_slot begins_effect numbered effect_at profile_of begins_setting begins_domain setting_rule domain_rule begins_manager manager_rule manager_of read_words read_line namespace_named live_domain adding profile_line group_line domain_line manager_line apply_read apply_line load_lines load
done = tt

-- those that printing goes through
unfoldable shown : Unit {0}
unfolding digits file_words net_words cond_words acl_words entry_words rule_words line_words lists_text audit_text learning_text profiles_text numbered_text group_line_words block_text domain_text exception_lines exception_text manager_text by_name profile_text
shown = tt

abbrev files : Text → Text → Text → Text → PolicyFiles
files profile exception domain manager = record { profile = profile; exception = exception; domain = domain; manager = manager }

-- the entry of `task manual_domain_transition <kernel> /a`
abbrev manual : Entry
manual = record { args = Args.Manual (codes "<kernel> /a"); perms = record { bits = 1 }; cond = record { clauses = []; grant_log = None } }

abbrev in_kernel : Namespace
in_kernel = record (empty_namespace kernel) { profiles = (0, record new_profile { comment = codes "k" }) ∷ []; acl_groups = (3, manual ∷ []) ∷ [] }

abbrev in_s : Namespace
in_s = record (empty_namespace (codes "</s>")) { profiles = (1, record new_profile { comment = codes "s" }) ∷ [] }

-- the domain `<kernel> /a`, live or dead
abbrev in_a : Bool → Domain
in_a live = record (new_domain (codes "<kernel> /a") 0 ((3, tt) ∷ [])) { quota_exceeded = true; live = live }

abbrev with : List Namespace → List Domain → Policy
with namespaces domains = record { namespaces = namespaces; domains = domains; by_non_root = true; managers = codes "/m" ∷ []; opened = true }

abbrev written : Policy
written = with (in_kernel ∷ in_s ∷ []) (new_domain kernel 0 [] ∷ in_a true ∷ new_domain (codes "</s>") 1 [] ∷ [])

-- what somebody wrote
pub four_files
    : load tomoyo_grammar (files (codes "0-COMMENT=k\n</s> 1-COMMENT=s") (codes "acl_group 3 task manual_domain_transition <kernel> /a\n") (codes "<kernel> /a\nuse_group 3\n\nquota_exceeded\n</s>\nuse_profile 1\n") (codes "/m\nmanage_by_non_root\n/m\n")) ≡ Ok written
unfolding done
four_files = refl

-- so it is opened, and lines can leave it
pub written_opened : IsOpened written
written_opened = (loaded_both _ written four_files).0

pub written_written : IsWritten written
written_written = (loaded_both _ written four_files).1

-- what is printed once the domain `<kernel> /a` is dead: `</s>` comes first by its bytes, and a
-- dead domain prints nothing
abbrev later : Policy
later = with (in_kernel ∷ in_s ∷ []) (new_domain kernel 0 [] ∷ in_a false ∷ new_domain (codes "</s>") 1 [] ∷ [])

pub printed
    : policy_text later
    ≡ files
    (codes "</s> PROFILE_VERSION=20150505\n</s> 1-COMMENT=s\n</s> 1-PREFERENCE={ max_audit_log=1024 max_learning_entry=2048 }\n</s> 1-CONFIG={ mode=disabled grant_log=yes reject_log=yes }\n<kernel> PROFILE_VERSION=20150505\n<kernel> 0-COMMENT=k\n<kernel> 0-PREFERENCE={ max_audit_log=1024 max_learning_entry=2048 }\n<kernel> 0-CONFIG={ mode=disabled grant_log=yes reject_log=yes }\n")
    (codes "<kernel> acl_group 3 task manual_domain_transition <kernel> /a\n")
    (codes "<kernel>\nuse_profile 0\n\n</s>\nuse_profile 1\n\n")
    (codes "manage_by_non_root\n/m\n")
unfolding shown
printed = refl

-- it gives the live domains by new numbers, and the namespaces in another order
pub loaded_again : load tomoyo_grammar (policy_text later) ≡ Ok (with (in_s ∷ in_kernel ∷ []) (new_domain kernel 0 [] ∷ new_domain (codes "</s>") 1 [] ∷ []))
unfolding done shown
loaded_again = refl

pub live_ones : (live_part later).domains ≡ new_domain kernel 0 [] ∷ new_domain (codes "</s>") 1 [] ∷ []
live_ones = refl

-- Why the two premises: a group without entries isn't printed, and a live domain without its
-- profile isn't opened

abbrev empty_group : Namespace
empty_group = record in_kernel { acl_groups = (3, []) ∷ [] }

pub group_is_lost : load tomoyo_grammar (policy_text (with (empty_group ∷ []) (new_domain kernel 0 [] ∷ []))) ≡ Ok (with (record in_kernel { acl_groups = [] } ∷ []) (new_domain kernel 0 [] ∷ []))
unfolding done shown
group_is_lost = refl

pub profile_is_wanted : load tomoyo_grammar (policy_text (with (in_kernel ∷ []) (new_domain kernel 1 [] ∷ []))) ≡ Err (LoadFault.Line FileKind.Domain 2 EditReply.NoProfile)
unfolding done shown
profile_is_wanted = refl
