-- The definitions of the rules, passed on from one place. Declares nothing.
pub use Rattle.tm_rules.specs.Audit.{audit_in, audit_lines, entry_at, grant_logged, granted_text, ids_text, is_logged, reason_text}
unfoldable pub use Rattle.tm_rules.specs.Audit.{audit_text}
pub use Rattle.tm_rules.specs.Book.{code_of, each_matches, list_matches, rule_answer, rule_matches}
unfoldable pub use Rattle.tm_rules.specs.Book.{book_answer}
pub use Rattle.tm_rules.specs.Changes.{in_domain, is_full, is_learning, is_task, learned_domain, learns, made_new, permission_place}
unfoldable pub use Rattle.tm_rules.specs.Changes.{count, fail, is_manager, learn, learn_reply, make}
pub use Rattle.tm_rules.specs.Clean.{are_plain_groups, is_calm_mode, is_clean_look, is_clean_step, is_clean_take, is_one_of, is_plain_clause, is_plain_domain, is_plain_entry, is_quiet_acl, is_quiet_group, is_quiet_line, is_quiet_rule, is_quota, lets_execute, without_namespace}
unfoldable pub use Rattle.tm_rules.specs.Clean.{is_clean, is_plain, is_quiet}
pub use Rattle.tm_rules.specs.Condition.{first_of_all, id_of, is_execute, is_manual, judged, stat_kind, stat_value}
unfoldable pub use Rattle.tm_rules.specs.Condition.{clause_holds, holds, number_of, word_of}
pub use Rattle.tm_rules.specs.Edit.{Edited, Numbers, acl_group, apply_parsed, changed_domain, changing_namespace, choosing, chosen, dead, deleting_domain, edited, in_namespace, joining, leaving, making_domain, new_domain, new_profile, on_chosen, on_profile, put_group, put_key, put_member, refused, remove_key, removing, same_addr_range, same_aggregator, same_control, same_member, selecting, set_config, set_slot, with_group, with_groups}
unfoldable pub use Rattle.tm_rules.specs.Edit.{apply_line, apply_read, domain_line, except_added, except_line, except_removed, except_there, group_line, manager_line, profile_line}
pub use Rattle.tm_rules.specs.Equality.{addr_unions_equal, addrs_equal, args_equal, attrs_equal, base_place, clauses_equal, components_equal, conds_equal, element_place, field_place, id_place, inet_place, kind_place, names_equal, number_unions_equal, numbers_equal, options_equal, parts_equal, patterns_equal, prefers_equal, ranges_equal, repeat_place, rights_equal, stat_place, unix_place}
pub use Rattle.tm_rules.specs.Few.{IsFew, IsFewHere, IsShort}
pub use Rattle.tm_rules.specs.Grammar.{Grammar, IsGrammar}
unfoldable pub use Rattle.tm_rules.specs.Group.{addr_in, name_in, number_in}
pub use Rattle.tm_rules.specs.Learned.{is_word, line_of}
unfoldable pub use Rattle.tm_rules.specs.Learned.{learned_line}
pub use Rattle.tm_rules.specs.Load.{LoadsBack, SamePolicy, and_then, is_done, live_part, load_file, new_policy, open_policy, wants_profile}
unfoldable pub use Rattle.tm_rules.specs.Load.{load, load_lines}
pub use Rattle.tm_rules.specs.Mode.{logs_of, mode_of, slot}
unfoldable pub use Rattle.tm_rules.specs.Mode.{config_of}
pub use Rattle.tm_rules.specs.Policy.{at_key, changed_at, domain_at, empty_namespace, has_permission, kernel, last_word, namespace_of, namespace_word, permission, profile_numbered, profile_of, same_line, unless_empty, with_domain, without_permissions}
unfoldable pub use Rattle.tm_rules.specs.Policy.{adding, deleting, has_line, has_part, live_domain, namespace_named}
pub use Rattle.tm_rules.specs.Queries.{Queries, Standing, answer_coded, answer_fault, closed, first_unanswered, no_queries, numbered, with_answer}
unfoldable pub use Rattle.tm_rules.specs.Queries.{answer, answer_of, ask, attach, detach, first_query}
pub use Rattle.tm_rules.specs.Requests.{are_literal, bytes_if, has_bytes, has_exec, has_its_attributes, has_no_exec, is_addr, is_addr_value, is_literal, is_name, is_number, is_path_word, is_stat, is_symlink, is_written, item_is_request, may_have, no_ids, pid_of_line}
unfoldable pub use Rattle.tm_rules.specs.Requests.{is_request}
pub use Rattle.tm_rules.specs.Search.{Granting, addr_value, first_of, found_of, granting, number_value, path_of, placed, preference, searched, union_name, when}
unfoldable pub use Rattle.tm_rules.specs.Search.{aggregated, args_grant, entries_of, first, found, grants, written_name}
pub use Rattle.tm_rules.specs.Transition.{Decision, child_name, has_parent, initial_name, is_namespace_word, is_strict, kind_number, parent_name, root_name, some_control}
unfoldable pub use Rattle.tm_rules.specs.Transition.{can_enter, candidate, control_kind, control_matches, decision, is_domain_name, target_name}
pub use Rattle.tm_rules.specs.Words.{Cursor, DomainName, Trace}
