-- Worked lines of entries: kinds of faults, and lines that are printed as they are.
use Rattle.std.proofs.Common.{◌≡◌, Bool, true, false, List, [], ◌∷◌, Result, Ok, Err, refl}
use Rattle.std.specs.Prelude.{codes}
use Rattle.std.specs.List.{list_all}
use Rattle.tm_word.specs.Prelude.{Text, head_of, lists_equal, spelled_pattern, spelled_word, texts_equal, word_of}
use Rattle.tm_types.specs.Numbers.{number_of, value_of, range_of, plain_of}
use Rattle.tm_file.specs.Tokens.{token_at}
use Rattle.tm_file.specs.Reading.{step, ended, parsed, pattern_of}
use Rattle.tm_rules.specs.Types.{Entry, LineKind}
use Rattle.tm_file.specs.Names.{is_path, domain_of}
use Rattle.tm_file.specs.Permissions.{perms_of, perm_on}
use Rattle.tm_file.specs.Arguments.{group_word, pattern_word, path_word, range_word, name_word, number_word, address_word, name_at, number_at, address_at}
use Rattle.tm_file.specs.Domains.{domain_words, domain_at}
use Rattle.tm_file.specs.Printing.{name_spelling, number_spelling, address_spelling}
use Rattle.tm_file.specs.FileLines.{row_of, starts_any, args_at, mount_at, row_line, perms_line, file_line, file_words}
use Rattle.tm_file.specs.Preferences.{prefer_at, path_at, prefer_words}
use Rattle.tm_net.specs.NetLines.{perms_at, inet_line, unix_line, network_line, env_word, misc_line, task_line, net_line, net_words}
use Rattle.tm_cond.specs.Attributes.{without_last, id_word, field_word, parent_word, attr_text, numeric_word, other_word, argv_word, envp_word, attr_word}
use Rattle.tm_cond.specs.Reading.{quoted_name, name_or_group, right_word, right_text, sides, clause_word, clause_text, log_word, cond_from, cond_of, cond_words}
use Rattle.tm_entry.specs.Entries.{acl_line, entry_of, acl_words, entry_words}

-- what is read is printed as these words
abbrev printed_as : List Text → Result Entry LineKind → Bool
printed_as wanted (Ok e) = lists_equal texts_equal (entry_words e) wanted
printed_as wanted (Err kind) = false

-- the line is printed as it is
abbrev kept : List Text → Bool
kept words = printed_as words (entry_of words)

-- ``
pub no_words : entry_of ([]) ≡ Err LineKind.Arity
unfolding entry_of acl_line file_line perms_line row_line row_of starts_any mount_at args_at path_at prefer_at name_at number_at address_at name_word number_word address_word range_word group_word pattern_word path_word plain_of net_line network_line inet_line unix_line perms_at misc_line env_word task_line domain_words domain_at domain_of is_path perms_of pattern_of parsed step ended token_at spelled_word word_of head_of range_of number_of value_of cond_of cond_from log_word clause_word sides attr_word numeric_word id_word field_word parent_word other_word argv_word envp_word quoted_name name_or_group right_word without_last
no_words = refl

-- `fil`
pub a_front : entry_of (codes "fil" ∷ []) ≡ Err LineKind.Arity
unfolding entry_of acl_line file_line perms_line row_line row_of starts_any mount_at args_at path_at prefer_at name_at number_at address_at name_word number_word address_word range_word group_word pattern_word path_word plain_of net_line network_line inet_line unix_line perms_at misc_line env_word task_line domain_words domain_at domain_of is_path perms_of pattern_of parsed step ended token_at spelled_word word_of head_of range_of number_of value_of cond_of cond_from log_word clause_word sides attr_word numeric_word id_word field_word parent_word other_word argv_word envp_word quoted_name name_or_group right_word without_last
a_front = refl

-- `netw`
pub another_front : entry_of (codes "netw" ∷ []) ≡ Err LineKind.Arity
unfolding entry_of acl_line file_line perms_line row_line row_of starts_any mount_at args_at path_at prefer_at name_at number_at address_at name_word number_word address_word range_word group_word pattern_word path_word plain_of net_line network_line inet_line unix_line perms_at misc_line env_word task_line domain_words domain_at domain_of is_path perms_of pattern_of parsed step ended token_at spelled_word word_of head_of range_of number_of value_of cond_of cond_from log_word clause_word sides attr_word numeric_word id_word field_word parent_word other_word argv_word envp_word quoted_name name_or_group right_word without_last
another_front = refl

-- `fil x`
pub a_front_and_more : entry_of (codes "fil" ∷ codes "x" ∷ []) ≡ Err LineKind.Keyword
unfolding entry_of acl_line file_line perms_line row_line row_of starts_any mount_at args_at path_at prefer_at name_at number_at address_at name_word number_word address_word range_word group_word pattern_word path_word plain_of net_line network_line inet_line unix_line perms_at misc_line env_word task_line domain_words domain_at domain_of is_path perms_of pattern_of parsed step ended token_at spelled_word word_of head_of range_of number_of value_of cond_of cond_from log_word clause_word sides attr_word numeric_word id_word field_word parent_word other_word argv_word envp_word quoted_name name_or_group right_word without_last
a_front_and_more = refl

-- `foo`
pub an_unknown_word : entry_of (codes "foo" ∷ []) ≡ Err LineKind.Keyword
unfolding entry_of acl_line file_line perms_line row_line row_of starts_any mount_at args_at path_at prefer_at name_at number_at address_at name_word number_word address_word range_word group_word pattern_word path_word plain_of net_line network_line inet_line unix_line perms_at misc_line env_word task_line domain_words domain_at domain_of is_path perms_of pattern_of parsed step ended token_at spelled_word word_of head_of range_of number_of value_of cond_of cond_from log_word clause_word sides attr_word numeric_word id_word field_word parent_word other_word argv_word envp_word quoted_name name_or_group right_word without_last
an_unknown_word = refl

-- `foo /a`
pub an_unknown_word_and_more : entry_of (codes "foo" ∷ codes "/a" ∷ []) ≡ Err LineKind.Keyword
unfolding entry_of acl_line file_line perms_line row_line row_of starts_any mount_at args_at path_at prefer_at name_at number_at address_at name_word number_word address_word range_word group_word pattern_word path_word plain_of net_line network_line inet_line unix_line perms_at misc_line env_word task_line domain_words domain_at domain_of is_path perms_of pattern_of parsed step ended token_at spelled_word word_of head_of range_of number_of value_of cond_of cond_from log_word clause_word sides attr_word numeric_word id_word field_word parent_word other_word argv_word envp_word quoted_name name_or_group right_word without_last
an_unknown_word_and_more = refl

-- `file`
pub a_line_alone : entry_of (codes "file" ∷ []) ≡ Err LineKind.Arity
unfolding entry_of acl_line file_line perms_line row_line row_of starts_any mount_at args_at path_at prefer_at name_at number_at address_at name_word number_word address_word range_word group_word pattern_word path_word plain_of net_line network_line inet_line unix_line perms_at misc_line env_word task_line domain_words domain_at domain_of is_path perms_of pattern_of parsed step ended token_at spelled_word word_of head_of range_of number_of value_of cond_of cond_from log_word clause_word sides attr_word numeric_word id_word field_word parent_word other_word argv_word envp_word quoted_name name_or_group right_word without_last
a_line_alone = refl

-- `file read /a x`
pub an_extra_word : entry_of (codes "file" ∷ codes "read" ∷ codes "/a" ∷ codes "x" ∷ []) ≡ Err LineKind.Condition
unfolding entry_of acl_line file_line perms_line row_line row_of starts_any mount_at args_at path_at prefer_at name_at number_at address_at name_word number_word address_word range_word group_word pattern_word path_word plain_of net_line network_line inet_line unix_line perms_at misc_line env_word task_line domain_words domain_at domain_of is_path perms_of pattern_of parsed step ended token_at spelled_word word_of head_of range_of number_of value_of cond_of cond_from log_word clause_word sides attr_word numeric_word id_word field_word parent_word other_word argv_word envp_word quoted_name name_or_group right_word without_last
an_extra_word = refl

-- `file read /a /b`
pub an_extra_path : entry_of (codes "file" ∷ codes "read" ∷ codes "/a" ∷ codes "/b" ∷ []) ≡ Err LineKind.Condition
unfolding entry_of acl_line file_line perms_line row_line row_of starts_any mount_at args_at path_at prefer_at name_at number_at address_at name_word number_word address_word range_word group_word pattern_word path_word plain_of net_line network_line inet_line unix_line perms_at misc_line env_word task_line domain_words domain_at domain_of is_path perms_of pattern_of parsed step ended token_at spelled_word word_of head_of range_of number_of value_of cond_of cond_from log_word clause_word sides attr_word numeric_word id_word field_word parent_word other_word argv_word envp_word quoted_name name_or_group right_word without_last
an_extra_path = refl

-- `file read /a task.ui`
pub an_unfinished_attribute : entry_of (codes "file" ∷ codes "read" ∷ codes "/a" ∷ codes "task.ui" ∷ []) ≡ Err LineKind.Condition
unfolding entry_of acl_line file_line perms_line row_line row_of starts_any mount_at args_at path_at prefer_at name_at number_at address_at name_word number_word address_word range_word group_word pattern_word path_word plain_of net_line network_line inet_line unix_line perms_at misc_line env_word task_line domain_words domain_at domain_of is_path perms_of pattern_of parsed step ended token_at spelled_word word_of head_of range_of number_of value_of cond_of cond_from log_word clause_word sides attr_word numeric_word id_word field_word parent_word other_word argv_word envp_word quoted_name name_or_group right_word without_last
an_unfinished_attribute = refl

-- `file execute /a kee`
pub an_unfinished_preference : entry_of (codes "file" ∷ codes "execute" ∷ codes "/a" ∷ codes "kee" ∷ []) ≡ Err LineKind.Condition
unfolding entry_of acl_line file_line perms_line row_line row_of starts_any mount_at args_at path_at prefer_at name_at number_at address_at name_word number_word address_word range_word group_word pattern_word path_word plain_of net_line network_line inet_line unix_line perms_at misc_line env_word task_line domain_words domain_at domain_of is_path perms_of pattern_of parsed step ended token_at spelled_word word_of head_of range_of number_of value_of cond_of cond_from log_word clause_word sides attr_word numeric_word id_word field_word parent_word other_word argv_word envp_word quoted_name name_or_group right_word without_last
an_unfinished_preference = refl

-- `file execute/execute /a keep`
pub a_preference_after_two : entry_of (codes "file" ∷ codes "execute/execute" ∷ codes "/a" ∷ codes "keep" ∷ []) ≡ Err LineKind.Condition
unfolding entry_of acl_line file_line perms_line row_line row_of starts_any mount_at args_at path_at prefer_at name_at number_at address_at name_word number_word address_word range_word group_word pattern_word path_word plain_of net_line network_line inet_line unix_line perms_at misc_line env_word task_line domain_words domain_at domain_of is_path perms_of pattern_of parsed step ended token_at spelled_word word_of head_of range_of number_of value_of cond_of cond_from log_word clause_word sides attr_word numeric_word id_word field_word parent_word other_word argv_word envp_word quoted_name name_or_group right_word without_last
a_preference_after_two = refl

-- `file read /a keep`
pub a_preference_of_a_read : entry_of (codes "file" ∷ codes "read" ∷ codes "/a" ∷ codes "keep" ∷ []) ≡ Err LineKind.Condition
unfolding entry_of acl_line file_line perms_line row_line row_of starts_any mount_at args_at path_at prefer_at name_at number_at address_at name_word number_word address_word range_word group_word pattern_word path_word plain_of net_line network_line inet_line unix_line perms_at misc_line env_word task_line domain_words domain_at domain_of is_path perms_of pattern_of parsed step ended token_at spelled_word word_of head_of range_of number_of value_of cond_of cond_from log_word clause_word sides attr_word numeric_word id_word field_word parent_word other_word argv_word envp_word quoted_name name_or_group right_word without_last
a_preference_of_a_read = refl

-- `file execute /a task.uid=@G keep`
pub a_preference_after_a_condition : entry_of (codes "file" ∷ codes "execute" ∷ codes "/a" ∷ codes "task.uid=@G" ∷ codes "keep" ∷ []) ≡ Err LineKind.Condition
unfolding entry_of acl_line file_line perms_line row_line row_of starts_any mount_at args_at path_at prefer_at name_at number_at address_at name_word number_word address_word range_word group_word pattern_word path_word plain_of net_line network_line inet_line unix_line perms_at misc_line env_word task_line domain_words domain_at domain_of is_path perms_of pattern_of parsed step ended token_at spelled_word word_of head_of range_of number_of value_of cond_of cond_from log_word clause_word sides attr_word numeric_word id_word field_word parent_word other_word argv_word envp_word quoted_name name_or_group right_word without_last
a_preference_after_a_condition = refl

-- `file read @ task.ui`
pub a_name_before_a_condition : entry_of (codes "file" ∷ codes "read" ∷ codes "@" ∷ codes "task.ui" ∷ []) ≡ Err LineKind.Name
unfolding entry_of acl_line file_line perms_line row_line row_of starts_any mount_at args_at path_at prefer_at name_at number_at address_at name_word number_word address_word range_word group_word pattern_word path_word plain_of net_line network_line inet_line unix_line perms_at misc_line env_word task_line domain_words domain_at domain_of is_path perms_of pattern_of parsed step ended token_at spelled_word word_of head_of range_of number_of value_of cond_of cond_from log_word clause_word sides attr_word numeric_word id_word field_word parent_word other_word argv_word envp_word quoted_name name_or_group right_word without_last
a_name_before_a_condition = refl

-- `file mkdir /a task.uid=@G`
pub a_condition_in_place_of_a_number : entry_of (codes "file" ∷ codes "mkdir" ∷ codes "/a" ∷ codes "task.uid=@G" ∷ []) ≡ Err LineKind.Number
unfolding entry_of acl_line file_line perms_line row_line row_of starts_any mount_at args_at path_at prefer_at name_at number_at address_at name_word number_word address_word range_word group_word pattern_word path_word plain_of net_line network_line inet_line unix_line perms_at misc_line env_word task_line domain_words domain_at domain_of is_path perms_of pattern_of parsed step ended token_at spelled_word word_of head_of range_of number_of value_of cond_of cond_from log_word clause_word sides attr_word numeric_word id_word field_word parent_word other_word argv_word envp_word quoted_name name_or_group right_word without_last
a_condition_in_place_of_a_number = refl

-- `network unix stream bind /a task.uid`
pub a_wrong_condition_of_a_socket : entry_of (codes "network" ∷ codes "unix" ∷ codes "stream" ∷ codes "bind" ∷ codes "/a" ∷ codes "task.uid" ∷ []) ≡ Err LineKind.Condition
unfolding entry_of acl_line file_line perms_line row_line row_of starts_any mount_at args_at path_at prefer_at name_at number_at address_at name_word number_word address_word range_word group_word pattern_word path_word plain_of net_line network_line inet_line unix_line perms_at misc_line env_word task_line domain_words domain_at domain_of is_path perms_of pattern_of parsed step ended token_at spelled_word word_of head_of range_of number_of value_of cond_of cond_from log_word clause_word sides attr_word numeric_word id_word field_word parent_word other_word argv_word envp_word quoted_name name_or_group right_word without_last
a_wrong_condition_of_a_socket = refl

-- `misc env PATH x`
pub a_wrong_condition_of_a_name : entry_of (codes "misc" ∷ codes "env" ∷ codes "PATH" ∷ codes "x" ∷ []) ≡ Err LineKind.Condition
unfolding entry_of acl_line file_line perms_line row_line row_of starts_any mount_at args_at path_at prefer_at name_at number_at address_at name_word number_word address_word range_word group_word pattern_word path_word plain_of net_line network_line inet_line unix_line perms_at misc_line env_word task_line domain_words domain_at domain_of is_path perms_of pattern_of parsed step ended token_at spelled_word word_of head_of range_of number_of value_of cond_of cond_from log_word clause_word sides attr_word numeric_word id_word field_word parent_word other_word argv_word envp_word quoted_name name_or_group right_word without_last
a_wrong_condition_of_a_name = refl

-- `task manual_domain_transition <kernel> x`
pub a_wrong_condition_of_a_domain : entry_of (codes "task" ∷ codes "manual_domain_transition" ∷ codes "<kernel>" ∷ codes "x" ∷ []) ≡ Err LineKind.Condition
unfolding entry_of acl_line file_line perms_line row_line row_of starts_any mount_at args_at path_at prefer_at name_at number_at address_at name_word number_word address_word range_word group_word pattern_word path_word plain_of net_line network_line inet_line unix_line perms_at misc_line env_word task_line domain_words domain_at domain_of is_path perms_of pattern_of parsed step ended token_at spelled_word word_of head_of range_of number_of value_of cond_of cond_from log_word clause_word sides attr_word numeric_word id_word field_word parent_word other_word argv_word envp_word quoted_name name_or_group right_word without_last
a_wrong_condition_of_a_domain = refl

-- These lines are printed as they are.
pub kept_lines : list_all kept ((codes "file" ∷ codes "read" ∷ codes "/a" ∷ []) ∷ (codes "file" ∷ codes "execute" ∷ codes "/a" ∷ codes "keep" ∷ codes "task.uid=@G" ∷ []) ∷ (codes "file" ∷ codes "execute" ∷ codes "/a" ∷ codes "task.uid=@G" ∷ []) ∷ (codes "file" ∷ codes "execute/read" ∷ codes "/a" ∷ []) ∷ (codes "file" ∷ codes "rename" ∷ codes "/a" ∷ codes "/b" ∷ codes "path1.uid=task.uid" ∷ codes "path2.parent.gid!=@G" ∷ codes "grant_log=yes" ∷ []) ∷ (codes "network" ∷ codes "unix" ∷ codes "stream" ∷ codes "bind/listen/connect" ∷ codes "/a" ∷ codes "grant_log=no" ∷ []) ∷ (codes "network" ∷ codes "inet" ∷ codes "dgram" ∷ codes "send" ∷ codes "@A" ∷ codes "@P" ∷ codes "task.pid!=task.ppid" ∷ []) ∷ (codes "misc" ∷ codes "env" ∷ codes "PATH" ∷ codes "exec.envp[\"X\"]=NULL" ∷ []) ∷ (codes "task" ∷ codes "manual_domain_transition" ∷ codes "<kernel>" ∷ codes "/a" ∷ codes "task.uid=@G" ∷ []) ∷ []) ≡ true
unfolding entry_of acl_line file_line perms_line row_line row_of starts_any mount_at args_at path_at prefer_at name_at number_at address_at name_word number_word address_word range_word group_word pattern_word path_word plain_of net_line network_line inet_line unix_line perms_at misc_line env_word task_line domain_words domain_at domain_of is_path perms_of pattern_of parsed step ended token_at spelled_word word_of head_of range_of number_of value_of cond_of cond_from log_word clause_word sides attr_word numeric_word id_word field_word parent_word other_word argv_word envp_word quoted_name name_or_group right_word without_last entry_words acl_words file_words prefer_words net_words name_spelling number_spelling address_spelling perm_on spelled_pattern cond_words clause_text attr_text right_text
kept_lines = refl
