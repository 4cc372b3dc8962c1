-- The printed text of the exception policy.
use Rattle.std.specs.Prelude.{ℕ, List, ◌++◌}
use Rattle.std.specs.List.{flat_map}
use Rattle.tm_word.specs.Prelude.{Text}
use Rattle.tm_rules.specs.Types.{Entry, Namespace, Policy}
use Rattle.tm_except.specs.Printing.{lists_text}
use Rattle.tm_policy_line.specs.Printing.{printed_line, acl_group_words}
use Rattle.tm_text.specs.ProfileText.{by_name}

-- the line of an entry of an ACL group
abbrev pub acl_line : Text → ℕ → Entry → Text
acl_line name number entry = printed_line (acl_group_words name number entry)

-- the entries of an ACL group, in written order
abbrev pub acl_lines : Text → ℕ × List Entry → Text
acl_lines name group = flat_map (acl_line name group.0) group.1

-- the lines of a namespace: groups, aggregators and controls, then its ACL groups by their numbers
unfoldable pub exception_lines : Namespace → Text
exception_lines ns = lists_text ns ++ flat_map (acl_lines ns.name) ns.acl_groups

-- the lines of each namespace, by the order of names
unfoldable pub exception_text : Policy → Text
exception_text policy = flat_map exception_lines (by_name policy.namespaces)
