-- The printed text of the managers.
use Rattle.std.specs.Prelude.{◌++◌}
use Rattle.std.specs.List.{flat_map}
use Rattle.tm_word.specs.Prelude.{Text}
use Rattle.tm_rules.specs.Types.{Policy}
use Rattle.tm_policy_line.specs.Printing.{printed_line, manager_words, non_root_words}
use Rattle.tm_text.specs.DomainText.{flag_line}

-- the line of a manager
abbrev pub manager_line : Text → Text
manager_line name = printed_line (manager_words name)

-- `manage_by_non_root` where it stands, then the other lines in written order
unfoldable pub manager_text : Policy → Text
manager_text policy =
    flag_line non_root_words policy.by_non_root ++ flat_map manager_line policy.managers
