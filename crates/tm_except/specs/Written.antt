-- The rules that a line can write.
use Rattle.std.specs.Prelude.{nat_lt, Bool, true, false, ◌&&◌, not, List, [], ◌∷◌, Option, Some, None}
use Rattle.std.specs.List.{list_all}
use Rattle.tm_word.specs.Prelude.{Pattern, Text, Word, are_bytes, begins_with_byte, is_empty, is_word, spelled_pattern}
use Rattle.tm_pattern.specs.Grammar.{is_right}
use Rattle.tm_rules.specs.Types.{Control, ControlKind, ExceptRule}
use Rattle.tm_rules.specs.Prelude.{is_domain_name, is_path_word}
use Rattle.tm_line.specs.Names.{is_path}
use Rattle.tm_line.specs.Written.{is_group, begins_name, is_range, is_addr_range}

-- a pattern in the grammar whose text isn't empty and doesn't begin with `@`
abbrev pub is_member : Pattern → Bool
is_member member = is_right member && begins_name (spelled_pattern member)

-- a pattern in the grammar whose text isn't empty
abbrev pub is_first : Pattern → Bool
is_first one = is_right one && not (is_empty (spelled_pattern one))

-- one of the six kinds
abbrev pub is_kind : ControlKind → Bool
is_kind ControlKind.NoReset = true
is_kind ControlKind.Reset = true
is_kind ControlKind.NoInitialize = true
is_kind ControlKind.Initialize = true
is_kind ControlKind.NoKeep = true
is_kind ControlKind.Keep = true
is_kind ControlKind.Ordinary = false

-- `any` or a path
abbrev pub is_program : Option Text → Bool
is_program None = true
is_program (Some path) = is_path path

-- `any`, one path, or a domain name
abbrev pub is_side : Option Text → Bool → Bool
is_side None last = not last
is_side (Some path) true = is_path path
is_side (Some name) false = is_domain_name is_path name

abbrev pub is_control : Control → Bool
is_control control =
    is_kind control.kind && (is_program control.program && is_side control.domain control.last)

-- one word or more
abbrev pub is_line : List Text → Bool
is_line [] = false
is_line (word ∷ words) = true

unfoldable pub is_rule : ExceptRule → Bool
is_rule (ExceptRule.PathGroup name member) = is_group name && is_member member
is_rule (ExceptRule.NumberGroup name member) = is_group name && is_range member
is_rule (ExceptRule.AddressGroup name member) = is_group name && is_addr_range member
is_rule (ExceptRule.Aggregator one other) = is_first one && is_path_word other
is_rule (ExceptRule.Control control) = is_control control
is_rule (ExceptRule.Acl n words) = nat_lt n 256 && is_line words

-- a rule of a namespace's own lists, which is no line of an ACL group
abbrev pub is_listed : ExceptRule → Bool
is_listed (ExceptRule.PathGroup name member) = true
is_listed (ExceptRule.NumberGroup name member) = true
is_listed (ExceptRule.AddressGroup name member) = true
is_listed (ExceptRule.Aggregator one other) = true
is_listed (ExceptRule.Control control) = true
is_listed (ExceptRule.Acl n words) = false

-- what the line of an ACL group keeps as it stands are words of a line
abbrev pub keeps_words : ExceptRule → Bool
keeps_words (ExceptRule.PathGroup name member) = true
keeps_words (ExceptRule.NumberGroup name member) = true
keeps_words (ExceptRule.AddressGroup name member) = true
keeps_words (ExceptRule.Aggregator one other) = true
keeps_words (ExceptRule.Control control) = true
keeps_words (ExceptRule.Acl n words) = list_all is_word words
