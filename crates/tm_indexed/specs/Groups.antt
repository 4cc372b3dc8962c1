-- A line in its ACL group: what is looked up of it, and what is noted when it is gone.
use Rattle.std.specs.Prelude.{◌≡◌, ℕ, length, List, Option, Some, None}
use Rattle.std.specs.List.{position_from}
use Rattle.tm_word.specs.Prelude.{Text, texts_equal}
use Rattle.tm_rules.specs.Types.{Entry, GroupLine, Namespace}
use Rattle.tm_rules.specs.Prelude.{acl_group, same_line}
use Rattle.tm_index.specs.Listing.{Listed, closed}
use Rattle.tm_indexed.specs.declared.group_lines.InGroup.{InGroup}

-- the places after an entry that has gone move up
abbrev pub closed_if : Option ℕ → Listed → Listed
closed_if None x = x
closed_if (Some place) x = closed place x

-- the place of the namespace of that name
abbrev pub place_named : Text → List Namespace → Option ℕ
place_named name namespaces =
    position_from (λ (ns : Namespace). texts_equal ns.name name) 0 namespaces

-- how many entries the group of a line has in a namespace, and where the one stands that the line
-- shares
pub record IsInGroup (looked : InGroup) (ns : Namespace) (line : GroupLine) : Type 0 where
  pub entries : looked.length ≡ length (acl_group ns line.group)
  pub at : looked.at
      ≡ position_from (λ (entry : Entry). same_line entry line.entry) 0 (acl_group ns line.group)
