-- By what an entry is found: the literal that its first name argument is, its stem, and a text of
-- its line.
use Rattle.std.specs.Prelude.{◌++◌}
use Rattle.tm_word.specs.Prelude.{Text, joined}
use Rattle.tm_line.specs.Lines.{spaced}
use Rattle.tm_line.specs.Printing.{name_spelling}
use Rattle.tm_rules.specs.Types.{Args, Entry, Perms}
use Rattle.tm_entry.specs.Reading.{cond_words}
use Rattle.tm_entry.specs.Entries.{acl_words}
use Rattle.tm_index.specs.Names.{literal_of}
use Rattle.tm_index.specs.Stems.{stem_of}
use Rattle.tm_index.specs.declared.label.Label.{Label}

-- a permission, so that lines of one kind are printed alike
abbrev pub one_permission : Perms
one_permission = record { bits = 1 }

-- what equal arguments share: the spelling of a single path, the words of any other line
abbrev pub args_key : Args → Text
args_key (Args.Path name) = name_spelling name
args_key args = joined (acl_words args one_permission)

-- and the words of the condition
unfoldable pub line_key : Entry → Text
line_key entry = args_key entry.args ++ spaced (cond_words entry.cond)

-- what an entry is found by
unfoldable pub label_of : Entry → Label
label_of entry =
    record { name = literal_of entry.args; stem = stem_of entry.args; key = line_key entry }
