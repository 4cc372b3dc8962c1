-- The grammar of this language.
use Rattle.tm_word.specs.Prelude.{joined}
use Rattle.tm_rules.specs.Prelude.{Grammar}
use Rattle.tm_policy_line.specs.Names.{is_path}
use Rattle.tm_policy_line.specs.Entries.{entry_words, is_entry}
use Rattle.tm_policy_line.specs.Reading.{read_line}
use Rattle.tm_trace.specs.Printing.{request_text, attributes_text}

-- policy lines as files write them, entries and requests as lines print them, without the byte that
-- ends a line
abbrev pub tomoyo_grammar : Grammar
tomoyo_grammar =
    record {
      read_line = read_line;
      is_path = is_path;
      print_entry = λ entry. joined (entry_words entry);
      can_write = is_entry;
      print_request = request_text;
      print_attributes = attributes_text;
    }
