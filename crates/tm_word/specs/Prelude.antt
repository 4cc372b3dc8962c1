-- The definitions of words and texts, passed on from one place. Declares nothing.
pub use Rattle.tm_word.specs.Closed.{begins_row, name_of, named, of_word, or_else, row_of}
pub use Rattle.tm_word.specs.Gives.{Fails, FailsNow, Gives, GivesNow, ◌>>=◌}
pub use Rattle.tm_word.specs.Match.{AllAre, Match, MatchesComponent, MatchesComponents, MatchesDecides, MatchesPart, MayRepeat, StandsFor}
pub use Rattle.tm_word.specs.Matching.{after_any, after_one, after_some, components, ends_blank, ends_in_slash, is_blank, is_digit, is_empty, is_folder, is_hex, is_letter, is_once, left_by_component}
unfoldable pub use Rattle.tm_word.specs.Matching.{component_matches, components_match, left_by, matches, part_matches}
unfoldable pub use Rattle.tm_word.specs.Patterns.{IsKept, IsNoLiteral, components_of}
pub use Rattle.tm_word.specs.Printing.{closing, component_bytes, element_bytes, is_byte, is_plain, literal_component, opening, spelled_component, spelled_element, spelled_minus, spelled_part}
unfoldable pub use Rattle.tm_word.specs.Printing.{is_literal, literal, literal_word, spelled_pattern}
pub use Rattle.tm_word.specs.Spelling.{BeginsWith, HasBadByte, HasBadEscape, IsHead, IsOctal, IsSpelledUpTo, IsWordFault, after_head, are_bytes, are_own_spellings, escape_of, if_read, is_octal, is_own_spelling, is_separator, joined, octal_head, octal_of, octal_value, spell, spelling_of, word_cause, word_from}
unfoldable pub use Rattle.tm_word.specs.Spelling.{head_of, spelled_word, word_of, words_of}
pub use Rattle.tm_word.specs.Texts.{IsCut, after, begins, begins_with_byte, if_word, is_solid, is_word, lines_of, lists_equal, pieces, texts_equal}
unfoldable pub use Rattle.tm_word.specs.Texts.{words_left}
pub use Rattle.tm_word.specs.Words.{Part, Pattern, Text, Word}
