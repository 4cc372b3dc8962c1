use Rattle.tm_except.proofs.PrintedWords.{rule_are, listed_are, line_joined, text_first}
use Rattle.tm_except.proofs.KeptWords.{line_kept}
use Rattle.tm_except.proofs.printing.printed_words.Goals as goal

pub returns : goal.returns
returns c = record {
  words = rule_are;
  listed = listed_are;
  kept = line_kept;
  joined = line_joined;
  text = text_first;
}
