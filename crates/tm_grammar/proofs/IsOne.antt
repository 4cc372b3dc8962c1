-- The grammar of this language is one as the laws of policies and runs ask for.
use Rattle.tm_rules.specs.Prelude.{IsGrammar}
use Rattle.tm_policy_line.proofs.LearnedLaws.{learned_is}
use Rattle.tm_policy_line.proofs.ReadLaws.{chosen_right}
use Rattle.tm_grammar.specs.Tomoyo.{tomoyo_grammar}
use Rattle.tm_grammar.proofs.ReadRules.{leads_to_path, group_is_read, kernel_stays}
use Rattle.tm_grammar.proofs.QuietLines.{quiet_read}

pub is_one : IsGrammar tomoyo_grammar
is_one =
    record {
      learned = learned_is;
      aggregators = leads_to_path;
      groups = group_is_read;
      names = chosen_right;
      quiet = quiet_read;
      kernel_stays = kernel_stays;
    }
