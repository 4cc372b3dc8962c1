-- What `print` gives of the files.
use Rattle.std.specs.Prelude.{ℕ, [], ◌∷◌, ◌++◌, codes, decimal}
use Rattle.tm_word.specs.Prelude.{Text}
use Rattle.tm_rules.specs.Types.{Policy}
use Rattle.tm_verify.specs.Counts.{counted}
use Rattle.tm_text.specs.DomainText.{domain_text}
use Rattle.tm_text.specs.ExceptionText.{exception_text}
use Rattle.tm_text.specs.ManagerText.{manager_text}
use Rattle.tm_text.specs.ProfileText.{profile_text}
use Rattle.tomoyo.specs.declared.play.Printed.{Printed}

-- the line of these counts
abbrev pub counts_line : ℕ × ℕ → Text
counts_line counts = codes "domains " ++ decimal counts.0 ++ codes " entries " ++ decimal counts.1 ++ 10 ∷ []

-- how many domains of a policy are live, and how many entries these have, as a line
abbrev pub counts_text : Policy → Text
counts_text policy = counts_line (counted policy)

-- the printed files of a policy
abbrev pub printed_policy : Policy → Printed
printed_policy policy =
    record {
      profile = profile_text policy;
      exception = exception_text policy;
      domain = domain_text policy;
      manager = manager_text policy;
    }
