-- What a search's answer tells, and where a decision leads.
use Rattle.std.specs.Prelude.{Bool, Option, Some, None, option_map}
use Rattle.tm_word.specs.Prelude.{Text}
use Rattle.tm_rules.specs.Prelude.{Decision, DomainName, Granting, entry_at, is_strict, target_name}
use Rattle.tm_rules.specs.Types.{Domain, Found, Namespace, Policy}
use Rattle.tm_legal.specs.Prelude.{is_ready, made, move_to}
use Rattle.tm_verdict.specs.declared.targets.Way.{Way}

-- the entry that a search found, by its place
abbrev pub granting_at : Namespace → Domain → Option Found → Option Granting
granting_at ns domain None = None
granting_at ns domain (Some found) =
    option_map (λ entry. record { place = found.place; entry = entry; name = found.name })
    (entry_at ns domain found.place)

module _ (is_path : Text → Bool) where
  -- whether a target can be entered, and how
  abbrev pub way_to : Policy → Domain → Bool → Option DomainName → Way
  way_to policy domain strict target =
      record {
        ready = is_ready is_path policy domain target;
        strict = strict;
        leads = record {
          step = move_to is_path policy domain target;
          target = made (move_to is_path policy domain target) target;
        };
      }

  -- where a decision leads
  abbrev pub way_by : Policy → Domain → Text → Decision → Way
  way_by policy domain program decided =
      way_to policy domain (is_strict decided) (target_name domain.name program decided)
