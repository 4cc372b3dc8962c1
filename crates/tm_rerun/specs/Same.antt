-- The names of the domains that a take is in.
use Rattle.std.specs.Prelude.{Option}
use Rattle.tm_rules.specs.Prelude.{DomainName}
use Rattle.tm_rules.specs.Types.{Policy, Take}
use Rattle.tm_legal.specs.Prelude.{name_at}

-- before and after a take, as the final policy of its run gives them
abbrev pub take_names : Policy → Take → Option DomainName × Option DomainName
take_names final t = (name_at final t.before, name_at final t.after)
