-- Which requests the arguments of a network, environment or task line are for.
use Rattle.std.specs.Prelude.{Option, None, Some, if◌then◌else◌}
use Rattle.tm_word.specs.Prelude.{Pattern, Word, matches}
use Rattle.tm_rules.specs.Types.{Args, Groups, NamePlace}
use Rattle.tm_rules.specs.Prelude.{args_grant}

-- the arguments of a `network`, `misc` or `task` line by the rule of all lines; every other line is
-- for no such request
abbrev pub net_args_grant : Groups → Args → Args → Option NamePlace
net_args_grant g (Args.Inet kind addr port) asked = args_grant g (Args.Inet kind addr port) asked
net_args_grant g (Args.Unix kind n) asked = args_grant g (Args.Unix kind n) asked
net_args_grant g (Args.Env n) asked = args_grant g (Args.Env n) asked
net_args_grant g (Args.Manual domain) asked = args_grant g (Args.Manual domain) asked
net_args_grant g _ asked = None

-- an environment name that the pattern matches
abbrev pub env_grant : Pattern → Option Word → Option NamePlace
env_grant pattern None = None
env_grant pattern (Some name) = if matches pattern name then Some NamePlace.Own else None
