-- Whether a step fits a state.
use Rattle.std.specs.Prelude.{ℕ, Bool, is_some}
use Rattle.tm_rules.specs.Types.{Policy, Step}
use Rattle.tm_rules.specs.Prelude.{in_domain}
use Rattle.tm_rep.specs.Tomoyo.{tomoyo_grammar}
use Rattle.tm_legal.specs.Prelude.{State, apply}

-- the domain is there with its profile
abbrev pub is_there : Policy → ℕ → Bool
is_there policy d = is_some (in_domain policy d (λ domain profile. domain.name))

-- the step would have a reply
abbrev pub fits_now : State → Step → Bool
fits_now state step = is_some (apply tomoyo_grammar state step).reply
