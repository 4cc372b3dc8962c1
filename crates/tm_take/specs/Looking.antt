-- What a look shows of a request.
use Rattle.std.specs.Prelude.{ℕ, Option}
use Rattle.tm_rules.specs.Types.{Proc, Request, Verdict}
use Rattle.tm_legal.specs.Prelude.{State, verdict}
use Rattle.tm_grammar.specs.Tomoyo.{tomoyo_grammar}

-- the verdict at a state, where the domain and its profile are there
abbrev pub verdict_at : State → ℕ → Proc → Request → Option Verdict
verdict_at s d process request =
    verdict tomoyo_grammar.is_path s.policy s.queries.attached d process request
