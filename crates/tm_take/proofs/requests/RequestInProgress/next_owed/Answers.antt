use Rattle.std.proofs.Common.{rules, ◌∙◌, ap}
use Rattle.tm_legal.specs.Prelude.{InProgress, Stage}
use Rattle.tm_take.specs.Taking.{owed_steps}
use Rattle.tm_take.proofs.requests.RequestInProgress.next_owed.Goals as goal

pub returns : goal.returns
returns c =
    record {
      rest = owed_steps c.in_ok-step.left;
      owing = search rules;
      is_left = c.awaiting-next.ensures ∙ ap (λ (b : InProgress). record b { stage = Stage.Owing (owed_steps c.in_ok-step.left) }) c.take_awaited-awaited.ensures.left;
    }
