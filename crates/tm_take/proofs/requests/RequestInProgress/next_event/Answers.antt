use Rattle.std.proofs.Common.{rules, ◌≡◌, false}
use Rattle.tm_word.specs.Prelude.{is_empty}
use Rattle.tm_legal.specs.Prelude.{Stage}
use Rattle.tm_take.specs.Taking.{owed_steps}
use Rattle.tm_take.proofs.Walking.{owes_one}
use Rattle.tm_take.proofs.requests.RequestInProgress.next_event.Goals as goal

pub returns-else-is_nothing : goal.returns-else-is_nothing
returns-else-is_nothing c =
    let some : is_empty (owed_steps c.in-Steps.owed) ≡ false = search rules in
    let stage : c.args.self.now.stage ≡ Stage.Owing (owed_steps c.in-Steps.owed) = search rules in
    owes_one c.args.self.now.stage (owed_steps c.in-Steps.owed) stage some
