use Rattle.std.proofs.Common.{◌≡◌, subst}
use Rattle.std.specs.Prelude.{Option, Some, IfOk}
use Rattle.tm_rules.specs.Types.{Start}
use Rattle.tm_publish.specs.Words.{known}
use Rattle.tm_replay.specs.Seats.{IsLookAt}
use Rattle.tm_replay.proofs.looks.look.Goals as goal

pub returns-in-Some-look_once-clause-judged : goal.returns-in-Some-look_once-clause-judged
returns-in-Some-look_once-clause-judged g c =
    subst (λ (opened : Option Start). IfOk c.in-Some-look_once.found (λ j. (p : Start) → opened ≡ Some p → IsLookAt p (known c.look_once.new.pass) c.args.domain c.args.process.now c.args.request.now j.0 j.1))
    c.loop.invariant.4
    c.in-Some-look_once.ensures.judged
