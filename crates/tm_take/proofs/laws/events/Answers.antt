use Rattle.tm_take.proofs.TreeEvents.{looks_with, begins_with, ends_when_passed, makes_own, hears, waits_on, looks_once_more, goes_on_alike}
use Rattle.tm_take.proofs.laws.events.Goals as goal

pub returns : goal.returns
returns c =
    record { look = looks_with; first = begins_with; past = ends_when_passed; step = makes_own; answer = hears; waits = waits_on; again = looks_once_more; alike = goes_on_alike }
