use Rattle.std.proofs.Common.{◌≡◌, List}
use Rattle.tm_rules.specs.Types.{Made}
use Rattle.tm_publish.specs.Words.{home, HasSeen, made_of}
use Rattle.tm_replay.proofs.looks.look.Given as goal

abbrev pub invariant-loop : goal.invariant-loop
invariant-loop g l =
    (goal.iterator-loop g).can_next l.iterator' × (goal.iterator-loop g).is_finite l.iterator'
    × ((xs : List Made) → HasSeen l.fn.pass xs → HasSeen l.pass xs)
    × (made_of l.pass ≡ made_of l.fn.pass)
    × (home l.pass ≡ home l.fn.pass)
