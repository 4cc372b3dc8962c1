use Rattle.std.proofs.Common.{◌≡◌, List}
use Rattle.tm_desk.specs.Desks.{desk_book}
use Rattle.tm_publish.specs.Words.{home, HasSeen}
use Rattle.tm_serve.specs.Serving.{IsServing}
use Rattle.tm_serve.proofs.serving.answer_all.Given as goal

-- so many queries were answered so far
abbrev pub invariant-loop : goal.invariant-loop
invariant-loop g l =
    (goal.iterator-loop g).can_next l.iterator' × (goal.iterator-loop g).is_finite l.iterator'
    × ((xs : List g.row.H-Step.Denot) → HasSeen l.fn.pass xs → HasSeen l.pass xs)
    × (home l.pass ≡ home l.fn.pass)
    × IsServing g.H.Hall.first_at g.H.DeskHall.answer (desk_book l.desk) l.fn.pass l.pass l.count
