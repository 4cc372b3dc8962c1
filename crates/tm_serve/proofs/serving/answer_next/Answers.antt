-- The answer is for the query of the version that was waited for.
use Rattle.tm_desk.specs.Desks.{desk_book}
use Rattle.tm_serve.proofs.Turns.{answered, waited}
use Rattle.tm_serve.proofs.serving.answer_next.Goals as goal

pub returns-in_ok-number-in-Some-clause-next : goal.returns-in_ok-number-in-Some-clause-next
returns-in_ok-number-in-Some-clause-next g c =
    answered g.H.Hall.first_at g.H.DeskHall.answer (desk_book c.args.desk.now) g.H.Office.fits g.H.Hall.over_at c.args.pass.now c.await_first.new.pass c.answer_query.new.pass c.in_ok-first.first c.in-Some.query c.in_ok-number-in-Some.number
    c.in_ok-first.ensures.made c.in_ok-first.ensures.begins c.in_ok-first.ensures.first c.in-Some.is c.in_ok-number-in-Some.ensures.made

pub returns-in-None-clause-next : goal.returns-in-None-clause-next
returns-in-None-clause-next g c =
    waited g.H.Hall.first_at g.H.DeskHall.answer (desk_book c.args.desk.now) g.H.Office.fits g.H.Hall.over_at c.args.pass.now c.await_first.new.pass c.in_ok-first.first
    c.in_ok-first.ensures.made c.in_ok-first.ensures.begins c.in_ok-first.ensures.first c.in-None.is

pub returns-in_err-number-in-Some-clause-knows : goal.returns-in_err-number-in-Some-clause-knows
returns-in_err-number-in-Some-clause-knows g c xs has = c.in_err-number-in-Some.ensures.knows xs (c.in_ok-first.ensures.knows xs has)
