-- One query more has its answer, or none is left.
use Rattle.std.proofs.Common.{◌≡◌, ◌≤◌, ◌<◌, true≢false, length, Some, refl, sym, ap, ◌∙◌, arith, inl, inr}
use Rattle.tm_rules.specs.Types.{Book}
use Rattle.tm_desk.specs.Desks.{desk_book}
use Rattle.tm_publish.specs.Words.{known}
use Rattle.tm_serve.proofs.Turns.{some_of, none_of, starts, goes_on, waits}
use Rattle.tm_serve.proofs.serving.answer_all.Goals as goal

pub loop-init : goal.loop-init
loop-init g c =
    (tt, tt, (λ xs has. has), refl, starts g.H.Hall.first_at g.H.DeskHall.answer (desk_book c.args.desk.now) c.args.pass.now)

pub loop-preserved : goal.loop-preserved
loop-preserved g c =
    let inv = c.loop.invariant in
    let next = c.in_ok-next.ensures in
    let book = desk_book c.args.desk.now in
    let one = some_of c.in_ok-next.next c.in-Some-next.number _ _ c.in-Some-next.is next.next in
    let unreached : ¬ (book.stop ≡ Some c.loop.count) = λ e. true≢false (sym (c.is_enough.ensures.1 (ap (λ (b : Book). b.stop) c.book.ensures ∙ e)) ∙ c.if-is_enough.false) in (
      tt,
      tt,
      (λ xs has. next.knows xs (inv.2 xs has)),
      next.opening ∙ inv.3,
      rw c.one_more-more.ensures (goes_on g.H.Hall.first_at g.H.DeskHall.answer book c.args.pass.now c.loop.pass c.answer_next.new.pass c.loop.count c.in-Some-next.number inv.3 unreached inv.4 one),
    )

pub one_more-more-requires : goal.one_more-more-requires
one_more-more-requires g c =
    let one = some_of c.in_ok-next.next c.in-Some-next.number _ _ c.in-Some-next.is c.in_ok-next.ensures.next in
    let above : length (known c.loop.pass) < c.in-Some-next.number = one.after in
    let short : c.loop.count ≤ length (known c.loop.pass) = c.loop.invariant.4.short in
    omega arith

pub returns-in-None-next-clause-serving : goal.returns-in-None-next-clause-serving
returns-in-None-next-clause-serving g c =
    let none = none_of c.in_ok-next.next _ _ c.in-None-next.is c.in_ok-next.ensures.next in
    waits g.H.Hall.first_at g.H.DeskHall.answer (desk_book c.args.desk.now) g.H.Hall.over_at c.args.pass.now c.loop.pass c.answer_next.new.pass c.loop.count c.loop.invariant.4 none

pub returns-in-None-next-clause-due : goal.returns-in-None-next-clause-due
returns-in-None-next-clause-due g c =
    let none = none_of c.in_ok-next.next _ _ c.in-None-next.is c.in_ok-next.ensures.next in
    inr (λ p e. none.over p (c.loop.invariant.3 ∙ e))

pub returns-in-None-next-clause-knows : goal.returns-in-None-next-clause-knows
returns-in-None-next-clause-knows g c xs has = c.in_ok-next.ensures.knows xs (c.loop.invariant.2 xs has)

pub returns-in-None-next-clause-opening : goal.returns-in-None-next-clause-opening
returns-in-None-next-clause-opening g c = c.in_ok-next.ensures.opening ∙ c.loop.invariant.3

pub returns-in_err-next-clause-knows : goal.returns-in_err-next-clause-knows
returns-in_err-next-clause-knows g c xs has = c.in_err-next.ensures.knows xs (c.loop.invariant.2 xs has)

pub returns-in_err-next-clause-opening : goal.returns-in_err-next-clause-opening
returns-in_err-next-clause-opening g c = c.in_err-next.ensures.opening ∙ c.loop.invariant.3

pub returns-then-is_enough-clause-serving : goal.returns-then-is_enough-clause-serving
returns-then-is_enough-clause-serving g c = c.loop.invariant.4

pub returns-then-is_enough-clause-due : goal.returns-then-is_enough-clause-due
returns-then-is_enough-clause-due g c =
    inl (sym (ap (λ (b : Book). b.stop) c.book.ensures) ∙ c.is_enough.ensures.0 c.if-is_enough.true)

pub returns-then-is_enough-clause-knows : goal.returns-then-is_enough-clause-knows
returns-then-is_enough-clause-knows g c = c.loop.invariant.2

pub returns-then-is_enough-clause-opening : goal.returns-then-is_enough-clause-opening
returns-then-is_enough-clause-opening g c = c.loop.invariant.3
