use Rattle.std.proofs.Common.{sym, ap, ◌∙◌, subst}
use mathlib.Core.List.{IsPrefix}
use Rattle.tm_publish.proofs.Adding.{whole_moves}
use Rattle.tm_publish.proofs.last.Last.meet.Goals as goal

pub compare_exchange-requires : goal.compare_exchange-requires
compare_exchange-requires g c =
    let v = c.args.self.now in
    let now = c.args.now.now in
    let h = v.head_is in
    let offer = c.plain-offer.ensures in
    let learned = c.learn.ensures in
    let book = sym (ap (λ w. w.book) h) in (
      ap (λ w. w.tracked) h,
      learned.0 ∙ (ap (λ s. s.book) c.again-both.ensures ∙ (now.named ∙ book)),
      v.pen_of ∙ book,
      offer.0,
      rw (ap (λ w. w.key) h, offer.3) (whole_moves c.learn.new.self.log c.plain-offer.result.ask v.pen.nib v.may),
    )

pub returns-clause-met : goal.returns-clause-met
returns-clause-met g c =
    let now = c.args.now.now in
    let learned = c.learn.ensures in
    let pre = subst (λ s. IsPrefix s.log c.learn.new.self.log) c.again-both.ensures learned.2 in
    let same = c.compare_exchange.ensures.7.0 now.seen.log pre c.requires.key in
    subst (λ l. IsPrefix c.args.all.now.log l) same learned.3
