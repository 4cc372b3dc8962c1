use Rattle.std.proofs.Common.{sym, ap, ◌∙◌}
use Rattle.tm_publish.proofs.Adding.{grows_moves}
use Rattle.tm_publish.proofs.last.new_pen.Goals as goal

pub compare_exchange-requires : goal.compare_exchange-requires
compare_exchange-requires g c =
    let h = c.requires.head in
    let offer = c.plain-offer.ensures in
    let book = ap (λ s. s.book) c.again-next.ensures ∙ sym (ap (λ w. w.book) h) in (
      ap (λ w. w.tracked) h,
      book,
      c.no_pen-pen.ensures.0 ∙ book,
      offer.0,
      rw (ap (λ w. w.key) h, offer.3 ∙ c.requires.plain) (grows_moves c.again-next.result.log c.plain-offer.result.ask c.no_pen-pen.result.nib),
    )
