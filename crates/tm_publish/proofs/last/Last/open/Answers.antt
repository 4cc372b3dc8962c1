use Rattle.std.proofs.Common.{length, sym, ap, ◌∙◌}
use Rattle.tm_publish.proofs.Adding.{begins_all}
use Rattle.tm_publish.proofs.last.Last.open.Goals as goal

pub compare_exchange-found-requires : goal.compare_exchange-found-requires
compare_exchange-found-requires g c =
    let h = c.requires.head in
    let offer = c.plain-offer.ensures in
    let none = c.no_pen-none.ensures in
    let same = c.again-next.ensures in
    let book = ap (λ s. s.book) same ∙ (c.requires.named ∙ sym (ap (λ w. w.book) h)) in (
      ap (λ w. w.tracked) h,
      book,
      none.0 ∙ book,
      offer.0,
      rw (ap (λ w. w.key) h, none.1, offer.3) (begins_all c.again-next.result.log c.plain-offer.result.ask (ap (λ s. length s.log) same ∙ ap length c.requires.empty)),
    )
