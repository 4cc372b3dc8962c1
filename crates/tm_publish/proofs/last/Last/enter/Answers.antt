use Rattle.std.proofs.Common.{◌+◌, ◌++◌, ◌∷◌, [], ℕ, length, sym, ap, ◌∙◌, subst, length-append}
use mathlib.Core.List.{IsPrefix}
use Rattle.tm_publish.specs.declared.event.Event.TheVariants.{Made}
use Rattle.tm_publish.specs.History.{next_key, steps_of}
use Rattle.tm_publish.proofs.Adding.{adds_moves}
use Rattle.tm_publish.proofs.Prefixes.{prefix_self, next_key-append, steps_of-append}
use Rattle.tm_publish.proofs.last.Last.enter.Goals as goal

pub compare_exchange-requires : goal.compare_exchange-requires
compare_exchange-requires g c =
    let v = c.args.self.now in
    let now = c.args.now.now in
    let h = v.head_is in
    let offer = c.plain-offer.ensures in
    let same = c.again-next.ensures in
    let book = sym (ap (λ w. w.book) h) in
    let pre = subst (λ s. IsPrefix now.seen.log s.log) (sym same) (prefix_self now.seen.log) in (
      ap (λ w. w.tracked) h,
      ap (λ s. s.book) same ∙ (now.named ∙ book),
      v.pen_of ∙ book,
      offer.0,
      rw (ap (λ w. w.key) h, offer.3) (adds_moves now.seen.log c.again-next.result.log c.plain-offer.result.ask v.pen.nib (now.version + 1) now.whole pre v.may c.requires.key),
    )

pub of_seen-requires-clause-counted : goal.of_seen-requires-clause-counted
of_seen-requires-clause-counted g c =
    let now = c.args.now.now in
    let step = c.args.step.now in
    let one = Made step c.new_pen-fresh.result.nib.key ∷ [] in
    let log = c.compare_exchange.ensures.7.1 ∙ (ap (λ e. c.again-next.result.log ++ e ∷ []) c.plain-offer.ensures.1 ∙ ap (λ s. s.log ++ one) c.again-next.ensures) in
    sym (ap (λ l. length (steps_of l)) log ∙ (ap length (steps_of-append now.seen.log one) ∙ (length-append (steps_of now.seen.log) (step ∷ []) ∙ ap (λ (n : ℕ). n + 1) (sym now.counted))))

pub returns-clause-key : goal.returns-clause-key
returns-clause-key g c =
    let now = c.args.now.now in
    let step = c.args.step.now in
    let one = Made step c.new_pen-fresh.result.nib.key ∷ [] in
    let log = c.compare_exchange.ensures.7.1 ∙ (ap (λ e. c.again-next.result.log ++ e ∷ []) c.plain-offer.ensures.1 ∙ ap (λ s. s.log ++ one) c.again-next.ensures) in
    sym (ap (λ s. next_key s.log) c.of_seen.ensures.0 ∙ (ap next_key log ∙ next_key-append now.seen.log step c.new_pen-fresh.result.nib.key))
