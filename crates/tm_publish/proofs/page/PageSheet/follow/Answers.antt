use Rattle.std.proofs.Common.{rules, ◌≡◌, ◌++◌, ◌∷◌, [], Some, sym, ap, ◌∙◌, subst}
use Rattle.tm_publish.specs.declared.event.Event.TheVariants.{Made}
use Rattle.tm_publish.specs.History.{opening_of, steps_of}
use Rattle.tm_publish.proofs.Fits.{fitted_same, fitted_more}
use Rattle.tm_publish.proofs.Prefixes.{steps_of-append, opening_more}
use Rattle.tm_publish.proofs.page.PageSheet.follow.Goals as goal

pub invariant_of-self-2 : goal.invariant_of-self-2
invariant_of-self-2 g c =
    let v = c.args.self.now in
    let s = c.args.step.now in
    let one = Made s c.requires.front.0 ∷ [] in
    let log = ap (λ s. s.log) c.twin.ensures.0 ∙ c.requires.front.1 in
    let p = g.O.Office.opening v.office in
    let xs = g.O.Office.steps v.office in
    let fit : g.O.Office.fits p xs s = subst (λ ys. g.O.Office.fits p ys s) v.listed (c.requires.fits p v.opened) in
    record {
      opened = ap opening_of log ∙ (opening_more v.front.seen.log one v.front.opened ∙ (v.opened ∙ ap Some (sym c.apply.ensures.opening)));
      listed = ap steps_of log ∙ (steps_of-append v.front.seen.log one ∙ (ap (λ l. l ++ s ∷ []) v.listed ∙ sym c.in_ok-apply.ensures.steps));
      fitted = fitted_more g.O.Office.fits p (g.O.Office.opening c.apply.new.self) xs (g.O.Office.steps c.apply.new.self) s c.apply.ensures.opening c.in_ok-apply.ensures.steps fit v.fitted;
    }

pub invariant_of-self : goal.invariant_of-self
invariant_of-self g c =
    let v = c.args.self.now in
    let opening = c.apply.ensures.opening in
    let steps : g.O.Office.steps c.apply.new.self ≡ g.O.Office.steps v.office = search rules in
    record {
      opened = v.opened ∙ ap Some (sym opening);
      listed = v.listed ∙ sym steps;
      fitted = fitted_same g.O.Office.fits (g.O.Office.opening v.office) (g.O.Office.opening c.apply.new.self) (g.O.Office.steps v.office) (g.O.Office.steps c.apply.new.self) opening steps v.fitted;
    }
