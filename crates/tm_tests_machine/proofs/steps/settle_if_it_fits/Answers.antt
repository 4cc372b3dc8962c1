-- The step is made after all that the pass had seen before the look.
use Rattle.std.proofs.Common.{[], ◌∷◌, ◌++◌, ap, ◌∙◌}
use Rattle.tm_tests_machine.proofs.steps.settle_if_it_fits.Goals as goal

pub returns-in-Ok-clause-settled : goal.returns-in-Ok-clause-settled
returns-in-Ok-clause-settled g c p e =
    let done = c.in-Ok.ensures.settled p (c.may_settle.ensures.opening ∙ e) in
    record {
      before = done.before;
      begins = λ xs has. done.begins xs (c.may_settle.ensures.knows xs has);
      knows = done.knows;
      numbered = done.numbered;
      own = done.own ∙ ap (λ ns. ns ++ c.in-Ok.settled.number ∷ []) c.may_settle.ensures.made;
      replied = done.replied;
    }
