-- The step fits what the pass knows, and so whatever it goes on to.
use Rattle.std.proofs.Common.{◌≡◌, List, [], ◌∷◌, ◌++◌, true, suc, ◌+◌, length, sym, ap, ◌∙◌, subst, arith}
use Rattle.std.proofs.lemmas.Result.{IfOk-weaker}
use Rattle.tm_rules.specs.Types.{Made, Start}
use Rattle.std.specs.Prelude.{Some}
use Rattle.tm_grammar.specs.Tomoyo.{tomoyo_grammar}
use Rattle.tm_made.proofs.Telling.{told-reply}
use Rattle.tm_machine.specs.Office.{fits_at, fits_at_stays}
use Rattle.tm_publish.specs.Words.{home, known}
use Rattle.tm_tests_machine.specs.Steps.{IsMade}
use Rattle.tm_tests_machine.proofs.steps.settle_that_fits.Goals as goal

pub settle-requires : goal.settle-requires
settle-requires g c =
    let old = known c.args.pass.now in
    record {
      fits = λ p ys on.
          let begins = on.begins old c.seen.ensures.known in
          subst (λ (list : List Made). fits_at p list c.args.made ≡ true) begins.1
          (fits_at_stays p old begins.0 c.args.made (c.requires.fits p on.opened));
    }

pub returns-clause-settled : goal.returns-clause-settled
returns-clause-settled g c =
    let old = known c.args.pass.now in
    IfOk-weaker c.settle.result _ (λ s. (p : Start) → home c.args.pass.now ≡ Some p → IsMade p c.args.pass.now c.settle.new.pass c.args.made s.number s.reply)
    (λ s done p e.
    let begins = done.begins old c.seen.ensures.known in
    let fits : fits_at p done.before c.args.made ≡ true =
    subst (λ (list : List Made). fits_at p list c.args.made ≡ true) begins.1
    (fits_at_stays p old begins.0 c.args.made (c.requires.fits p e)) in
    record {
      before = done.before;
      begins = done.begins;
      knows = done.knows;
      numbered = done.numbered;
      own = done.made;
      replied = told-reply tomoyo_grammar p done.before _ c.args.made _ _ done.knows (done.numbered ∙ (let n : length done.before + 1 ≡ suc (length done.before) = omega arith in n)) fits (done.replied p e);
    })
    c.settle.ensures.settled
