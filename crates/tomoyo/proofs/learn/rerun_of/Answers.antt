use Rattle.std.proofs.Common.{◌≡◌, ◌∙◌, sym, subst}
use Rattle.std.specs.Prelude.{None}
use Rattle.tm_rules.specs.Prelude.{IsFew}
use Rattle.tm_rules.specs.Types.{Policy}
use Rattle.tm_run_laws.specs.Tomoyo.{tomoyo_grammar}
use Rattle.tm_legal.specs.Prelude.{CanPlay, alone, switched}
use Rattle.tm_gen_laws.specs.Reading.{homeless}
use Rattle.tomoyo.specs.Rerun.{again, IsPlayAlone}
use Rattle.tomoyo.proofs.Rerunning.{few-switched, all-at-home, can-rerun, homes-kept, rerun-so}
use Rattle.tomoyo.proofs.learn.rerun_of.Goals as goal

pub new-requires : goal.new-requires
new-requires g c = subst IsFew (sym c.in_ok-policy.ensures) (few-switched c.args.last.now c.requires.few)

pub play_alone-requires-clause-few : goal.play_alone-requires-clause-few
play_alone-requires-clause-few g c =
    let is : c.in_ok-enforcing.enforcing ≡ switched c.args.last.now = c.in_ok-enforcing.ensures ∙ c.in_ok-policy.ensures in
    subst IsFew (sym is) (few-switched c.args.last.now c.requires.few)

pub play_alone-requires-clause-can : goal.play_alone-requires-clause-can
play_alone-requires-clause-can g c =
    let is : c.in_ok-enforcing.enforcing ≡ switched c.args.last.now = c.in_ok-enforcing.ensures ∙ c.in_ok-policy.ensures in
    let none : homeless c.in_ok-enforcing.enforcing c.args.trace ≡ None = all-at-home c.in_ok-enforcing.enforcing c.args.trace c.as_slice.result.now c.homeless.result c.homeless.ensures c.as_slice.ensures (sym c.if-is_some.ensures) in
    let homes : homeless c.args.last.now c.args.trace ≡ None = sym (homes-kept c.args.last.now c.in_ok-enforcing.enforcing c.args.trace c.switched_domains.ensures.live is) ∙ none in
    subst (λ (policy : Policy). CanPlay (alone tomoyo_grammar policy c.args.trace)) (sym is)
    (can-rerun c.args.last.now c.args.trace c.switched_stays_opened.ensures c.switched_domains.ensures.domains c.switched_domains.ensures.live c.requires.can homes)

pub returns : goal.returns
returns g c =
    let how = c.args.how in
    let is : c.in_ok-enforcing.enforcing ≡ switched c.args.last.now = c.in_ok-enforcing.ensures ∙ c.in_ok-policy.ensures in
    let none : homeless c.in_ok-enforcing.enforcing c.args.trace ≡ None = all-at-home c.in_ok-enforcing.enforcing c.args.trace c.as_slice.result.now c.homeless.result c.homeless.ensures c.as_slice.ensures (sym c.if-is_some.ensures) in
    let homes : homeless c.args.last.now c.args.trace ≡ None = sym (homes-kept c.args.last.now c.in_ok-enforcing.enforcing c.args.trace c.switched_domains.ensures.live is) ∙ none in
    let plays : IsPlayAlone how (again c.args.last.now c.args.trace) c.in_ok-again.again c.in_ok-again.ended =
    subst (λ (policy : Policy). IsPlayAlone how (alone tomoyo_grammar policy c.args.trace) c.in_ok-again.again c.in_ok-again.ended) is c.in_ok-again.ensures in
    rerun-so how c.args.last.now c.args.trace c.args.run.now c.in_ok-again.again c.in_ok-again.ended c.in_ok-texts.texts homes plays c.in_ok-texts.ensures
