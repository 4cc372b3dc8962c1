use Rattle.std.proofs.Common.{◌≡◌, sym, subst}
use Rattle.std.specs.Prelude.{IfOk}
use Rattle.tm_machine.specs.Tomoyo.{tomoyo_grammar}
use Rattle.tm_machine.proofs.IsOne.{is_one}
use Rattle.tm_legal.specs.Prelude.{IsNamed, State, opening}
use Rattle.tm_legal.proofs.Named.{steps_keep_names}
use Rattle.tm_core.specs.Judging.{judged}
use Rattle.tm_machine.specs.Machine.{steps_made}
use Rattle.tm_machine.proofs.Offices.{course-state}
use Rattle.tm_replay.proofs.looks.judge_at.Goals as goal

pub judge-requires-clause-named : goal.judge-requires-clause-named
judge-requires-clause-named g c =
    subst (λ (s : State). IsNamed tomoyo_grammar.is_path s.policy) (sym c.versions.ensures.after)
    (steps_keep_names tomoyo_grammar (opening c.args.machine.now.start) (steps_made c.args.machine.now) is_one c.requires.named)

pub returns : goal.returns
returns g c =
    subst (λ (s : State). IfOk c.judge.result (λ found. found ≡ judged s c.args.domain c.args.process.now c.args.request.now))
    (sym (course-state c.args.machine.now c.versions.ensures.after))
    c.judge.ensures
