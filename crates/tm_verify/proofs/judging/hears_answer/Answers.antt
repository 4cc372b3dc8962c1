use Rattle.std.proofs.Common.{rules, ◌≡◌, ◌≤◌, ◌↔◌, true, Some, length}
use Rattle.tm_rules.specs.Prelude.{answer_of}
use Rattle.tm_verify_notes.specs.Given.{scene_of, history_of}
use Rattle.tm_verify.proofs.SeenLaws.{hears_is, at_version}
use Rattle.tm_verify.proofs.judging.hears_answer.Goals as goal

pub returns : goal.returns
returns g c =
    let same : c.args.pass.now.version ≡ c.args.version = search rules in
    let low : c.args.number ≤ c.args.version = search rules in
    let high : c.args.version ≤ length (history_of c.args.given.now) = search rules in
    let answered : (c.same.result ≡ true) ↔ (answer_of c.args.pass.now.machine.state.queries c.args.serial ≡ Some c.args.answer) = search rules in
    hears_is (scene_of c.args.given.now) (history_of c.args.given.now) c.args.pass.now.machine.state c.args.number c.args.serial c.args.version c.args.answer c.same.result
    (at_version (scene_of c.args.given.now) (history_of c.args.given.now) c.args.pass.now.machine.state c.args.pass.now.version c.args.version c.requires.at.state same) low high answered
