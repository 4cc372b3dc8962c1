use Rattle.std.proofs.Common.{rules, ◌≡◌}
use Rattle.tm_core.specs.Judging.{judged}
use Rattle.tm_verify.proofs.SeenLaws.{seen_made}
use Rattle.tm_verify.proofs.judging.judge_look.Goals as goal

pub returns : goal.returns
returns g c =
    let s = c.args.pass.now.machine.state in
    let same : c.args.pass.now.version ≡ c.args.look.now.version = search rules in
    let found : c.in_ok-found.found ≡ judged s c.args.case.now.taken.before c.args.case.now.now.process c.args.case.now.request = search rules in
    seen_made c.args.given.now c.args.case.now c.args.look.now s c.args.pass.now.version c.in_ok-found.found c.note_beside-note.result c.requires.at.state same found c.note_beside-note.ensures
