use Rattle.std.proofs.Common.{◌≡◌, ◌+◌, Some, refl}
use Rattle.std.specs.Prelude.{slice_get}
use Rattle.tm_verify_notes.specs.Given.{history_of}
use Rattle.tm_verify_steps.proofs.PlaceLaws.{here_at}
use Rattle.tm_verify.proofs.PassLaws.{one_more}
use Rattle.tm_verify.proofs.pass.Pass.advance.Goals as goal

pub returns : goal.returns
returns g c =
    let h = history_of c.args.given.now in
    let pair = c.in-Some.field-0.now in
    let at = c.in-Some.ensures.lookup in
    let there : slice_get h c.args.self.now.version ≡ Some pair = here_at h c.args.self.now.version pair at.3.0 at.1 in
    one_more c.args.given.now c.args.self.now (record { machine = c.make_noted.new.machine; version = c.args.self.now.version + 1; notes = c.push.new.self }) pair.0 pair.1 c.in_ok-note.note c.requires there refl c.in_ok-note.ensures.state c.in_ok-push.ensures.items c.in_ok-note.ensures.note
