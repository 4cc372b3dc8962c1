use Rattle.std.proofs.Common.{◌∙◌}
use Rattle.tm_publish.specs.Words.{known, made_of}
use Rattle.tm_seat.proofs.Opening.{begins-further}
use Rattle.tm_replay.proofs.Playing.{if-ok, goes-back, editor-done}
use Rattle.tm_replay.proofs.job.run_editor.Goals as goal

pub returns-clause-did : goal.returns-clause-did
returns-clause-did g c =
    let mid = c.arrive.new.self.pass in
    let new = c.play_editor-done.new.seat.pass in
    if-ok _ _ _ c.play_editor-done.result c.play_editor-done.ensures.lines c.play_editor-done.ensures.makers
    (λ _ lines makers. editor-done c.args.editor c.args.lines (known mid) (known new) (made_of mid) (made_of new) (c.arrive.ensures.own ∙ c.requires.made) lines makers)

pub returns-clause-back : goal.returns-clause-back
returns-clause-back g c =
    let old = c.args.pass in
    let mid = c.arrive.new.self.pass in
    let new = c.play_editor-done.new.seat.pass in
    goes-back old new (c.play_editor-done.ensures.opening ∙ c.arrive.ensures.opening) (begins-further (known old) (known mid) (known new) c.arrive.ensures.grows c.play_editor-done.ensures.grows) c.seen.ensures.known
