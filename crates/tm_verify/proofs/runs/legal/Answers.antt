use Rattle.std.proofs.Common.{refl}
use Rattle.std.specs.Option.{option_copied}
use Rattle.tm_verify_notes.specs.declared.given.Given.{Given}
use Rattle.tm_verify.proofs.VerifiedLaws.{is_verified}
use Rattle.tm_verify.proofs.runs.legal.Goals as goal

pub returns : goal.returns
returns c =
    let given : Given = record { opening = c.args.opening; trace = c.as_slice.result; editors = c.args.editors; book = c.args.book; steps = c.as_slice-2.result; takes = c.as_slice-3.result } in
    is_verified given c.args.opening.now c.args.trace.now c.args.editors.now (option_copied c.args.book) c.args.run.now c.in_ok-broken.broken refl c.as_slice.ensures refl refl c.as_slice-2.ensures c.as_slice-3.ensures c.in_ok-broken.ensures
