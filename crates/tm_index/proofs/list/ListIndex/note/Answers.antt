use Rattle.std.proofs.Common.{ap, ◌∙◌, sym}
use Rattle.tm_index.specs.Listing.{listed, noting_name}
use Rattle.tm_index.proofs.list.ListIndex.note.Goals as goal

pub returns-in-Err-clause-kept : goal.returns-in-Err-clause-kept
returns-in-Err-clause-kept c =
    c.take_name.ensures (listed c.args.self.now) c.args.place
    (c.in-Err.ensures.kept ∙ c.in_ok-note_name.ensures.done ∙ ap (λ name. noting_name name c.args.place (listed c.args.self.now)) (c.as_ref.ensures.value ∙ sym c.as_ref-in-Err.ensures.value))
