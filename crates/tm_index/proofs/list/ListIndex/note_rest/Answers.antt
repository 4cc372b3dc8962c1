use Rattle.std.proofs.Common.{ℕ, List, ap, ◌∙◌}
use Rattle.tm_word.specs.Prelude.{Text}
use Rattle.tm_index.specs.Listing.{Listed, listed}
use Rattle.tm_index.proofs.list.ListIndex.note_rest.Goals as goal

pub returns-in-Err-clause-kept : goal.returns-in-Err-clause-kept
returns-in-Err-clause-kept c =
    let with_lines : (Text → List ℕ) → Listed = λ lines. (record (listed c.note_stem.new.self) { lines = lines }) in
    c.take_stem.ensures (listed c.args.self.now) c.args.place
    (rw (c.as_ref-in-Err.ensures.value, c.as_ref-in-Err-2.ensures.value)
    (ap with_lines c.in-Err.ensures.kept ∙ (rw (c.as_ref.ensures.value, c.as_ref-2.ensures.value) at c.in_ok-note_stem.ensures.done)))
