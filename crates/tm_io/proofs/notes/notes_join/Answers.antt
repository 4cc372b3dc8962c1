use Rattle.tm_io.proofs.NoteLaws.{noted-none, noted-both}
use Rattle.tm_io.proofs.notes.notes_join.Goals as goal

pub returns : goal.returns
returns c = record { none = noted-none; both = noted-both }
