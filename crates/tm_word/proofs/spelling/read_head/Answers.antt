use Rattle.std.proofs.Common.{refl, inl, inr, arith}
use Rattle.tm_word.proofs.spelling.read_head.Goals as goal
use Rattle.tm_word.proofs.spelling.read_head.Goals.{else-byte-gt32-via-then-byte-gt32+else-byte-lt127, else-byte-gt32-via-else-byte-gt32}

pub returns-else-byte-gt32-clause-spelled : goal.returns-else-byte-gt32-clause-spelled
returns-else-byte-gt32-clause-spelled c =
    elim c.else-byte-gt32.branch [
      | else-byte-gt32-via-then-byte-gt32+else-byte-lt127 w ↦ (c.args.byte, refl, inr (omega arith))
      | else-byte-gt32-via-else-byte-gt32 w ↦ (c.args.byte, refl, inl (omega arith))
    ]
