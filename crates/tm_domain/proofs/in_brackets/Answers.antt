use Rattle.std.proofs.Common.{arith}
use Rattle.tm_domain.proofs.NameLaws.{in_brackets, out_of_brackets}
use Rattle.tm_domain.proofs.in_brackets.Goals as goal
use Rattle.tm_domain.proofs.in_brackets.Goals.{else-word-ge2-via-then-word-ge2+then-word-eq60+else-word-eq62, else-word-ge2-via-then-word-ge2+else-word-eq60, else-word-ge2-via-else-word-ge2}

pub returns-then-word-eq62 : goal.returns-then-word-eq62
returns-then-word-eq62 c = λ is. in_brackets is c.args.word.now _ (omega arith) c.if-word-ge2.true c.if-word-eq60.true c.if-word-eq62.true

pub returns-else-word-ge2 : goal.returns-else-word-ge2
returns-else-word-ge2 c =
    λ is. out_of_brackets is c.args.word.now
    (λ t. elim c.else-word-ge2.branch [
      | else-word-ge2-via-then-word-ge2+then-word-eq60+else-word-eq62 w ↦ w.if-word-eq62.false t.2
      | else-word-ge2-via-then-word-ge2+else-word-eq60 w ↦ w.if-word-eq60.false t.1
      | else-word-ge2-via-else-word-ge2 w ↦ absurd (omega (arith, t.0))
    ])
