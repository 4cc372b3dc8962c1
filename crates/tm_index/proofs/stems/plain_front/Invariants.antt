use Rattle.tm_index.proofs.FrontWalk.{Fronted}
use Rattle.tm_index.proofs.stems.plain_front.Given as goal

abbrev pub invariant-loop-count : goal.invariant-loop-count
invariant-loop-count l = Fronted l.pattern l.count
