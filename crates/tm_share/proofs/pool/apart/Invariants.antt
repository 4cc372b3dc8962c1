use Rattle.std.proofs.Common.{◌≡◌, map}
use Rattle.tm_share.proofs.pool.apart.Given as goal

abbrev pub invariant-loop-hand : goal.invariant-loop-hand
invariant-loop-hand g l = (l.owns.items ≡ map (λ hand. hand.own) l.yielded) × (l.rounds.items ≡ map (λ hand. hand.ways) l.yielded)
