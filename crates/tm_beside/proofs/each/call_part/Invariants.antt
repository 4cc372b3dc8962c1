use Rattle.std.proofs.Common.{◌≡◌, ℕ, ◌+◌, ◌<◌, ◌≤◌, get_or}
use Rattle.std.specs.Fork.{ChangesAt}
use Rattle.tm_beside.proofs.each.call_part.Given as goal

-- the places from k on are as they were, and those before it as the calls have left them
abbrev pub invariant-loop-k : goal.invariant-loop-k
invariant-loop-k g l =
    ((j : ℕ) (d : g.row.T.Denot) → l.k ≤ j → get_or l.part j d ≡ get_or l.initial.part j d)
    × ((j : ℕ) (d : g.row.T.Denot) → j < l.k → ChangesAt g.F.Fn l.call (l.begin + j) (get_or l.initial.part j d) (get_or l.part j d))
