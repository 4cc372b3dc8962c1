use Rattle.std.proofs.Common.{◌≡◌}
use Rattle.tm_index.specs.Buckets.{closing}
use Rattle.tm_index.proofs.ListLaws.{first_changed, on_value}
use Rattle.tm_index.proofs.buckets.Buckets.close.Given as goal

-- the lists so far are closed
abbrev pub invariant-loop-number : goal.invariant-loop-number
invariant-loop-number l = l.self-inside.lists.entries ≡ first_changed (on_value (closing l.place)) l.number l.initial.self-inside.lists.entries
