use Rattle.std.proofs.Common.{◌≡◌, nat_lt, drop}
use Rattle.std.specs.List.{list_all}
use Rattle.tm_verify_notes.proofs.looks.all_above.Given as goal

-- those so far are above
abbrev pub invariant-loop-number : goal.invariant-loop-number
invariant-loop-number l = list_all (λ n. nat_lt l.version n) (drop l.number-index l.numbers) ≡ list_all (λ n. nat_lt l.version n) l.numbers
