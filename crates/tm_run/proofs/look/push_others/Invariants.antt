use Rattle.std.proofs.Common.{◌≡◌, ◌≤◌, ◌++◌, ◌∷◌, take, drop}
use Rattle.std.specs.Prelude.{decimal}
use Rattle.std.specs.List.{flat_map, list_all}
use Rattle.tm_run.specs.Room.{room}
use Rattle.tm_run.specs.Written.{is_wide}
use Rattle.tm_run.proofs.look.push_others.Given as goal

-- what is written; there is room for what a look heard; and all are in range where those that are
-- left are
abbrev pub invariant-loop-number : goal.invariant-loop-number
invariant-loop-number l =
    (l.out.items ≡ l.initial.out.items ++ flat_map (λ other. 44 ∷ decimal other) (take l.number-index l.numbers)) × (31 ≤ room l.out) × (list_all is_wide (drop l.number-index l.numbers) ≡ list_all is_wide l.numbers)
