use Rattle.std.proofs.Common.{◌≡◌, ◌-◌, ◌++◌, drop, length}
use Rattle.std.specs.List.{list_all}
use Rattle.tm_run.specs.RunText.{takes_text}
use Rattle.tm_run.specs.Typed.{is_typed_take}
use Rattle.tm_run.proofs.printing.push_takes.Given as goal

-- what is written, and behind it the lines of those that are left; and all are in range where those
-- are
abbrev pub invariant-loop-count : goal.invariant-loop-count
invariant-loop-count l =
    (l.out.items ++ takes_text l.count (drop l.count l.takes) ≡ l.initial.out.items ++ takes_text 0 l.takes) × (list_all is_typed_take (drop l.count l.takes) ≡ list_all is_typed_take l.takes)

abbrev pub decreases-loop-count : goal.decreases-loop-count
decreases-loop-count l = length l.takes - l.count
