use Rattle.std.proofs.Common.{◌≡◌, ◌++◌, drop}
use Rattle.std.specs.Prelude.{map}
use Rattle.std.specs.List.{filter}
use Rattle.tm_sort.specs.Parts.{is_part, part_in}
use Rattle.tm_sort.proofs.parts.parts_in.Given as goal

-- with those from here on it is all of them
abbrev pub invariant-loop-number : goal.invariant-loop-number
invariant-loop-number l =
    l.parts ++ map (part_in l.dests l.items) (filter (is_part l.rules) (drop l.number-index l.numbers)) ≡ map (part_in l.dests l.items) (filter (is_part l.rules) l.numbers)
