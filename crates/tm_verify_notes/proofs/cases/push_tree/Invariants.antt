use Rattle.std.proofs.Common.{◌≡◌, ◌++◌, drop}
use Rattle.tm_legal.specs.Prelude.{tree_cases}
use Rattle.tm_take.specs.Situations.{first_situation, situations}
use Rattle.tm_verify_notes.proofs.cases.push_tree.Given as goal

-- with those from here on it is all of them
abbrev pub invariant-loop-item : goal.invariant-loop-item
invariant-loop-item l =
    l.out.items ++ tree_cases l.tree (situations l.known) (drop l.item-index l.items) l.rest ≡ l.initial.out.items ++ tree_cases l.tree (first_situation l.fn.home) l.items l.takes
