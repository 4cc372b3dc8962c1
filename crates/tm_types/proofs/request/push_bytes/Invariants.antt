use Rattle.std.proofs.Common.{◌≡◌, ◌++◌, take, flat_map}
use Rattle.tm_number.specs.Printing.{element_bytes}
use Rattle.tm_types.proofs.request.push_bytes.Given as goal

abbrev pub invariant-loop-element : goal.invariant-loop-element
invariant-loop-element l = l.out.items ≡ l.initial.out.items ++ flat_map element_bytes (take l.element-index l.part)
