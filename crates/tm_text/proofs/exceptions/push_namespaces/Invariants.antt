use Rattle.std.proofs.Common.{◌≡◌, ◌++◌, take}
use Rattle.std.specs.List.{flat_map}
use Rattle.tm_text.specs.ProfileText.{lent}
use Rattle.tm_text.specs.ExceptionText.{exception_lines}
use Rattle.tm_text.proofs.exceptions.push_namespaces.Given as goal

-- the namespaces so far are there
abbrev pub invariant-loop-ns : goal.invariant-loop-ns
invariant-loop-ns l = l.out.items ≡ l.initial.out.items ++ flat_map exception_lines (lent (take l.ns-index l.namespaces))
