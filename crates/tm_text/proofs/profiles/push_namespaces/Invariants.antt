use Rattle.std.proofs.Common.{◌≡◌, ◌++◌, take}
use Rattle.std.specs.List.{flat_map}
use Rattle.tm_text.specs.ProfileText.{namespace_text, lent}
use Rattle.tm_text.proofs.profiles.push_namespaces.Given as goal

-- the profiles so far are there
abbrev pub invariant-loop-ns : goal.invariant-loop-ns
invariant-loop-ns l = l.out.items ≡ l.initial.out.items ++ flat_map namespace_text (lent (take l.ns-index l.namespaces))
