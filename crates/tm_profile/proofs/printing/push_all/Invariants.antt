use Rattle.std.proofs.Common.{◌≡◌, ◌++◌, take}
use Rattle.std.specs.List.{flat_map}
use Rattle.tm_profile.specs.Printing.{profile_text}
use Rattle.tm_profile.proofs.printing.push_all.Given as goal

-- the lines so far are there
abbrev pub invariant-loop-number : goal.invariant-loop-number
invariant-loop-number l = l.out.items ≡ l.initial.out.items ++ flat_map (profile_text l.ns) (take l.number-index l.profiles)
