use Rattle.std.proofs.Common.{◌≡◌, ◌+◌, ◌≤◌, ◌==◌, length}
use Rattle.std.specs.List.{slice_split}
use Rattle.tm_domain.specs.Names.{bad_path}
use Rattle.tm_domain.proofs.bad_path.Given as goal

-- from here on it finds what the whole finds
abbrev pub invariant-loop-word : goal.invariant-loop-word
invariant-loop-word l =
    (bad_path l.number (slice_split (λ b. b == 32) l.rest) ≡ bad_path 1 (slice_split (λ b. b == 32) l.text)) × (l.number + length l.rest ≤ length l.text + 1)

abbrev pub decreases-loop-word : goal.decreases-loop-word
decreases-loop-word l = length l.rest
