use Rattle.std.proofs.Common.{◌≡◌, drop}
use Rattle.std.specs.List.{find}
use Rattle.tm_rules.specs.Types.{Entry}
use Rattle.tm_rules.specs.Prelude.{same_line}
use Rattle.tm_index.specs.Listing.{holds_at}
use Rattle.tm_index.proofs.list.first_sharing.Given as goal

abbrev pub invariant-loop-place : goal.invariant-loop-place
invariant-loop-place l =
    find (holds_at (λ (entry : Entry). same_line entry l.line) l.entries) (drop l.place-index l.places) ≡ find (holds_at (λ (entry : Entry). same_line entry l.line) l.entries) l.places
