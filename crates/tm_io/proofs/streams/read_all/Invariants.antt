use Rattle.std.proofs.Common.{◌≡◌, ◌≤◌, ◌++◌, ℕ, List, length, false}
use Rattle.std.specs.Io.KnownBytes.{Consumes}
use Rattle.tm_io.proofs.streams.read_all.Given as goal

abbrev pub invariant-loop : goal.invariant-loop
invariant-loop g l = (taken : List ℕ) × Consumes (g.F.Read.remaining l.initial.source) (g.F.Read.remaining l.source) taken
    × (length taken ≡ l.length) × (l.refused ≡ false → l.out.items ≡ l.initial.out.items ++ taken)
    × ((kept : List ℕ) × (l.out.items ≡ l.initial.out.items ++ kept)) × (l.counter ≤ l.length) × (l.length ≤ 16777216)
