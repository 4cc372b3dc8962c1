use Rattle.std.proofs.Common.{◌≡◌, map, string_bytes, drop}
use Rattle.tomoyo_run.specs.Words.{is_one_of}
use Rattle.tomoyo_run.proofs.command_line.is_one_of.Given as goal

-- from here on it gives what the whole gives
abbrev pub invariant-loop-other : goal.invariant-loop-other
invariant-loop-other l =
    is_one_of (string_bytes l.word) (map (λ other. other.now) (drop l.other-index l.others)) ≡ is_one_of (string_bytes l.word) (map (λ other. other.now) l.others)
