use Rattle.std.proofs.Common.{◌≡◌, drop}
use Rattle.std.specs.Prelude.{flat_map}
use Rattle.tm_rules.specs.Types.{Look}
use Rattle.tm_verify_steps.specs.Counting.{counted}
use Rattle.tm_verify_steps.proofs.counts.count_looks.Given as goal

-- with those from here on it is what all come to
abbrev pub invariant-loop-look : goal.invariant-loop-look
invariant-loop-look l =
    counted (flat_map (λ (look : Look). look.own) (drop l.look-index l.looks)) l.counts.items
    ≡ counted (flat_map (λ (look : Look). look.own) l.looks) l.initial.counts.items
