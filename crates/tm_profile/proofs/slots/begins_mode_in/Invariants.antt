use Rattle.std.proofs.Common.{◌≡◌, drop}
use Rattle.std.specs.List.{list_any}
use Rattle.tm_rules.specs.Types.{Mode}
use Rattle.tm_word.specs.Prelude.{begins}
use Rattle.tm_profile.specs.Slots.{mode_word}
use Rattle.tm_profile.proofs.slots.begins_mode_in.Given as goal

-- from here on it finds what the whole finds
abbrev pub invariant-loop-mode : goal.invariant-loop-mode
invariant-loop-mode l = list_any (λ (mode : Mode). begins l.word (mode_word mode)) (drop l.mode-index l.modes) ≡ list_any (λ (mode : Mode). begins l.word (mode_word mode)) l.modes
