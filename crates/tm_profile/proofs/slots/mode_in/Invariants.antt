use Rattle.std.proofs.Common.{◌≡◌, drop}
use Rattle.std.specs.List.{find}
use Rattle.tm_rules.specs.Types.{Mode}
use Rattle.tm_word.specs.Prelude.{texts_equal}
use Rattle.tm_profile.specs.Slots.{mode_word}
use Rattle.tm_profile.proofs.slots.mode_in.Given as goal

-- from here on it finds what the whole finds
abbrev pub invariant-loop-mode : goal.invariant-loop-mode
invariant-loop-mode l = find (λ (mode : Mode). texts_equal l.word (mode_word mode)) (drop l.mode-index l.modes) ≡ find (λ (mode : Mode). texts_equal l.word (mode_word mode)) l.modes
