use Rattle.std.proofs.Common.{◌≡◌, map, take}
use Rattle.tm_rules.specs.Types.{Editor}
use Rattle.tm_core.proofs.player.begin_scripts.Given as goal

abbrev pub invariant-loop-editor : goal.invariant-loop-editor
invariant-loop-editor l = l.scripts.items ≡ map (λ (editor : Editor). editor.lines) (take l.editor-index l.editors)
