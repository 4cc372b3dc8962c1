use Rattle.std.proofs.Common.{◌≡◌, drop}
use Rattle.tm_verify_steps.specs.Lines.{have_all}
use Rattle.tm_verify_steps.proofs.places.have_all.Given as goal

-- from here on they have had all where all have
abbrev pub invariant-loop-editor : goal.invariant-loop-editor
invariant-loop-editor l = have_all (drop l.editor-index l.editors) l.rest ≡ have_all l.editors l.had
