use Rattle.tm_verify_notes.specs.Given.{scene_of, history_of}
use Rattle.tm_verify.specs.Passing.{IsAt}
use Rattle.tm_take.specs.Each.{EachWith}
use Rattle.tm_verify_notes.specs.Noting.{IsPartNote}
use Rattle.tm_verify.proofs.judging.judge_all.Given as goal

-- the machine is at its version, and what was noted is right
abbrev pub invariant-loop-due : goal.invariant-loop-due
invariant-loop-due g l = IsAt l.given l.pass × EachWith (IsPartNote (scene_of l.given) (history_of l.given)) l.looks l.parts.items
