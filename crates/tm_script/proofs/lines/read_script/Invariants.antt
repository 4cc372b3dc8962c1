use Rattle.std.proofs.Common.{◌≡◌, ◌+◌, ◌≤◌, length}
use Rattle.tm_word.specs.Prelude.{lines_of}
use Rattle.tm_script.specs.Lines.{script_lines, script_of}
use Rattle.tm_script.proofs.lines.read_script.Given as goal

-- from here on it reads what the whole reads
abbrev pub invariant-loop-line : goal.invariant-loop-line
invariant-loop-line g l =
    (script_lines g.S.Script.line l.number (lines_of l.rest) l.so_far ≡ script_of g.S.Script.line l.fn.start l.text) × (l.number + length l.rest ≤ length l.text + 1)

abbrev pub decreases-loop-line : goal.decreases-loop-line
decreases-loop-line g l = length l.rest
