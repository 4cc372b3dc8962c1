use Rattle.std.proofs.Common.{◌≡◌, ◌+◌, ◌≤◌, length}
use Rattle.std.specs.Prelude.{None}
use Rattle.tm_word.specs.Prelude.{lines_of}
use Rattle.tm_rules.specs.Prelude.{IsFew, load_lines}
use Rattle.tm_rep.specs.Tomoyo.{tomoyo_grammar}
use Rattle.tm_policy.proofs.loading.load_file.Given as goal

-- from here on it gives what the whole gives
abbrev pub invariant-loop-line : goal.invariant-loop-line
invariant-loop-line g l = record {
  goes_on : load_lines tomoyo_grammar l.file l.number (lines_of l.rest) (g.R.Rep.policy l.rep) l.cursor ≡ load_lines tomoyo_grammar l.file 1 (lines_of l.text) (g.R.Rep.policy l.fn.start) None;
  few : IsFew (g.R.Rep.policy l.rep);
  counted : l.number + length l.rest ≤ length l.text + 1;
}

abbrev pub decreases-loop-line : goal.decreases-loop-line
decreases-loop-line g l = length l.rest
