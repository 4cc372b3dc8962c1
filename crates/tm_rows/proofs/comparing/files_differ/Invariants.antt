use Rattle.std.proofs.Common.{◌≡◌, drop}
use Rattle.std.specs.Prelude.{◌&&◌}
use Rattle.tm_rows.specs.Comparing.{all_hold_so}
use Rattle.tm_word.specs.Prelude.{is_empty}
use Rattle.tm_rows.proofs.comparing.files_differ.Given as goal

-- nothing is said so far and the files that are left are as expected, or else not
abbrev pub invariant-loop-name : goal.invariant-loop-name
invariant-loop-name l = (is_empty l.found.items && all_hold_so l.row l.shelf (drop l.name-index l.names)) ≡ all_hold_so l.row l.shelf l.names
