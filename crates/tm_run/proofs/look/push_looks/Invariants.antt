use Rattle.std.proofs.Common.{◌≡◌, ◌++◌, take, drop}
use Rattle.std.specs.List.{flat_map, list_all}
use Rattle.tm_run.specs.RunText.{look_text}
use Rattle.tm_run.specs.Written.{is_look}
use Rattle.tm_run.proofs.look.push_looks.Given as goal

-- what is written; and all are in range where those that are left are
abbrev pub invariant-loop-look : goal.invariant-loop-look
invariant-loop-look l = (l.out.items ≡ l.initial.out.items ++ flat_map look_text (take l.look-index l.looks)) × (list_all is_look (drop l.look-index l.looks) ≡ list_all is_look l.looks)
