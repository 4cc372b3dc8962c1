use Rattle.std.proofs.Common.{◌≡◌, drop}
use Rattle.std.specs.List.{list_all}
use Rattle.tm_rules.specs.Prelude.{is_clean_look}
use Rattle.tm_rerun.proofs.clean.are_clean_looks.Given as goal

abbrev pub invariant-loop-look : goal.invariant-loop-look
invariant-loop-look l = list_all is_clean_look (drop l.look-index l.looks) ≡ list_all is_clean_look l.looks
