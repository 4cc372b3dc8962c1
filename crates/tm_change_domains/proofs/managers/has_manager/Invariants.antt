use Rattle.std.proofs.Common.{◌≡◌, drop}
use Rattle.std.specs.List.{list_any}
use Rattle.tm_word.specs.Prelude.{texts_equal}
use Rattle.tm_change_domains.proofs.managers.has_manager.Given as goal

-- it is among those from here on where it is among all
abbrev pub invariant-loop-manager : goal.invariant-loop-manager
invariant-loop-manager l = list_any (texts_equal l.name) (drop l.manager-index l.managers) ≡ list_any (texts_equal l.name) l.managers
