use Rattle.std.proofs.Common.{◌≡◌, drop}
use Rattle.std.specs.Prelude.{◌||◌}
use Rattle.std.specs.List.{list_any}
use Rattle.tm_word.specs.Prelude.{spell, texts_equal}
use Rattle.tm_change_domains.proofs.managers.is_named.Given as goal

-- one of those from here on names the editor where one of all does
abbrev pub invariant-loop-manager : goal.invariant-loop-manager
invariant-loop-manager l = list_any (λ line. texts_equal line l.domain || texts_equal line (spell l.exe)) (drop l.manager-index l.managers) ≡ list_any (λ line. texts_equal line l.domain || texts_equal line (spell l.exe)) l.managers
