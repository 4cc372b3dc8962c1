-- What the processes of a tree stand for.
use Rattle.std.specs.Prelude.{ℕ, Option}
use Rattle.std.specs.Option.{option_map_or}
use Rattle.std.specs.Ordering.{nat_cmp}
use Rattle.std.specs.BTreeMap.{get}
use Rattle.tm_take.specs.declared.situations.ProcessSituation.{ProcessSituation}
use Rattle.tm_take.specs.declared.situations.ProcessSituations.{ProcessSituations}
use Rattle.tm_legal.specs.Prelude.{Situation, Situations}
use Rattle.tm_rules.specs.Prelude.{no_ids}

-- a process, its domain and its floor
abbrev pub situation_of : ProcessSituation → Situation
situation_of now = record { process = now.process; domain = now.domain; floor = now.floor }

-- a process that no line has changed yet stands in the tree's first domain, without a floor
abbrev pub first_situation : Option ℕ → ℕ → Situation
first_situation home pid =
    record { process = record { pid = pid; ppid = 0; ids = no_ids }; domain = home; floor = 0 }

-- the situation of each process, by pid
unfoldable pub situations : ProcessSituations → Situations
situations known pid =
    option_map_or situation_of (get nat_cmp known.changed pid) (first_situation known.home pid)
