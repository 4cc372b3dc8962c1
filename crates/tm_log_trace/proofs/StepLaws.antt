-- Records that are taken one by one.
use Rattle.std.proofs.Common.{◌≡◌, List, [], ◌∷◌, ◌++◌, refl}
use Rattle.tm_log.specs.declared.log.Used.{Used}
use Rattle.tm_log_trace.specs.declared.made.TakenAll.{TakenAll}
use Rattle.tm_log_trace.specs.Made.{step, taken_all}

-- one record more, which is last
pub taken_all_more : (all : TakenAll) (list : List Used) (used : Used) → taken_all all (list ++ used ∷ []) ≡ step (taken_all all list) used
taken_all_more all [] used = refl
taken_all_more all (first ∷ list) used = taken_all_more (step all first) list used
