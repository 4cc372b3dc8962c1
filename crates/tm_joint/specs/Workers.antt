-- Which pass makes whose steps: workers play trees, then come the editors, then the supervisor.
use Rattle.std.specs.Prelude.{ℕ, suc, ◌+◌, ◌-◌, Bool, List, [], ◌∷◌, Option, Some, None, if◌then◌else◌, ◌==◌, option_map}
use Rattle.std.specs.List.{list_any}
use Rattle.tm_rules.specs.Types.{Maker, Tree}
use Rattle.tm_rules.specs.Prelude.{Trace}

-- the number is in the list
abbrev pub is_in : ℕ → List ℕ → Bool
is_in n ns = list_any (λ m. m == n) ns

-- the first tree that has this process, where the first tree has number t
abbrev pub tree_of : (Tree → List ℕ) → ℕ → Trace → ℕ → Option ℕ
tree_of pids t [] pid = None
tree_of pids t (tree ∷ trees) pid =
    if is_in pid (pids tree) then Some t else tree_of pids (suc t) trees pid

-- pass `deal t` plays tree t and all its processes; after the workers each editor has a pass, from
-- 1, and the last one is the supervisor's
abbrev pub pass_of : (Tree → List ℕ) → (ℕ → ℕ) → ℕ → ℕ → Trace → Maker → Option ℕ
pass_of pids deal workers editors trace (Maker.Process pid) =
    option_map deal (tree_of pids 1 trace pid)
pass_of pids deal workers editors trace (Maker.Tree t) = Some (deal t)
pass_of pids deal workers editors trace (Maker.Editor e) = Some (workers + (e - 1))
pass_of pids deal workers editors trace Maker.Desk = Some (workers + editors)
