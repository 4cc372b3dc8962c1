-- A take and a tree on their way, by a history in which others' steps stand between their own.
use Rattle.std.specs.Prelude.{◌≡◌, ℕ, ◌≤◌, true, List, ◌∷◌, ◌++◌, [], length, map, flat_map, Some, None, if◌then◌else◌}
use Rattle.std.specs.List.{AllByRecursion}
use Rattle.tm_rules.specs.Types.{Item, Look, Request, Take, Tree, Verdict}
use Rattle.tm_rules.specs.Prelude.{Grammar, audit_text, is_request}
use Rattle.tm_legal.specs.Prelude.{AllAgree, Case, DomainIn, History, InProgress, IsLegalTake, Replies, RisesTo, Scene, Situation, Situations, Stage, StageHolds, State, after, at_start, do_pids, entered, is_granting, newest, opening_of, steps_of, steps_of_line, steps_of_move, tree_cases, verdict}

-- each step of it fits at its place, and has its reply
abbrev pub IsReplied : Scene → History → Type 0
IsReplied scene history = Replies scene.grammar (opening_of scene) history

-- the verdict of a state
abbrev pub JudgedBy : Grammar → State → ℕ → Situation → Request → Verdict → Type 0
JudgedBy g s d now request v =
    verdict g.is_path s.policy s.queries.attached d now.process request ≡ Some v

-- the take that a look at a version with that state begins, or goes on with after these looks
abbrev pub begun_at : Grammar → ℕ → State → Situation → ℕ → Request → ℕ → List Look → Verdict
    → InProgress
begun_at g version s now d request retry looked v =
    record {
      now = now;
      before = d;
      request = request;
      retry = retry;
      looked = looked;
      look =
          record {
            version = version;
            mode = v.mode;
            reason = v.reason;
            step = v.step;
            own = [];
            heard = None;
          };
      verdict = v;
      audit = audit_text g s.policy d now.process request v;
      after = entered g v.step;
      stage =
          Stage.Owing
          (steps_of_line g d retry v ++ (if is_granting v.reason then steps_of_move d v else []));
    }

-- a take that has begun, from a floor: its process's domain is there, its request can be asked, its
-- looks have risen from the floor, and all that it has seen, made and heard stands in the history
pub record IsUnderWay (scene : Scene) (history : History) (floor : ℕ) (b : InProgress) : Type 0 where
  pub domain : b.now.domain ≡ Some b.before
  pub there : DomainIn (newest scene history).policy b.before
  pub asked : is_request scene.grammar.is_path b.request ≡ true
  pub low : ℕ
  pub rises : RisesTo history floor b.looked low
  pub above : low ≤ b.look.version
  pub stage : StageHolds scene history (newest scene history) b b.stage

-- the numbers of the own steps that it has made
abbrev pub own_so_far : InProgress → List ℕ
own_so_far b = flat_map (λ (look : Look). look.own) (b.looked ++ b.look ∷ [])

-- a tree before these lines, of whose earlier lines the takes are legal: `at` is where its
-- processes stand, without floors
pub record IsWalked (scene : Scene) (history : History) (t : ℕ) (tree : Tree) (at : Situations)
    (left : List Item) (takes : List Take) : Type 0 where
  pub walked : Situations
  pub done : List Case
  pub cases : (more : List Take)
      → tree_cases t (at_start scene.policy tree) tree.records (takes ++ more)
      ≡ done ++ tree_cases t walked left more
  pub pids : map (λ (k : Take). k.pid) takes ++ do_pids left ≡ do_pids tree.records
  pub agree : AllAgree (newest scene history).policy (length history) walked at
  pub legal : AllByRecursion (IsLegalTake scene history) done
