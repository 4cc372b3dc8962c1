-- Takes and trees on their way by lists of made steps, and the laws that a worker's calls rely on.
-- A worker knows a list `xs`; it looks, makes a step and hears at lists `xs ++ ys`, in which
-- others' steps have followed.
use Rattle.std.specs.Prelude.{◌≡◌, ◌≤◌, ◌<◌, ℕ, suc, true, List, [], ◌∷◌, ◌++◌, length, flat_map, Some, IsSome}
use Rattle.std.specs.List.{AllByRecursion}
use Rattle.tm_rules.specs.Types.{Answered, Ids, Item, Made, Reply, Request, Step, Take, Tree, Verdict}
use Rattle.tm_rules.specs.Prelude.{Grammar, IsGrammar, answer_of, is_request, live_domain}
use Rattle.tm_legal.specs.Prelude.{Case, DomainIn, InProgress, IsJudged, IsLegalTake, IsOpened, Scene, Situation, Situations, Stage, State, TreePlayed, after, after_answer, after_step, apply, at_start, do_pids, forked, opening_of, own_numbers, passed, seen, taken, with_ids, with_situation}
use Rattle.tm_made.specs.Made.{steps_made, history_made, IsFitted}
use Rattle.tm_joint.specs.UnderWay.{JudgedBy, begun_at, IsUnderWay, IsWalked, own_so_far}

-- the state after a list
abbrev pub state_after : Scene → List Made → State
state_after scene list = after scene.grammar (opening_of scene) (steps_made list)

-- a take under way by a list
abbrev pub UnderWayAt : Scene → List Made → ℕ → InProgress → Type 0
UnderWayAt scene list floor b = IsUnderWay scene (history_made scene list) floor b

-- a tree walked by a list
abbrev pub WalkedAt : Scene → List Made → ℕ → Tree → Situations → List Item → List Take → Type 0
WalkedAt scene list t tree at left takes =
    IsWalked scene (history_made scene list) t tree at left takes

-- Takes

-- a take stays under way
abbrev pub TakesGrow : Type 0
TakesGrow =
    (scene : Scene) (xs ys : List Made) (floor : ℕ) (b : InProgress) → IsGrammar scene.grammar
    → IsOpened scene.policy
    → IsFitted scene (xs ++ ys) → UnderWayAt scene xs floor b → UnderWayAt scene (xs ++ ys) floor b

-- a domain that is there stays
abbrev pub DomainsStay : Type 0
DomainsStay =
    (scene : Scene) (xs ys : List Made) (d : ℕ) → IsGrammar scene.grammar → IsOpened scene.policy
    → IsFitted scene (xs ++ ys) → DomainIn (state_after scene xs).policy d
    → DomainIn (state_after scene (xs ++ ys)).policy d

-- a request that can be asked is judged
abbrev pub LooksAreJudged : Type 0
LooksAreJudged =
    (scene : Scene) (xs ys : List Made) (now : Situation) (d : ℕ) (request : Request)
    → IsGrammar scene.grammar → IsOpened scene.policy
    → IsFitted scene (xs ++ ys) → now.domain ≡ Some d → DomainIn (state_after scene xs).policy d
    → is_request scene.grammar.is_path request ≡ true
    → IsJudged scene.grammar (state_after scene (xs ++ ys)) now request

-- the first look begins a take, from each floor that is no newer than what was known before
abbrev pub LooksBegin : Type 0
LooksBegin =
    (scene : Scene) (xs ys : List Made) (floor : ℕ) (now : Situation) (d : ℕ) (request : Request)
    (v : Verdict) → IsGrammar scene.grammar → IsOpened scene.policy
    → IsFitted scene (xs ++ ys) → floor ≤ length xs → now.domain ≡ Some d
    → DomainIn (state_after scene xs).policy d → is_request scene.grammar.is_path request ≡ true
    → JudgedBy scene.grammar (state_after scene (xs ++ ys)) d now request v
    → UnderWayAt scene (xs ++ ys) floor
    (begun_at scene.grammar (length (xs ++ ys)) (state_after scene (xs ++ ys)) now d request 0 [] v)

-- the step that a take owes next fits
abbrev pub OwedStepsFit : Type 0
OwedStepsFit =
    (scene : Scene) (xs : List Made) (floor : ℕ) (b : InProgress) (step : Step) (rest : List Step)
    → IsGrammar scene.grammar → IsOpened scene.policy
    → UnderWayAt scene xs floor b → b.stage ≡ Stage.Owing (step ∷ rest)
    → IsSome (apply scene.grammar (state_after scene xs) step).reply

-- it is made after others' steps, has its number and its reply, and the take goes on: to the next
-- step, to the wait for an answer, or to its end where nobody is there
abbrev pub StepsAreMade : Type 0
StepsAreMade =
    (scene : Scene) (xs ys : List Made) (made : Made) (floor : ℕ) (b : InProgress)
    (rest : List Step) (r : Reply) → IsGrammar scene.grammar → IsOpened scene.policy
    → IsFitted scene ((xs ++ ys) ++ made ∷ []) → b.stage ≡ Stage.Owing (made.step ∷ rest)
    → (apply scene.grammar (state_after scene (xs ++ ys)) made.step).reply ≡ Some r
    → UnderWayAt scene xs floor b
    → UnderWayAt scene ((xs ++ ys) ++ made ∷ []) floor
    (after_step scene.grammar b rest (length ((xs ++ ys) ++ made ∷ [])) r)

-- the answer that a take waits for is heard
abbrev pub AnswersAreHeard : Type 0
AnswersAreHeard =
    (scene : Scene) (xs ys : List Made) (floor : ℕ) (b : InProgress) (serial : ℕ)
    (answer : Answered) → IsGrammar scene.grammar → IsOpened scene.policy
    → IsFitted scene (xs ++ ys) → b.stage ≡ Stage.Waiting serial
    → answer_of (state_after scene (xs ++ ys)).queries serial ≡ Some answer
    → UnderWayAt scene xs floor b
    → UnderWayAt scene (xs ++ ys) floor (after_answer scene.grammar b (length (xs ++ ys)) answer)

-- after a retry a take is judged again
abbrev pub RetriesAreJudged : Type 0
RetriesAreJudged =
    (scene : Scene) (xs ys : List Made) (floor : ℕ) (b : InProgress) → IsGrammar scene.grammar
    → IsOpened scene.policy
    → IsFitted scene (xs ++ ys) → UnderWayAt scene xs floor b
    → IsJudged scene.grammar (state_after scene (xs ++ ys)) b.now b.request

-- another look goes on with it
abbrev pub LooksGoOn : Type 0
LooksGoOn =
    (scene : Scene) (xs ys : List Made) (floor : ℕ) (b : InProgress) (v : Verdict)
    → IsGrammar scene.grammar → IsOpened scene.policy
    → IsFitted scene (xs ++ ys) → b.stage ≡ Stage.Looking
    → JudgedBy scene.grammar (state_after scene (xs ++ ys)) b.before b.now b.request v
    → UnderWayAt scene xs floor b
    → UnderWayAt scene (xs ++ ys) floor
    (begun_at scene.grammar (length (xs ++ ys)) (state_after scene (xs ++ ys)) b.now b.before b.request
    (suc b.retry) (b.looked ++ b.look ∷ []) v)

-- the take is legal for its line, and its process is in a domain that is there
abbrev pub EndsLegally : Scene → List Made → Case → Type 0
EndsLegally scene xs c =
    IsLegalTake scene (history_made scene xs) c × DomainIn (state_after scene xs).policy c.taken.after

-- a take that owes nothing is legal for its line, whichever situation with its floor the walk has
-- its process in, and its process is in a domain that is there
abbrev pub EndedTakesAreLegal : Type 0
EndedTakesAreLegal =
    (scene : Scene) (xs : List Made) (t : ℕ) (walked : Situation) (b : InProgress)
    → IsGrammar scene.grammar → IsOpened scene.policy
    → b.stage ≡ Stage.Owing [] → walked.process ≡ b.now.process → walked.domain ≡ b.now.domain
    → UnderWayAt scene xs walked.floor b
    → EndsLegally scene xs (record { tree = t; now = walked; request = b.request; taken = taken scene.grammar b })

-- the numbers of its own steps: one more with each step, the same with an answer and with another
-- look, and those of its take
pub record OwnStepsAreNoted (g : Grammar) (b : InProgress) : Type 0 where
  pub made : (rest : List Step) (number : ℕ) (r : Reply)
      → own_so_far (after_step g b rest number r) ≡ own_so_far b ++ number ∷ []
  pub heard : (version : ℕ) (answer : Answered)
      → own_so_far (after_answer g b version answer) ≡ own_so_far b
  pub looked : (version : ℕ) (s : State) (v : Verdict)
      → own_so_far
      (begun_at g version s b.now b.before b.request (suc b.retry) (b.looked ++ b.look ∷ []) v)
      ≡ own_so_far b
  pub ended : own_numbers (taken g b ∷ []) ≡ own_so_far b

-- Trees

-- a tree begins where every process is in the live domain of its name
abbrev pub TreesBegin : Type 0
TreesBegin =
    (scene : Scene) (xs : List Made) (t : ℕ) (tree : Tree) → IsGrammar scene.grammar
    → IsOpened scene.policy
    → IsFitted scene xs → IsSome (live_domain scene.policy tree.start)
    → WalkedAt scene xs t tree (at_start scene.policy tree) tree.records []

-- a tree stays where it is
abbrev pub TreesGrow : Type 0
TreesGrow =
    (scene : Scene) (xs ys : List Made) (t : ℕ) (tree : Tree) (at : Situations) (left : List Item)
    (takes : List Take) → IsGrammar scene.grammar → IsOpened scene.policy
    → IsFitted scene (xs ++ ys) → WalkedAt scene xs t tree at left takes
    → WalkedAt scene (xs ++ ys) t tree at left takes

-- it passes the lines before its next request, one by one or all
pub record LinesArePassed (scene : Scene) (xs : List Made) (t : ℕ) (tree : Tree) (at : Situations)
    (takes : List Take) : Type 0 where
  pub ids : (pid : ℕ) (ids : Ids) (items : List Item)
      → WalkedAt scene xs t tree at (Item.Ids pid ids ∷ items) takes
      → WalkedAt scene xs t tree (with_situation at pid (with_ids (at pid) ids)) items takes
  pub fork : (pid child : ℕ) (items : List Item)
      → WalkedAt scene xs t tree at (Item.Fork pid child ∷ items) takes
      → WalkedAt scene xs t tree (with_situation at child (forked (at pid) child)) items takes
  pub all : (items : List Item) → WalkedAt scene xs t tree at items takes
      → WalkedAt scene xs t tree (passed scene.grammar at items).0
      (passed scene.grammar at items).1 takes

-- each of its processes stands in a domain that is there
abbrev pub ProcessesStand : Type 0
ProcessesStand =
    (scene : Scene) (xs : List Made) (t : ℕ) (tree : Tree) (at : Situations) (left : List Item)
    (takes : List Take) (pid : ℕ)
    → WalkedAt scene xs t tree at left takes
    → (d : ℕ) × ((at pid).domain ≡ Some d) × DomainIn (state_after scene xs).policy d

-- a take has ended that is legal from each floor that is no newer than what was known before it
abbrev pub TakesFollow : Type 0
TakesFollow =
    (scene : Scene) (xs ys : List Made) (t : ℕ) (tree : Tree) (at : Situations) (pid : ℕ)
    (request : Request) (items : List Item) (takes : List Take) (k : Take) → IsGrammar scene.grammar
    → IsOpened scene.policy
    → IsFitted scene (xs ++ ys) → WalkedAt scene xs t tree at (Item.Do pid request ∷ items) takes
    → k.pid ≡ (at pid).process.pid
    → ((now : Situation) → now.process ≡ (at pid).process → now.domain ≡ (at pid).domain
    → now.floor ≤ length xs
    → IsLegalTake scene (history_made scene (xs ++ ys)) (record { tree = t; now = now; request = request; taken = k }))
    → DomainIn (state_after scene (xs ++ ys)).policy k.after
    → WalkedAt scene (xs ++ ys) t tree
    (with_situation at pid (record (at pid) { domain = Some k.after })) items (takes ++ k ∷ [])

-- a tree without a request left is played
abbrev pub WalkedTreesArePlayed : Type 0
WalkedTreesArePlayed =
    (scene : Scene) (xs : List Made) (t : ℕ) (tree : Tree) (at : Situations) (left : List Item)
    (takes : List Take)
    → do_pids left ≡ [] → WalkedAt scene xs t tree at left takes
    → TreePlayed scene (history_made scene xs) t tree takes

-- it stays played
abbrev pub PlayedTreesGrow : Type 0
PlayedTreesGrow =
    (scene : Scene) (xs ys : List Made) (t : ℕ) (tree : Tree) (takes : List Take)
    → TreePlayed scene (history_made scene xs) t tree takes
    → TreePlayed scene (history_made scene (xs ++ ys)) t tree takes

-- each later step stands above all that its takes have seen
abbrev pub EndsStandAbove : Type 0
EndsStandAbove =
    (scene : Scene) (xs : List Made) (t n : ℕ) (tree : Tree) (takes : List Take)
    → length xs < n → TreePlayed scene (history_made scene xs) t tree takes
    → AllByRecursion (λ version. version < n) (flat_map (λ (k : Take). flat_map seen k.looks) takes)
