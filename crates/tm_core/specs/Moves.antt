-- What the event of a tree does to a machine and to the tree, and who has made its step.
use Rattle.std.specs.Prelude.{◌≡◌, ◌⊎◌, ℕ, suc, true, false, Bool, not, ◌||◌, ◌==◌, List, [], ◌∷◌, ◌++◌, length, Some, None, is_none, slice_get, slice_set}
use Rattle.std.specs.Option.{IsSomeAnd, option_map_or}
use Rattle.std.specs.List.{list_any}
use Rattle.tm_word.specs.Prelude.{Text}
use Rattle.tm_rules.specs.Types.{Answered, FileKind, Made, Maker, Reply, Step, Turn}
use Rattle.tm_rules.specs.Prelude.{answer_of}
use Rattle.tm_audit.specs.Tomoyo.{tomoyo_grammar}
use Rattle.tm_legal.specs.Prelude.{InProgress, Player, State, Way, after_answer, after_step, apply, going_on, tree_event}
use Rattle.tm_machine.specs.Machine.{Course, history_of}
use Rattle.tm_take.specs.Taking.{TakesOut, rest_of}
use Rattle.tm_take.specs.Ways.{awaited}
use Rattle.tm_core.specs.Scenes.{Answers}

-- the player at a machine's newest version, with these ways and scripts
abbrev pub at_course : Course → List Way → List (List (FileKind × Text)) → Player
at_course course ways scripts =
    record { state = course.state; steps = history_of course; ways = ways; scripts = scripts }

-- one step more, made at the newest version
pub record Makes (course : Course) (made : Made) (reply : Reply) (later : Course) : Type 0 where
  pub done : apply tomoyo_grammar course.state made.step
      ≡ record { state = later.state; reply = Some reply }
  pub noted : later.made ≡ course.made ++ (made, reply) ∷ []
  pub start : later.start ≡ course.start

-- the step that a take owes is made by its process, and the take goes on or ends
pub record MakesOwn (course : Course) (b : InProgress) (old : Way) (later : Course)
    (new : Way) : Type 0 where
  pub step : Step
  pub left : InProgress
  pub reply : Reply
  pub out : TakesOut b step left
  pub makes : Makes course
      (record { maker = Maker.Process left.now.process.pid; step = step }) reply later
  pub goes : new ≡ going_on tomoyo_grammar old (after_step tomoyo_grammar left (rest_of left.stage)
      (suc (length course.made)) reply)

-- the answer of a query is taken; none is there yet, and the take waits on
abbrev pub Hears : Course → ℕ → InProgress → Way → Bool → Way → Type 0
Hears course serial b old true new =
    (answer : Answered) × (answer_of course.state.queries serial ≡ Some answer)
    × (new ≡ going_on tomoyo_grammar old
    (after_answer tomoyo_grammar b (length course.made) answer))
Hears course serial b old false new =
    (answer_of course.state.queries serial ≡ None) × (new ≡ record old { begun = Some b })

-- a tree waits for the answer of a query that has none
abbrev pub is_waiting : State → Way → Bool
is_waiting s way =
    option_map_or (λ serial. is_none (answer_of s.queries serial)) (awaited way) false

-- where a supervisor stands, a tree that has not ended yet ends; else nothing changes
abbrev pub Ends : Bool → ℕ → Bool → Course → Course → Type 0
Ends desk number true course later =
    (desk ≡ true) × (list_any (λ ended. ended == number) course.state.ended ≡ false)
    × Makes course (record { maker = Maker.Tree number; step = Step.End number }) Reply.End later
Ends desk number false course later =
    ((not desk || list_any (λ ended. ended == number) course.state.ended) ≡ true) × (later ≡ course)

-- a step of tree t: one of the process whose take has begun, or its end
abbrev pub IsMadeByTree : ℕ → Way → Made → Type 0
IsMadeByTree t way made = go made.maker
  where
    go : Maker → Type 0
    go (Maker.Process pid) = IsSomeAnd way.begun (λ b. b.now.process.pid ≡ pid)
    go (Maker.Tree n) = (n ≡ t) × (made.step ≡ Step.End t)
    go _ = ⊥

-- no step, or one of a maker of this kind
abbrev pub AddsAtMost : (Made → Type 0) → Course → Course → Type 0
AddsAtMost By course later =
    (later.made ≡ course.made) ⊎ ((made : Made) × (reply : Reply)
    × (later.made ≡ course.made ++ (made, reply) ∷ []) × By made)

-- the event of tree t, counted from 0, at a machine: the machine and the way after it
pub record TreeMoves (desk : Bool) (t : ℕ) (moved : Bool) (course : Course) (old : Way)
    (later : Course) (new : Way) : Type 0 where
  pub event : (ways : List Way) (scripts : List (List (FileKind × Text)))
      → slice_get ways t ≡ Some old
      → Answers moved (tree_event tomoyo_grammar (at_course course ways scripts) desk (suc t))
      (at_course later (slice_set ways t new) scripts) (at_course course ways scripts)
  pub start : later.start ≡ course.start
  pub makers : AddsAtMost (IsMadeByTree (suc t) old) course later

-- who may make the step of a turn
abbrev pub IsMadeBy : Turn → Player → Made → Type 0
IsMadeBy (Turn.Tree (suc t)) player made =
    IsSomeAnd (slice_get player.ways t) (λ way. IsMadeByTree (suc t) way made)
IsMadeBy (Turn.Tree n) player made = ⊥
IsMadeBy (Turn.Editor e) player made = made.maker ≡ Maker.Editor e
IsMadeBy Turn.Desk player made = ⊥
IsMadeBy turn player made = made.maker ≡ Maker.Desk
