-- Lists of steps with their makers: the state, the replies and the history that they come to.
use Rattle.std.specs.Prelude.{◌≡◌, ℕ, suc, Bool, true, List, [], ◌∷◌, length, map, take, Option, Some, is_some, unwrap_or, if◌then◌else◌, option_map, slice_get}
use Rattle.tm_rules.specs.Types.{Made, Reply, Start, Step}
use Rattle.tm_rules.specs.Prelude.{Grammar, numbered}
use Rattle.tm_legal.specs.Prelude.{History, Replies, Scene, State, after, apply, fits, opening, opening_of}

-- the steps alone
abbrev pub steps_made : List Made → List Step
steps_made list = map (λ (made : Made). made.step) list

-- each step with the reply that it has at its place; one that doesn't fit has the reply End, so
-- that no law needs a premise
unfoldable pub told_from : Grammar → State → List Step → History
told_from g state [] = []
told_from g state (step ∷ steps) =
    (step, unwrap_or (apply g state step).reply Reply.End)
    ∷ told_from g (apply g state step).state steps

-- what a machine starts from in a scene
abbrev pub start_in : Scene → Start
start_in scene =
    record { policy = scene.policy; editors = scene.editors; trees = length scene.trace; desk = is_some scene.book }

-- the state after all of them
abbrev pub state_made : Grammar → Start → List Made → State
state_made g start list = after g (opening start) (steps_made list)

-- the steps with their replies, from the opening of a scene
abbrev pub history_made : Scene → List Made → History
history_made scene list = told_from scene.grammar (opening_of scene) (steps_made list)

-- every step fits at its place
abbrev pub IsFitted : Scene → List Made → Type 0
IsFitted scene list = Replies scene.grammar (opening_of scene) (history_made scene list)

-- the step with that number, from 1
abbrev pub made_step : List Made → ℕ → Option Step
made_step list number = option_map (λ (made : Made). made.step) (numbered list number)

-- each step may come after those before it
abbrev pub EachFits : Grammar → Start → List Made → Type 0
EachFits g start list =
    (k : ℕ) (made : Made) → slice_get list k ≡ Some made
    → fits g start (steps_made (take k list)) made.step ≡ true

-- the numbers of the elements that pass a test, where the first has number n
abbrev pub numbers_from : {A : Type 0} → ℕ → (A → Bool) → List A → List ℕ
numbers_from n test [] = []
numbers_from n test (x ∷ list) =
    if test x then n ∷ numbers_from (suc n) test list else numbers_from (suc n) test list
