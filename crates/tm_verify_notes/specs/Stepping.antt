-- What is noted of steps.
use Rattle.std.specs.Prelude.{◌≡◌, ◌↔◌, ⊤, Bool, true, not, List, [], ◌∷◌, ◌++◌, Option, Some, None, is_some}
use Rattle.tm_rules.specs.Types.{Book, Query, Reply, Step}
use Rattle.tm_rules.specs.Prelude.{first_query}
use Rattle.tm_take.specs.Tomoyo.{tomoyo_grammar}
use Rattle.tm_legal.specs.Prelude.{History, Scene, State, apply, newest}
use Rattle.tm_verify_laws.specs.Desk.{is_answered_so}
use Rattle.tm_verify_notes.specs.declared.steps.StepNote.{StepNote}

-- with this first unanswered query, none or one, the book lets the supervisor make the step
abbrev pub suits : Option Book → Option Query → Step → Bool
suits None query step = true
suits (Some book) query (Step.Answer serial code) = is_answered_so book query serial code
suits (Some book) query Step.Detach = not (is_some query)
suits (Some book) query Step.Attach = true
suits (Some book) query (Step.End t) = true
suits (Some book) query (Step.Learn d entry) = true
suits (Some book) query (Step.Make d name) = true
suits (Some book) query (Step.Fail d) = true
suits (Some book) query (Step.Ask d retry line) = true
suits (Some book) query (Step.Edit e file line) = true

-- what is noted of a step that is made in this state
pub record IsNotedIn (book : Option Book) (state : State) (step : Step) (reply : Reply)
    (note : StepNote) : Type 0 where
  pub replied : (note.replied ≡ true) ↔ ((apply tomoyo_grammar state step).reply ≡ Some reply)
  pub suits : note.suits ≡ suits book (first_query state.queries) step

-- the same of a step after others
abbrev pub IsStepNote : Scene → History → Step × Reply → StepNote → Type 0
IsStepNote scene before pair note =
    IsNotedIn scene.book (newest scene before) pair.0 pair.1 note

-- of each step, where these came before
abbrev pub AreNoted : Scene → History → History → List StepNote → Type 0
AreNoted scene before [] [] = ⊤
AreNoted scene before [] (note ∷ notes) = ⊥
AreNoted scene before (pair ∷ pairs) [] = ⊥
AreNoted scene before (pair ∷ pairs) (note ∷ notes) =
    IsStepNote scene before pair note × AreNoted scene (before ++ pair ∷ []) pairs notes
