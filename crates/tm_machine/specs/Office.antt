-- What a machine answers, as functions of its opening and of its steps with their makers.
use Rattle.std.specs.Prelude.{◌≡◌, ℕ, Bool, true, List, ◌++◌, map, Option}
use Rattle.std.proofs.Common.{refl}
use Rattle.tm_rules.specs.Types.{Answered, Made, Maker, Query, Reply, Start, Step}
use Rattle.tm_rules.specs.Prelude.{answer_of, first_query}
use Rattle.tm_rep.specs.Tomoyo.{tomoyo_grammar}
use Rattle.tm_legal.specs.Prelude.{all_ended, apply, fits, opening, reply_at}
use Rattle.tm_made.specs.Made.{steps_made, state_made, told_from}
use Rattle.tm_made.proofs.Fits.{made-fits-stays}
use Rattle.tm_machine.specs.Machine.{Course}

-- its opening
abbrev pub start_of : Course → Start
start_of course = course.start

-- its steps with their makers, in order
abbrev pub list_of : Course → List Made
list_of course = map (λ (pair : Made × Reply). pair.0) course.made

-- a step may come after these
abbrev pub fits_at : Start → List Made → Made → Bool
fits_at start list made = fits tomoyo_grammar start (steps_made list) made.step

-- the reply of the step of a number, from 1
abbrev pub reply_in : Start → List Made → ℕ → Option Reply
reply_in start list number = reply_at (told_from tomoyo_grammar (opening start) (steps_made list)) number

-- what became of the query of a serial
abbrev pub answer_in : Start → List Made → ℕ → Option Answered
answer_in start list serial = answer_of (state_made tomoyo_grammar start list).queries serial

-- the first query without an answer
abbrev pub first_in : Start → List Made → Option Query
first_in start list = first_query (state_made tomoyo_grammar start list).queries

-- every tree has ended
abbrev pub over_in : Start → List Made → Bool
over_in start list = all_ended tomoyo_grammar (state_made tomoyo_grammar start list)

-- a step of the supervisor
abbrev pub by_desk : Step → Made
by_desk step = record { maker = Maker.Desk; step = step }

-- a step that fits goes on fitting
pub fits_at_stays : (start : Start) (list more : List Made) (made : Made) → fits_at start list made ≡ true → fits_at start (list ++ more) made ≡ true
fits_at_stays start list more made h = made-fits-stays tomoyo_grammar start list more made h

-- the supervisor may come, answer and leave at any time
pub attach_fits : (start : Start) (list : List Made) → fits_at start list (by_desk Step.Attach) ≡ true
unfolding apply
attach_fits start list = refl

pub answer_fits : (start : Start) (list : List Made) (serial code : ℕ) → fits_at start list (by_desk (Step.Answer serial code)) ≡ true
unfolding apply
answer_fits start list serial code = refl

pub detach_fits : (start : Start) (list : List Made) → fits_at start list (by_desk Step.Detach) ≡ true
unfolding apply
detach_fits start list = refl
