-- A machine alone, as a seat says it.
use Rattle.std.proofs.Common.{◌≡◌, List, [], ◌∷◌, ◌++◌, map, sym, ap, ◌∙◌, subst, append-nil}
use Rattle.std.specs.Prelude.{Some}
use Rattle.std.proofs.lemmas.List.{map-append}
use Rattle.tm_rules.specs.Types.{Made, Reply}
use Rattle.tm_machine.specs.Tomoyo.{tomoyo_grammar}
use Rattle.tm_legal.specs.Prelude.{Applied, History, Replies, after, apply, opening}
use Rattle.tm_made.specs.Made.{told_from}
use Rattle.tm_made.proofs.Telling.{told-again}
use Rattle.tm_machine.specs.Machine as machine
use Rattle.tm_machine.specs.Machine.{Course, history_of}
use Rattle.tm_machine.specs.Office.{list_of}
use Rattle.tm_machine.proofs.Offices.{course-steps, course-state}
use Rattle.tm_seat.specs.Seats.{FitsFrom, IsMade}

-- the machine's list fits
pub course-fitted : (course : Course) → Replies tomoyo_grammar (opening course.start) (history_of course) → FitsFrom course.start (list_of course)
course-fitted course h =
    subst (λ (history : History). Replies tomoyo_grammar (opening course.start) history)
    (sym (ap (told_from tomoyo_grammar (opening course.start)) (course-steps course) ∙ told-again tomoyo_grammar (opening course.start) (history_of course) h)) h

-- a step more
pub course-noted : (old new : Course) (made : Made) (reply : Reply) → new.made ≡ old.made ++ (made, reply) ∷ [] → list_of new ≡ list_of old ++ made ∷ []
course-noted old new made reply noted =
    ap (map (λ (pair : Made × Reply). pair.0)) noted ∙ map-append (λ (pair : Made × Reply). pair.0) old.made ((made, reply) ∷ [])

pub course-made : (old new : Course) (made : Made) (reply : Reply) → old.state ≡ after tomoyo_grammar (opening old.start) (machine.steps_made old) → (let done : Applied = record { state = new.state; reply = Some reply } in apply tomoyo_grammar old.state made.step ≡ done) → new.made ≡ old.made ++ (made, reply) ∷ [] → IsMade old.start (list_of old) made (list_of new) reply
course-made old new made reply after_is done noted = (
  [],
  course-noted old new made reply noted ∙ ap (λ (l : List Made). l ++ made ∷ []) (sym (append-nil (list_of old))),
  rw (append-nil (list_of old), course-state old after_is) (ap (λ (a : Applied). a.reply) done),
)
