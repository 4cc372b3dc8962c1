-- The steps of a machine as an office has them.
use Rattle.std.proofs.Common.{◌≡◌, ◌<◌, ◌≤◌, ℕ, zero, suc, List, [], ◌∷◌, length, map, refl, sym, ap, ◌∙◌, arith}
use Rattle.std.specs.Prelude.{◌↔◌, Option, Some, None, IsSome, MatchOption, true, false, option_map, slice_get}
use Rattle.std.specs.Borrow.{Bor}
use Rattle.std.specs.Option.{option_copied}
use Rattle.tm_rules.specs.Types.{Made, Reply, Step}
use Rattle.tm_rep.specs.Tomoyo.{tomoyo_grammar}
use Rattle.tm_legal.specs.Prelude.{History, Replies, State, after, apply, opening, reply_at, steps_of}
use Rattle.tm_made.specs.Made.{steps_made, state_made, told_from}
use Rattle.tm_made.proofs.Telling.{told-again}
use Rattle.tm_machine.specs.Machine as machine
use Rattle.tm_machine.specs.Machine.{Course, history_of}
use Rattle.tm_machine.specs.Fitting.{fits_now}
use Rattle.tm_machine.specs.Office.{list_of, fits_at, reply_in}

steps-first : (made : List (Made × Reply)) → steps_made (map (λ (pair : Made × Reply). pair.0) made) ≡ steps_of (map (λ (pair : Made × Reply). (pair.0.step, pair.1)) made)
steps-first [] = refl
steps-first (x ∷ made) = ap (λ (steps : List Step). x.0.step ∷ steps) (steps-first made)

pub course-steps : (course : Course) → steps_made (list_of course) ≡ machine.steps_made course
course-steps course = steps-first course.made

pub course-state : (course : Course) → course.state ≡ after tomoyo_grammar (opening course.start) (machine.steps_made course) → state_made tomoyo_grammar course.start (list_of course) ≡ course.state
course-state course h = ap (after tomoyo_grammar (opening course.start)) (course-steps course) ∙ sym h

pub course-fits : (course : Course) (made : Made) → course.state ≡ after tomoyo_grammar (opening course.start) (machine.steps_made course) → fits_at course.start (list_of course) made ≡ true → IsSome (apply tomoyo_grammar course.state made.step).reply
course-fits course made h e = rw (← course-state course h) e

-- whether a step fits is the same, said of the state or of the list of steps
pub course-tried : (course : Course) (made : Made) → course.state ≡ after tomoyo_grammar (opening course.start) (machine.steps_made course) → fits_now course.state made.step ≡ fits_at course.start (list_of course) made
course-tried course made h = ap (λ (state : State). fits_now state made.step) (sym (course-state course h))

pub course-reply : (course : Course) (number : ℕ) → Replies tomoyo_grammar (opening course.start) (history_of course) → reply_at (history_of course) number ≡ reply_in course.start (list_of course) number
course-reply course number h =
    ap (λ (history : History). reply_at history number)
    (sym (ap (told_from tomoyo_grammar (opening course.start)) (course-steps course) ∙ told-again tomoyo_grammar (opening course.start) (history_of course) h))

-- a step has a reply exactly where its number is one of a step
inside-get : (made : List (Made × Reply)) (n : ℕ) →
    IsSome (option_map (λ (pair : Step × Reply). pair.1) (slice_get (map (λ (pair : Made × Reply). (pair.0.step, pair.1)) made) n))
    ↔ (n < length (map (λ (pair : Made × Reply). pair.0) made))
inside-get [] n = (λ e. absurd (let f : false ≡ true = e in cc), λ lt. absurd (omega (arith, lt)))
inside-get (x ∷ made) zero = (λ e. omega arith, λ lt. refl)
inside-get (x ∷ made) (suc n) = (λ e. omega (arith, (inside-get made n).0 e), λ lt. (inside-get made n).1 (omega (arith, lt)))

pub course-inside : (course : Course) (number : ℕ) → IsSome (reply_at (history_of course) number) ↔ ((0 < number) × (number ≤ length (list_of course)))
course-inside course zero = (λ e. absurd (let f : false ≡ true = e in cc), λ h. absurd (omega (arith, h.0)))
course-inside course (suc n) =
    (λ e. (omega arith, omega (arith, (inside-get course.made n).0 e)), λ h. (inside-get course.made n).1 (omega (arith, h.1)))

pub match-copied : {A : Type 0} (lent : Option (Bor A)) (found : Option A) → option_copied lent ≡ found → MatchOption lent (found ≡ None) (λ q. found ≡ Some q.now)
match-copied None found e = sym e
match-copied (Some q) found e = sym e
