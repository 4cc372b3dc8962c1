-- The events of a take by lists of made steps: the list that a worker knew, and a longer one at
-- which it looks, makes a step or hears.
use Rattle.std.proofs.Common.{◌≡◌, suc, List, [], ◌∷◌, ◌++◌, length, ap, ◌∙◌, subst, arith}
use Rattle.std.specs.Prelude.{Option, Some, unwrap_or}
use Rattle.std.proofs.lemmas.List.{length-append}
use Rattle.tm_rules.specs.Types.{Made, Reply}
use Rattle.tm_rules.specs.Prelude.{Grammar}
use Rattle.tm_legal.specs.Prelude.{InProgress, Replies, Scene, after, apply, newest, opening_of}
use Rattle.tm_made.specs.Made.{told_from, history_made, IsFitted}
use Rattle.tm_joint.specs.UnderWay.{IsReplied}
use Rattle.tm_joint.specs.AtLists.{state_after, UnderWayAt, TakesGrow, DomainsStay, LooksAreJudged, LooksBegin, OwedStepsFit, StepsAreMade, AnswersAreHeard, RetriesAreJudged, LooksGoOn, EndedTakesAreLegal, OwnStepsAreNoted}
use Rattle.tm_made.proofs.Telling.{made-steps, made-length, made-append, more_made, fitted-front}
use Rattle.tm_joint.proofs.TakeLaws.{take-grows, domain-grows, is-judged-now, take-begins, owed-fits, take-makes, take-hears, again-judged, take-looks-again, take-ends, own-makes, own-hears, own-looks-again, own-ends}

module _ (scene : Scene) where
  pub newest-made : (list : List Made) → newest scene (history_made scene list) ≡ state_after scene list
  newest-made list = ap (after scene.grammar (opening_of scene)) (made-steps scene list)

  pub replied-made : (xs ys : List Made) → IsFitted scene (xs ++ ys) → IsReplied scene (history_made scene xs ++ more_made scene xs ys)
  replied-made xs ys fitted = subst (Replies scene.grammar (opening_of scene)) (made-append scene xs ys) fitted

  -- one step more, with its reply
  made-push : (list : List Made) (made : Made) (r : Reply) → (apply scene.grammar (state_after scene list) made.step).reply ≡ Some r → history_made scene (list ++ made ∷ []) ≡ history_made scene list ++ (made.step, r) ∷ []
  unfolding told_from
  made-push list made r replied = made-append scene list (made ∷ []) ∙ ap (λ (reply : Option Reply). history_made scene list ++ (made.step, unwrap_or reply Reply.End) ∷ []) replied

-- others' steps
pub takes-grow : TakesGrow
takes-grow scene xs ys floor b grammar opened fitted h =
    rw (made-append scene xs ys) (take-grows scene grammar opened (history_made scene xs) (more_made scene xs ys) floor b (replied-made scene xs ys fitted) h)

pub domains-stay : DomainsStay
domains-stay scene xs ys d grammar opened fitted there =
    rw (← newest-made scene (xs ++ ys), made-append scene xs ys)
    (domain-grows scene grammar opened (history_made scene xs) (more_made scene xs ys) d (replied-made scene xs ys fitted) (rw (newest-made scene xs) there))

-- there is a verdict at each list from the known one on
pub looks-are-judged : LooksAreJudged
looks-are-judged scene xs ys now d request grammar opened fitted domain there asked =
    let list : List Made = xs ++ ys in
    rw (← newest-made scene list) (is-judged-now scene grammar opened (history_made scene list) now d request domain (rw (newest-made scene list) (domains-stay scene xs ys d grammar opened fitted there)) asked)

-- the first look, at a longer list
pub looks-begin : LooksBegin
looks-begin scene xs ys floor now d request v grammar opened fitted le domain there asked judged =
    let list : List Made = xs ++ ys in
    let long : length (history_made scene list) ≡ length list = made-length scene list in
    rw (← newest-made scene list, ← long)
    (take-begins scene grammar opened (history_made scene list) floor now d request v fitted
    (rw (long, length-append xs ys) (omega (arith, le)))
    domain
    (rw (newest-made scene list) (domains-stay scene xs ys d grammar opened fitted there))
    asked
    (rw (newest-made scene list) judged))

-- a step that is owed, after a list that was known
pub owed-steps-fit : OwedStepsFit
owed-steps-fit scene xs floor b step rest grammar opened h is = rw (← newest-made scene xs) (owed-fits scene grammar opened (history_made scene xs) floor b step rest h is)

-- the step is made after others
pub steps-are-made : StepsAreMade
steps-are-made scene xs ys made floor b rest r grammar opened fitted is replied h =
    let list : List Made = xs ++ ys in
    let long : suc (length (history_made scene list)) ≡ length (list ++ made ∷ []) = rw (made-length scene list, length-append list (made ∷ [])) (omega arith) in
    let before : UnderWayAt scene list floor b = takes-grow scene xs ys floor b grammar opened (fitted-front scene list (made ∷ []) fitted) h in
    rw (made-push scene list made r replied, ← long)
    (take-makes scene grammar opened (history_made scene list) floor b made.step rest r is (rw (newest-made scene list) replied) before)

-- the answer is heard at a longer list
pub answers-are-heard : AnswersAreHeard
answers-are-heard scene xs ys floor b serial answer grammar opened fitted is has h =
    let list : List Made = xs ++ ys in
    rw (← made-length scene list)
    (take-hears scene grammar opened (history_made scene list) floor b serial answer is (rw (newest-made scene list) has) (takes-grow scene xs ys floor b grammar opened fitted h))

-- another look, at a longer list
pub retries-are-judged : RetriesAreJudged
retries-are-judged scene xs ys floor b grammar opened fitted h =
    let list : List Made = xs ++ ys in
    rw (← newest-made scene list) (again-judged scene grammar opened (history_made scene list) floor b (takes-grow scene xs ys floor b grammar opened fitted h))

pub looks-go-on : LooksGoOn
looks-go-on scene xs ys floor b v grammar opened fitted is judged h =
    let list : List Made = xs ++ ys in
    rw (← newest-made scene list, ← made-length scene list)
    (take-looks-again scene grammar opened (history_made scene list) floor b v fitted is (rw (newest-made scene list) judged) (takes-grow scene xs ys floor b grammar opened fitted h))

-- the end, by the list that is known then
pub ended-takes-are-legal : EndedTakesAreLegal
ended-takes-are-legal scene xs t walked b grammar opened is process domain h =
    let done = take-ends scene grammar opened (history_made scene xs) t walked b is process domain h in
    (done.0, rw (← newest-made scene xs) done.1)

-- its own steps
pub own-steps-are-noted : (g : Grammar) (b : InProgress) → OwnStepsAreNoted g b
own-steps-are-noted g b = record { made = own-makes g b; heard = own-hears g b; looked = own-looks-again g b; ended = own-ends g b }
