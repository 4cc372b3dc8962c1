-- What a list comes to in every scene with an opening.
use Rattle.std.proofs.Common.{◌≡◌, ◌≤◌, ℕ, suc, List, [], ◌∷◌, ◌++◌, length, true, refl, sym, ap, ◌∙◌, subst, append_assoc}
use Rattle.std.specs.Prelude.{Option, Some, IsSome, replicate}
use Rattle.std.proofs.lemmas.List.{length-replicate}
use Rattle.tm_rules.specs.Types.{Answered, Book, Made, Reply, Request, Start, Step, Tree, Verdict}
use Rattle.tm_rules.specs.Prelude.{Trace, answer_of, is_request}
use Rattle.tm_take.specs.Tomoyo.{tomoyo_grammar}
use Rattle.tm_take.proofs.IsOne.{is_one}
use Rattle.tm_legal.specs.Prelude.{DomainIn, InProgress, IsOpened, Replies, Situation, Stage, State, after, after_answer, after_step, apply, opening, opening_of, taken}
use Rattle.tm_made.specs.Made.{steps_made, told_from, IsFitted}
use Rattle.tm_joint.specs.UnderWay.{JudgedBy, begun_at}
use Rattle.tm_joint.specs.AtLists.{state_after, UnderWayAt, EndsLegally}
use Rattle.tm_joint.proofs.ListLaws.{newest-made, looks-begin, owed-steps-fit, steps-are-made, answers-are-heard, looks-go-on, ended-takes-are-legal}
use Rattle.tm_seat.specs.Seats.{scene_of, state_of, FitsFrom, Begins}

-- a scene of an opening has that opening
same-opening : (start : Start) (trace : Trace) (book : Option Book) → length trace ≡ start.trees → opening_of (scene_of start trace book) ≡ opening start
same-opening start trace book trees = rw trees refl

-- a trace with as many trees
pub some-trace : (n : ℕ) → (trace : Trace) × (length trace ≡ n)
some-trace n = let tree : Tree = record { pid = 0; start = []; records = [] } in (replicate n tree, length-replicate n tree)

pub begins-further : (xs ys zs : List Made) → Begins xs ys → Begins ys zs → Begins xs zs
begins-further xs ys zs a b = (a.0 ++ b.0, b.1 ∙ ap (λ (l : List Made). l ++ b.0) a.1 ∙ append_assoc xs a.0 b.0)

module _ (start : Start) (opened : IsOpened start.policy) (trace : Trace) (book : Option Book) (trees : length trace ≡ start.trees) where
  -- what fits from an opening fits in its scene
  pub fits-scene : (list : List Made) → FitsFrom start list → IsFitted (scene_of start trace book) list
  fits-scene list h = subst (λ (s : State). Replies tomoyo_grammar s (told_from tomoyo_grammar s (steps_made list))) (sym (same-opening start trace book trees)) h

  pub state-scene : (list : List Made) → state_after (scene_of start trace book) list ≡ state_of start list
  state-scene list = ap (λ (s : State). after tomoyo_grammar s (steps_made list)) (same-opening start trace book trees)

  -- the first look
  pub first-law : (xs ys : List Made) (floor : ℕ) (now : Situation) (d : ℕ) (request : Request) (v : Verdict) → FitsFrom start (xs ++ ys) → floor ≤ length xs → now.domain ≡ Some d → DomainIn (state_of start xs).policy d → is_request tomoyo_grammar.is_path request ≡ true → JudgedBy tomoyo_grammar (state_of start (xs ++ ys)) d now request v → UnderWayAt (scene_of start trace book) (xs ++ ys) floor (begun_at tomoyo_grammar (length (xs ++ ys)) (state_of start (xs ++ ys)) now d request 0 [] v)
  first-law xs ys floor now d request v fitted le domain there asked judged =
      rw (← state-scene (xs ++ ys))
      (looks-begin (scene_of start trace book) xs ys floor now d request v is_one opened (fits-scene (xs ++ ys) fitted) le domain (rw (state-scene xs) there) asked (rw (state-scene (xs ++ ys)) judged))

  -- the next own step fits
  pub fit-law : (xs : List Made) (floor : ℕ) (b : InProgress) (step : Step) (rest : List Step) → b.stage ≡ Stage.Owing (step ∷ rest) → UnderWayAt (scene_of start trace book) xs floor b → IsSome (apply tomoyo_grammar (state_of start xs) step).reply
  fit-law xs floor b step rest is h = rw (← state-scene xs) (owed-steps-fit (scene_of start trace book) xs floor b step rest is_one opened h is)

  -- it is made
  pub step-law : (xs ys : List Made) (made : Made) (floor : ℕ) (b : InProgress) (rest : List Step) (r : Reply) → FitsFrom start ((xs ++ ys) ++ made ∷ []) → b.stage ≡ Stage.Owing (made.step ∷ rest) → (apply tomoyo_grammar (state_of start (xs ++ ys)) made.step).reply ≡ Some r → UnderWayAt (scene_of start trace book) xs floor b → UnderWayAt (scene_of start trace book) ((xs ++ ys) ++ made ∷ []) floor (after_step tomoyo_grammar b rest (length ((xs ++ ys) ++ made ∷ [])) r)
  step-law xs ys made floor b rest r fitted is replied h =
      steps-are-made (scene_of start trace book) xs ys made floor b rest r is_one opened (fits-scene ((xs ++ ys) ++ made ∷ []) fitted) is (rw (state-scene (xs ++ ys)) replied) h

  -- the answer
  pub hear-law : (xs ys : List Made) (floor : ℕ) (b : InProgress) (serial : ℕ) (answer : Answered) → FitsFrom start (xs ++ ys) → b.stage ≡ Stage.Waiting serial → answer_of (state_of start (xs ++ ys)).queries serial ≡ Some answer → UnderWayAt (scene_of start trace book) xs floor b → UnderWayAt (scene_of start trace book) (xs ++ ys) floor (after_answer tomoyo_grammar b (length (xs ++ ys)) answer)
  hear-law xs ys floor b serial answer fitted is has h =
      answers-are-heard (scene_of start trace book) xs ys floor b serial answer is_one opened (fits-scene (xs ++ ys) fitted) is (rw (state-scene (xs ++ ys)) has) h

  -- another look
  pub again-law : (xs ys : List Made) (floor : ℕ) (b : InProgress) (v : Verdict) → FitsFrom start (xs ++ ys) → b.stage ≡ Stage.Looking → JudgedBy tomoyo_grammar (state_of start (xs ++ ys)) b.before b.now b.request v → UnderWayAt (scene_of start trace book) xs floor b → UnderWayAt (scene_of start trace book) (xs ++ ys) floor (begun_at tomoyo_grammar (length (xs ++ ys)) (state_of start (xs ++ ys)) b.now b.before b.request (suc b.retry) (b.looked ++ b.look ∷ []) v)
  again-law xs ys floor b v fitted is judged h =
      rw (← state-scene (xs ++ ys))
      (looks-go-on (scene_of start trace book) xs ys floor b v is_one opened (fits-scene (xs ++ ys) fitted) is (rw (state-scene (xs ++ ys)) judged) h)

  -- what another look needs
  pub again-there : (xs : List Made) (floor : ℕ) (b : InProgress) → UnderWayAt (scene_of start trace book) xs floor b → DomainIn (state_of start xs).policy b.before × (is_request tomoyo_grammar.is_path b.request ≡ true)
  again-there xs floor b h = (rw (← state-scene xs, ← newest-made (scene_of start trace book) xs) h.there, h.asked)

  -- the end
  pub end-law : (xs : List Made) (t : ℕ) (walked : Situation) (b : InProgress) → b.stage ≡ Stage.Owing [] → walked.process ≡ b.now.process → walked.domain ≡ b.now.domain → UnderWayAt (scene_of start trace book) xs walked.floor b → EndsLegally (scene_of start trace book) xs (record { tree = t; now = walked; request = b.request; taken = taken tomoyo_grammar b })
  end-law xs t walked b is process domain h =
      ended-takes-are-legal (scene_of start trace book) xs t walked b is_one opened is process domain h
