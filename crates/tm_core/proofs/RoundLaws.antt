-- Turns one after another, rounds of them, and the play that they end in.
use Rattle.std.proofs.Common.{◌≡◌, ◌≤◌, ◌<◌, ℕ, suc, ◌+◌, List, [], ◌∷◌, ◌++◌, length, take, get_or, Bool, true, false, refl, sym, ap, ◌∙◌, subst, arith}
use Rattle.std.specs.Prelude.{Option, Some, None, Result, Ok, Err, IfOk, is_some, if◌then◌else◌}
use Rattle.std.specs.List.{AllByRecursion}
use Rattle.std.proofs.lemmas.List.{take_all, take_more}
use Rattle.tm_rules.specs.Prelude.{Trace}
use Rattle.tm_rules.specs.Types.{Book, Start, Turn}
use Rattle.tm_audit.specs.Tomoyo.{tomoyo_grammar}
use Rattle.tm_legal.specs.Prelude.{CanPlay, Legal, NobodyCanMove, Player, Plays, Scene, desk_turn, event, everybody, final_policy, play_left, player_event, rounds, run_of, start_of, turn, turns}
use Rattle.tm_legal.proofs.Players.{PlayHolds}
use Rattle.tm_legal.proofs.AllPlays.{rounds-hold}
use Rattle.tm_legal.proofs.PlayLaws.{turns-append, rounds-suc, every_play_is_legal, every_event_is_work, reached_holds}
use Rattle.tm_machine.specs.Machine.{Course}
use Rattle.tm_core.specs.Scenes.{scene_of, IsReached, Answers}
use Rattle.tm_core.specs.Rounds.{HasPlayed, IsOver, one_round}

-- One turn

some-if : (b : Bool) (book : Book) → is_some (if b then Some book else None) ≡ b
some-if true book = refl
some-if false book = refl

pub tree-turn : (start : Start) (trace : Trace) (book : Book) (player : Player) (number : ℕ) → event (scene_of start trace book) player (Turn.Tree number) ≡ player_event tomoyo_grammar player start.desk (Turn.Tree number)
unfolding event
tree-turn start trace book player number = ap (λ desk. player_event tomoyo_grammar player desk (Turn.Tree number)) (some-if start.desk book)

pub editor-turn : (start : Start) (trace : Trace) (book : Book) (player : Player) (number : ℕ) → event (scene_of start trace book) player (Turn.Editor number) ≡ player_event tomoyo_grammar player start.desk (Turn.Editor number)
unfolding event
editor-turn start trace book player number = ap (λ desk. player_event tomoyo_grammar player desk (Turn.Editor number)) (some-if start.desk book)

pub no-desk : (start : Start) (trace : Trace) (book : Book) (player : Player) → start.desk ≡ false → event (scene_of start trace book) player Turn.Desk ≡ None
unfolding event
no-desk start trace book player none = rw none refl

pub desk-rests : (start : Start) (trace : Trace) (book : Book) (player : Player) → start.desk ≡ true → desk_turn tomoyo_grammar player book ≡ None → event (scene_of start trace book) player Turn.Desk ≡ None
unfolding event
desk-rests start trace book player desk none = rw (desk, none) refl

pub desk-moves : (start : Start) (trace : Trace) (book : Book) (player : Player) (who : Turn) → start.desk ≡ true → desk_turn tomoyo_grammar player book ≡ Some who → event (scene_of start trace book) player Turn.Desk ≡ player_event tomoyo_grammar player true who
unfolding event
desk-moves start trace book player who desk is = rw (desk, is) refl

-- the same answer to an event that is written otherwise
answers-as : (moved : Bool) (e f : Option Player) (new old : Player) → f ≡ e → Answers moved e new old → Answers moved f new old
answers-as moved e f new old same is = rw same is

-- the desk's turn has an event, or none, and so has the desk
pub desk-has : (start : Start) (trace : Trace) (book : Book) (player next : Player) (who : Turn) (moved : Bool) → start.desk ≡ true → desk_turn tomoyo_grammar player book ≡ Some who → Answers moved (player_event tomoyo_grammar player start.desk who) next player
    → Answers moved (event (scene_of start trace book) player Turn.Desk) next player
desk-has start trace book player next who moved desk is had =
    answers-as moved (player_event tomoyo_grammar player start.desk who) (event (scene_of start trace book) player Turn.Desk) next player (desk-moves start trace book player who desk is ∙ ap (λ d. player_event tomoyo_grammar player d who) (sym desk)) had

pub tree-has : (start : Start) (trace : Trace) (book : Book) (player next : Player) (number : ℕ) (moved : Bool) → Answers moved (player_event tomoyo_grammar player start.desk (Turn.Tree number)) next player → Answers moved (event (scene_of start trace book) player (Turn.Tree number)) next player
tree-has start trace book player next number moved had = answers-as moved (player_event tomoyo_grammar player start.desk (Turn.Tree number)) (event (scene_of start trace book) player (Turn.Tree number)) next player (tree-turn start trace book player number) had

pub event-as : {E : Type 0} (result : Result Bool E) (e : Option Player) (f : Trace → Option Player) (new old : Player) → ((trace : Trace) → f trace ≡ e) → IfOk result (λ moved. Answers moved e new old)
    → IfOk result (λ moved. (trace : Trace) → Answers moved (f trace) new old)
event-as (Ok moved) e f new old same is = λ trace. answers-as moved e (f trace) new old (same trace) is
event-as (Err error) e f new old same is = tt

turn-is : (scene : Scene) (player next : Player) (who : Turn) (moved : Bool) → Answers moved (event scene player who) next player → turn scene player who ≡ next
unfolding turn
turn-is scene player next who true is = rw is refl
turn-is scene player next who false is = rw is.0 (sym is.1)

-- what a turn leads to is reached
pub goes-on : (trace : Trace) (book : Book) (course later : Course) (player next : Player) (who : Turn) (moved : Bool) → later.start ≡ course.start → IsReached trace book course player
    → Answers moved (event (scene_of course.start trace book) player who) next player → IsReached trace book later next
unfolding turns
goes-on trace book course later player next who moved same h is = record { trees = rw same h.trees; can = rw same h.can; schedule = h.schedule ++ who ∷ []; led = rw same led }
  where
    scene : Scene
    scene = scene_of course.start trace book

    led : next ≡ turns scene (start_of scene) (h.schedule ++ who ∷ [])
    led = sym (turn-is scene player next who moved is) ∙ ap (λ q. turn scene q who) h.led ∙ sym (turns-append scene (start_of scene) h.schedule (who ∷ []))

-- Turns

All-last : {A : Type 0} (P : A → Type 0) (xs : List A) (x : A) → AllByRecursion P xs → P x → AllByRecursion P (xs ++ x ∷ [])
All-last P [] x all h = (h, tt)
All-last P (y ∷ ys) x all h = (all.0, All-last P ys x all.1 h)

fewer : (m moved : Bool) (a b c : ℕ) → (if m then 1 else 0) + a ≤ b → (if moved then 1 else 0) + b ≤ c → (if (if m then true else moved) then 1 else 0) + a ≤ c
fewer true true a b c x y = omega arith
fewer true false a b c x y = omega arith
fewer false true a b c x y = omega arith
fewer false false a b c x y = omega arith

pub none-played : (scene : Scene) (player : Player) (list : List Turn) → HasPlayed scene player player (take 0 list) false
unfolding turns
none-played scene player list = record { led = refl; still = λ none. (refl, tt); less = omega arith }

pub one-played : (trace : Trace) (book : Book) (course : Course) (start : Start) (old now next : Player) (list : List Turn) (i : ℕ) (d : Turn) (moved m : Bool) → course.start ≡ start → i < length list → IsReached trace book course now
    → HasPlayed (scene_of start trace book) old now (take i list) moved → Answers m (event (scene_of course.start trace book) now (get_or list i d)) next now
    → HasPlayed (scene_of start trace book) old next (take (i + 1) list) (if m then true else moved)
unfolding turns
one-played trace book course start old now next list i d moved m same within h played is =
    rw (take_more list i d within) (record { led = led; still = still m here; less = fewer m moved _ _ _ (less m here) played.less })
  where
    scene : Scene
    scene = scene_of start trace book

    who : Turn
    who = get_or list i d

    here : Answers m (event scene now who) next now
    here = subst (λ s. Answers m (event (scene_of s trace book) now who) next now) same is

    led : next ≡ turns scene old (take i list ++ who ∷ [])
    led = sym (turn-is scene now next who m here) ∙ ap (λ q. turn scene q who) played.led ∙ sym (turns-append scene old (take i list) (who ∷ []))

    still : (m : Bool) → Answers m (event scene now who) next now → (if m then true else moved) ≡ false → (next ≡ old) × AllByRecursion (λ other. event scene old other ≡ None) (take i list ++ who ∷ [])
    still true at none = absurd cc
    still false at none =
        let before = played.still none in (
          at.1 ∙ before.0,
          All-last (λ other. event scene old other ≡ None) (take i list) who before.1 (subst (λ q. event scene q who ≡ None) before.0 at.0),
        )

    less : (m : Bool) → Answers m (event scene now who) next now → (if m then 1 else 0) + play_left scene next ≤ play_left scene now
    less true at =
        let reached : now ≡ turns scene (start_of scene) h.schedule = rw (sym same) h.led in
        let work : play_left scene next < play_left scene (turns scene (start_of scene) h.schedule) = every_event_is_work scene h.schedule who next (rw (sym same) h.can) (subst (λ q. event scene q who ≡ Some next) reached at) in
        subst (λ q. 1 + play_left scene next ≤ play_left scene q) (sym reached) (omega (arith, work))
    less false at = subst (λ q. 0 + play_left scene q ≤ play_left scene now) (sym at.1) (omega arith)

pub all-played : (scene : Scene) (old now : Player) (list : List Turn) (i : ℕ) (moved : Bool) → length list ≤ i → HasPlayed scene old now (take i list) moved → HasPlayed scene old now list moved
all-played scene old now list i moved past played = subst (λ l. HasPlayed scene old now l moved) (take_all i list past) played

-- Rounds

pub everybody-is : (trace : Trace) (book : Book) (course : Course) (player : Player) → IsReached trace book course player → everybody (scene_of course.start trace book) ≡ one_round (length course.start.editors) course.start.trees
everybody-is trace book course player h = ap (one_round (length course.start.editors)) h.trees

pub rounds-begin : (scene : Scene) (player : Player) → player ≡ rounds scene player 0
unfolding rounds
rounds-begin scene player = refl

pub rounds-next : (scene : Scene) (old now next : Player) (list : List Turn) (n : ℕ) (moved : Bool) → everybody scene ≡ list → now ≡ rounds scene old n → HasPlayed scene now next list moved → next ≡ rounds scene old (suc n)
rounds-next scene old now next list n moved all is played = played.led ∙ ap (turns scene now) (sym all) ∙ ap (λ q. turns scene q (everybody scene)) is ∙ sym (rounds-suc scene old n)

-- a round in which nobody has moved is the last
pub rounds-end : (scene : Scene) (old now next : Player) (list : List Turn) (n : ℕ) → everybody scene ≡ list → now ≡ rounds scene old n → HasPlayed scene now next list false → IsOver scene old next
rounds-end scene old now next list n all is played =
    let still = played.still refl in record {
      number_of_rounds = n;
      led = still.0 ∙ is;
      over = subst (NobodyCanMove scene) (sym still.0) (subst (AllByRecursion (λ who. event scene now who ≡ None)) (sym all) still.1);
    }

-- The play

play-of : (scene : Scene) (player turned played : Player) (schedule : List Turn) (over : IsOver scene turned played) → player ≡ start_of scene → turned ≡ turns scene player schedule
    → played ≡ rounds scene (turns scene (start_of scene) schedule) over.number_of_rounds
play-of scene player turned played schedule over starts led = over.led ∙ ap (λ q. rounds scene q over.number_of_rounds) (led ∙ ap (λ q. turns scene q schedule) starts)

pub plays-of : (scene : Scene) (player turned played : Player) (schedule : List Turn) → player ≡ start_of scene → turned ≡ turns scene player schedule → IsOver scene turned played → Plays scene schedule (run_of played)
plays-of scene player turned played schedule starts led over =
    let ends = play-of scene player turned played schedule over starts led in record { number_of_rounds = over.number_of_rounds; over = subst (NobodyCanMove scene) ends over.over; run_is = ap run_of ends }

pub legal-of : (scene : Scene) (player turned played : Player) (schedule : List Turn) → CanPlay scene → player ≡ start_of scene → turned ≡ turns scene player schedule → IsOver scene turned played → Legal scene (run_of played)
legal-of scene player turned played schedule can starts led over = every_play_is_legal scene schedule (run_of played) can (plays-of scene player turned played schedule starts led over)

-- the policy that the play ends with is that of the player
pub ends-with : (scene : Scene) (player turned played : Player) (schedule : List Turn) → CanPlay scene → player ≡ start_of scene → turned ≡ turns scene player schedule → IsOver scene turned played → final_policy scene (run_of played) ≡ played.state.policy
ends-with scene player turned played schedule can starts led over =
    let ends = play-of scene player turned played schedule over starts led in
    let holds : PlayHolds scene played = subst (PlayHolds scene) (sym ends) (rounds-hold scene can (turns scene (start_of scene) schedule) over.number_of_rounds (reached_holds scene schedule can)) in
    ap (λ s. s.policy) (sym holds.base.sane.true_to.state)
