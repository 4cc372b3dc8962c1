-- The scenes of a machine, and the players that turns have led to.
use Rattle.std.specs.Prelude.{◌≡◌, Bool, true, false, List, length, Option, Some, None, if◌then◌else◌}
use Rattle.tm_rules.specs.Prelude.{Trace}
use Rattle.tm_rules.specs.Types.{Book, Start, Turn}
use Rattle.tm_audit.specs.Tomoyo.{tomoyo_grammar}
use Rattle.tm_legal.specs.Prelude.{CanPlay, Player, Scene, own_turns, start_of, turns}
use Rattle.tm_machine.specs.Machine.{Course}

-- what a machine that was started so plays with a trace; the book counts where a supervisor stands
abbrev pub scene_of : Start → Trace → Book → Scene
scene_of start trace book =
    record {
      grammar = tomoyo_grammar;
      policy = start.policy;
      trace = trace;
      editors = start.editors;
      book = if start.desk then Some book else None;
    }

-- a player that some turns have led to, of a scene that can be played
pub record IsReached (trace : Trace) (book : Book) (course : Course)
    (player : Player) : Type 0 where
  pub trees : length trace ≡ course.start.trees
  pub can : CanPlay (scene_of course.start trace book)
  pub schedule : List Turn
  pub led : player ≡ turns (scene_of course.start trace book)
      (start_of (scene_of course.start trace book)) schedule

-- a player that turns of its own have led to, whatever the supervisor has answered, of a scene that
-- can be played
pub record IsLed (trace : Trace) (book : Book) (course : Course) (player : Player) : Type 0 where
  pub trees : length trace ≡ course.start.trees
  pub can : CanPlay (scene_of course.start trace book)
  pub list : List Turn
  pub led : player ≡ own_turns tomoyo_grammar course.start.desk
      (start_of (scene_of course.start trace book)) list

-- true: the player has had the event; false: there is none, and the player is as before
abbrev pub Answers : Bool → Option Player → Player → Player → Type 0
Answers true event new old = event ≡ Some new
Answers false event new old = (event ≡ None) × (new ≡ old)
