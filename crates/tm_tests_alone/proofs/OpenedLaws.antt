-- What was read can be played from a machine that is started for it.
use Rattle.std.proofs.Common.{◌≡◌, [], refl, sym, subst}
use Rattle.tm_rules.specs.Prelude.{Trace}
use Rattle.tm_rules.specs.Types.{Book}
use Rattle.tm_trace.specs.Written.{IsTrace}
use Rattle.tm_legal.specs.Prelude.{CanPlay, Player}
use Rattle.tm_legal.specs.Play as play
use Rattle.tm_machine.specs.Machine.{Course, course_from}
use Rattle.tm_core.specs.Scenes.{IsLed}
use Rattle.tm_core.specs.Scenes as scenes
use Rattle.tm_call_input.specs.declared.reading.Loaded.{Loaded}
use Rattle.tm_call_input.specs.Reading.{start_of, scene_of}
use Rattle.tm_tests_alone.specs.Opened.{CanBePlayed}

pub can-be-played : (loaded : Loaded) (course : Course) → course ≡ course_from (start_of loaded) → CanPlay (scene_of loaded) → IsTrace loaded.trace → CanBePlayed loaded.trace loaded.book course
can-be-played loaded course is can written =
    subst (CanBePlayed loaded.trace loaded.book) (sym is) (record { made = refl; opened = refl; trees = refl; can = can; written = written })

-- a player at its start is led there by no turn
pub led-at-start : (trace : Trace) (book : Book) (machine course : Course) (player : Player) → CanBePlayed trace book machine → course ≡ machine → ((book : Book) → player ≡ play.start_of (scenes.scene_of machine.start trace book)) → IsLed trace book course player
unfolding play.own_turns
led-at-start trace book machine course player can is starts =
    subst (λ (c : Course). IsLed trace book c player) (sym is)
    (record { trees = can.trees; can = can.can; list = []; led = starts book })
