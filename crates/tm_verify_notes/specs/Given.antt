-- The scene that a run is judged by, and its steps.
use Rattle.std.specs.Option.{option_copied}
use Rattle.tm_take.specs.Tomoyo.{tomoyo_grammar}
use Rattle.tm_rules.specs.Types.{Run}
use Rattle.tm_legal.specs.Prelude.{History, Scene}
use Rattle.tm_verify_notes.specs.declared.given.Given.{Given}

-- what the run is judged against
abbrev pub scene_of : Given → Scene
scene_of given =
    record {
      grammar = tomoyo_grammar;
      policy = given.opening.now;
      trace = given.trace.now;
      editors = given.editors.now;
      book = option_copied given.book;
    }

-- the steps of the run
abbrev pub history_of : Given → History
history_of given = given.steps.now

-- the run
abbrev pub run_of : Given → Run
run_of given = record { steps = given.steps.now; takes = given.takes.now }
