-- What can be played from a machine.
use Rattle.std.specs.Prelude.{◌≡◌, [], length}
use Rattle.tm_rules.specs.Prelude.{Trace}
use Rattle.tm_rules.specs.Types.{Book}
use Rattle.tm_trace.specs.Written.{IsTrace}
use Rattle.tm_legal.specs.Prelude.{CanPlay, opening}
use Rattle.tm_machine.specs.Machine.{Course}
use Rattle.tm_core.specs.Scenes.{scene_of}

-- a machine at version 0, with a trace that can be played from its opening beside this book
pub record CanBePlayed (trace : Trace) (book : Book) (course : Course) : Type 0 where
  pub made : course.made ≡ []
  pub opened : course.state ≡ opening course.start
  pub trees : length trace ≡ course.start.trees
  pub can : CanPlay (scene_of course.start trace book)
  pub written : IsTrace trace
