-- What a machine has come to when all parts of a replay were played at it.
use Rattle.std.specs.Prelude.{◌≡◌, ℕ, List, ◌++◌, length, map, sum_by}
use Rattle.std.specs.List.{AllByRecursion}
use Rattle.tm_rules.specs.Types.{Book, Made, Start}
use Rattle.tm_machine.specs.Machine.{Course}
use Rattle.tm_machine.specs.Office.{list_of}
use Rattle.tm_seat.specs.Seats.{Begins}
use Rattle.tm_seat.specs.declared.part.Part.{Part}
use Rattle.tm_take.specs.Each.{EachWith}
use Rattle.tm_seat.specs.Parts.{Deed, PartIsDone, desk_parts}
use Rattle.tm_replay.specs.Jobs.{HasComing}

-- every part has come to its deed, each of them and the supervisor's coming are in the machine's
-- list of steps, which has as many steps as they have made, and these are what they have given
pub record AreAllPlayed {H D : Type 0} (Did : Start → ℕ → H → Deed D → Type 0) (start : Start) (book : Book)
    (parts : List (Part H)) (course : Course) (queues : List (List D)) : Type 0 where
  pub opened : course.start ≡ start
  pub attached : List Made
  pub come : HasComing start.desk attached
  pub begins : Begins attached (list_of course)
  pub deeds : List (Deed D)
  pub each : EachWith (PartIsDone Did start book (length attached)) (parts ++ desk_parts start.desk) deeds
  pub seen : AllByRecursion (λ (done : Deed D). Begins done.known (list_of course)) deeds
  pub closed : length (list_of course) ≡ sum_by (λ (done : Deed D). length done.own) deeds
  pub queues_are : queues ≡ map (λ (done : Deed D). done.rows) deeds
