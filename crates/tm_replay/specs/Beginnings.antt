-- How the jobs of a replay begin.
use Rattle.std.specs.Prelude.{◌≡◌, Bool, List, ◌++◌, map, Option, Some}
use Rattle.std.specs.List.{AllByRecursion}
use Rattle.tm_rules.specs.Types.{Made, Start}
use Rattle.tm_publish.specs.declared.front.Front.{Front}
use Rattle.tm_publish.specs.declared.pass.Pass.{Pass}
use Rattle.tm_publish.specs.Words.{IsFresh}
use Rattle.tm_seat.specs.declared.part.Part.{Part}
use Rattle.tm_seat.specs.Parts.{IsWorking, desk_parts}
use Rattle.tm_replay.specs.Jobs.{JobStarts, told_of, IsFrontOf, HasComing}

module _ {L O H : Type 0} {n : _} {l : _} {o : _} {J : Type 0} (part_of : J → Option (Part H)) (pass_of : J → Option (Pass L O Start Made n l o)) where
  -- jobs of the parts so far, with as many of the passes, which were told of this front
  pub record AreGiven (front : Option (Front L O Start Made n l o))
      (passes : List (Pass L O Start Made n l o)) (done : List (Part H))
      (left : List (Pass L O Start Made n l o)) (jobs : List J) : Type 0 where
    pub parts_are : map part_of jobs ≡ map Some done
    pub fresh : (start : Start) → AllByRecursion (IsFresh start) passes → AllByRecursion (IsFresh start) left
    pub starts : (start : Start) → AllByRecursion (IsFresh start) passes → IsFrontOf start front
        → AllByRecursion IsWorking done
        → AllByRecursion (λ j. JobStarts start (told_of front) (part_of j) (pass_of j)) jobs

  -- the jobs of these parts, and of the supervisor where one stands; of fresh passes and
  -- working parts, each knows the supervisor's coming
  pub record HaveBegun (supervised : Bool) (parts : List (Part H))
      (passes : List (Pass L O Start Made n l o)) (jobs : List J) : Type 0 where
    pub parts_are : map part_of jobs ≡ map Some (parts ++ desk_parts supervised)
    pub starts : (start : Start) → AllByRecursion (IsFresh start) passes → AllByRecursion IsWorking parts
        → (attached : List Made) × HasComing supervised attached
        × AllByRecursion (λ j. JobStarts start attached (part_of j) (pass_of j)) jobs
