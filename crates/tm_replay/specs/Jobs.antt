-- What jobs are given, and what they have come to, by the passes that they hold.
use Rattle.std.specs.Prelude.{◌≡◌, ℕ, Bool, true, List, [], ◌∷◌, length, Option, Some, None}
use Rattle.std.specs.Option.{IfSome}
use Rattle.std.specs.List.{AllByRecursion}
use Rattle.tm_rules.specs.Types.{Book, Made, Start}
use Rattle.tm_rules.specs.Prelude.{numbered}
use Rattle.tm_publish.specs.declared.front.Front.{Front}
use Rattle.tm_publish.specs.declared.pass.Pass.{Pass}
use Rattle.tm_publish.specs.Words.{home, known, HasSeen, made_of, front_home, front_list}
use Rattle.tm_seat.specs.Seats.{Begins}
use Rattle.tm_seat.specs.declared.part.Part.{Part}
use Rattle.tm_take.specs.Each.{EachWith}
use Rattle.tm_seat.specs.Parts.{coming, deed, Deed, CanBegin, PartIsReady, PassIsReady, PartIsDone}
use Rattle.tm_replay.specs.Seats.{home_of}

-- where a supervisor stands, its coming is in the list
abbrev pub HasComing : Bool → List Made → Type 0
HasComing supervised attached = supervised ≡ true → (number : ℕ) × (numbered attached number ≡ Some coming)

module _ {L O : Type 0} {n : _} {l : _} {o : _} where
  -- a pass as its part needs it
  pub record IsGiven {H : Type 0} (Ready : Start → H → Type 0) (supervised : Bool) (part : Part H)
      (pass : Pass L O Start Made n l o) : Type 0 where
    pub can : CanBegin (home_of pass)
    pub stands : supervised ≡ (home_of pass).desk
    pub ready : PartIsReady Ready (home_of pass) part (known pass) (made_of pass)

  -- a job that has a part and a pass for it
  abbrev pub IsJob : {H : Type 0} → (Start → H → Type 0) → Bool → Option (Part H)
      → Option (Pass L O Start Made n l o) → Type 0
  IsJob Ready supervised None pass = ⊥
  IsJob Ready supervised (Some part) None = ⊥
  IsJob Ready supervised (Some part) (Some pass) = IsGiven Ready supervised part pass

  -- what a pass that is given back knows goes on from what it knew
  pub record GoesBack (given back : Pass L O Start Made n l o) : Type 0 where
    pub opened : home back ≡ home given
    pub grows : Begins (known given) (known back)
    pub has : HasSeen back (known back)

  -- what a part has come to with a pass, by the pass that is given back; nothing more is told where
  -- it failed
  abbrev pub IsPlayedOut : {H D : Type 0} → (Start → ℕ → H → Deed D → Type 0) → Book → Part H
      → Pass L O Start Made n l o → Pass L O Start Made n l o → Option (List D) → Type 0
  IsPlayedOut Did book part given back None = GoesBack given back
  IsPlayedOut Did book part given back (Some rows) =
      GoesBack given back
      × PartIsDone Did (home_of given) book (length (known given)) part (deed (known back) (made_of back) rows)

  -- a job that has been done: its pass is there again
  abbrev pub JobIsDone : {H D : Type 0} → (Start → ℕ → H → Deed D → Type 0) → Book → Option (Part H)
      → Option (Pass L O Start Made n l o) → Option (Pass L O Start Made n l o) → Option (List D) → Type 0
  JobIsDone Did book None given back rows = ⊥
  JobIsDone Did book (Some part) None back rows = ⊥
  JobIsDone Did book (Some part) (Some given) None rows = ⊥
  JobIsDone Did book (Some part) (Some given) (Some back) rows = IsPlayedOut Did book part given back rows

  -- a pass of that opening that knows that list, as its part needs it
  pub record StartsFrom {H : Type 0} (start : Start) (attached : List Made) (part : Part H)
      (pass : Pass L O Start Made n l o) : Type 0 where
    pub opened : home pass ≡ Some start
    pub knows : known pass ≡ attached
    pub ready : PassIsReady part attached (made_of pass)

  -- a job of such a pass
  abbrev pub JobStarts : {H : Type 0} → Start → List Made → Option (Part H)
      → Option (Pass L O Start Made n l o) → Type 0
  JobStarts start attached None pass = ⊥
  JobStarts start attached (Some part) None = ⊥
  JobStarts start attached (Some part) (Some pass) = StartsFrom start attached part pass

  -- the list of a front, none where there is no front
  abbrev pub told_of : Option (Front L O Start Made n l o) → List Made
  told_of None = []
  told_of (Some front) = front_list front

  -- a front of that opening, where there is one
  abbrev pub IsFrontOf : Start → Option (Front L O Start Made n l o) → Type 0
  IsFrontOf start None = Some start ≡ Some start
  IsFrontOf start (Some front) = front_home front ≡ Some start

  -- what passes know and have made at their end, with what was given with each
  abbrev pub deeds_of : {D : Type 0} → List (Pass L O Start Made n l o) → List (List D) → List (Deed D)
  deeds_of [] queues = []
  deeds_of (pass ∷ passes) [] = []
  deeds_of (pass ∷ passes) (rows ∷ queues) = deed (known pass) (made_of pass) rows ∷ deeds_of passes queues

  -- each part has come to its deed
  pub record EachIsDone {H D : Type 0} (Did : Start → ℕ → H → Deed D → Type 0) (start : Start) (book : Book)
      (attached : List Made) (parts : List (Part H)) (passes : List (Pass L O Start Made n l o))
      (queues : List (List D)) : Type 0 where
    pub count : length queues ≡ length passes
    pub each : EachWith (PartIsDone Did start book (length attached)) parts (deeds_of passes queues)

  -- all parts were played, each of a pass that knew the supervisor's coming; nothing more is told
  -- where one of them failed
  pub record ArePlayed {H D : Type 0} (Did : Start → ℕ → H → Deed D → Type 0) (start : Start) (book : Book)
      (parts : List (Part H)) (passes : List (Pass L O Start Made n l o))
      (queues : Option (List (List D))) : Type 0 where
    pub attached : List Made
    pub come : HasComing start.desk attached
    pub count : length passes ≡ length parts
    pub homes : AllByRecursion (λ (pass : Pass L O Start Made n l o). home pass ≡ Some start) passes
    pub grows : AllByRecursion (λ (pass : Pass L O Start Made n l o). Begins attached (known pass)) passes
    pub has : AllByRecursion (λ (pass : Pass L O Start Made n l o). HasSeen pass (known pass)) passes
    pub done : IfSome queues (EachIsDone Did start book attached parts passes)
