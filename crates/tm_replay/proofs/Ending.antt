-- The closing list of steps, by what each pass knows and has made.
use Rattle.std.proofs.Common.{◌≡◌, ◌<◌, ℕ, suc, ◌+◌, List, [], ◌∷◌, ◌++◌, length, map, refl, sym, ap, ◌∙◌, subst, arith}
use Rattle.std.specs.Prelude.{Some, slice_get, sum_by}
use Rattle.std.specs.List.{AllByRecursion, fold}
use mathlib.Core.List.{IsPrefix}
use Rattle.tm_rules.specs.Types.{Book, Made, Start}
use Rattle.tm_publish.specs.declared.pass.Pass.{Pass}
use Rattle.tm_publish.specs.Words.{home, known, HasSeen, made_of}
use Rattle.tm_seat.specs.Seats.{Begins}
use Rattle.tm_seat.proofs.Opening.{begins-further}
use Rattle.tm_machine.specs.Machine.{Course}
use Rattle.tm_machine.specs.Office.{list_of}
use Rattle.tm_seat.specs.declared.part.Part.{Part}
use Rattle.tm_seat.specs.Parts.{Deed, desk_parts}
use Rattle.tm_replay.specs.Jobs.{deeds_of, ArePlayed}
use Rattle.tm_replay.specs.Replays.{AreAllPlayed}
use Rattle.tm_replay.proofs.Given.{some-is}
use Rattle.tm_replay.proofs.Passes.{begins-of}

module _ {L O : Type 0} {n : _} {l : _} {o : _} where
  -- the supervisor's coming does, where there is a pass
  pub begins-all : (attached list : List Made) (passes : List (Pass L O Start Made n l o)) → 0 < length passes → AllByRecursion (λ (pass : Pass L O Start Made n l o). Begins attached (known pass)) passes → AllByRecursion (λ (pass : Pass L O Start Made n l o). HasSeen pass (known pass)) passes → ((k : ℕ) (p : Pass L O Start Made n l o) (xs : List Made) → slice_get passes k ≡ Some p → HasSeen p xs → IsPrefix xs list) → Begins attached list
  begins-all attached list [] some grows has h = absurd (omega (arith, some))
  begins-all attached list (pass ∷ passes) some grows has h = begins-further attached (known pass) list grows.0 (begins-of (known pass) list (h 0 pass (known pass) refl has.0))

module _ {L O D : Type 0} {n : _} {l : _} {o : _} where
  -- every pass's list begins the closing one
  pub seen-all : (list : List Made) (passes : List (Pass L O Start Made n l o)) (queues : List (List D)) → AllByRecursion (λ (pass : Pass L O Start Made n l o). HasSeen pass (known pass)) passes → ((k : ℕ) (p : Pass L O Start Made n l o) (xs : List Made) → slice_get passes k ≡ Some p → HasSeen p xs → IsPrefix xs list) → AllByRecursion (λ (done : Deed D). Begins done.known list) (deeds_of passes queues)
  seen-all list [] queues has h = tt
  seen-all list (pass ∷ passes) [] has h = tt
  seen-all list (pass ∷ passes) (rows ∷ queues) has h = (begins-of (known pass) list (h 0 pass (known pass) refl has.0), seen-all list passes queues has.1 (λ k p xs at. h (suc k) p xs at))

  -- the steps of all deeds are those of all passes
  sums : (m : ℕ) (passes : List (Pass L O Start Made n l o)) (queues : List (List D)) → length queues ≡ length passes → fold (λ sum (pass : Pass L O Start Made n l o). sum + length (made_of pass)) m passes ≡ fold (λ sum (done : Deed D). sum + length done.own) m (deeds_of passes queues)
  sums m [] [] long = refl
  sums m [] (rows ∷ queues) long = absurd (omega (arith, long))
  sums m (pass ∷ passes) [] long = absurd (omega (arith, long))
  sums m (pass ∷ passes) (rows ∷ queues) long = sums (m + length (made_of pass)) passes queues (omega (arith, long))

  pub sum-all : (passes : List (Pass L O Start Made n l o)) (queues : List (List D)) → length queues ≡ length passes → sum_by (λ (pass : Pass L O Start Made n l o). length (made_of pass)) passes ≡ sum_by (λ (done : Deed D). length done.own) (deeds_of passes queues)
  sum-all passes queues long = sums 0 passes queues long

  pub rows-all : (passes : List (Pass L O Start Made n l o)) (queues : List (List D)) → length queues ≡ length passes → queues ≡ map (λ (done : Deed D). done.rows) (deeds_of passes queues)
  rows-all [] [] long = refl
  rows-all [] (rows ∷ queues) long = absurd (omega (arith, long))
  rows-all (pass ∷ passes) [] long = absurd (omega (arith, long))
  rows-all (pass ∷ passes) (rows ∷ queues) long = ap (λ (l : List (List D)). rows ∷ l) (rows-all passes queues (omega (arith, long)))

  -- what all parts have come to at a machine that was closed
  pub all-played : {H : Type 0} (Did : Start → ℕ → H → Deed D → Type 0) (start : Start) (book : Book) (parts : List (Part H)) (course : Course) (passes : List (Pass L O Start Made n l o)) (queues : List (List D)) (own : ℕ) → ArePlayed Did start book (parts ++ desk_parts start.desk) passes (Some queues) → 0 < length (parts ++ desk_parts start.desk) → own ≡ length (list_of course) → own ≡ sum_by (λ (pass : Pass L O Start Made n l o). length (made_of pass)) passes → ((k : ℕ) (p : Pass L O Start Made n l o) (xs : List Made) → slice_get passes k ≡ Some p → HasSeen p xs → IsPrefix xs (list_of course)) → ((k : ℕ) (p : Pass L O Start Made n l o) → slice_get passes k ≡ Some p → home p ≡ Some course.start) → AreAllPlayed Did start book parts course queues
  all-played Did start book parts course passes queues own played some whole counted seen opened =
      let many : 0 < length passes = subst (λ m. 0 < m) (sym played.count) some in
      record {
        opened = first passes many played.homes opened;
        attached = played.attached;
        come = played.come;
        begins = begins-all played.attached (list_of course) passes many played.grows played.has seen;
        deeds = deeds_of passes queues;
        each = played.done.each;
        seen = seen-all (list_of course) passes queues played.has seen;
        closed = sym whole ∙ counted ∙ sum-all passes queues played.done.count;
        queues_are = rows-all passes queues played.done.count;
      }
    where
      first : (those : List (Pass L O Start Made n l o)) → 0 < length those → AllByRecursion (λ (pass : Pass L O Start Made n l o). home pass ≡ Some start) those → ((k : ℕ) (p : Pass L O Start Made n l o) → slice_get those k ≡ Some p → home p ≡ Some course.start) → course.start ≡ start
      first [] lt homes at = absurd (omega (arith, lt))
      first (pass ∷ those) lt homes at = some-is course.start start (sym (at 0 pass refl) ∙ homes.0)
