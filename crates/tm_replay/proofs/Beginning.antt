-- How jobs begin: with fresh passes, which are told of the supervisor's coming.
use Rattle.std.proofs.Common.{◌≡◌, ◌<◌, ℕ, List, [], ◌∷◌, ◌++◌, length, map, refl, sym, ap, ◌∙◌, subst, arith}
use Rattle.std.specs.Prelude.{Option, Some}
use Rattle.std.specs.List.{AllByRecursion}
use Rattle.std.proofs.lemmas.List.{map-append}
use Rattle.tm_rules.specs.Types.{Made, Start}
use Rattle.tm_legal.proofs.Asked.{All-append}
use Rattle.tm_joint.proofs.Rows.{All-left, All-right}
use Rattle.tm_publish.specs.declared.front.Front.{Front}
use Rattle.tm_publish.specs.declared.pass.Pass.{Pass}
use Rattle.tm_publish.specs.Words.{home, known, front_list, IsFresh}
use Rattle.tm_serve.specs.Serving as serving
use Rattle.tm_seat.specs.declared.part.Part.{Part}
use Rattle.tm_seat.specs.Parts.{coming, IsWorking}
use Rattle.tm_replay.specs.Jobs.{StartsFrom, JobStarts, told_of, IsFrontOf}
use Rattle.tm_replay.specs.Beginnings.{AreGiven}

module _ {L O H : Type 0} {n : _} {l : _} {o : _} where
  -- the supervisor's pass
  pub starts-come : (start : Start) (old new : Pass L O Start Made n l o) (front : Front L O Start Made n l o) → IsFresh start old → home new ≡ home old → serving.HasCome coming old new front → StartsFrom {H = H} start (front_list front) Part.Desk new
  starts-come start old new front fresh opened come =
      let low : length (known old) < come.number = come.after in
      record {
        opened = opened ∙ fresh.opened;
        knows = come.knows;
        ready = record {
          attach = come.number;
          own_is = come.made ∙ ap (λ (ns : List ℕ). ns ++ come.number ∷ []) fresh.made;
          above = omega (arith, low);
          there = come.there;
        };
      }

  -- one job more
  pub jobs-more : {J : Type 0} (part_of : J → Option (Part H)) (pass_of : J → Option (Pass L O Start Made n l o)) (start : Start) (attached : List Made) (jobs : List J) (job : J) → AllByRecursion (λ j. JobStarts start attached (part_of j) (pass_of j)) jobs → JobStarts start attached (part_of job) (pass_of job) → AllByRecursion (λ j. JobStarts start attached (part_of j) (pass_of j)) (jobs ++ job ∷ [])
  jobs-more part_of pass_of start attached jobs job all one = All-append (λ j. JobStarts start attached (part_of j) (pass_of j)) jobs (job ∷ []) all (one, tt)

pub All-first : {A : Type 0} (P : A → Type 0) (xs : List A) (x : A) → AllByRecursion P (xs ++ x ∷ []) → AllByRecursion P xs
All-first P xs x h = All-left P xs (x ∷ []) h

pub All-last : {A : Type 0} (P : A → Type 0) (xs : List A) (x : A) → AllByRecursion P (xs ++ x ∷ []) → P x
All-last P xs x h = (All-right P xs (x ∷ []) h).0

module _ {L O H : Type 0} {n : _} {l : _} {o : _} {J : Type 0} (part_of : J → Option (Part H)) (pass_of : J → Option (Pass L O Start Made n l o)) where
  -- at the beginning
  pub given-none : (front : Option (Front L O Start Made n l o)) (passes left : List (Pass L O Start Made n l o)) (jobs : List J) → left ≡ passes → jobs ≡ [] → AreGiven part_of pass_of front passes [] left jobs
  given-none front passes left jobs lined none =
      record {
        parts_are = rw none refl;
        fresh = λ start fresh. rw lined fresh;
        starts = λ start fresh of waits. rw none tt;
      }

  -- one job more
  pub given-next : (front : Option (Front L O Start Made n l o)) (done : List (Part H)) (passes left after : List (Pass L O Start Made n l o)) (jobs more : List J) (part : Part H) (pass : Pass L O Start Made n l o) (job : J) → AreGiven part_of pass_of front passes done left jobs → left ≡ pass ∷ after → more ≡ jobs ++ job ∷ [] → part_of job ≡ Some part → ((start : Start) → IsFresh start pass → IsFrontOf start front → IsWorking part → JobStarts start (told_of front) (part_of job) (pass_of job)) → AreGiven part_of pass_of front passes (done ++ part ∷ []) after more
  given-next front done passes left after jobs more part pass job h is pushed of_part begins =
      record {
        parts_are = ap (map part_of) pushed ∙ map-append part_of jobs (job ∷ []) ∙ ap (λ (l : List (Option (Part H))). l ++ part_of job ∷ []) h.parts_are ∙ ap (λ (p : Option (Part H)). map Some done ++ p ∷ []) of_part ∙ sym (map-append Some done (part ∷ []));
        fresh = λ start all. (subst (AllByRecursion (IsFresh start)) is (h.fresh start all)).1;
        starts = λ start all of waits.
            subst (AllByRecursion (λ j. JobStarts start (told_of front) (part_of j) (pass_of j))) (sym pushed)
            (jobs-more part_of pass_of start (told_of front) jobs job (h.starts start all of (All-first IsWorking done part waits))
            (begins start (subst (AllByRecursion (IsFresh start)) is (h.fresh start all)).0 of (All-last IsWorking done part waits)));
      }
