-- Jobs from their beginning to their end.
use Rattle.std.proofs.Common.{◌≡◌, ◌<◌, ℕ, zero, suc, List, [], ◌∷◌, ◌++◌, length, map, Bool, true, false, refl, sym, ap, ◌∙◌, subst, arith}
use Rattle.std.specs.Prelude.{⊤, Option, Some, None, slice_get, slice_index_or}
use Rattle.std.specs.List.{AllByRecursion}
use Rattle.std.specs.Option.{IfSome}
use Rattle.tm_rules.specs.Types.{Book, Made, Start}
use Rattle.tm_publish.specs.declared.pass.Pass.{Pass}
use Rattle.tm_publish.specs.Words.{home, known, HasSeen, made_of}
use Rattle.tm_seat.specs.Seats.{Begins}
use Rattle.tm_seat.specs.declared.part.Part.{Part}
use Rattle.tm_take.specs.Each.{EachWith}
use Rattle.tm_seat.specs.Parts.{deed, desk_parts, Deed, CanBegin, IsWorking, PartWaits, PassIsReady, PartIsReady, PartIsDone}
use Rattle.tm_seat.proofs.Lists.{All-of, get-map, get-mapped, length-mapped}
use Rattle.tm_replay.specs.Seats.{home_of}
use Rattle.tm_replay.specs.Jobs.{IsJob, JobIsDone, JobStarts, deeds_of, EachIsDone}
use Rattle.tm_replay.proofs.Passes.{home-is}

pub All-index : {A : Type 0} (P : A → Type 0) (xs : List A) (k : ℕ) (d : A) → AllByRecursion P xs → k < length xs → P (slice_index_or xs k d)
All-index P [] k d h lt = absurd (omega (arith, lt))
All-index P (x ∷ xs) zero d h lt = h.0
All-index P (x ∷ xs) (suc k) d h lt = All-index P xs k d h.1 (omega (arith, lt))

-- what is inside is there
pub index-there : {A : Type 0} (xs : List A) (k : ℕ) (d : A) → k < length xs → slice_get xs k ≡ Some (slice_index_or xs k d)
index-there [] k d lt = absurd (omega (arith, lt))
index-there (x ∷ xs) zero d lt = refl
index-there (x ∷ xs) (suc k) d lt = index-there xs k d (omega (arith, lt))

pub some-is : {A : Type 0} (x y : A) → Some x ≡ Some y → x ≡ y
some-is x y is = cc

get-inside : {A : Type 0} (xs : List A) (k : ℕ) (x : A) → slice_get xs k ≡ Some x → k < length xs
get-inside [] k x at = absurd cc
get-inside (y ∷ xs) zero x at = omega arith
get-inside (y ∷ xs) (suc k) x at = let rest = get-inside xs k x at in omega (arith, rest)

index-get : {A : Type 0} (xs : List A) (k : ℕ) (x d : A) → slice_get xs k ≡ Some x → slice_index_or xs k d ≡ x
index-get [] k x d at = absurd cc
index-get (y ∷ xs) zero x d at = some-is y x at
index-get (y ∷ xs) (suc k) x d at = index-get xs k x d at

-- two lists of one length, by their places
each-of : {P A : Type 0} (Does : P → A → Type 0) (parts : List P) (deeds : List A) → length deeds ≡ length parts → ((k : ℕ) (part : P) (done : A) → slice_get parts k ≡ Some part → slice_get deeds k ≡ Some done → Does part done) → EachWith Does parts deeds
each-of Does [] [] long h = tt
each-of Does [] (done ∷ deeds) long h = absurd (omega (arith, long))
each-of Does (part ∷ parts) [] long h = absurd (omega (arith, long))
each-of Does (part ∷ parts) (done ∷ deeds) long h = (h 0 part done refl refl, each-of Does parts deeds (omega (arith, long)) (λ k p d at there. h (suc k) p d at there))

-- a part that waits, or the supervisor's
abbrev pub WaitsOrServes : {H : Type 0} → (Start → H → Type 0) → Start → Part H → Type 0
WaitsOrServes Ready start (Part.Worker hand) = PartWaits Ready start (Part.Worker hand)
WaitsOrServes Ready start (Part.Editor number lines) = PartWaits Ready start (Part.Editor number lines)
WaitsOrServes Ready start Part.Desk = ⊤

part-serves : {H : Type 0} (Ready : Start → H → Type 0) (start : Start) (part : Part H) (list : List Made) (own : List ℕ) → WaitsOrServes Ready start part → PassIsReady part list own → PartIsReady Ready start part list own
part-serves Ready start (Part.Worker hand) list own waits none = (waits, none)
part-serves Ready start (Part.Editor number lines) list own waits none = (waits.0, waits.1, none)
part-serves Ready start Part.Desk list own waits come = come

waits-serves : {H : Type 0} (Ready : Start → H → Type 0) (start : Start) (part : Part H) → PartWaits Ready start part → WaitsOrServes Ready start part
waits-serves Ready start (Part.Worker hand) waits = waits
waits-serves Ready start (Part.Editor number lines) waits = waits
waits-serves Ready start Part.Desk waits = absurd waits

pub waits-working : {H : Type 0} (Ready : Start → H → Type 0) (start : Start) (part : Part H) → PartWaits Ready start part → IsWorking part
waits-working Ready start (Part.Worker hand) waits = tt
waits-working Ready start (Part.Editor number lines) waits = tt
waits-working Ready start Part.Desk waits = absurd waits

-- the parts and the supervisor's
pub all-serve : {H : Type 0} (Ready : Start → H → Type 0) (start : Start) (parts : List (Part H)) (supervised : Bool) → AllByRecursion (PartWaits Ready start) parts → AllByRecursion (WaitsOrServes Ready start) (parts ++ desk_parts supervised)
all-serve Ready start [] false waits = tt
all-serve Ready start [] true waits = (tt, tt)
all-serve Ready start (part ∷ parts) supervised waits = (waits-serves Ready start part waits.0, all-serve Ready start parts supervised waits.1)

module _ {L O H : Type 0} {n : _} {l : _} {o : _} where
  -- a job that starts so has what it needs
  pub job-given : (Ready : Start → H → Type 0) (start : Start) (attached : List Made) (supervised : Bool) (part : Option (Part H)) (pass : Option (Pass L O Start Made n l o)) (its : Part H) → part ≡ Some its → WaitsOrServes Ready start its → CanBegin start → supervised ≡ start.desk → JobStarts start attached part pass → IsJob Ready supervised part pass
  job-given Ready start attached supervised None pass its is_part waits can stands h = h
  job-given Ready start attached supervised (Some part) None its is_part waits can stands h = h
  job-given Ready start attached supervised (Some part) (Some pass) its is_part waits can stands h =
      let is : home_of pass ≡ start = home-is pass start h.opened in
      let waits_it : WaitsOrServes Ready start part = subst (WaitsOrServes Ready start) (sym (some-is part its is_part)) waits in
      let ready : PassIsReady part (known pass) (made_of pass) = subst (λ (list : List Made). PassIsReady part list (made_of pass)) (sym h.knows) h.ready in
      record {
        can = subst CanBegin (sym is) can;
        stands = stands ∙ ap (λ (s : Start). s.desk) (sym is);
        ready = subst (λ (s : Start). PartIsReady Ready s part (known pass) (made_of pass)) (sym is) (part-serves Ready start part (known pass) (made_of pass) waits_it ready);
      }

module _ {L O D : Type 0} {n : _} {l : _} {o : _} where
  -- the pass and the rows of a deed
  pub record DeedAt (passes : List (Pass L O Start Made n l o)) (queues : List (List D)) (k : ℕ) (done : Deed D) : Type 0 where
    pub pass : Pass L O Start Made n l o
    pub pass_at : slice_get passes k ≡ Some pass
    pub rows : List D
    pub rows_at : slice_get queues k ≡ Some rows
    pub is : done ≡ deed (known pass) (made_of pass) rows

  deed-at : (passes : List (Pass L O Start Made n l o)) (queues : List (List D)) (k : ℕ) (done : Deed D) → slice_get (deeds_of passes queues) k ≡ Some done → DeedAt passes queues k done
  deed-at [] queues k done at = absurd cc
  deed-at (pass ∷ passes) [] k done at = absurd cc
  deed-at (pass ∷ passes) (rows ∷ queues) zero done at = record { pass = pass; pass_at = refl; rows = rows; rows_at = refl; is = sym (some-is (deed (known pass) (made_of pass) rows) done at) }
  deed-at (pass ∷ passes) (rows ∷ queues) (suc k) done at =
      let rest = deed-at passes queues k done at in
      record { pass = rest.pass; pass_at = rest.pass_at; rows = rest.rows; rows_at = rest.rows_at; is = rest.is }

  deeds-long : (passes : List (Pass L O Start Made n l o)) (queues : List (List D)) → length queues ≡ length passes → length (deeds_of passes queues) ≡ length passes
  deeds-long [] queues long = refl
  deeds-long (pass ∷ passes) [] long = absurd (omega (arith, long))
  deeds-long (pass ∷ passes) (rows ∷ queues) long = ap suc (deeds-long passes queues (omega (arith, long)))

module _ {L O H D : Type 0} {n : _} {l : _} {o : _} where
  -- what a job that started so has come to
  pub record JobEnds (Did : Start → ℕ → H → Deed D → Type 0) (start : Start) (book : Book) (attached : List Made) (part : Option (Part H)) (back : Option (Pass L O Start Made n l o)) (rows : Option (List D)) : Type 0 where
    pub its : Part H
    pub part_is : part ≡ Some its
    pub pass : Pass L O Start Made n l o
    pub pass_is : back ≡ Some pass
    pub opened : home pass ≡ Some start
    pub grows : Begins attached (known pass)
    pub has : HasSeen pass (known pass)
    pub done : IfSome rows (λ played. PartIsDone Did start book (length attached) its (deed (known pass) (made_of pass) played))

  pub job-ends : (Did : Start → ℕ → H → Deed D → Type 0) (start : Start) (book : Book) (attached : List Made) (part : Option (Part H)) (given back : Option (Pass L O Start Made n l o)) (rows : Option (List D)) → JobStarts start attached part given → JobIsDone Did book part given back rows → JobEnds Did start book attached part back rows
  job-ends Did start book attached None given back rows starts h = absurd h
  job-ends Did start book attached (Some part) None back rows starts h = absurd h
  job-ends Did start book attached (Some part) (Some given) None rows starts h = absurd h
  job-ends Did start book attached (Some part) (Some given) (Some back) None starts h =
      record { its = part; part_is = refl; pass = back; pass_is = refl; opened = h.opened ∙ starts.opened; grows = subst (λ (list : List Made). Begins list (known back)) starts.knows h.grows; has = h.has; done = tt }
  job-ends Did start book attached (Some part) (Some given) (Some back) (Some rows) starts h =
      let is : home_of given ≡ start = home-is given start starts.opened in
      record {
        its = part;
        part_is = refl;
        pass = back;
        pass_is = refl;
        opened = h.0.opened ∙ starts.opened;
        grows = subst (λ (list : List Made). Begins list (known back)) starts.knows h.0.grows;
        has = h.0.has;
        done = subst (λ (s : Start). PartIsDone Did s book (length attached) part (deed (known back) (made_of back) rows)) is
            (subst (λ (list : List Made). PartIsDone Did (home_of given) book (length list) part (deed (known back) (made_of back) rows)) starts.knows h.1);
      }

  -- all jobs, by what each has
  module _ {J : Type 0} (Did : Start → ℕ → H → Deed D → Type 0) (part_of : J → Option (Part H)) (pass_of : J → Option (Pass L O Start Made n l o)) (rows_of : J → Option (List D)) (start : Start) (book : Book) (attached : List Made) where
    pub record Ended (parts : List (Part H)) (passes : List (Pass L O Start Made n l o)) : Type 0 where
      pub count : length passes ≡ length parts
      pub homes : AllByRecursion (λ (pass : Pass L O Start Made n l o). home pass ≡ Some start) passes
      pub grows : AllByRecursion (λ (pass : Pass L O Start Made n l o). Begins attached (known pass)) passes
      pub has : AllByRecursion (λ (pass : Pass L O Start Made n l o). HasSeen pass (known pass)) passes

    module _ (old new : List J) (parts : List (Part H)) (passes : List (Pass L O Start Made n l o)) (long : length new ≡ length old) (is_parts : map part_of old ≡ map Some parts) (is_passes : map Some passes ≡ map pass_of new) (ended : (k : ℕ) (d : J) → k < length old → JobEnds Did start book attached (part_of (slice_index_or old k d)) (pass_of (slice_index_or new k d)) (rows_of (slice_index_or new k d))) where
      count : length passes ≡ length parts
      count =
          sym (length-mapped Some passes) ∙ ap (λ (l : List (Option (Pass L O Start Made n l o))). length l) is_passes ∙ length-mapped pass_of new ∙ long
          ∙ sym (length-mapped part_of old) ∙ ap (λ (l : List (Option (Part H))). length l) is_parts ∙ length-mapped Some parts

      -- the end of the job at a place, by its pass
      pub record EndAt (k : ℕ) (pass : Pass L O Start Made n l o) : Type 0 where
        pub before : J
        pub after : J
        pub new_at : slice_get new k ≡ Some after
        pub old_at : slice_index_or old k after ≡ before
        pub inside : k < length old
        pub ends : JobEnds Did start book attached (part_of before) (pass_of after) (rows_of after)
        pub is : ends.pass ≡ pass

      end-at : (k : ℕ) (pass : Pass L O Start Made n l o) → slice_get passes k ≡ Some pass → EndAt k pass
      end-at k pass at =
          let there : slice_get (map pass_of new) k ≡ Some (Some pass) = subst (λ (l : List (Option (Pass L O Start Made n l o))). slice_get l k ≡ Some (Some pass)) is_passes (get-map Some passes k pass at) in
          let (after, new_at, has_pass) = get-mapped pass_of new k (Some pass) there in
          let within : k < length old = subst (λ m. k < m) long (get-inside new k after new_at) in
          let ends : JobEnds Did start book attached (part_of (slice_index_or old k after)) (pass_of after) (rows_of after) = subst (λ (y : J). JobEnds Did start book attached (part_of (slice_index_or old k after)) (pass_of y) (rows_of y)) (index-get new k after after new_at) (ended k after within) in
          record {
            before = slice_index_or old k after;
            after = after;
            new_at = new_at;
            old_at = refl;
            inside = within;
            ends = ends;
            is = some-is ends.pass pass (sym ends.pass_is ∙ has_pass);
          }

      pub ends-all : Ended parts passes
      ends-all =
          record {
            count = count;
            homes = All-of (λ (pass : Pass L O Start Made n l o). home pass ≡ Some start) passes (λ k pass at. let e = end-at k pass at in subst (λ (x : Pass L O Start Made n l o). home x ≡ Some start) e.is e.ends.opened);
            grows = All-of (λ (pass : Pass L O Start Made n l o). Begins attached (known pass)) passes (λ k pass at. let e = end-at k pass at in subst (λ (x : Pass L O Start Made n l o). Begins attached (known x)) e.is e.ends.grows);
            has = All-of (λ (pass : Pass L O Start Made n l o). HasSeen pass (known pass)) passes (λ k pass at. let e = end-at k pass at in subst (λ (x : Pass L O Start Made n l o). HasSeen x (known x)) e.is e.ends.has);
          }

      module _ (queues : List (List D)) (is_rows : map Some queues ≡ map rows_of new) where
        as-many : length queues ≡ length passes
        as-many =
            sym (length-mapped Some queues) ∙ ap (λ (l : List (Option (List D))). length l) is_rows ∙ length-mapped rows_of new
            ∙ sym (sym (length-mapped Some passes) ∙ ap (λ (l : List (Option (Pass L O Start Made n l o))). length l) is_passes ∙ length-mapped pass_of new)

        did-at : (k : ℕ) (part : Part H) (done : Deed D) → slice_get parts k ≡ Some part → slice_get (deeds_of passes queues) k ≡ Some done → PartIsDone Did start book (length attached) part done
        did-at k part done part_at done_at =
            let found : DeedAt passes queues k done = deed-at passes queues k done done_at in
            let e : EndAt k found.pass = end-at k found.pass found.pass_at in
            let rows_there : slice_get (map rows_of new) k ≡ Some (Some found.rows) = subst (λ (l : List (Option (List D))). slice_get l k ≡ Some (Some found.rows)) is_rows (get-map Some queues k found.rows found.rows_at) in
            let (after, after_at, has_rows) = get-mapped rows_of new k (Some found.rows) rows_there in
            let same_job : after ≡ e.after = some-is after e.after (sym after_at ∙ e.new_at) in
            let its_rows : rows_of e.after ≡ Some found.rows = sym (ap rows_of same_job) ∙ has_rows in
            let part_there : slice_get (map part_of old) k ≡ Some (Some part) = subst (λ (l : List (Option (Part H))). slice_get l k ≡ Some (Some part)) (sym is_parts) (get-map Some parts k part part_at) in
            let (first, first_at, has_part) = get-mapped part_of old k (Some part) part_there in
            let same_first : first ≡ e.before = sym (index-get old k first e.after first_at) ∙ e.old_at in
            let its_part : e.ends.its ≡ part = some-is e.ends.its part (sym e.ends.part_is ∙ sym (ap part_of same_first) ∙ has_part) in
            let did : PartIsDone Did start book (length attached) e.ends.its (deed (known e.ends.pass) (made_of e.ends.pass) found.rows) = subst (λ (o : Option (List D)). IfSome o (λ played. PartIsDone Did start book (length attached) e.ends.its (deed (known e.ends.pass) (made_of e.ends.pass) played))) its_rows e.ends.done in
            subst (λ (d : Deed D). PartIsDone Did start book (length attached) part d) (sym found.is)
            (subst (λ (p : Pass L O Start Made n l o). PartIsDone Did start book (length attached) part (deed (known p) (made_of p) found.rows)) e.is
            (subst (λ (p : Part H). PartIsDone Did start book (length attached) p (deed (known e.ends.pass) (made_of e.ends.pass) found.rows)) its_part did))

        pub done-all : EachIsDone Did start book attached parts passes queues
        done-all =
            record {
              count = as-many;
              each = each-of (PartIsDone Did start book (length attached)) parts (deeds_of passes queues) (deeds-long passes queues as-many ∙ count) did-at;
            }
