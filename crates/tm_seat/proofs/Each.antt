-- Parts with their deeds, by their places.
use Rattle.std.proofs.Common.{◌≡◌, ℕ, zero, suc, List, [], ◌∷◌, ◌++◌, length, map, refl, ap, subst}
use Rattle.std.specs.Prelude.{Some, slice_get}
use Rattle.tm_rules.specs.Types.{Book, Start}
use Rattle.tm_seat.specs.declared.part.Part.{Part}
use Rattle.tm_take.specs.Each.{EachWith}
use Rattle.tm_seat.specs.Parts.{Deed, PartIsDone}

-- the deeds of the first parts, and those of the others
pub record Split {P A : Type 0} (Does : P → A → Type 0) (first rest : List P) (deeds : List A) : Type 0 where
  pub front : List A
  pub back : List A
  pub all : deeds ≡ front ++ back
  pub each_front : EachWith Does first front
  pub each_back : EachWith Does rest back

pub each-split : {P A : Type 0} (Does : P → A → Type 0) (first rest : List P) (deeds : List A) → EachWith Does (first ++ rest) deeds → Split Does first rest deeds
each-split Does [] rest deeds h = record { front = []; back = deeds; all = refl; each_front = tt; each_back = h }
each-split Does (part ∷ first) rest [] h = absurd h
each-split Does (part ∷ first) rest (done ∷ deeds) h =
    let more = each-split Does first rest deeds h.1 in
    record {
      front = done ∷ more.front;
      back = more.back;
      all = ap (λ (l : List _). done ∷ l) more.all;
      each_front = (h.0, more.each_front);
      each_back = more.each_back;
    }

pub each-length : {P A : Type 0} (Does : P → A → Type 0) (parts : List P) (deeds : List A) → EachWith Does parts deeds → length deeds ≡ length parts
each-length Does [] [] h = refl
each-length Does [] (done ∷ deeds) h = absurd h
each-length Does (part ∷ parts) [] h = absurd h
each-length Does (part ∷ parts) (done ∷ deeds) h = ap suc (each-length Does parts deeds h.1)

-- a deed at its place, with its part
pub each-at : {P A : Type 0} (Does : P → A → Type 0) (parts : List P) (deeds : List A) (k : ℕ) (done : A) → EachWith Does parts deeds → slice_get deeds k ≡ Some done → (part : P) × (slice_get parts k ≡ Some part) × Does part done
each-at Does [] [] k done h at = absurd cc
each-at Does [] (d ∷ deeds) k done h at = absurd h
each-at Does (part ∷ parts) [] k done h at = absurd h
each-at Does (part ∷ parts) (d ∷ deeds) zero done h at = let same : d ≡ done = cc in (part, refl, subst (Does part) same h.0)
each-at Does (part ∷ parts) (d ∷ deeds) (suc k) done h at = each-at Does parts deeds k done h.1 at

-- what the workers' parts have come to, by their hands
pub each-hand : {H D : Type 0} (Did : Start → ℕ → H → Deed D → Type 0) (start : Start) (book : Book) (floor : ℕ) (at : Deed D → Deed D) (hands : List H) (deeds : List (Deed D)) → EachWith (λ part done. PartIsDone Did start book floor part (at done)) (map Part.Worker hands) deeds → EachWith (λ hand done. Did start floor hand (at done)) hands deeds
each-hand Did start book floor at [] [] h = tt
each-hand Did start book floor at [] (done ∷ deeds) h = absurd h
each-hand Did start book floor at (hand ∷ hands) [] h = absurd h
each-hand Did start book floor at (hand ∷ hands) (done ∷ deeds) h = (h.0, each-hand Did start book floor at hands deeds h.1)
