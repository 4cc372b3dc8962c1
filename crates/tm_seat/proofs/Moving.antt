-- What a part has come to stays so when others' steps follow.
use Rattle.std.proofs.Common.{◌≡◌, ℕ, List, [], ◌∷◌, sym, subst}
use Rattle.std.specs.List.{AllByRecursion}
use Rattle.tm_rules.specs.Types.{Book, Made, Maker, Start}
use Rattle.tm_joint.specs.Makers.{Claims}
use Rattle.tm_joint.specs.Played.{LinesMade}
use Rattle.tm_joint.proofs.Later.{claims-later, lines-later}
use Rattle.tm_seat.specs.Seats.{Begins}
use Rattle.tm_seat.proofs.Opening.{begins-further}
use Rattle.tm_seat.proofs.WorkerEvents.{rows-stay}
use Rattle.tm_seat.specs.Rows.{makers_all}
use Rattle.tm_seat.specs.declared.part.Part.{Part}
use Rattle.tm_take.specs.Each.{EachWith}
use Rattle.tm_seat.specs.Parts.{Deed, deed, ClaimedBy, WorkerDid, PartIsDone}

pub claimed-later : (makers : List Maker) (xs ys : List Made) (own : List ℕ) → Begins xs ys → ClaimedBy makers xs own → ClaimedBy makers ys own
claimed-later makers xs ys own begins h who i all = subst (λ (l : List Made). Claims who i l own) (sym begins.1) (claims-later who i xs begins.0 own (h who i all))

-- a deed by a later list
abbrev pub deed_at : {D : Type 0} → List Made → Deed D → Deed D
deed_at list done = deed list done.own done.rows

-- what a worker of this way has done stays so when others' steps follow
abbrev pub DidStays : {H D : Type 0} → (Start → ℕ → H → Deed D → Type 0) → Type 0
DidStays Did =
    (start : Start) (floor : ℕ) (hand : _) (done : Deed _) (list : List Made) → Begins done.known list
    → Did start floor hand done → Did start floor hand (deed_at list done)

-- a worker that has played trees
pub trees-later : DidStays WorkerDid
trees-later start floor trees done list begins h =
    record {
      each = rows-stay start start.desk done.known list trees done.rows begins h.each;
      own_is = h.own_is;
      claims = claimed-later (makers_all trees) done.known list done.own begins h.claims;
      rises = h.rises;
    }

module _ {H D : Type 0} (Did : Start → ℕ → H → Deed D → Type 0) (stays : DidStays Did) (start : Start) (book : Book) (floor : ℕ) where
  pub part-later : (part : Part H) (done : Deed D) (list : List Made) → Begins done.known list → PartIsDone Did start book floor part done → PartIsDone Did start book floor part (deed_at list done)
  part-later (Part.Worker hand) done list begins h = stays start floor hand done list begins h
  part-later (Part.Editor number lines) done list begins h =
      record {
        made = subst (λ (l : List Made). LinesMade l number lines done.own) (sym begins.1) (lines-later done.known begins.0 number lines done.own h.made);
        claims = claimed-later (Maker.Editor number ∷ []) done.known list done.own begins h.claims;
      }
  part-later Part.Desk done list begins h =
      record {
        acts = λ trace more trees further. h.acts trace more trees (begins-further done.known list more begins further);
        claims = claimed-later (Maker.Desk ∷ []) done.known list done.own begins h.claims;
      }

  -- all deeds by one list
  pub parts-later : (parts : List (Part H)) (deeds : List (Deed D)) (list : List Made) → AllByRecursion (λ (done : Deed D). Begins done.known list) deeds → EachWith (PartIsDone Did start book floor) parts deeds → EachWith (λ part done. PartIsDone Did start book floor part (deed_at list done)) parts deeds
  parts-later [] [] list seen h = tt
  parts-later [] (done ∷ deeds) list seen h = h
  parts-later (part ∷ parts) [] list seen h = h
  parts-later (part ∷ parts) (done ∷ deeds) list seen h = (part-later part done list seen.0 h.0, parts-later parts deeds list seen.1 h.1)
