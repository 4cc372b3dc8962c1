-- The walk through a tree's records, one after another.
use Rattle.std.proofs.Common.{◌≡◌, ℕ, suc, List, [], ◌∷◌, ◌++◌, map, refl, sym, ap, ◌∙◌, subst, append_assoc, append-nil}
use Rattle.std.specs.Prelude.{Result, Ok, Err, OnOk, Option}
use Rattle.std.proofs.lemmas.List.{map-append}
use Rattle.tm_rules.specs.Types.{Ids, Item, Request, Take}
use Rattle.tm_legal.specs.Prelude.{Situations, after_take, do_pids, forked, tree_cases, with_ids, with_situation}
use Rattle.tm_take.specs.Situations.{first_situation}
use Rattle.tm_steal_rows.specs.declared.played.PlayedTake.{PlayedTake}
use Rattle.tm_steal_rows.specs.declared.records.RecordPlace.{RecordPlace}
use Rattle.tm_steal_rows.specs.Records.{places_in}
use Rattle.tm_steal_rows.specs.Gathering.{StandsThere, EachStands, taken, placed, AreTheSame, TakesOfProcesses, IsWalking, WalksOn}
use Rattle.tm_steal_rows.proofs.Same.{same-refl, same-then, same-behind}

pub walk-starts : (t : ℕ) (home : Option ℕ) (records : List Item) (old : List PlayedTake) → IsWalking t home records old 1 (first_situation home) records [] old
walk-starts t home records old = record { own = []; are = refl; pids = refl; stand = λ more h. h; places = refl; taken_out = same-refl old }

pub walk-ids : (t n : ℕ) (at later : Situations) (pid : ℕ) (ids : Ids) (takes : List Take) (left : List PlayedTake) → later ≡ with_situation at pid (with_ids (at pid) ids) → WalksOn t n at (Item.Ids pid ids) takes left later takes left
unfolding tree_cases
walk-ids t n at later pid ids takes left is home records old items h = rw is (record { own = h.own; are = h.are; pids = h.pids; stand = h.stand; places = h.places; taken_out = h.taken_out })

pub walk-fork : (t n : ℕ) (at later : Situations) (pid child : ℕ) (takes : List Take) (left : List PlayedTake) → later ≡ with_situation at child (forked (at pid) child) → WalksOn t n at (Item.Fork pid child) takes left later takes left
unfolding tree_cases
walk-fork t n at later pid child takes left is home records old items h = rw is (record { own = h.own; are = h.are; pids = h.pids; stand = h.stand; places = h.places; taken_out = h.taken_out })

pub ids-ok : {A E : Type 0} (r : Result A E) (t n : ℕ) (at later : Situations) (item : Item) (pid : ℕ) (ids : Ids) (takes : List Take) (left : List PlayedTake) → item ≡ Item.Ids pid ids → OnOk r (later ≡ with_situation at pid (with_ids (at pid) ids)) → OnOk r (WalksOn t n at item takes left later takes left)
ids-ok (Ok x) t n at later item pid ids takes left is next = rw is (walk-ids t n at later pid ids takes left next)
ids-ok (Err e) t n at later item pid ids takes left is next = tt

pub forks-ok : {A E : Type 0} (r : Result A E) (t n : ℕ) (at later : Situations) (item : Item) (pid child : ℕ) (takes : List Take) (left : List PlayedTake) → item ≡ Item.Fork pid child → OnOk r (later ≡ with_situation at child (forked (at pid) child)) → OnOk r (WalksOn t n at item takes left later takes left)
forks-ok (Ok x) t n at later item pid child takes left is next = rw is (walk-fork t n at later pid child takes left next)
forks-ok (Err e) t n at later item pid child takes left is next = tt

-- a request has its take
walk-do : (t n : ℕ) (at later : Situations) (pid : ℕ) (request : Request) (takes more : List Take) (left rest : List PlayedTake) (take : Take) (played : PlayedTake) → AreTheSame left (played ∷ rest) → take ≡ played.take → take.pid ≡ pid → (let place : RecordPlace = record { tree = t; item = n } in played.place ≡ place) → StandsThere (at pid) played → later ≡ with_situation at pid (after_take (at pid) take) → more ≡ takes ++ take ∷ [] → WalksOn t n at (Item.Do pid request) takes left later more rest
unfolding tree_cases
walk-do t n at later pid request takes more left rest take played out of its place there next pushed home records old items h =
    let put : taken (h.own ++ played ∷ []) ≡ taken h.own ++ taken (played ∷ []) = map-append (λ (p : PlayedTake). p.take) h.own (played ∷ []) in
    let many : more ≡ taken h.own ++ take ∷ [] = pushed ∙ ap (λ (l : List Take). l ++ take ∷ []) h.are in
    rw next
    (record {
      own = h.own ++ played ∷ [];
      are = many ∙ ap (λ (k : Take). taken h.own ++ k ∷ []) of ∙ sym put;
      pids =
          ap (λ (l : List Take). map (λ (k : Take). k.pid) l ++ do_pids items) pushed
          ∙ ap (λ (l : List ℕ). l ++ do_pids items) (map-append (λ (k : Take). k.pid) takes (take ∷ []))
          ∙ append_assoc (map (λ (k : Take). k.pid) takes) (take.pid ∷ []) (do_pids items)
          ∙ ap (λ (n : ℕ). map (λ (k : Take). k.pid) takes ++ n ∷ do_pids items) its
          ∙ h.pids;
      stand = λ later_takes each.
          subst (λ (l : List PlayedTake). EachStands (tree_cases t (first_situation home) records (taken l)) l) (sym (append_assoc h.own (played ∷ []) later_takes))
          (h.stand (played ∷ later_takes) (refl, there, subst (λ (k : Take). EachStands (tree_cases t (with_situation at pid (after_take (at pid) k)) items (taken later_takes)) later_takes) of each));
      places =
          ap (λ (l : List RecordPlace). l ++ places_in t (suc n) items) (map-append (λ (p : PlayedTake). p.place) h.own (played ∷ []))
          ∙ append_assoc (placed h.own) (played.place ∷ []) (places_in t (suc n) items)
          ∙ ap (λ (p : RecordPlace). placed h.own ++ p ∷ places_in t (suc n) items) place
          ∙ h.places;
      taken_out =
          rw (append_assoc h.own (played ∷ []) rest)
          (same-then old (h.own ++ left) (h.own ++ played ∷ rest) h.taken_out (same-behind h.own left (played ∷ rest) out));
    })

pub walk-ends : (t n : ℕ) (home : Option ℕ) (records : List Item) (old : List PlayedTake) (at : Situations) (takes : List Take) (left : List PlayedTake) → IsWalking t home records old n at [] takes left → TakesOfProcesses t home records old takes left
unfolding tree_cases
walk-ends t n home records old at takes left h =
    record {
      own = h.own;
      are =
          record {
            are = h.are;
            pids = sym (append-nil (map (λ (k : Take). k.pid) takes)) ∙ h.pids;
            stand =
                rw h.are (subst (λ (l : List PlayedTake). EachStands (tree_cases t (first_situation home) records (taken l)) l) (append-nil h.own) (h.stand [] tt));
            places = sym (append-nil (placed h.own)) ∙ h.places;
          };
      taken_out = h.taken_out;
    }

pub does-ok : (place : RecordPlace) (at later : Situations) (item : Item) (pid : ℕ) (request : Request) (takes more : List Take) (left rest : List PlayedTake) (take : Take) → item ≡ Item.Do pid request → more ≡ takes ++ take ∷ [] → (played : PlayedTake) × AreTheSame left (played ∷ rest) × (take ≡ played.take) × (take.pid ≡ pid) × (played.place ≡ place) × StandsThere (at pid) played × (later ≡ with_situation at pid (after_take (at pid) take)) → WalksOn place.tree place.item at item takes left later more rest
does-ok place at later item pid request takes more left rest take is pushed (played, out, same, of, its_place, there, next) =
    rw is (walk-do place.tree place.item at later pid request takes more left rest take played out same of its_place there next pushed)
