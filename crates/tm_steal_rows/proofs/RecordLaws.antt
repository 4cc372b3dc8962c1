-- Records by their places, and what they ask.
use Rattle.std.proofs.Common.{◌≡◌, ◌+◌, ℕ, zero, suc, ltb, List, [], ◌∷◌, length, get_or, true, refl, sym, ap, ◌∙◌, subst, arith}
use Rattle.std.specs.Prelude.{Option, Some, None, IfSome, is_some, option_map, option_and_then, slice_get}
use Rattle.std.specs.List.{AllByRecursion, list_all}
use Rattle.std.proofs.lemmas.Bool.{and_parts, ltb-true, ltb-false}
use Rattle.std.proofs.lemmas.Option.{slice_get_read, slice_get_past}
use Rattle.tm_rules.specs.Types.{Item, Request, Take, Tree}
use Rattle.tm_rules.specs.Prelude.{Trace, is_request, item_is_request}
use Rattle.tm_legal.specs.Prelude.{Case, Situations, after_take, forked, tree_cases, with_ids, with_situation}
use Rattle.tm_take.specs.Tomoyo.{tomoyo_grammar}
use Rattle.tm_seat.proofs.Lists.{All-at}
use Rattle.tm_steal_rows.specs.declared.records.RecordPlace.{RecordPlace}
use Rattle.tm_steal_rows.specs.Records.{numbered, request_in, request_at, places_in, RecordsCanBeAsked}

-- what is found at a place
pub found-at : {R A : Type 0} (value : R → A) (items : List A) (k : ℕ) (result : Option R) → is_some result ≡ ltb k (length items) → IfSome result (λ x. value x ≡ get_or items k (value x)) → option_map value result ≡ slice_get items k
found-at value items k None some h = sym (slice_get_past items k (ltb-false k (length items) (sym some)))
found-at value items k (Some x) some h = sym (slice_get_read items (length items) k (value x) refl (ltb-true k (length items) (sym some)) h)

-- the element of a number is the one at the place before it
pub numbered-is : {A : Type 0} (items : List A) (number before : ℕ) → number ≡ suc before → slice_get items before ≡ numbered items number
numbered-is items zero before is = absurd (omega (arith, is))
numbered-is items (suc number) before is = let same : before ≡ number = omega (arith, is) in ap (slice_get items) same

pub numbered-none : {A : Type 0} (items : List A) (number : ℕ) → number ≡ 0 → (let found : Option A = None in found ≡ numbered items number)
numbered-none items zero is = refl
numbered-none items (suc number) is = absurd (omega (arith, is))

-- Records that can be asked

item-asked : (items : List Item) (n : ℕ) (item : Item) → list_all (item_is_request tomoyo_grammar.is_path) items ≡ true → slice_get items n ≡ Some item → item_is_request tomoyo_grammar.is_path item ≡ true
item-asked [] n item h at = absurd cc
item-asked (first ∷ items) zero item h at =
    let same : first ≡ item = cc in
    let parts = and_parts (item_is_request tomoyo_grammar.is_path first) (list_all (item_is_request tomoyo_grammar.is_path) items) h in
    subst (λ (i : Item). item_is_request tomoyo_grammar.is_path i ≡ true) same parts.0
item-asked (first ∷ items) (suc n) item h at =
    item-asked items n item (and_parts (item_is_request tomoyo_grammar.is_path first) (list_all (item_is_request tomoyo_grammar.is_path) items) h).1 at

item-numbered : (items : List Item) (n : ℕ) (item : Item) → list_all (item_is_request tomoyo_grammar.is_path) items ≡ true → numbered items n ≡ Some item → item_is_request tomoyo_grammar.is_path item ≡ true
item-numbered items zero item h at = absurd cc
item-numbered items (suc n) item h at = item-asked items n item h at

request-asked : (item : Item) (request : Request) → item_is_request tomoyo_grammar.is_path item ≡ true → request_in item ≡ Some request → is_request tomoyo_grammar.is_path request ≡ true
request-asked (Item.Do pid own) request h is = let same : own ≡ request = cc in subst (λ (r : Request). is_request tomoyo_grammar.is_path r ≡ true) same h
request-asked (Item.Ids pid ids) request h is = absurd cc
request-asked (Item.Fork pid child) request h is = absurd cc

tree-numbered : (trace : Trace) (n : ℕ) (tree : Tree) → AllByRecursion (λ (t : Tree). list_all (item_is_request tomoyo_grammar.is_path) t.records ≡ true) trace → numbered trace n ≡ Some tree → list_all (item_is_request tomoyo_grammar.is_path) tree.records ≡ true
tree-numbered trace zero tree all at = absurd cc
tree-numbered trace (suc n) tree all at = All-at (λ (t : Tree). list_all (item_is_request tomoyo_grammar.is_path) t.records ≡ true) trace n tree all at

pub records-asked : RecordsCanBeAsked
records-asked trace place request all at = in-tree (numbered trace place.tree) refl at
  where
    in-records : (tree : Tree) → list_all (item_is_request tomoyo_grammar.is_path) tree.records ≡ true → (found : Option Item) → numbered tree.records place.item ≡ found → option_and_then request_in found ≡ Some request → is_request tomoyo_grammar.is_path request ≡ true
    in-records tree asked None is h = absurd cc
    in-records tree asked (Some item) is h = request-asked item request (item-numbered tree.records place.item item asked is) h

    in-tree : (found : Option Tree) → numbered trace place.tree ≡ found → option_and_then request_in (option_and_then (λ (tree : Tree). numbered tree.records place.item) found) ≡ Some request → is_request tomoyo_grammar.is_path request ≡ true
    in-tree None is h = absurd cc
    in-tree (Some tree) is h = in-records tree (tree-numbered trace place.tree tree all is) (numbered tree.records place.item) refl h

-- Cases of a walk

-- a request's case asks what the record at its place asks, where the records from number n on are
-- walked
pub case-asks : (trace : Trace) (t n : ℕ) (tree : Tree) (items : List Item) → numbered trace t ≡ Some tree → ((j : ℕ) (item : Item) → slice_get items j ≡ Some item → numbered tree.records (n + j) ≡ Some item) → (at : Situations) (takes : List Take) (k : ℕ) (c : Case) (place : RecordPlace) → slice_get (tree_cases t at items takes) k ≡ Some c → slice_get (places_in t n items) k ≡ Some place → request_at trace place ≡ Some c.request
unfolding tree_cases
case-asks trace t n tree [] there each at takes k c place is h = absurd cc
case-asks trace t n tree (Item.Ids pid ids ∷ items) there each at takes k c place is h =
    case-asks trace t (suc n) tree items there (λ j item has. subst (λ (i : ℕ). numbered tree.records i ≡ Some item) (omega arith) (each (suc j) item has)) (with_situation at pid (with_ids (at pid) ids)) takes k c place is h
case-asks trace t n tree (Item.Fork pid child ∷ items) there each at takes k c place is h =
    case-asks trace t (suc n) tree items there (λ j item has. subst (λ (i : ℕ). numbered tree.records i ≡ Some item) (omega arith) (each (suc j) item has)) (with_situation at child (forked (at pid) child)) takes k c place is h
case-asks trace t n tree (Item.Do pid request ∷ items) there each at [] k c place is h = absurd cc
case-asks trace t n tree (Item.Do pid request ∷ items) there each at (took ∷ takes) zero c place is h =
    let first : Case = record { tree = t; now = at pid; request = request; taken = took } in
    let same : first ≡ c = cc in
    let its : RecordPlace = record { tree = t; item = n } in
    let here : its ≡ place = cc in
    let item : numbered tree.records n ≡ Some (Item.Do pid request) = subst (λ (i : ℕ). numbered tree.records i ≡ Some (Item.Do pid request)) (omega arith) (each 0 (Item.Do pid request) refl) in
    let asks : request_at trace its ≡ Some request = rw (there, item) refl in
    subst (λ (p : RecordPlace). request_at trace p ≡ Some c.request) here (asks ∙ ap (λ (x : Case). Some x.request) same)
case-asks trace t n tree (Item.Do pid request ∷ items) there each at (took ∷ takes) (suc k) c place is h =
    case-asks trace t (suc n) tree items there (λ j item has. subst (λ (i : ℕ). numbered tree.records i ≡ Some item) (omega arith) (each (suc j) item has)) (with_situation at pid (after_take (at pid) took)) takes k c place is h
