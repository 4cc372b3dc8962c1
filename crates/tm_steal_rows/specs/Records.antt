-- Where the records of a trace stand, and what they ask.
use Rattle.std.specs.Prelude.{◌≡◌, ℕ, zero, suc, true, List, [], ◌∷◌, Option, Some, None, option_and_then, slice_get}
use Rattle.std.specs.List.{AllByRecursion, list_all}
use Rattle.tm_rules.specs.Types.{Item, Request, Tree}
use Rattle.tm_rules.specs.Prelude.{Trace, is_request, item_is_request}
use Rattle.tm_take.specs.Tomoyo.{tomoyo_grammar}
use Rattle.tm_steal_rows.specs.declared.records.RecordPlace.{RecordPlace}

-- the element of that number, from 1
abbrev pub numbered : {A : Type 0} → List A → ℕ → Option A
numbered items zero = None
numbered items (suc before) = slice_get items before

-- the record at a place
abbrev pub record_at : Trace → RecordPlace → Option Item
record_at trace place =
    option_and_then (λ (tree : Tree). numbered tree.records place.item) (numbered trace place.tree)

-- what a record asks
abbrev pub request_in : Item → Option Request
request_in (Item.Do pid request) = Some request
request_in (Item.Ids pid ids) = None
request_in (Item.Fork pid child) = None

-- what the record at a place asks
abbrev pub request_at : Trace → RecordPlace → Option Request
request_at trace place = option_and_then request_in (record_at trace place)

-- the places of the `do` lines among the records of tree t, the first of which has number n
abbrev pub places_in : ℕ → ℕ → List Item → List RecordPlace
places_in t n [] = []
places_in t n (Item.Do pid request ∷ items) = record { tree = t; item = n } ∷ places_in t (suc n) items
places_in t n (Item.Ids pid ids ∷ items) = places_in t (suc n) items
places_in t n (Item.Fork pid child ∷ items) = places_in t (suc n) items

-- where each record of a trace can be asked, so can the request at each place
abbrev pub RecordsCanBeAsked : Type 0
RecordsCanBeAsked =
    (trace : Trace) (place : RecordPlace) (request : Request)
    → AllByRecursion (λ (tree : Tree). list_all (item_is_request tomoyo_grammar.is_path) tree.records ≡ true) trace
    → request_at trace place ≡ Some request
    → is_request tomoyo_grammar.is_path request ≡ true
