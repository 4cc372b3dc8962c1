-- The entry that a search finds stands at the place that it tells.
use Rattle.std.proofs.Common.{◌≡◌, ℕ, suc, ◌+◌, List, [], ◌∷◌, ◌++◌, refl, subst, arith}
use Rattle.std.specs.Prelude.{Option, Some, None, option_map, unwrap_or, slice_get, flat_map}
use Rattle.std.specs.List.{AllByRecursion}
use Rattle.std.specs.Option.{option_or}
use Rattle.tm_rules.specs.Types.{Domain, Entry, EntryPlace, Groups, NamePlace, Namespace, Proc, Request}
use Rattle.tm_rules.specs.Prelude.{Granting, at_key, entries_of, entry_at, first, first_of_all, found_of, granting, grants, placed, searched}
use Rattle.tm_verdict.specs.Leading.{granting_at}

All-append : {A : Type 0} (P : A → Type 0) (xs ys : List A) → AllByRecursion P xs → AllByRecursion P ys → AllByRecursion P (xs ++ ys)
All-append P [] ys h k = k
All-append P (x ∷ xs) ys h k = (h.0, All-append P xs ys h.1 k)

All-flat_map : {A B : Type 0} (P : B → Type 0) (f : A → List B) (xs : List A) → ((x : A) → AllByRecursion P (f x)) → AllByRecursion P (flat_map f xs)
All-flat_map P f [] h = tt
All-flat_map P f (x ∷ xs) h = All-append P (f x) (flat_map f xs) (h x) (All-flat_map P f xs h)

-- what is so of each entry with its place is so of all of them
placed_all : (P : EntryPlace × Entry → Type 0) (place : ℕ → EntryPlace) (n : ℕ) (entries : List Entry) → ((k : ℕ) (entry : Entry) → slice_get entries k ≡ Some entry → P (place (n + k), entry)) → AllByRecursion P (placed place n entries)
placed_all P place n [] each = tt
placed_all P place n (entry ∷ entries) each =
    let here : n + 0 ≡ n = omega arith in
    let later : (k : ℕ) → n + suc k ≡ suc n + k = λ k. omega arith in
    (subst (λ m. P (place m, entry)) here (each 0 entry refl), placed_all P place (suc n) entries (λ k x at. subst (λ m. P (place m, x)) (later k) (each (suc k) x at)))

-- the same from the start
listed_all : (P : EntryPlace × Entry → Type 0) (place : ℕ → EntryPlace) (entries : List Entry) → ((k : ℕ) (entry : Entry) → slice_get entries k ≡ Some entry → P (place k, entry)) → AllByRecursion P (placed place 0 entries)
listed_all P place entries each = placed_all P place 0 entries (λ k entry at. let same : k ≡ 0 + k = omega arith in subst (λ m. P (place m, entry)) same (each k entry at))

-- the first that grants is one of them
first_all : (P : EntryPlace × Entry → Type 0) (groups : Groups) (process : Proc) (request : Request) (xs : List (EntryPlace × Entry)) (g : Granting) → AllByRecursion P xs → first_of_all (granting groups process request) xs ≡ Some g → P (g.place, g.entry)
first_all P groups process request [] g all is = absurd cc
first_all P groups process request (pair ∷ pairs) g all is = go (first_all P groups process request pairs g all.1) (grants groups process request pair.1) is
  where
    made : NamePlace → Granting
    made name = record { place = pair.0; entry = pair.1; name = name }

    go : (first_of_all (granting groups process request) pairs ≡ Some g → P (g.place, g.entry)) → (o : Option NamePlace) → option_or (option_map made o) (first_of_all (granting groups process request) pairs) ≡ Some g → P (g.place, g.entry)
    go later None is = later is
    go later (Some name) is = let same : made name ≡ g = cc in subst (λ (x : Granting). P (x.place, x.entry)) same all.0

module _ (ns : Namespace) (domain : Domain) where
  abbrev Stands : EntryPlace × Entry → Type 0
  Stands pair = entry_at ns domain pair.0 ≡ Some pair.1

  -- each entry of a domain stands at its place
  all_stand : AllByRecursion Stands (entries_of ns domain)
  unfolding entries_of
  all_stand =
      All-append Stands (placed EntryPlace.Own 0 domain.entries) _ (listed_all Stands EntryPlace.Own domain.entries (λ k entry at. at))
      (All-flat_map Stands (λ (member : ℕ × Unit {0}). placed (EntryPlace.Acl member.0) 0 (unwrap_or (at_key ns.acl_groups member.0) [])) domain.groups
      (λ member. listed_all Stands (EntryPlace.Acl member.0) (unwrap_or (at_key ns.acl_groups member.0) []) (λ k entry at. at)))

  pub first-there : (process : Proc) (request : Request) (g : Granting) → first ns domain process request ≡ Some g → entry_at ns domain g.place ≡ Some g.entry
  unfolding first
  first-there process request g is = first_all Stands ns.groups process (searched ns request) (entries_of ns domain) g all_stand is

  -- what a search tells is the first that grants
  pub told : (process : Proc) (request : Request) → granting_at ns domain (option_map found_of (first ns domain process request)) ≡ first ns domain process request
  told process request = go (first ns domain process request) refl
    where
      go : (o : Option Granting) → first ns domain process request ≡ o → granting_at ns domain (option_map found_of o) ≡ o
      go None is = refl
      go (Some g) is = rw (first-there process request g is) refl
