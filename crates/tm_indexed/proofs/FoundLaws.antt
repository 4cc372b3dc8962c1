-- What is found in a list by its index is what is found first in it.
use Rattle.std.proofs.Common.{◌≡◌, ℕ, suc, Bool, true, false, ◌||◌, List, [], ◌∷◌, map, refl, sym, ap, ◌∙◌}
use Rattle.std.specs.Prelude.{Option, Some, None, option_map, slice_get}
use Rattle.std.specs.Option.{option_or}
use Rattle.tm_word.specs.Prelude.{Text, Word}
use Rattle.tm_rules.specs.Types.{Entry, NamePlace, argument_words}
use Rattle.tm_rules.specs.Prelude.{first_of_all, found_of, granting, placed}
use Rattle.tm_policy.specs.Searching.{Asked, asked_request, granted_by, place_in, found_in}
use Rattle.tm_index.specs.Stems.{stems_asked}
use Rattle.tm_index.specs.Listing.{Listed, listing, has_name, has_stem, has_neither}
use Rattle.tm_indexed.specs.Candidates.{granted, first_at, sooner, soonest, places_named, is_wanted, has_some_stem}
use Rattle.tm_indexed.specs.Known.{found_in_list}
use Rattle.tm_index.proofs.PlaceLaws.{first_numbered, only, found_at_places}
use Rattle.tm_indexed.proofs.SearchLaws.{either_found, all_found, same_found}
use Rattle.tm_indexed.proofs.StemLaws.{Past, looked-past}

or-none : (b : Bool) → (b || false) ≡ b
or-none true = refl
or-none false = refl

or-three : (a b c : Bool) → ((a || b) || c) ≡ (a || (b || c))
or-three true b c = refl
or-three false b c = refl

-- none of three
or-parts : (a b c : Bool) → ((a || b) || c) ≡ false → Past a b c
or-parts false false c h = record { named = refl; neither = refl; stemmed = h }
or-parts true b c h = absurd cc
or-parts false true c h = absurd cc

module _ (asked : Asked) where
  nothing : (n : ℕ) (entries : List Entry) → None ≡ first_numbered (only (is_wanted None) (granted asked)) n entries
  nothing n [] = refl
  nothing n (e ∷ es) = nothing (suc n) es

  -- what is found first at the places of a name
  named-found : (x : Listed) (name : Option Word) (entries : List Entry) → x ≡ listing entries
      → first_at asked entries (places_named x.named name) ≡ first_numbered (only (is_wanted name) (granted asked)) 0 entries
  unfolding listing
  named-found x None entries e = nothing 0 entries
  named-found x (Some name) entries e = ap (λ (y : Listed). first_at asked entries (y.named name)) e ∙ found_at_places (has_name name) (granted asked) entries

  -- at those with neither a name nor a stem
  rest-found : (x : Listed) (entries : List Entry) → x ≡ listing entries → first_at asked entries x.rest ≡ first_numbered (only has_neither (granted asked)) 0 entries
  unfolding listing
  rest-found x entries e = ap (λ (y : Listed). first_at asked entries y.rest) e ∙ found_at_places has_neither (granted asked) entries

  -- and at those of a stem
  stem-found : (x : Listed) (stem : Text) (entries : List Entry) → x ≡ listing entries → first_at asked entries (x.stemmed stem) ≡ first_numbered (only (has_stem stem) (granted asked)) 0 entries
  unfolding listing
  stem-found x stem entries e = ap (λ (y : Listed). first_at asked entries (y.stemmed stem)) e ∙ found_at_places (has_stem stem) (granted asked) entries

  -- where an entry of one of some stems is found as well
  stems-found : (x : Listed) (entries : List Entry) → x ≡ listing entries → (stems : List Text) (test : Entry → Bool) (found : Option (ℕ × NamePlace)) → found ≡ first_numbered (only test (granted asked)) 0 entries
      → soonest asked entries found (map x.stemmed stems) ≡ first_numbered (only (λ entry. test entry || has_some_stem stems entry) (granted asked)) 0 entries
  stems-found x entries e [] test found is =
      is ∙ same_found (granted_by asked) test (λ entry. test entry || false) (λ entry. sym (or-none (test entry))) 0 entries
  stems-found x entries e (stem ∷ stems) test found is =
      let next : sooner found (first_at asked entries (x.stemmed stem)) ≡ first_numbered (only (λ entry. test entry || has_stem stem entry) (granted asked)) 0 entries =
      ap (λ o. sooner o (first_at asked entries (x.stemmed stem))) is
      ∙ ap (sooner (first_numbered (only test (granted asked)) 0 entries)) (stem-found x stem entries e)
      ∙ either_found (granted_by asked) test (has_stem stem) 0 entries in
      stems-found x entries e stems (λ entry. test entry || has_stem stem entry) (sooner found (first_at asked entries (x.stemmed stem))) next
      ∙ same_found (granted_by asked) (λ entry. (test entry || has_stem stem entry) || has_some_stem stems entry) (λ entry. test entry || has_some_stem (stem ∷ stems) entry)
      (λ entry. or-three (test entry) (has_stem stem entry) (has_some_stem stems entry)) 0 entries

  placed-found : (group : Option ℕ) (n : ℕ) (entries : List Entry) → option_map (found_in_list group) (first_numbered (granted asked) n entries) ≡ found_in asked (placed (place_in group) n entries)
  placed-found group n [] = refl
  placed-found group n (e ∷ es) = go (granted_by asked e) (placed-found group (suc n) es)
    where
      go : (o : Option NamePlace) → option_map (found_in_list group) (first_numbered (granted asked) (suc n) es) ≡ option_map found_of (first_of_all (granting asked.groups asked.process (asked_request asked)) (placed (place_in group) (suc n) es))
          → option_map (found_in_list group) (option_or (option_map (λ name. (n, name)) o) (first_numbered (granted asked) (suc n) es))
          ≡ option_map found_of (option_or (option_map (λ name. record { place = place_in group n; entry = e; name = name }) o) (first_of_all (granting asked.groups asked.process (asked_request asked)) (placed (place_in group) (suc n) es)))
      go None ih = ih
      go (Some name) ih = refl

  -- the soonest of all is what is found first in the list
  soonest-in : (x : Listed) (name : Option Word) (group : Option ℕ) (entries : List Entry) (first second : Option (ℕ × NamePlace)) → x ≡ listing entries → name ≡ slice_get (argument_words (asked_request asked).args) 0
      → first ≡ first_at asked entries (places_named x.named name) → second ≡ first_at asked entries x.rest
      → option_map (found_in_list group) (soonest asked entries (sooner first second) (map x.stemmed (stems_asked (asked_request asked).args))) ≡ found_in asked (placed (place_in group) 0 entries)
  soonest-in x name group entries first second e own one two =
      let both : sooner first second ≡ first_numbered (only (λ entry. is_wanted name entry || has_neither entry) (granted asked)) 0 entries =
      ap (λ o. sooner o second) (one ∙ named-found x name entries e)
      ∙ ap (sooner (first_numbered (only (is_wanted name) (granted asked)) 0 entries)) (two ∙ rest-found x entries e)
      ∙ either_found (granted_by asked) (is_wanted name) has_neither 0 entries in
      ap (option_map (found_in_list group))
      (stems-found x entries e (stems_asked (asked_request asked).args) (λ entry. is_wanted name entry || has_neither entry) (sooner first second) both
      ∙ all_found (granted_by asked) (λ entry. (is_wanted name entry || has_neither entry) || has_some_stem (stems_asked (asked_request asked).args) entry)
      (λ entry none. looked-past asked.groups asked.process (asked_request asked) name entry own (or-parts (is_wanted name entry) (has_neither entry) (has_some_stem (stems_asked (asked_request asked).args) entry) none)) 0 entries)
      ∙ placed-found group 0 entries

  -- as it is looked for step by step
  pub search_found : (x : Listed) (name : Option Word) (group : Option ℕ) (entries : List Entry) (first second found last : Option (ℕ × NamePlace)) → x ≡ listing entries → name ≡ slice_get (argument_words (asked_request asked).args) 0
      → first ≡ first_at asked entries (places_named x.named name) → second ≡ first_at asked entries x.rest → found ≡ sooner first second
      → last ≡ soonest asked entries found (map x.stemmed (stems_asked (asked_request asked).args)) → option_map (found_in_list group) last ≡ found_in asked (placed (place_in group) 0 entries)
  search_found x name group entries first second found last e own one two sooner_is last_is =
      ap (option_map (found_in_list group)) (last_is ∙ ap (λ o. soonest asked entries o (map x.stemmed (stems_asked (asked_request asked).args))) sooner_is) ∙ soonest-in x name group entries first second e own one two

  none-soonest : (entries : List Entry) (stems : List Text) → None ≡ soonest asked entries None (map (listing []).stemmed stems)
  unfolding listing
  none-soonest entries [] = refl
  none-soonest entries (stem ∷ stems) = none-soonest entries stems

  nothing-named : (name : Option Word) (group : Option ℕ) (entries : List Entry) → listing [] ≡ listing entries → name ≡ slice_get (argument_words (asked_request asked).args) 0 → None ≡ found_in asked (placed (place_in group) 0 entries)
  unfolding listing
  nothing-named None group entries e own =
      ap (option_map (found_in_list group)) (none-soonest entries (stems_asked (asked_request asked).args)) ∙ soonest-in (listing []) None group entries None None e own refl refl
  nothing-named (Some name) group entries e own =
      ap (option_map (found_in_list group)) (none-soonest entries (stems_asked (asked_request asked).args)) ∙ soonest-in (listing []) (Some name) group entries None None e own refl refl

  -- nothing is found where nothing is noted
  pub nothing_found : (group : Option ℕ) (entries : List Entry) → listing [] ≡ listing entries → None ≡ found_in asked (placed (place_in group) 0 entries)
  nothing_found group entries e = nothing-named (slice_get (argument_words (asked_request asked).args) 0) group entries e refl
