-- What a map from keys to places has after a key got other places.
use Rattle.std.proofs.Common.{◌≡◌, ℕ, ◌==◌, Bool, true, false, ◌&&◌, cond, if◌then◌else◌, List, [], ◌∷◌, map, Option, Some, None, refl, sym, ap, subst, ◌∙◌}
use mathlib.Core.Path.{fun_ext}
use Rattle.std.specs.Prelude.{nat_eq, unwrap_or, ◌++◌, Result, Ok, Err, OnErr, MatchOption, option_map}
use Rattle.std.specs.Map.{lookup, set_value}
use Rattle.std.proofs.lemmas.Map.Steps.{set_value_same}
use Rattle.std.specs.Cmp.Lexicographic.{pointwise}
use Rattle.indexmap.specs.IndexMap.{insert_entry}
use Rattle.tm_word.specs.Prelude.{Text, texts_equal}
use Rattle.tm_word.proofs.TextLaws.{texts_sound, texts_full}
use Rattle.tm_index.proofs.ListLaws.{on_value}
use Rattle.tm_index.specs.Buckets.{places_at, placing, with_place, front}

pub same-test : (x y : Text) → pointwise nat_eq x y ≡ texts_equal x y
same-test [] [] = refl
same-test [] (b ∷ y) = refl
same-test (a ∷ x) [] = refl
same-test (a ∷ x) (b ∷ y) = ap (λ t. a == b && t) (same-test x y)

-- where the stored key is the one, it has the other value
hit : (name key y : Text) (v w : List ℕ) (rest : Option (List ℕ)) → key ≡ y → cond (texts_equal name y) (Some w) rest ≡ (if texts_equal name key then Some w else cond (texts_equal name y) (Some v) rest)
hit name key y v w rest e = subst (λ z. cond (texts_equal name z) (Some w) rest ≡ (if texts_equal name key then Some w else cond (texts_equal name z) (Some v) rest)) e (go (texts_equal name key))
  where
    go : (a : Bool) → cond a (Some w) rest ≡ (if a then Some w else cond a (Some v) rest)
    go true = refl
    go false = refl

-- where it isn't, the others have it
miss : (name key y : Text) (v w : List ℕ) (r s : Option (List ℕ)) → texts_equal key y ≡ false → r ≡ (if texts_equal name key then Some w else s)
    → cond (texts_equal name y) (Some v) r ≡ (if texts_equal name key then Some w else cond (texts_equal name y) (Some v) s)
miss name key y v w r s apart e = go (texts_equal name y) (texts_equal name key) refl refl
  where
    go : (a b : Bool) → texts_equal name y ≡ a → texts_equal name key ≡ b → cond (texts_equal name y) (Some v) r ≡ (if texts_equal name key then Some w else cond (texts_equal name y) (Some v) s)
    go true true f g =
        let here : name ≡ y = texts_sound name y f in
        let there : name ≡ key = texts_sound name key g in
        let both : texts_equal key y ≡ true = subst (λ z. texts_equal z y ≡ true) there (subst (λ z. texts_equal name z ≡ true) here (texts_full name)) in
        absurd cc
    go true false f g = rw (f, g) refl
    go false true f g = rw f (e ∙ (rw g refl))
    go false false f g = rw (f, g) (e ∙ (rw g refl))

-- the places that a key has already
pub placing_same : (key : Text) (places : Text → List ℕ) (list : List ℕ) → list ≡ places key → placing key list places ≡ places
placing_same key places list e = fun_ext (λ name. go name (texts_equal name key) refl)
  where
    go : (name : Text) (b : Bool) → texts_equal name key ≡ b → (if b then list else places name) ≡ places name
    go name true h = e ∙ ap places (sym (texts_sound name key h))
    go name false h = refl

-- other places of a key take the place of those before
pub placing_again : (key : Text) (places : Text → List ℕ) (first second : List ℕ) → placing key second (placing key first places) ≡ placing key second places
placing_again key places first second = fun_ext (λ name. go (texts_equal name key) (places name))
  where
    go : (b : Bool) (list : List ℕ) → (if b then second else (if b then first else list)) ≡ (if b then second else list)
    go true list = refl
    go false list = refl

pub placing_own : (key : Text) (places : Text → List ℕ) (list : List ℕ) → placing key list places key ≡ list
placing_own key places list = rw (texts_full key) refl

-- a list without its last element
pub front_pushed : {A : Type 0} (xs : List A) (x : A) → front (xs ++ x ∷ []) ≡ xs
front_pushed [] x = refl
front_pushed (y ∷ []) x = refl
front_pushed (y ∷ z ∷ ys) x = ap (λ t. y ∷ t) (front_pushed (z ∷ ys) x)

-- the last element is taken out, where there is one
pub front_popped : {A : Type 0} (result : Option A) (old new : List A) → MatchOption result (old ≡ []) (λ item. old ≡ new ++ item ∷ []) → (old ≡ [] → new ≡ []) → new ≡ front old
front_popped None old new h none = none h ∙ sym (ap front h)
front_popped (Some x) old new h none = sym (ap front h ∙ front_pushed new x)

-- a place that was noted last is taken out again
pub noted_taken : (key : Text) (place : ℕ) (before noted after : Text → List ℕ) → noted ≡ with_place key place before → after ≡ placing key (front (noted key)) noted → after ≡ before
noted_taken key place before noted after e h =
    let list : front (noted key) ≡ before key = ap (λ f. front (f key)) e ∙ ap front (placing_own key before (before key ++ place ∷ [])) ∙ front_pushed (before key) place in
    h ∙ ap (λ t. placing key t noted) list ∙ ap (placing key (before key)) e ∙ placing_again key before (before key ++ place ∷ []) (before key) ∙ placing_same key before (before key) refl

module _ {V : Type 0} (bytes : V → Text) where
  -- the pairs of bytes and places
  abbrev pub pairs_of : List (V × List ℕ) → List (Text × List ℕ)
  pairs_of es = map (λ e. (bytes e.0, e.1)) es

  abbrev pub test_of : Text → V → Bool
  test_of name v = pointwise nat_eq name (bytes v)

  pub lookup-pairs : (name : Text) (es : List (V × List ℕ)) → lookup (test_of name) es ≡ lookup (texts_equal name) (pairs_of es)
  lookup-pairs name [] = refl
  lookup-pairs name (e ∷ es) = rw (same-test name (bytes e.0), lookup-pairs name es) refl

  lookup-set : (key name : Text) (es : List (V × List ℕ)) (v w : List ℕ) → lookup (test_of key) es ≡ Some v
      → lookup (texts_equal name) (pairs_of (set_value (test_of key) es w)) ≡ (if texts_equal name key then Some w else lookup (texts_equal name) (pairs_of es))
  lookup-set key name [] v w h = absurd cc
  lookup-set key name (e ∷ es) v w h = go (lookup-set key name es v w) (test_of key e.0) refl h
    where
      go : (lookup (test_of key) es ≡ Some v → lookup (texts_equal name) (pairs_of (set_value (test_of key) es w)) ≡ (if texts_equal name key then Some w else lookup (texts_equal name) (pairs_of es))) → (b : Bool) → test_of key e.0 ≡ b → cond b (Some e.1) (lookup (test_of key) es) ≡ Some v
          → lookup (texts_equal name) (pairs_of (cond b ((e.0, w) ∷ es) (e ∷ set_value (test_of key) es w))) ≡ (if texts_equal name key then Some w else lookup (texts_equal name) (pairs_of (e ∷ es)))
      go ih true f h2 = hit name key (bytes e.0) e.1 w (lookup (texts_equal name) (pairs_of es)) (texts_sound key (bytes e.0) (sym (same-test key (bytes e.0)) ∙ f))
      go ih false f h2 =
          miss name key (bytes e.0) e.1 w (lookup (texts_equal name) (pairs_of (set_value (test_of key) es w))) (lookup (texts_equal name) (pairs_of es)) (sym (same-test key (bytes e.0)) ∙ f)
          (ih h2)

  abbrev pub eq_of : V → V → Bool
  eq_of x y = pointwise nat_eq (bytes x) (bytes y)

  lookup-insert : (k : V) (name : Text) (es : List (V × List ℕ)) (w : List ℕ)
      → lookup (texts_equal name) (pairs_of (insert_entry eq_of es k w)) ≡ (if texts_equal name (bytes k) then Some w else lookup (texts_equal name) (pairs_of es))
  lookup-insert k name [] w = refl
  lookup-insert k name (e ∷ es) w = go (lookup-insert k name es w) (eq_of k e.0) refl
    where
      go : lookup (texts_equal name) (pairs_of (insert_entry eq_of es k w)) ≡ (if texts_equal name (bytes k) then Some w else lookup (texts_equal name) (pairs_of es)) → (b : Bool) → eq_of k e.0 ≡ b
          → lookup (texts_equal name) (pairs_of (cond b ((e.0, w) ∷ es) (e ∷ insert_entry eq_of es k w))) ≡ (if texts_equal name (bytes k) then Some w else lookup (texts_equal name) (pairs_of (e ∷ es)))
      go ih true f = hit name (bytes k) (bytes e.0) e.1 w (lookup (texts_equal name) (pairs_of es)) (texts_sound (bytes k) (bytes e.0) (sym (same-test (bytes k) (bytes e.0)) ∙ f))
      go ih false f =
          miss name (bytes k) (bytes e.0) e.1 w (lookup (texts_equal name) (pairs_of (insert_entry eq_of es k w))) (lookup (texts_equal name) (pairs_of es)) (sym (same-test (bytes k) (bytes e.0)) ∙ f)
          ih

  out-of : (b : Bool) (w : List ℕ) (o : Option (List ℕ)) → unwrap_or (if b then Some w else o) [] ≡ (if b then w else unwrap_or o [])
  out-of true w o = refl
  out-of false w o = refl

  -- what is stored under a key are its places
  pub found_places : (name : Text) (es : List (V × List ℕ)) (list : List ℕ) → lookup (test_of name) es ≡ Some list → list ≡ places_at (pairs_of es) name
  unfolding places_at
  found_places name es list h = sym (ap (λ o. unwrap_or o []) (sym (lookup-pairs name es) ∙ h))

  pub no_places : (name : Text) (es : List (V × List ℕ)) → lookup (test_of name) es ≡ None → [] ≡ places_at (pairs_of es) name
  unfolding places_at
  no_places name es h = sym (ap (λ o. unwrap_or o []) (sym (lookup-pairs name es) ∙ h))

  -- what is stored under a key, or none, are its places
  some_places : (name : Text) (es : List (V × List ℕ)) → unwrap_or (lookup (test_of name) es) [] ≡ places_at (pairs_of es) name
  unfolding places_at
  some_places name es = ap (λ o. unwrap_or o []) (lookup-pairs name es)

  -- another list under a key that is there
  pub places-set : (key : Text) (es : List (V × List ℕ)) (v w : List ℕ) → lookup (test_of key) es ≡ Some v → places_at (pairs_of (set_value (test_of key) es w)) ≡ placing key w (places_at (pairs_of es))
  unfolding places_at
  places-set key es v w h = fun_ext (λ name. ap (λ o. unwrap_or o []) (lookup-set key name es v w h) ∙ out-of (texts_equal name key) w (lookup (texts_equal name) (pairs_of es)))

  -- a list under a key
  pub places-insert : (k : V) (es : List (V × List ℕ)) (w : List ℕ) → places_at (pairs_of (insert_entry eq_of es k w)) ≡ placing (bytes k) w (places_at (pairs_of es))
  unfolding places_at
  places-insert k es w = fun_ext (λ name. ap (λ o. unwrap_or o []) (lookup-insert k name es w) ∙ out-of (texts_equal name (bytes k)) w (lookup (texts_equal name) (pairs_of es)))

  -- the list that stood under a key is written back
  pub kept_there : (key : Text) (old new : List (V × List ℕ)) (v w : List ℕ) (seen : List (Text × List ℕ)) → lookup (test_of key) old ≡ Some v → new ≡ set_value (test_of key) old w → w ≡ v → pairs_of old ≡ seen → pairs_of new ≡ seen
  kept_there key old new v w seen h e same is = ap pairs_of (e ∙ ap (set_value (test_of key) old) same ∙ set_value_same (test_of key) old v h) ∙ is

  -- a place more under a key that is there
  pub noted_there : (key : Text) (place : ℕ) (old new : List (V × List ℕ)) (v w : List ℕ) (seen : List (Text × List ℕ)) → lookup (test_of key) old ≡ Some v → new ≡ set_value (test_of key) old w → w ≡ v ++ place ∷ [] → pairs_of old ≡ seen
      → places_at (pairs_of new) ≡ with_place key place (places_at seen)
  noted_there key place old new v w seen h e added is =
      let list : w ≡ places_at (pairs_of old) key ++ place ∷ [] = added ∙ ap (λ t. t ++ place ∷ []) (found_places key old v h) in
      ap (λ es. places_at (pairs_of es)) e ∙ places-set key old v w h ∙ ap (λ t. placing key t (places_at (pairs_of old))) list ∙ ap (λ s. with_place key place (places_at s)) is

  -- the first place under a key
  pub noted_new : (k : V) (key : Text) (place : ℕ) (old new : List (V × List ℕ)) (w : List ℕ) (seen : List (Text × List ℕ)) → lookup (test_of key) old ≡ None → bytes k ≡ key → new ≡ insert_entry eq_of old k w → w ≡ place ∷ [] → pairs_of old ≡ seen
      → places_at (pairs_of new) ≡ with_place key place (places_at seen)
  noted_new k key place old new w seen h read e added is =
      let list : w ≡ places_at (pairs_of old) key ++ place ∷ [] = added ∙ ap (λ t. t ++ place ∷ []) (no_places key old h) in
      ap (λ es. places_at (pairs_of es)) e ∙ places-insert k old w ∙ ap (λ t. placing t w (places_at (pairs_of old))) read
      ∙ ap (λ t. placing key t (places_at (pairs_of old))) list ∙ ap (λ s. with_place key place (places_at s)) is

  -- a place more under a key, which may be new
  pub noted_entry : (k : V) (key : Text) (place : ℕ) (old new : List (V × List ℕ)) (v w none : List ℕ) (found : Option (List ℕ)) (seen : List (Text × List ℕ)) → v ≡ unwrap_or found none → found ≡ lookup (eq_of k) old → none ≡ [] → bytes k ≡ key → new ≡ insert_entry eq_of old k w → w ≡ v ++ place ∷ [] → pairs_of old ≡ seen
      → places_at (pairs_of new) ≡ with_place key place (places_at seen)
  noted_entry k key place old new v w none found seen h there empty read e added is =
      let list : w ≡ places_at (pairs_of old) (bytes k) ++ place ∷ [] = added ∙ ap (λ t. t ++ place ∷ []) (h ∙ ap (λ o. unwrap_or o none) there ∙ ap (unwrap_or (lookup (eq_of k) old)) empty ∙ some_places (bytes k) old) in
      ap (λ es. places_at (pairs_of es)) e ∙ places-insert k old w ∙ ap (λ t. placing (bytes k) t (places_at (pairs_of old))) list
      ∙ ap (λ t. with_place t place (places_at (pairs_of old))) read ∙ ap (λ s. with_place key place (places_at s)) is

  -- no place more under it
  pub kept_entry : (k : V) (old new : List (V × List ℕ)) (v w none : List ℕ) (found : Option (List ℕ)) (seen : List (Text × List ℕ)) → v ≡ unwrap_or found none → found ≡ lookup (eq_of k) old → none ≡ [] → new ≡ insert_entry eq_of old k w → w ≡ v → pairs_of old ≡ seen
      → places_at (pairs_of new) ≡ places_at seen
  kept_entry k old new v w none found seen h there empty e same is =
      ap (λ es. places_at (pairs_of es)) e ∙ places-insert k old w ∙ placing_same (bytes k) (places_at (pairs_of old)) w (same ∙ h ∙ ap (λ o. unwrap_or o none) there ∙ ap (unwrap_or (lookup (eq_of k) old)) empty ∙ some_places (bytes k) old) ∙ ap places_at is

  -- the list under a key is changed
  pub changed_there : (change : List ℕ → List ℕ) (key : Text) (old new : List (V × List ℕ)) (v w : List ℕ) (seen : List (Text × List ℕ)) → lookup (test_of key) old ≡ Some v → new ≡ set_value (test_of key) old w → w ≡ change v → pairs_of old ≡ seen
      → places_at (pairs_of new) ≡ placing key (change (places_at seen key)) (places_at seen)
  changed_there change key old new v w seen h e changed is =
      let list : w ≡ change (places_at (pairs_of old) key) = changed ∙ ap change (found_places key old v h) in
      ap (λ es. places_at (pairs_of es)) e ∙ places-set key old v w h ∙ ap (λ t. placing key t (places_at (pairs_of old))) list ∙ ap (λ s. placing key (change (places_at s key)) (places_at s)) is

  -- there is none, and none is made of none
  pub changed_none : (change : List ℕ → List ℕ) (key : Text) (old new : List (V × List ℕ)) (seen : List (Text × List ℕ)) → lookup (test_of key) old ≡ None → new ≡ old → change [] ≡ [] → pairs_of old ≡ seen
      → places_at (pairs_of new) ≡ placing key (change (places_at seen key)) (places_at seen)
  changed_none change key old new seen h e none is =
      let list : change (places_at (pairs_of old) key) ≡ places_at (pairs_of old) key = ap change (sym (no_places key old h)) ∙ none ∙ no_places key old h in
      ap (λ es. places_at (pairs_of es)) e ∙ sym (placing_same key (places_at (pairs_of old)) (change (places_at (pairs_of old) key)) list) ∙ ap (λ s. placing key (change (places_at s key)) (places_at s)) is

  lookup-mapped : (change : List ℕ → List ℕ) (key : Text) (es : List (V × List ℕ)) → lookup (texts_equal key) (pairs_of (map (on_value change) es)) ≡ option_map change (lookup (texts_equal key) (pairs_of es))
  lookup-mapped change key [] = refl
  lookup-mapped change key (e ∷ es) = go (texts_equal key (bytes e.0)) (lookup (texts_equal key) (pairs_of (map (on_value change) es))) (lookup (texts_equal key) (pairs_of es)) (lookup-mapped change key es)
    where
      go : (b : Bool) (r s : Option (List ℕ)) → r ≡ option_map change s → cond b (Some (change e.1)) r ≡ option_map change (cond b (Some e.1) s)
      go true r s ih = refl
      go false r s ih = ih

  out-mapped : (change : List ℕ → List ℕ) (o : Option (List ℕ)) → change [] ≡ [] → unwrap_or (option_map change o) [] ≡ change (unwrap_or o [])
  out-mapped change None none = sym none
  out-mapped change (Some list) none = refl

  -- all lists are changed
  pub places_changed : (change : List ℕ → List ℕ) (key : Text) (old new : List (V × List ℕ)) (seen : List (Text × List ℕ)) → change [] ≡ [] → new ≡ map (on_value change) old → pairs_of old ≡ seen
      → places_at (pairs_of new) key ≡ change (places_at seen key)
  unfolding places_at
  places_changed change key old new seen none e is =
      ap (λ es. unwrap_or (lookup (texts_equal key) (pairs_of es)) []) e ∙ ap (λ o. unwrap_or o []) (lookup-mapped change key old) ∙ out-mapped change (lookup (texts_equal key) (pairs_of old)) none
      ∙ ap (λ s. change (unwrap_or (lookup (texts_equal key) s) [])) is

-- what follows where there is none
pub on_err : {A E : Type 0} {P Q : Type 0} (r : Result A E) → (P → Q) → OnErr r P → OnErr r Q
on_err (Ok x) f h = h
on_err (Err e) f h = f h

-- where nothing is noted no key has places
pub none_at : (pairs : List (Text × List ℕ)) → pairs ≡ [] → (key : Text) → places_at pairs key ≡ []
unfolding places_at
none_at pairs e key = ap (λ (p : List (Text × List ℕ)). places_at p key) e
