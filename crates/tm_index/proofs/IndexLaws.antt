-- What the index of a policy tells after a change of the policy.
use Rattle.std.proofs.Common.{◌≡◌, ℕ, zero, suc, ◌+◌, ◌-◌, ◌<◌, ◌≤◌, ◌==◌, Bool, true, false, ◌&&◌, if◌then◌else◌, List, [], ◌∷◌, ◌++◌, take, drop, length, get_or, refl, sym, ap, subst, ◌∙◌, arith, append-nil, eq-eqb}
use mathlib.Core.Path.{fun_ext}
use Rattle.std.proofs.lemmas.Bool.{ne_eqb, eqb-true, ltb-true}
use Rattle.std.specs.Prelude.{Some, nat_lt, unwrap_or}
use Rattle.std.specs.Option.{option_map_or}
use Rattle.tm_word.specs.Prelude.{Text, texts_equal}
use Rattle.tm_rules.specs.Types.{Domain, Entry}
use Rattle.tm_rules.specs.Prelude.{at_key, put_key}
use Rattle.tm_rules.proofs.EqualityLaws.{same_texts}
use Rattle.tm_index.specs.declared.label.Label.{Label}
use Rattle.tm_index.specs.declared.list.ListIndex.{ListIndex}
use Rattle.tm_index.specs.Labels.{label_of}
use Rattle.tm_index.specs.Buckets.{Places, with_place}
use Rattle.tm_index.specs.Listing.{Listed, listed, listing, noting}
use Rattle.tm_index.specs.Index.{groups_listed, is_live, live_places, with_live}
use Rattle.tm_index.proofs.PlaceLaws.{place_if, places_more}
use Rattle.tm_index.proofs.ListingLaws.{listing_more}

-- one element more of the first ones
take-next : {A : Type 0} (xs : List A) (k : ℕ) (x : A) → k < length xs → x ≡ get_or xs k x → take (k + 1) xs ≡ take k xs ++ x ∷ []
take-next [] k x less e = absurd (omega (arith, less))
take-next (y ∷ ys) zero x less e = ap (λ z. z ∷ []) (sym e)
take-next (y ∷ ys) (suc k) x less e =
    let next : suc k + 1 ≡ suc (k + 1) = omega arith in
    ap (λ n. take n (y ∷ ys)) next ∙ ap (λ t. y ∷ t) (take-next ys k x (omega (arith, less)) e)

length-taken : {A : Type 0} (xs : List A) (k : ℕ) → k < length xs → length (take k xs) ≡ k
length-taken [] k less = absurd (omega (arith, less))
length-taken (y ∷ ys) zero less = refl
length-taken (y ∷ ys) (suc k) less = ap suc (length-taken ys k (omega (arith, less)))

-- the next entry of a list is noted
pub listing_next : (entries : List Entry) (k : ℕ) (entry : Entry) (label : Label) (old new : Listed) → k < length entries → entry ≡ get_or entries k entry → old ≡ listing (take k entries) → label ≡ label_of entry → new ≡ noting label k old
    → new ≡ listing (take (k + 1) entries)
listing_next entries k entry label old new less is e h made =
    made ∙ ap (noting label k) e ∙ ap (λ l. noting l k (listing (take k entries))) h ∙ ap (λ n. noting (label_of entry) n (listing (take k entries))) (sym (length-taken entries k less))
    ∙ listing_more entry (take k entries) ∙ ap listing (sym (take-next entries k entry less is))

texts-turned : (x y : Text) → texts_equal x y ≡ texts_equal y x
texts-turned x y = go (texts_equal x y) (texts_equal y x) refl refl
  where
    go : (a b : Bool) → texts_equal x y ≡ a → texts_equal y x ≡ b → texts_equal x y ≡ texts_equal y x
    go true true h k = h ∙ sym k
    go false false h k = h ∙ sym k
    go true false h k = let other : texts_equal y x ≡ true = subst (λ z. texts_equal z x ≡ true) (same_texts.sound x y h) (same_texts.full x) in absurd cc
    go false true h k = let other : texts_equal x y ≡ true = subst (λ z. texts_equal z y ≡ true) (same_texts.sound y x k) (same_texts.full y) in absurd cc

live-more : (domain : Domain) (n : ℕ) (places : Places) (name : Text) → places name ++ place_if (is_live name domain) n ≡ with_live n domain places name
live-more domain n places name = go domain.live (texts_equal domain.name name) (texts_equal name domain.name) (texts-turned domain.name name) refl
  where
    go : (live a b : Bool) → a ≡ b → texts_equal name domain.name ≡ b → places name ++ place_if (live && a) n ≡ (if live then with_place domain.name n places else places) name
    go false a b e h = append-nil (places name)
    go true true true e h = rw h (ap (λ w. places w ++ n ∷ []) (same_texts.sound name domain.name h))
    go true false false e h = rw h (append-nil (places name))
    go true true false e h = absurd cc
    go true false true e h = absurd cc

-- a domain more, last
pub live_more : (domain : Domain) (domains : List Domain) → with_live (length domains) domain (live_places domains) ≡ live_places (domains ++ domain ∷ [])
live_more domain domains =
    let zero_plus : length domains ≡ 0 + length domains = omega arith in
    fun_ext (λ name. sym (live-more domain (length domains) (live_places domains) name) ∙ ap (λ n. live_places domains name ++ place_if (is_live name domain) n) zero_plus ∙ sym (places_more (is_live name) 0 domains domain))

-- the next domain is noted
pub live_next : (domains : List Domain) (k : ℕ) (domain : Domain) (old new : Places) → k < length domains → domain ≡ get_or domains k domain → old ≡ live_places (take k domains) → new ≡ with_live k domain old → new ≡ live_places (take (k + 1) domains)
live_next domains k domain old new less is e made =
    made ∙ ap (with_live k domain) e ∙ ap (λ n. with_live n domain (live_places (take k domains))) (sym (length-taken domains k less)) ∙ live_more domain (take k domains) ∙ ap live_places (sym (take-next domains k domain less is))

-- no key has places
pub none_live : (places : Places) → ((name : Text) → places name ≡ []) → places ≡ live_places []
none_live places none = fun_ext none

-- Maps by number

-- what was put is there
pub put-there : {A : Type 0} (n : ℕ) (v : A) (xs : List (ℕ × A)) → at_key (put_key n v xs) n ≡ Some v
put-there n v [] = let here : (n == n) ≡ true = eq-eqb n n refl in rw here refl
put-there n v (x ∷ xs) = go (put-there n v xs) (nat_lt x.0 n) (x.0 == n) refl refl
  where
    go : at_key (put_key n v xs) n ≡ Some v → (b c : Bool) → nat_lt x.0 n ≡ b → (x.0 == n) ≡ c → at_key (if b then x ∷ put_key n v xs else (if c then (n, v) ∷ xs else (n, v) ∷ x ∷ xs)) n ≡ Some v
    go ih true c h k =
        let less : x.0 < n = ltb-true _ _ h in
        let other : (x.0 == n) ≡ false = ne_eqb _ _ (λ e. omega (arith, less, e)) in
        rw other ih
    go ih false true h k = let here : (n == n) ≡ true = eq-eqb n n refl in rw here refl
    go ih false false h k = let here : (n == n) ≡ true = eq-eqb n n refl in rw here refl

-- every other key has what it had
pub put_other : {A : Type 0} (n m : ℕ) (v : A) (xs : List (ℕ × A)) → (n == m) ≡ false → at_key (put_key n v xs) m ≡ at_key xs m
put_other n m v [] apart = rw apart refl
put_other n m v (x ∷ xs) apart = go (put_other n m v xs apart) (nat_lt x.0 n) (x.0 == n) refl
  where
    go : at_key (put_key n v xs) m ≡ at_key xs m → (b c : Bool) → (x.0 == n) ≡ c → at_key (if b then x ∷ put_key n v xs else (if c then (n, v) ∷ xs else (n, v) ∷ x ∷ xs)) m ≡ (if x.0 == m then Some x.1 else at_key xs m)
    go ih true c k = ap (λ t. if x.0 == m then Some x.1 else t) ih
    go ih false true k =
        let same : x.0 ≡ n = eqb-true x.0 n k in
        let away : (x.0 == m) ≡ false = subst (λ t. (t == m) ≡ false) (sym same) apart in
        rw (apart, away) refl
    go ih false false k = rw apart refl

-- a group more, before the others
pub groups_next : (n : ℕ) (entries : List Entry) (rest : List (ℕ × List Entry)) (list : ListIndex) (old new : List (ℕ × ListIndex)) → ((number : ℕ) → groups_listed old number ≡ listing (unwrap_or (at_key rest number) [])) → listed list ≡ listing entries
    → new ≡ put_key n list old → (number : ℕ) → groups_listed new number ≡ listing (unwrap_or (at_key ((n, entries) ∷ rest) number) [])
groups_next n entries rest list old new before is made number = go (n == number) refl
  where
    go : (b : Bool) → (n == number) ≡ b → groups_listed new number ≡ listing (unwrap_or (if b then Some entries else at_key rest number) [])
    go true h =
        let same : number ≡ n = sym (eqb-true n number h) in
        ap (λ m. groups_listed m number) made ∙ ap (λ k. option_map_or listed (at_key (put_key n list old) k) (listing [])) same ∙ ap (λ o. option_map_or listed o (listing [])) (put-there n list old) ∙ is
    go false h = ap (λ m. groups_listed m number) made ∙ ap (λ o. option_map_or listed o (listing [])) (put_other n number list old h) ∙ before number

all-taken : {A : Type 0} (xs : List A) → take (length xs) xs ≡ xs
all-taken [] = refl
all-taken (x ∷ xs) = ap (λ t. x ∷ t) (all-taken xs)

-- the first of the groups, and the others
pub groups_first : (groups : List (ℕ × List Entry)) (d e : ℕ × List Entry) (entries : List Entry) (list : ListIndex) (old new : List (ℕ × ListIndex)) → 1 ≤ length groups
    → ((number : ℕ) → groups_listed old number ≡ listing (unwrap_or (at_key (take (length groups - 1) (drop 1 groups)) number) [])) → entries ≡ (get_or groups 0 e).1 → listed list ≡ listing entries → new ≡ put_key (get_or groups 0 d).0 list old
    → (number : ℕ) → groups_listed new number ≡ listing (unwrap_or (at_key groups number) [])
groups_first [] d e entries list old new less before read is made = absurd (omega (arith, less))
groups_first (x ∷ rest) d e entries list old new less before read is made =
    let count_rest : length (x ∷ rest) - 1 ≡ length rest = omega arith in
    let others : take (length (x ∷ rest) - 1) rest ≡ rest = ap (λ n. take n rest) count_rest ∙ all-taken rest in
    groups_next x.0 x.1 rest list old new (λ number. before number ∙ ap (λ t. listing (unwrap_or (at_key t number) [])) others) (is ∙ ap listing read) made
