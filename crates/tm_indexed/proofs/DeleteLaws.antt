-- What the index of a policy tells after a domain is deleted.
use Rattle.std.proofs.Common.{◌≡◌, ℕ, zero, suc, ◌+◌, ◌≤◌, Bool, true, false, ◌&&◌, if◌then◌else◌, List, [], ◌∷◌, map, drop, refl, sym, ap, subst, ◌∙◌, arith}
use mathlib.Core.Path.{fun_ext}
use Rattle.std.proofs.lemmas.Bool.{and_parts}
use Rattle.std.specs.Prelude.{Option, Some, None, slice_get}
use Rattle.std.specs.List.{position_from}
use Rattle.tm_word.specs.Prelude.{texts_equal}
use Rattle.tm_rules.specs.Prelude.{Cursor, DomainName, Edited, changed_at, count, dead, domain_line, live_domain}
use Rattle.tm_rules.specs.Types.{Domain, DomainRule, EditReply, Policy}
use Rattle.tm_rules.proofs.EqualityLaws.{same_texts}
use Rattle.tm_index.specs.Buckets.{Places, placing}
use Rattle.tm_index.specs.Listing.{places_from}
use Rattle.tm_index.specs.Index.{Told, telling, domain_listing, is_live, live_places}
use Rattle.tm_index.proofs.BucketLaws.{placing_same}
use Rattle.tm_indexed.proofs.MakeLaws.{first-place}
use Rattle.tm_index.proofs.TellingLaws.{told_equal}

seen-dead : (domains : List Domain) (k : ℕ) → map domain_listing (changed_at k dead domains) ≡ map domain_listing domains
unfolding count
seen-dead [] k = refl
seen-dead (d ∷ ds) zero = refl
seen-dead (d ∷ ds) (suc k) = ap (λ t. domain_listing d ∷ t) (seen-dead ds k)

and-false : (a b : Bool) → b ≡ false → (a && b) ≡ false
and-false true b f = f
and-false false b f = refl

-- a domain of another name isn't the live one of this name
other-live : (x : Domain) (name other : DomainName) → is_live name x ≡ true → texts_equal other name ≡ false → is_live other x ≡ false
other-live x name other h apart = go (texts_equal x.name other) refl
  where
    named : x.name ≡ name
    named = same_texts.sound x.name name (and_parts x.live (texts_equal x.name name) h).1

    go : (b : Bool) → texts_equal x.name other ≡ b → (x.live && texts_equal x.name other) ≡ false
    go false e = and-false x.live (texts_equal x.name other) e
    go true e =
        let same : other ≡ name = sym (same_texts.sound x.name other e) ∙ named in
        let both : texts_equal other name ≡ true = subst (λ w. texts_equal other w ≡ true) same (same_texts.full other) in
        absurd cc

-- the first that passes stands no sooner than where the search begins
position-late : {A : Type 0} (test : A → Bool) (n k : ℕ) (xs : List A) → position_from test n xs ≡ Some k → n ≤ k
position-late test n k [] e = absurd cc
position-late test n k (x ∷ xs) e = go (test x) (position-late test (n + 1) k xs) e
  where
    go : (b : Bool) → (position_from test (n + 1) xs ≡ Some k → n + 1 ≤ k) → (if b then Some n else position_from test (n + 1) xs) ≡ Some k → n ≤ k
    go true ih e = let same : n ≡ k = cc in omega (arith, same)
    go false ih e = let less = ih e in omega (arith, less)

-- the live domains without the first of this name
live-dead : (name other : DomainName) (n k j : ℕ) (domains : List Domain) → position_from (is_live name) n domains ≡ Some k → k ≡ n + j
    → places_from (is_live other) n (changed_at j dead domains) ≡ (if texts_equal other name then drop 1 (places_from (is_live name) n domains) else places_from (is_live other) n domains)
live-dead name other n k j [] e h = absurd cc
live-dead name other n k j (x ∷ xs) e h = go (is_live name x) (texts_equal other name) j refl refl h e (λ i. live-dead name other (n + 1) k i xs)
  where
    step : suc n ≡ n + 1
    step = omega arith

    same-test : texts_equal other name ≡ true → is_live other x ≡ is_live name x
    same-test f = ap (λ (w : DomainName). is_live w x) (same_texts.sound other name f)

    go : (a b : Bool) (j : ℕ) → is_live name x ≡ a → texts_equal other name ≡ b → k ≡ n + j → (if a then Some n else position_from (is_live name) (n + 1) xs) ≡ Some k
        → ((i : ℕ) → position_from (is_live name) (n + 1) xs ≡ Some k → k ≡ n + 1 + i
        → places_from (is_live other) (n + 1) (changed_at i dead xs) ≡ (if texts_equal other name then drop 1 (places_from (is_live name) (n + 1) xs) else places_from (is_live other) (n + 1) xs))
        → places_from (is_live other) n (changed_at j dead (x ∷ xs)) ≡ (if b then drop 1 (if a then n ∷ places_from (is_live name) (suc n) xs else places_from (is_live name) (suc n) xs) else (if is_live other x then n ∷ places_from (is_live other) (suc n) xs else places_from (is_live other) (suc n) xs))
    go true b (suc j) f g h e ih = let same : n ≡ k = cc in absurd (omega (arith, same, h))
    go true true zero f g h e ih = ap (λ (w : DomainName). places_from (is_live w) (suc n) xs) (same_texts.sound other name g)
    go true false zero f g h e ih = let none : is_live other x ≡ false = other-live x name other f g in rw none refl
    go false b zero f g h e ih = let late = position-late (is_live name) (n + 1) k xs e in absurd (omega (arith, late, h))
    go false true (suc j) f g h e ih =
        let none : is_live other x ≡ false = same-test g ∙ f in
        let rest = ih j e (omega (arith, h)) in
        rw none (ap (λ m. places_from (is_live other) m (changed_at j dead xs)) step ∙ rest ∙ (rw g (ap (λ m. drop 1 (places_from (is_live name) m xs)) (sym step))))
    go false false (suc j) f g h e ih =
        let rest = ih j e (omega (arith, h)) in
        ap (λ t. if is_live other x then n ∷ t else t) (ap (λ m. places_from (is_live other) m (changed_at j dead xs)) step ∙ rest ∙ (rw g (ap (λ m. places_from (is_live other) m xs) (sym step))))

-- the first places of none
none-first : (places : List ℕ) → slice_get places 0 ≡ None → drop 1 places ≡ places
none-first [] h = refl
none-first (p ∷ ps) h = absurd cc

-- what is told after a domain of that name is deleted
pub delete_told : (policy new : Policy) (cursor after : Cursor) (reply : EditReply) (name : DomainName) → domain_line policy cursor (DomainRule.Delete name) ≡ record { policy = new; cursor = after; reply = reply }
    → (let told : Told = record (telling policy) { live = placing name (drop 1 ((telling policy).live name)) (telling policy).live } in told ≡ telling new)
unfolding domain_line telling live_domain
delete_told policy new cursor after reply name e = go (live_domain policy name) refl (e)
  where
    live : Places
    live = live_places policy.domains

    made : Told
    made = record (telling policy) { live = placing name (drop 1 (live name)) live }

    go : (home : Option ℕ) → live_domain policy name ≡ home → domain_line policy cursor (DomainRule.Delete name) ≡ record { policy = new; cursor = after; reply = reply } → made ≡ telling new
    go None h f =
        let none : slice_get (live name) 0 ≡ None = first-place (is_live name) 0 policy.domains ∙ h in
        let stays : policy ≡ new = ap (λ (x : Edited). x.policy) (rw h at f) in
        told_equal made (telling policy) refl refl (placing_same name live (drop 1 (live name)) (none-first (live name) none)) ∙ ap telling stays
    go (Some d) h f =
        let killed = ap (λ (x : Edited). telling x.policy) (rw h at f) in
        told_equal made (telling (record policy { domains = changed_at d dead policy.domains })) (sym (seen-dead policy.domains d)) refl (fun_ext (λ other. sym (live-dead name other 0 d d policy.domains h (omega arith)))) ∙ killed
