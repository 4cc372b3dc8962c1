-- What the index of a policy tells after a change of one domain.
use Rattle.std.proofs.Common.{◌≡◌, ℕ, zero, suc, ◌<◌, Bool, ◌&&◌, if◌then◌else◌, List, [], ◌∷◌, map, length, refl, sym, ap, ◌∙◌}
use mathlib.Core.Path.{fun_ext}
use Rattle.std.specs.Prelude.{Option, Some, None, IsSome, slice_get, option_map}
use Rattle.std.specs.List.{position_from}
use Rattle.tm_word.specs.Prelude.{texts_equal}
use Rattle.tm_rules.specs.Types.{Domain, Entry, LearnReply, Policy, Profile}
use Rattle.tm_rules.specs.Prelude.{changed_at, count, domain_at, learn, learn_reply, learned_domain, profile_of, same_line, with_domain}
use Rattle.tm_index.specs.declared.label.Label.{Label}
use Rattle.tm_index.specs.Labels.{label_of}
use Rattle.tm_index.specs.Listing.{Listed, listing, noting, places_from}
use Rattle.tm_index.specs.Index.{Told, telling, domain_listing, is_live, live_places, noting_in, counting_in}
use Rattle.tm_index.proofs.ListingLaws.{listing_added, listing_joined}
use Rattle.tm_index.proofs.TellingLaws.{told_equal}

-- a change after another one, at one place
pub changed-twice : {A : Type 0} (k : ℕ) (f g : A → A) (xs : List A) → changed_at k f (changed_at k g xs) ≡ changed_at k (λ x. f (g x)) xs
changed-twice k f g [] = refl
changed-twice zero f g (x ∷ xs) = refl
changed-twice (suc k) f g (x ∷ xs) = ap (λ t. x ∷ t) (changed-twice k f g xs)

-- what is seen of a list with another element in a place
pub seen_changed : {A B : Type 0} (see : A → B) (change : B → B) (xs : List A) (k : ℕ) (x y : A) → slice_get xs k ≡ Some x → see y ≡ change (see x) → map see (changed_at k (λ z. y) xs) ≡ changed_at k change (map see xs)
seen_changed see change [] k x y there e = refl
seen_changed see change (z ∷ zs) zero x y there e = let same : x ≡ z = cc in ap (λ t. t ∷ map see zs) (e ∙ ap (λ t. change (see t)) same)
seen_changed see change (z ∷ zs) (suc k) x y there e = ap (λ t. see z ∷ t) (seen_changed see change zs k x y there e)

-- an element that is seen as the one before changes nothing
pub seen_kept : {A B : Type 0} (see : A → B) (xs : List A) (k : ℕ) (x y : A) → slice_get xs k ≡ Some x → see y ≡ see x → map see (changed_at k (λ z. y) xs) ≡ map see xs
seen_kept see [] k x y there e = refl
seen_kept see (z ∷ zs) zero x y there e = let same : x ≡ z = cc in ap (λ t. t ∷ map see zs) (e ∙ ap see same)
seen_kept see (z ∷ zs) (suc k) x y there e = ap (λ t. see z ∷ t) (seen_kept see zs k x y there e)

-- a change is seen at its place
pub at-changed : {A : Type 0} (f : A → A) (xs : List A) (k : ℕ) (x : A) → slice_get xs k ≡ Some x → slice_get (changed_at k f xs) k ≡ Some (f x)
at-changed f [] k x e = absurd cc
at-changed f (y ∷ ys) zero x e = let same : y ≡ x = cc in ap (λ t. Some (f t)) same
at-changed f (y ∷ ys) (suc k) x e = at-changed f ys k x e

at-map : {A B : Type 0} (see : A → B) (xs : List A) (k : ℕ) (x : A) → slice_get xs k ≡ Some x → slice_get (map see xs) k ≡ Some (see x)
at-map see [] k x e = absurd cc
at-map see (y ∷ ys) zero x e = let same : y ≡ x = cc in ap (λ t. Some (see t)) same
at-map see (y ∷ ys) (suc k) x e = at-map see ys k x e

-- what the changed list is counted at its place
counted-at : {A : Type 0} (number : A → ℕ) (xs : List A) (k n : ℕ) (x y : A) → slice_get xs k ≡ Some x → map number (changed_at k (λ z. y) xs) ≡ changed_at k (λ m. n) (map number xs) → number y ≡ n
counted-at number xs k n x y there e =
    let left : slice_get (map number (changed_at k (λ z. y) xs)) k ≡ Some (number y) = at-map number (changed_at k (λ z. y) xs) k y (at-changed (λ z. y) xs k x there) in
    let right : slice_get (changed_at k (λ m. n) (map number xs)) k ≡ Some n = at-changed (λ m. n) (map number xs) k (number x) (at-map number xs k x there) in
    let both : Some (number y) ≡ Some n = sym left ∙ ap (λ t. slice_get t k) e ∙ right in
    cc

-- the places of the elements that pass, where another element in a place passes as the one before
places-changed : {A : Type 0} (test : A → Bool) (n : ℕ) (xs : List A) (k : ℕ) (x y : A) → slice_get xs k ≡ Some x → test y ≡ test x → places_from test n (changed_at k (λ z. y) xs) ≡ places_from test n xs
places-changed test n [] k x y there e = refl
places-changed test n (z ∷ zs) zero x y there e =
    let same : x ≡ z = cc in
    ap (λ b. if b then n ∷ places_from test (suc n) zs else places_from test (suc n) zs) (e ∙ ap test same)
places-changed test n (z ∷ zs) (suc k) x y there e = ap (λ t. if test z then n ∷ t else t) (places-changed test (suc n) zs k x y there e)

-- the name and the life of a domain are all that live domains are found by
live-kept : (domains : List Domain) (k : ℕ) (x y : Domain) → slice_get domains k ≡ Some x → y.name ≡ x.name → y.live ≡ x.live → live_places (changed_at k (λ z. y) domains) ≡ live_places domains
live-kept domains k x y there name live =
    fun_ext (λ word. places-changed (is_live word) 0 domains k x y there (ap (λ b. b && texts_equal y.name word) live ∙ ap (λ w. x.live && texts_equal w word) name))

module _ (policy : Policy) (number : ℕ) (x y : Domain) (there : domain_at policy number ≡ Some x) (name : y.name ≡ x.name) (live : y.live ≡ x.live) where
  -- another domain in the place of one, with another list and count
  pub telling_changed : (change : Listed × ℕ → Listed × ℕ) → domain_listing y ≡ change (domain_listing x)
      → (let told : Told = record (telling policy) { domains = changed_at number change (telling policy).domains } in told ≡ telling (with_domain policy number y))
  unfolding telling
  telling_changed change e =
      told_equal (record (telling policy) { domains = changed_at number change (telling policy).domains }) (telling (with_domain policy number y)) (sym (seen_changed domain_listing change policy.domains number x y there e)) refl (sym (live-kept policy.domains number x y there name live))

  -- with the list and the count of the one before
  pub telling_kept : domain_listing y ≡ domain_listing x → telling policy ≡ telling (with_domain policy number y)
  unfolding telling
  telling_kept e = told_equal (telling policy) (telling (with_domain policy number y)) (sym (seen_kept domain_listing policy.domains number x y there e)) refl (sym (live-kept policy.domains number x y there name live))

-- Learns

-- what a Learn leaves
learned-is : (policy new : Policy) (number : ℕ) (line : Entry) (reply : LearnReply) (domain : Domain) → domain_at policy number ≡ Some domain → learn policy number line ≡ Some (new, reply) → new ≡ with_domain policy number (learned_domain reply domain line)
unfolding learn
learned-is policy new number line reply domain there e = go (profile_of policy domain) (rw there at e)
  where
    go : (o : Option Profile) → option_map {U = Policy × LearnReply} (λ profile. (with_domain policy number (learned_domain (learn_reply profile domain line) domain line), learn_reply profile domain line)) o ≡ Some (new, reply) → new ≡ with_domain policy number (learned_domain reply domain line)
    go None f = absurd cc
    go (Some profile) f =
        let made : Policy × LearnReply = (with_domain policy number (learned_domain (learn_reply profile domain line) domain line), learn_reply profile domain line) in
        let wanted : Policy × LearnReply = (new, reply) in
        let both : made ≡ wanted = cc in
        sym (ap (λ (p : Policy × LearnReply). p.0) both) ∙ ap (λ r. with_domain policy number (learned_domain r domain line)) (ap (λ (p : Policy × LearnReply). p.1) both)

abbrev pub pair : Listed → ℕ → Listed × ℕ
pair a n = (a, n)

pub pair_by : {a b : Listed} {m n : ℕ} → a ≡ b → m ≡ n → pair a m ≡ pair b n
pair_by e h = λ i. (e i, h i)

-- a note and a count in one
pub changed_twice : (number : ℕ) (label : Label) (place permissions : ℕ) (x : Told)
    → counting_in number permissions (noting_in number label place x) ≡ (record x { domains = changed_at number (λ (d : Listed × ℕ). (noting label place d.0, permissions)) x.domains })
changed_twice number label place permissions x =
    told_equal (counting_in number permissions (noting_in number label place x)) (record x { domains = changed_at number (λ (d : Listed × ℕ). (noting label place d.0, permissions)) x.domains })
    (changed-twice number (λ (d : Listed × ℕ). (d.0, permissions)) (λ (d : Listed × ℕ). (noting label place d.0, d.1)) x.domains) refl refl

module _ (policy : Policy) (number : ℕ) (line : Entry) (domain : Domain) (there : domain_at policy number ≡ Some domain) where
  joined-entries : (reply : LearnReply) (k : ℕ) → position_from (λ (entry : Entry). same_line entry line) 0 domain.entries ≡ Some k → listing (learned_domain reply domain line).entries ≡ listing domain.entries
  joined-entries LearnReply.Added k found = sym (listing_joined line domain.entries k found)
  joined-entries LearnReply.Quota k found = refl
  joined-entries LearnReply.There k found = refl
  joined-entries LearnReply.Mode k found = refl

  same-name : (reply : LearnReply) → ((learned_domain reply domain line).name ≡ domain.name) × ((learned_domain reply domain line).live ≡ domain.live)
  same-name LearnReply.Added = (refl, refl)
  same-name LearnReply.Quota = (refl, refl)
  same-name LearnReply.There = (refl, refl)
  same-name LearnReply.Mode = (refl, refl)

  -- a line that shares an entry: only the count is new
  pub learned_joined : (new : Policy) (reply : LearnReply) (permissions k : ℕ) → learn policy number line ≡ Some (new, reply) → map count new.domains ≡ changed_at number (λ n. permissions) (map count policy.domains)
      → position_from (λ (entry : Entry). same_line entry line) 0 domain.entries ≡ Some k → counting_in number permissions (telling policy) ≡ telling new
  learned_joined new reply permissions k e counts found =
      let made = learned-is policy new number line reply domain there e in
      let after : Domain = learned_domain reply domain line in
      let counted : count after ≡ permissions = counted-at count policy.domains number permissions domain after there (ap (λ (p : Policy). map count p.domains) (sym made) ∙ counts) in
      telling_changed policy number domain after there (same-name reply).0 (same-name reply).1 (λ (d : Listed × ℕ). (d.0, permissions)) (pair_by (joined-entries reply k found) counted) ∙ ap telling (sym made)

  -- a line that is added: it is noted, and the count is new
  pub learned_new : (new : Policy) (permissions : ℕ) → learn policy number line ≡ Some (new, LearnReply.Added) → map count new.domains ≡ changed_at number (λ n. permissions) (map count policy.domains)
      → position_from (λ (entry : Entry). same_line entry line) 0 domain.entries ≡ None → counting_in number permissions (noting_in number (label_of line) (length domain.entries) (telling policy)) ≡ telling new
  learned_new new permissions e counts none =
      let made = learned-is policy new number line LearnReply.Added domain there e in
      let after : Domain = learned_domain LearnReply.Added domain line in
      let counted : count after ≡ permissions = counted-at count policy.domains number permissions domain after there (ap (λ (p : Policy). map count p.domains) (sym made) ∙ counts) in
      changed_twice number (label_of line) (length domain.entries) permissions (telling policy)
      ∙ telling_changed policy number domain after there refl refl (λ (d : Listed × ℕ). (noting (label_of line) (length domain.entries) d.0, permissions)) (pair_by (sym (listing_added line domain.entries none)) counted)
      ∙ ap telling (sym made)

  -- a line that isn't added
  pub learned_not : (new : Policy) (reply : LearnReply) → learn policy number line ≡ Some (new, reply) → (reply ≡ LearnReply.Added → ⊥) → telling policy ≡ telling new
  unfolding count
  learned_not new LearnReply.Added e other = absurd (other refl)
  learned_not new LearnReply.Quota e other =
      telling_kept policy number domain (learned_domain LearnReply.Quota domain line) there refl refl refl ∙ ap telling (sym (learned-is policy new number line LearnReply.Quota domain there e))
  learned_not new LearnReply.There e other = telling_kept policy number domain domain there refl refl refl ∙ ap telling (sym (learned-is policy new number line LearnReply.There domain there e))
  learned_not new LearnReply.Mode e other = telling_kept policy number domain domain there refl refl refl ∙ ap telling (sym (learned-is policy new number line LearnReply.Mode domain there e))

-- what is there is something
pub some_of : {A : Type 0} (o : Option A) → IsSome o → (x : A) × (o ≡ Some x)
some_of None h = absurd cc
some_of (Some x) h = (x, refl)
