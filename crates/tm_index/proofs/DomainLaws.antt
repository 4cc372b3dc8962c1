-- What is noted of domains when one is made, or taken back.
use Rattle.std.proofs.Common.{◌≡◌, ℕ, List, [], ◌∷◌, ◌++◌, map, refl, ap, ◌∙◌}
use Rattle.std.specs.Prelude.{Option, MatchOption}
use Rattle.tm_rules.specs.Prelude.{DomainName}
use Rattle.tm_index.specs.declared.index.DomainIndex.{DomainIndex}
use Rattle.tm_index.specs.declared.index.Index.{Index}
use Rattle.tm_index.specs.Buckets.{Places, placing, front}
use Rattle.tm_index.specs.Listing.{listing}
use Rattle.tm_index.specs.Index.{Told, told, domain_listed, noting_domain}
use Rattle.tm_index.proofs.BucketLaws.{front_pushed, front_popped, noted_taken}
use Rattle.tm_index.proofs.TellingLaws.{told_equal}

-- what is seen of a list with an element more, last
pub map_more : {A B : Type 0} (f : A → B) (xs : List A) (x : A) → map f (xs ++ x ∷ []) ≡ map f xs ++ f x ∷ []
map_more f [] x = refl
map_more f (y ∷ ys) x = ap (λ t. f y ∷ t) (map_more f ys x)

map-front : {A B : Type 0} (f : A → B) (xs : List A) → map f (front xs) ≡ front (map f xs)
map-front f [] = refl
map-front f (x ∷ []) = refl
map-front f (x ∷ y ∷ ys) = ap (λ t. f x ∷ t) (map-front f (y ∷ ys))

-- a domain that was pushed is popped
pub domain_popped : (made : DomainIndex) (old pushed popped : List DomainIndex) (result : Option DomainIndex) → pushed ≡ old ++ made ∷ [] → MatchOption result (pushed ≡ []) (λ item. pushed ≡ popped ++ item ∷ []) → (pushed ≡ [] → popped ≡ []) → popped ≡ old
domain_popped made old pushed popped result e taken empty = front_popped result pushed popped taken empty ∙ ap front e ∙ front_pushed old made

-- a domain that was noted last is taken back
pub domain_taken : (index : Index) (name : DomainName) (place : ℕ) (before : Told) (popped : List DomainIndex) (result : Option DomainIndex) (live : Places) → told index ≡ noting_domain name place before
    → MatchOption result (index.domains ≡ []) (λ item. index.domains ≡ popped ++ item ∷ []) → (index.domains ≡ [] → popped ≡ []) → live ≡ placing name (front ((told index).live name)) (told index).live
    → (let y : Told = record { domains = map domain_listed popped; groups = (told index).groups; live = live } in y ≡ before)
domain_taken index name place before popped result live e taken empty is =
    told_equal (record { domains = map domain_listed popped; groups = (told index).groups; live = live }) before
    (ap (map domain_listed) (front_popped result index.domains popped taken empty) ∙ map-front domain_listed index.domains ∙ ap (λ (t : Told). front t.domains) e ∙ front_pushed before.domains (listing [], 0))
    (ap (λ (t : Told). t.groups) e) (noted_taken name place before.live (told index).live live (ap (λ (t : Told). t.live) e) is)
