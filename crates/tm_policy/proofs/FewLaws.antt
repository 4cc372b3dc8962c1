-- The tests of short lists, and the facts.
use Rattle.std.proofs.Common.{◌≡◌, ℕ, Bool, true, false, ◌&&◌, List, [], ◌∷◌, length, refl}
use Rattle.std.specs.List.{list_all, AllByRecursion}
use Rattle.std.proofs.lemmas.Bool.{ltb-true, lt-ltb}
use Rattle.tm_rules.specs.Types.{Domain, Entry, Namespace, Policy}
use Rattle.tm_rules.specs.Prelude.{IsFew, IsFewHere, IsShort}
use Rattle.tm_policy.specs.FewTests.{is_short, has_short_lists}

both : (a b : Bool) → (a && b) ≡ true → (a ≡ true) × (b ≡ true)
both true b h = (refl, h)
both false b h = absurd cc

both_true : (a b : Bool) → a ≡ true → b ≡ true → (a && b) ≡ true
both_true true b h k = k
both_true false b h k = absurd cc

-- what passes the test in each place has the property in each place
each : {A : Type 0} (test : A → Bool) (P : A → Type 0) → ((x : A) → test x ≡ true → P x) → (xs : List A) → list_all test xs ≡ true → AllByRecursion P xs
each test P by [] h = tt
each test P by (x ∷ xs) h = let parts = both (test x) (list_all test xs) h in (by x parts.0, each test P by xs parts.1)

short : {A : Type 0} (xs : List A) → is_short (length xs) ≡ true → IsShort xs
short xs h = ltb-true (length xs) 4294967296 h

few_here : (ns : Namespace) → has_short_lists ns ≡ true → IsFewHere ns
few_here ns h =
    let parts = both (is_short (length ns.groups.paths)) (list_all (λ (group : ℕ × List Entry). is_short (length group.1)) ns.acl_groups) h in
    record {
      members = short ns.groups.paths parts.0;
      acl_entries = each (λ (group : ℕ × List Entry). is_short (length group.1)) (λ (group : ℕ × List Entry). IsShort group.1) (λ group h2. short group.1 h2) ns.acl_groups parts.1;
    }

-- a policy whose lists pass
pub few_by_tests : (policy : Policy) → is_short (length policy.domains) ≡ true → list_all (λ (domain : Domain). is_short (length domain.entries)) policy.domains ≡ true → list_all has_short_lists policy.namespaces ≡ true → IsFew policy
few_by_tests policy a b c =
    record {
      domains = short policy.domains a;
      entries = each (λ (domain : Domain). is_short (length domain.entries)) (λ (domain : Domain). IsShort domain.entries) (λ domain h. short domain.entries h) policy.domains b;
      namespaces = each has_short_lists IsFewHere few_here policy.namespaces c;
    }

-- what has the property in each place passes the test in each place
every : {A : Type 0} (test : A → Bool) (P : A → Type 0) → ((x : A) → P x → test x ≡ true) → (xs : List A) → AllByRecursion P xs → list_all test xs ≡ true
every test P by [] h = refl
every test P by (x ∷ xs) h = both_true (test x) (list_all test xs) (by x h.0) (every test P by xs h.1)

passes : {A : Type 0} (xs : List A) → IsShort xs → is_short (length xs) ≡ true
passes xs h = lt-ltb (length xs) 4294967296 h

passes_here : (ns : Namespace) → IsFewHere ns → has_short_lists ns ≡ true
passes_here ns h =
    both_true (is_short (length ns.groups.paths)) (list_all (λ (group : ℕ × List Entry). is_short (length group.1)) ns.acl_groups) (passes ns.groups.paths h.members)
    (every (λ (group : ℕ × List Entry). is_short (length group.1)) (λ (group : ℕ × List Entry). IsShort group.1) (λ group h2. passes group.1 h2) ns.acl_groups h.acl_entries)

-- the lists of a policy pass where they are few
pub tests_by_few : (policy : Policy) → IsFew policy → (is_short (length policy.domains) ≡ true) × (list_all (λ (domain : Domain). is_short (length domain.entries)) policy.domains ≡ true) × (list_all has_short_lists policy.namespaces ≡ true)
tests_by_few policy h = (
  passes policy.domains h.domains,
  every (λ (domain : Domain). is_short (length domain.entries)) (λ (domain : Domain). IsShort domain.entries) (λ domain h2. passes domain.entries h2) policy.domains h.entries,
  every has_short_lists IsFewHere passes_here policy.namespaces h.namespaces,
)
