-- What a policy and its switched later version have in common.
use Rattle.std.proofs.Common.{◌≡◌, ℕ, suc, ◌+◌, List, [], ◌∷◌, Bool, true, false, refl, sym, ap, ◌∙◌}
use Rattle.std.specs.Prelude.{Some, None, ◌&&◌, cond, slice_get, unwrap_or, option_map}
use Rattle.std.specs.List.{position_from}
use Rattle.tm_word.specs.Prelude.{Text, texts_equal}
use Rattle.tm_rules.specs.Types.{Domain, Entry, Namespace, Policy, Profile}
use Rattle.tm_rules.specs.Prelude.{acl_group, at_key, domain_at, live_domain, namespace_named}
use Rattle.tm_legal.specs.Prelude.{EntriesGrow, Grows, NamespaceGrows, switched, switched_profile}
use Rattle.tm_rerun_laws.specs.Repeating.{SwitchedKeeps, switched_profiles}

-- the domain with other entries, which have grown; a switched policy has the same
pub record DomainLater (f q : Policy) (d : ℕ) (x : Domain) : Type 0 where
  pub entries : List Entry
  pub unswitched : domain_at f d ≡ Some (record x { entries = entries })
  pub there : domain_at q d ≡ Some (record x { entries = entries })
  pub grow : EntriesGrow x.entries entries

-- the namespace with other ACL groups, which have grown; a switched one has switched profiles
pub record NamespaceLater (x f y : Namespace) : Type 0 where
  pub acl_groups : List (ℕ × List Entry)
  pub profiles : List (ℕ × Profile)
  pub unswitched : f ≡ record x { acl_groups = acl_groups }
  pub is : y ≡ record x { acl_groups = acl_groups; profiles = profiles }
  pub grow : (n : ℕ) → EntriesGrow (acl_group x n) (unwrap_or (at_key acl_groups n) [])
  pub switched_each : (n : ℕ) → at_key profiles n ≡ option_map switched_profile (at_key x.profiles n)

-- the policy p, f later, and q, which is f switched
pub record Later (p f q : Policy) : Type 0 where
  pub domains : (d : ℕ) (x : Domain) → domain_at p d ≡ Some x → DomainLater f q d x
  pub namespaces : (name : Text) → NamespaceLater (namespace_named p name) (namespace_named f name) (namespace_named q name)

namespace-later : SwitchedKeeps → (x f y : Namespace) → NamespaceGrows x f → y ≡ record f { profiles = switched_profiles f.profiles } → NamespaceLater x f y
namespace-later keeps x f y grows is =
    record {
      acl_groups = f.acl_groups;
      profiles = switched_profiles f.profiles;
      unswitched = sym grows.same;
      is = is ∙ ap (λ (w : Namespace). record w { profiles = switched_profiles f.profiles }) (sym grows.same);
      grow = grows.groups;
      switched_each = λ n. keeps.profiles f.profiles n ∙ ap (λ (w : Namespace). option_map switched_profile (at_key w.profiles n)) (sym grows.same);
    }

pub later-of : SwitchedKeeps → (p f : Policy) → Grows p f → Later p f (switched f)
later-of keeps p f grows =
    record {
      domains = λ d x at.
          let (y, there, more) = grows.domains d x at in
          let unswitched : domain_at f d ≡ Some (record x { entries = y.entries }) = there ∙ ap (λ (z : Domain). Some z) (sym more.same) in
          record { entries = y.entries; unswitched = unswitched; there = ap (λ (list : List Domain). slice_get list d) (keeps.domains f) ∙ unswitched; grow = more.entries };
      namespaces = λ name. namespace-later keeps (namespace_named p name) (namespace_named f name) (namespace_named (switched f) name) (grows.namespaces name) (keeps.namespaces f name);
    }

-- Live domains

position-later : {A : Type 0} (t : A → Bool) (i n : ℕ) (xs ys : List A) → ((d : ℕ) (x : A) → slice_get xs d ≡ Some x → (y : A) × (slice_get ys d ≡ Some y) × (t y ≡ t x)) → position_from t i xs ≡ Some n → position_from t i ys ≡ Some n
position-later t i n [] ys h e = absurd cc
position-later {A} t i n (x ∷ xs) [] h e = let first = h 0 x refl in absurd (let none : None ≡ Some first.0 = first.1 in cc)
position-later {A} t i n (x ∷ xs) (y ∷ ys) h e =
    let first = h 0 x refl in
    let is : y ≡ first.0 = (let both : Some y ≡ Some first.0 = first.1 in cc) in
    go (t x) (ap t is ∙ first.2) e (position-later t (i + 1) n xs ys (λ d z at. h (suc d) z at))
  where
    go : (b : Bool) → t y ≡ b → cond b (Some i) (position_from t (i + 1) xs) ≡ Some n → (position_from t (i + 1) xs ≡ Some n → position_from t (i + 1) ys ≡ Some n) → cond (t y) (Some i) (position_from t (i + 1) ys) ≡ Some n
    go true same e later = rw same e
    go false same e later = rw same (later e)

-- a live domain keeps its number
pub live-later : (p f q : Policy) → Later p f q → (name : Text) (n : ℕ) → live_domain p name ≡ Some n → live_domain q name ≡ Some n
unfolding live_domain
live-later p f q later name n e =
    position-later (λ (domain : Domain). domain.live && texts_equal domain.name name) 0 n p.domains q.domains (λ d x at. let y = later.domains d x at in (record x { entries = y.entries }, y.there, refl)) e
