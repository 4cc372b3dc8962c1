-- What a switched policy keeps: all but the modes, and these by `switched_mode`.
use Rattle.std.proofs.Common.{◌≡◌, ℕ, List, [], ◌∷◌, map, Bool, true, false, cond, refl, ap, ◌∙◌}
use Rattle.std.specs.Prelude.{Option, Some, None, ◌==◌, ◌&&◌, if◌then◌else◌, option_map, unwrap_or, slice_get, IsSome}
use Rattle.std.specs.List.{find, list_all, AllByRecursion}
use Rattle.std.specs.Option.{option_and_then}
use Rattle.std.proofs.lemmas.List.Folds.{list_all-map}
use Rattle.tm_word.specs.Prelude.{Pattern, Text, Word, texts_equal}
use Rattle.tm_rules.specs.Prelude.{DomainName, Granting, aggregated, are_plain_groups, can_enter, candidate, config_of, control_kind, decision, domain_at, empty_namespace, entries_of, first, first_of, is_path_word, is_plain, is_plain_domain, line_of, live_domain, mode_of, namespace_named, namespace_of, namespace_word, profile_of, slot}
use Rattle.tm_list.specs.Map.{at_rank}
use Rattle.tm_rules.specs.Types.{Config, Domain, Function, Groups, Namespace, Policy, Proc, Profile, Request, SlotName, category_of, slot_rank}
use Rattle.tm_legal.specs.Prelude.{Execute, FoundLine, IsOpened, execute_found, execute_request, line_found, nobody, switched, switched_config, switched_mode, switched_profile}
use Rattle.tm_rerun_laws.specs.Repeating.{SwitchedKeeps}

-- Lists

find-kept : {A : Type 0} (t : A → Bool) (f : A → A) (xs : List A) → ((x : A) → t (f x) ≡ t x) → find t (map f xs) ≡ option_map f (find t xs)
find-kept t f [] same = refl
find-kept {A} t f (x ∷ xs) same = rw (same x) (go (t x) (find-kept t f xs same))
  where
    go : (b : Bool) → find t (map f xs) ≡ option_map f (find t xs) → cond b (Some (f x)) (find t (map f xs)) ≡ option_map f (cond b (Some x) (find t xs))
    go true ih = refl
    go false ih = ih

at_rank-map : {K V W : Type 0} (rank : K → ℕ) (f : V → W) (n : ℕ) (es : List (K × V)) → at_rank rank n (map (λ (e : K × V). (e.0, f e.1)) es) ≡ option_map f (at_rank rank n es)
at_rank-map rank f n [] = refl
at_rank-map {K} {V} {W} rank f n (e ∷ es) = go (rank e.0 == n) (at_rank-map rank f n es)
  where
    go : (b : Bool) → at_rank rank n (map (λ (e : K × V). (e.0, f e.1)) es) ≡ option_map f (at_rank rank n es) → (if b then Some (f e.1) else at_rank rank n (map (λ (e : K × V). (e.0, f e.1)) es)) ≡ option_map f (if b then Some e.1 else at_rank rank n es)
    go true ih = refl
    go false ih = ih

unwrap-map : {A : Type 0} (f : A → A) (o : Option A) (x : A) → unwrap_or (option_map f o) (f x) ≡ f (unwrap_or o x)
unwrap-map f None x = refl
unwrap-map f (Some y) x = refl

-- Modes

slot-switched : (profile : Profile) (name : SlotName) → slot (switched_profile profile) name ≡ option_map switched_config (slot profile name)
slot-switched profile name = at_rank-map slot_rank switched_config (slot_rank name) profile.slots

config-switched : (profile : Profile) (function : Function) → config_of (switched_profile profile) function ≡ switched_config (config_of profile function)
unfolding config_of
config-switched profile function =
    ap (λ o. unwrap_or o (unwrap_or (slot (switched_profile profile) (category_of function)) (switched_config profile.config))) (slot-switched profile (SlotName.One function))
    ∙ ap (λ o. unwrap_or (option_map switched_config (slot profile (SlotName.One function))) (unwrap_or o (switched_config profile.config))) (slot-switched profile (category_of function))
    ∙ ap (λ config. unwrap_or (option_map switched_config (slot profile (SlotName.One function))) config) (unwrap-map switched_config (slot profile (category_of function)) profile.config)
    ∙ unwrap-map switched_config (slot profile (SlotName.One function)) (unwrap_or (slot profile (category_of function)) profile.config)

-- each mode is switched
pub modes : (profile : Profile) (function : Function) → mode_of (switched_profile profile) function ≡ switched_mode (mode_of profile function)
modes profile function = ap (λ (config : Config). config.mode) (config-switched profile function)

-- Namespaces

abbrev switched_namespace : Namespace → Namespace
switched_namespace ns = record ns { profiles = map (λ (pair : ℕ × Profile). (pair.0, switched_profile pair.1)) ns.profiles }

pub namespace-switched : (p : Policy) (name : Text) → namespace_named (switched p) name ≡ switched_namespace (namespace_named p name)
unfolding namespace_named switched
namespace-switched p name =
    ap (λ o. unwrap_or o (empty_namespace name)) (find-kept (λ (ns : Namespace). texts_equal ns.name name) switched_namespace p.namespaces (λ ns. refl))
    ∙ unwrap-map switched_namespace (find (λ (ns : Namespace). texts_equal ns.name name) p.namespaces) (empty_namespace name)

-- all but the profiles of a namespace stays
pub namespaces : (p : Policy) (name : Text) → namespace_named (switched p) name ≡ record (namespace_named p name) { profiles = (namespace_named (switched p) name).profiles }
namespaces p name = rw (namespace-switched p name) refl

-- each profile is switched
pub profiles : (p : Policy) (domain : Domain) → profile_of (switched p) domain ≡ option_map switched_profile (profile_of p domain)
profiles p domain = rw (namespace-switched p (namespace_word domain.name)) (at_rank-map (λ n. n) switched_profile domain.profile (namespace_named p (namespace_word domain.name)).profiles)

-- all but the namespaces of a policy stays
pub policies : (p : Policy) → switched p ≡ record p { namespaces = (switched p).namespaces }
unfolding switched
policies p = refl

-- Domains

pub domains : (p : Policy) → (switched p).domains ≡ p.domains
unfolding switched
domains p = refl

-- live domains are found at the same numbers
pub live_domains : (p : Policy) (name : DomainName) → live_domain (switched p) name ≡ live_domain p name
unfolding live_domain switched
live_domains p name = refl

-- the entries of a domain and of its groups are the same
pub entries : (p : Policy) (domain : Domain) → entries_of (namespace_of (switched p) domain) domain ≡ entries_of (namespace_of p domain) domain
unfolding entries_of
entries p domain = rw (namespace-switched p (namespace_word domain.name)) refl

-- the first that grants is the same
pub firsts : (p : Policy) (domain : Domain) (process : Proc) (request : Request) → first (namespace_of (switched p) domain) domain process request ≡ first (namespace_of p domain) domain process request
unfolding first entries_of aggregated
firsts p domain process request = rw (namespace-switched p (namespace_word domain.name)) refl

-- Where a request leads

pub lines : (p : Policy) (domain : Domain) (request : Request) → line_of (namespace_of (switched p) domain) request ≡ line_of (namespace_of p domain) request
unfolding aggregated
lines p domain request = rw (namespace-switched p (namespace_word domain.name)) refl

pub candidates : (p : Policy) (domain : Domain) (found : Option Granting) (request : Request) → candidate (namespace_of (switched p) domain) found request ≡ candidate (namespace_of p domain) found request
unfolding candidate aggregated
candidates p domain found request = rw (namespace-switched p (namespace_word domain.name)) refl

pub decisions : (p : Policy) (domain : Domain) (name : DomainName) (found : Option Granting) (request : Request) → decision (namespace_of (switched p) domain) name found request ≡ decision (namespace_of p domain) name found request
unfolding decision control_kind candidate aggregated
decisions p domain name found request = rw (namespace-switched p (namespace_word domain.name)) refl

pub enters : (is_path : Text → Bool) (p : Policy) (domain name : DomainName) → can_enter is_path (switched p) domain name ≡ can_enter is_path p domain name
unfolding can_enter live_domain switched
enters is_path p domain name = refl

pub executes : (p : Policy) (d : ℕ) (x : Execute) → execute_found (switched p) d x ≡ execute_found p d x
executes p d x = ap (λ (ds : List Domain). option_and_then (in_namespace (λ domain. namespace_of (switched p) domain)) (slice_get ds d)) (domains p) ∙ go (domain_at p d)
  where
    in_namespace : (Domain → Namespace) → Domain → Option FoundLine
    in_namespace of domain = option_map line_found (first_of (of domain).groups nobody (execute_request x) (entries_of (of domain) domain))

    go : (o : Option Domain) → option_and_then (in_namespace (λ domain. namespace_of (switched p) domain)) o ≡ option_and_then (in_namespace (λ domain. namespace_of p domain)) o
    go None = refl
    go (Some domain) =
        ap (λ (groups : Groups). option_map line_found (first_of groups nobody (execute_request x) (entries_of (namespace_of (switched p) domain) domain))) (ap (λ (ns : Namespace). ns.groups) (namespaces p (namespace_word domain.name)))
        ∙ ap (λ all. option_map line_found (first_of (namespace_of p domain).groups nobody (execute_request x) all)) (entries p domain)

-- Plain and opened policies

pub plain : (p : Policy) → is_plain (switched p) ≡ is_plain p
unfolding is_plain switched
plain p = ap (λ b. list_all is_plain_domain p.domains && b) (list_all-map are_plain_groups switched_namespace p.namespaces)

All-map : {A B : Type 0} (P : B → Type 0) (f : A → B) (xs : List A) → AllByRecursion (λ x. P (f x)) xs → AllByRecursion P (map f xs)
All-map P f [] h = tt
All-map P f (x ∷ xs) h = (h.0, All-map P f xs h.1)

pub opened : (p : Policy) → IsOpened p → IsOpened (switched p)
unfolding switched
opened p h =
    record {
      opened = h.opened;
      one_live = h.one_live;
      kernel_first = h.kernel_first;
      profiles = λ d x at live. rw (profiles p x) (go (profile_of p x) (h.profiles d x at live));
      aggregators = All-map (λ (ns : Namespace). AllByRecursion (λ (pair : Pattern × Word). is_path_word pair.1 ≡ true) ns.aggregators) switched_namespace p.namespaces h.aggregators;
    }
  where
    go : (o : Option Profile) → IsSome o → IsSome (option_map switched_profile o)
    go None e = absurd cc
    go (Some profile) e = refl

-- what the replay takes of it
pub switched_keeps : SwitchedKeeps
switched_keeps = record { domains = domains; namespaces = namespace-switched; profiles = λ list n. at_rank-map (λ k. k) switched_profile n list; modes = modes }
