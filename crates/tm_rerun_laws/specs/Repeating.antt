-- What the replay of a learned run takes from the other parts of its proof.
use Rattle.std.specs.Prelude.{◌≡◌, ℕ, ◌≤◌, Bool, true, List, [], map, length, slice_get, unwrap_or, Some, IsTrue, option_map}
use Rattle.tm_word.specs.Prelude.{Text}
use Rattle.tm_rules.specs.Types.{Domain, Function, Namespace, Policy, Proc, Profile, Request, Run}
use Rattle.tm_rules.specs.Prelude.{aggregated, at_key, domain_at, first, is_clean, is_execute, is_plain, is_request, mode_of, namespace_named, namespace_of, path_of}
use Rattle.tm_legal.specs.Prelude.{CanPlay, CleanRunGrows, DomainsStay, Execute, FirstExecuteStays, LearnedLinesGrant, Legal, Scene, execute_found, line_found, state_at, switched, switched_mode, switched_profile}

-- a clean run from a plain opening has plain policies
abbrev pub PlainStays : Type 0
PlainStays =
    (scene : Scene) (run : Run) → CanPlay scene → IsTrue (is_plain scene.policy) → Legal scene run → IsTrue (is_clean run) → (k : ℕ) → k ≤ length run.steps
    → IsTrue (is_plain (state_at scene run.steps k).policy)

-- what an execute is searched by
abbrev pub execute_of : Namespace → Request → Execute
execute_of ns request =
    record { name = aggregated ns (path_of request); real = unwrap_or request.attributes.real_path []; argument = unwrap_or (slice_get request.attributes.argv 0) [] }

-- in a plain policy what an execute finds is found by these three values
abbrev pub PlainFirst : Type 0
PlainFirst =
    (is_path : Text → Bool) (policy : Policy) (d : ℕ) (domain : Domain) (process : Proc) (request : Request) → IsTrue (is_plain policy) → domain_at policy d ≡ Some domain → domain.live ≡ true
    → is_request is_path request ≡ true → is_execute request ≡ true
    → option_map line_found (first (namespace_of policy domain) domain process request) ≡ execute_found policy d (execute_of (namespace_of policy domain) request)

-- the profiles by number, each switched
abbrev pub switched_profiles : List (ℕ × Profile) → List (ℕ × Profile)
switched_profiles profiles = map (λ (pair : ℕ × Profile). (pair.0, switched_profile pair.1)) profiles

-- a switched policy has the same domains, and of each namespace all but the profiles, which are
-- switched each
pub record SwitchedKeeps : Type 0 where
  pub domains : (policy : Policy) → (switched policy).domains ≡ policy.domains
  pub namespaces : (policy : Policy) (name : Text) → namespace_named (switched policy) name ≡ record (namespace_named policy name) { profiles = switched_profiles (namespace_named policy name).profiles }
  pub profiles : (profiles : List (ℕ × Profile)) (n : ℕ) → at_key (switched_profiles profiles) n ≡ option_map switched_profile (at_key profiles n)
  pub modes : (profile : Profile) (function : Function) → mode_of (switched_profile profile) function ≡ switched_mode (mode_of profile function)

-- the parts that other proofs give
pub record Parts : Type 0 where
  pub grows : CleanRunGrows
  pub plain : PlainStays
  pub first_execute : FirstExecuteStays
  pub learned : LearnedLinesGrant
  pub domains : DomainsStay
