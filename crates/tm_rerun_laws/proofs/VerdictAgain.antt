-- What a clean look of the first run was granted, the switched final policy grants again, without a
-- step.
use Rattle.std.proofs.Common.{◌≡◌, ℕ, List, Bool, true, false, refl, sym, ap, ◌∙◌, subst, inl, inr, ◌⊎◌}
use Rattle.std.specs.Prelude.{Option, Some, None, if◌then◌else◌, is_some, option_map}
use Rattle.tm_word.specs.Prelude.{Text}
use Rattle.tm_rules.specs.Prelude.{DomainName, Granting, can_enter, domain_at, first, is_execute, is_manual, line_of, mode_of, namespace_of, profile_of}
use Rattle.tm_rules.specs.Types.{Args, Attributes, Domain, Entry, Function, Mode, Move, Namespace, Policy, Proc, Profile, Reason, Request, Verdict, function_of}
use Rattle.tm_legal.specs.Prelude.{by_entry, denied, in_mode, is_granting, made, manual_verdict, move_to, switched_mode, switched_profile, verdict, verdict_in}
use Rattle.tm_legal.proofs.Kept.{some_of}
use Rattle.tm_rerun_laws.proofs.FirstLater.{grown}
use Rattle.tm_rerun_laws.proofs.SameWay.{way_of, way-later}
use Rattle.tm_rerun_laws.proofs.Lands.{Arrives}
use Rattle.tm_rerun_laws.proofs.Again.{IsAgain, IsCalm, MovesSo, moves-so, manual-again, by_mode-again, target_in, said, granted-said, ready-said, arrived-ready, arrived-lands}

-- the verdict of the later policy
pub record Again (is_path : Text → Bool) (q : Policy) (process : Proc) (request : Request) (d ended : ℕ) : Type 0 where
  pub v : Verdict
  pub is : verdict is_path q false d process request ≡ Some v
  pub again : IsAgain v d ended

-- Verdicts by kind

pub is_or : (b : Bool) → (b ≡ true) ⊎ (b ≡ false)
is_or true = inl refl
is_or false = inr refl

pub manual-name : (args : Args) (perm : ℕ) (attributes : Attributes) → (let request : Request = record { args = args; perm = perm; attributes = attributes } in is_manual request ≡ true → (name : DomainName) × (args ≡ Args.Manual name))
manual-name (Args.Path n) perm attributes e = absurd cc
manual-name (Args.PathNumber n k) perm attributes e = absurd cc
manual-name (Args.Device n a b c) perm attributes e = absurd cc
manual-name (Args.Path2 n m) perm attributes e = absurd cc
manual-name (Args.Mount a b c d) perm attributes e = absurd cc
manual-name (Args.Inet a b c) perm attributes e = absurd cc
manual-name (Args.Unix a b) perm attributes e = absurd cc
manual-name (Args.Env n) perm attributes e = absurd cc
manual-name (Args.Execute n p) perm attributes e = absurd cc
manual-name (Args.Manual n) perm attributes e = (n, refl)

module _ (is_path : Text → Bool) (policy : Policy) (attached : Bool) (process : Proc) (domain : Domain) (profile : Profile) where
  pub manual-in : (request : Request) (name : DomainName) → request.args ≡ Args.Manual name → verdict_in is_path policy attached process request domain profile ≡ Some (manual_verdict is_path policy domain name (first (namespace_of policy domain) domain process request))
  manual-in request name e = rw e refl

  pub other-in : (args : Args) (perm : ℕ) (attributes : Attributes) → (let request : Request = record { args = args; perm = perm; attributes = attributes } in is_manual request ≡ false
      → verdict_in is_path policy attached process request domain profile ≡ option_map (λ (function : Function). in_mode is_path policy attached domain (namespace_of policy domain) request (first (namespace_of policy domain) domain process request) (mode_of profile function)) (function_of args perm))
  other-in (Args.Path n) perm attributes e = refl
  other-in (Args.PathNumber n k) perm attributes e = refl
  other-in (Args.Device n a b c) perm attributes e = refl
  other-in (Args.Path2 n m) perm attributes e = refl
  other-in (Args.Mount a b c d) perm attributes e = refl
  other-in (Args.Inet a b c) perm attributes e = refl
  other-in (Args.Unix a b) perm attributes e = refl
  other-in (Args.Env n) perm attributes e = refl
  other-in (Args.Execute n p) perm attributes e = refl
  other-in (Args.Manual n) perm attributes e = absurd cc

  pub verdict-at : (d : ℕ) (request : Request) → domain_at policy d ≡ Some domain → profile_of policy domain ≡ Some profile → verdict is_path policy attached d process request ≡ verdict_in is_path policy attached process request domain profile
  unfolding verdict
  verdict-at d request at has = rw (at, has) refl

module _ (is_path : Text → Bool) (policy : Policy) (domain : Domain) (name : DomainName) where
  -- an entry was found, and the target can be entered
  record ManualSo (found : Option Granting) : Type 0 where
    pub g : Granting
    pub is : found ≡ Some g
    pub says : manual_verdict is_path policy domain name found ≡ by_entry None g (move_to is_path policy domain (Some name)) (Some name)

  manual-said : (found : Option Granting) → is_granting (manual_verdict is_path policy domain name found).reason ≡ true → ManualSo found
  unfolding manual_verdict
  manual-said None h = absurd cc
  manual-said (Some g) h = record { g = g; is = refl; says = go (can_enter is_path policy domain.name name) h }
    where
      go : (b : Bool) → is_granting (if b then by_entry None g (move_to is_path policy domain (Some name)) (Some name) else denied None Reason.NotReady).reason ≡ true
          → (if b then by_entry None g (move_to is_path policy domain (Some name)) (Some name) else denied None Reason.NotReady) ≡ by_entry None g (move_to is_path policy domain (Some name)) (Some name)
      go true e = refl
      go false e = absurd cc

  manual-ready : (g : Granting) → can_enter is_path policy domain.name name ≡ true → manual_verdict is_path policy domain name (Some g) ≡ by_entry None g (move_to is_path policy domain (Some name)) (Some name)
  unfolding manual_verdict
  manual-ready g h = rw h refl

-- Again

module _ (is_path : Text → Bool) (p q : Policy) (attached : Bool) (process : Proc) (request : Request) (d ended : ℕ) (x : Domain) (profile : Profile) (entries : List Entry) (acl : List (ℕ × List Entry)) (profiles : List (ℕ × Profile)) where
  -- the domain later
  abbrev pub grown_domain : Domain
  grown_domain = record x { entries = entries }

  -- what is found now
  abbrev pub found_now : Option Granting
  found_now = first (namespace_of p x) x process request

  -- what is found later
  abbrev pub found_later : Option Granting
  found_later = first (grown (namespace_of p x) acl profiles) grown_domain process request

  -- both policies have the domain, and the later one finds something where the first did
  pub record Ground : Type 0 where
    pub at : domain_at p d ≡ Some x
    pub has : profile_of p x ≡ Some profile
    pub at_later : domain_at q d ≡ Some grown_domain
    pub has_later : profile_of q grown_domain ≡ Some (switched_profile profile)
    pub namespace_later : namespace_of q grown_domain ≡ grown (namespace_of p x) acl profiles
    pub modes : (function : Function) → mode_of (switched_profile profile) function ≡ switched_mode (mode_of profile function)
    pub some : is_some found_now ≡ true → is_some found_later ≡ true

  -- a granted look of a clean run, what it left, and what was learned by it
  pub record Granted (v : Verdict) : Type 0 where
    pub is : verdict is_path p attached d process request ≡ Some v
    pub calm : IsCalm v
    pub grants : is_granting v.reason ≡ true
    pub arrives : (target : Option DomainName) → v.step ≡ move_to is_path p x target → v.target ≡ made v.step target → Arrives q d ended target
    pub learned : v.reason ≡ Reason.Learn → is_some found_later ≡ true
    pub same_way : is_execute request ≡ true → way_of (namespace_of p x) x.name found_later request ≡ way_of (namespace_of p x) x.name found_now request

  module _ (ground : Ground) (v : Verdict) (granted : Granted v) where
    now : verdict_in is_path p attached process request x profile ≡ Some v
    now = sym (verdict-at is_path p attached process x profile d request ground.at ground.has) ∙ granted.is

    later : verdict is_path q false d process request ≡ verdict_in is_path q false process request grown_domain (switched_profile profile)
    later = verdict-at is_path q false process grown_domain (switched_profile profile) d request ground.at_later ground.has_later

    found_q : first (namespace_of q grown_domain) grown_domain process request ≡ found_later
    found_q = ap (λ (ns : Namespace). first ns grown_domain process request) ground.namespace_later

    by_manual : (name : DomainName) → request.args ≡ Args.Manual name → Again is_path q process request d ended
    by_manual name e =
        let one : Some (manual_verdict is_path p x name found_now) ≡ Some v = sym (manual-in is_path p attached process x profile request name e) ∙ now in
        let is_v : manual_verdict is_path p x name found_now ≡ v = cc in
        let so : ManualSo is_path p x name found_now = manual-said is_path p x name found_now (ap (λ (u : Verdict). is_granting u.reason) is_v ∙ granted.grants) in
        let is_entry : v ≡ by_entry None so.g (move_to is_path p x (Some name)) (Some name) = sym is_v ∙ so.says in
        let step : v.step ≡ move_to is_path p x (Some name) = ap (λ (u : Verdict). u.step) is_entry in
        let target : v.target ≡ made v.step (Some name) = ap (λ (u : Verdict). u.target) is_entry ∙ ap (λ (m : Move). made m (Some name)) (sym step) in
        let here : Arrives q d ended (Some name) = granted.arrives (Some name) step target in
        let (g, is_g) = some_of found_later (ground.some (ap is_some so.is)) in
        record {
          v = by_entry None g (move_to is_path q grown_domain (Some name)) (Some name);
          is =
              later
              ∙ manual-in is_path q false process grown_domain (switched_profile profile) request name e
              ∙ ap (λ (o : Option Granting). Some (manual_verdict is_path q grown_domain name o)) (found_q ∙ is_g)
              ∙ ap (λ (u : Verdict). Some u) (manual-ready is_path q grown_domain name g (arrived-ready is_path q grown_domain d ended (Some name) here));
          again = manual-again g (move_to is_path q grown_domain (Some name)) (Some name) d ended (arrived-lands is_path q grown_domain d ended (Some name) here);
        }

    target_now : Option DomainName
    target_now = target_in (namespace_of p x) x.name found_now request

    target_later : Option DomainName
    target_later = target_in (grown (namespace_of p x) acl profiles) x.name found_later request

    same_target : target_later ≡ target_now
    unfolding target_later target_now
    same_target = go (is_execute request) granted.same_way
      where
        go : (b : Bool) → (b ≡ true → way_of (namespace_of p x) x.name found_later request ≡ way_of (namespace_of p x) x.name found_now request) → (if b then way_of (grown (namespace_of p x) acl profiles) x.name found_later request else None) ≡ (if b then way_of (namespace_of p x) x.name found_now request else None)
        go true same = way-later (namespace_of p x) acl profiles x.name found_later request ∙ same refl
        go false same = refl

    by_function : (function : Function) → is_manual request ≡ false → function_of request.args request.perm ≡ Some function → Again is_path q process request d ended
    unfolding target_later target_now
    by_function function other e =
        let ns : Namespace = namespace_of p x in
        let mode : Mode = mode_of profile function in
        let one : Some (in_mode is_path p attached x ns request found_now mode) ≡ Some v =
        sym (other-in is_path p attached process x profile request.args request.perm request.attributes other ∙ ap (option_map (λ (f : Function). in_mode is_path p attached x ns request found_now (mode_of profile f))) e) ∙ now in
        let is_v : in_mode is_path p attached x ns request found_now mode ≡ v = cc in
        let v_is : v ≡ said is_path p attached x ns request found_now mode = sym is_v ∙ granted-said is_path p attached x ns request found_now mode (ap (λ (u : Verdict). is_granting u.reason) is_v ∙ granted.grants) in
        let so : MovesSo (said is_path p attached x ns request found_now mode) (move_to is_path p x target_now) target_now =
        moves-so mode attached x found_now (line_of ns request) (move_to is_path p x target_now) target_now (ap (λ (u : Verdict). is_granting u.reason) (sym v_is) ∙ granted.grants) in
        let step : v.step ≡ move_to is_path p x target_now = ap (λ (u : Verdict). u.step) v_is ∙ so.step in
        let target : v.target ≡ made v.step target_now = ap (λ (u : Verdict). u.target) v_is ∙ so.target_is ∙ ap (λ (m : Move). made m target_now) (sym step) in
        let here : Arrives q d ended target_later = subst (λ (t : Option DomainName). Arrives q d ended t) (sym same_target) (granted.arrives target_now step target) in
        let later_ns : Namespace = grown ns acl profiles in
        let calm : IsCalm (said is_path p attached x ns request found_now mode) = subst (λ (u : Verdict). IsCalm u) v_is granted.calm in
        record {
          v = said is_path q false grown_domain later_ns request found_later (switched_mode mode);
          is =
              later
              ∙ other-in is_path q false process grown_domain (switched_profile profile) request.args request.perm request.attributes other
              ∙ ap (option_map (λ (f : Function). in_mode is_path q false grown_domain (namespace_of q grown_domain) request (first (namespace_of q grown_domain) grown_domain process request) (mode_of (switched_profile profile) f))) e
              ∙ ap (λ (m : Namespace). Some (in_mode is_path q false grown_domain m request (first m grown_domain process request) (mode_of (switched_profile profile) function))) ground.namespace_later
              ∙ ap (λ (m : Mode). Some (in_mode is_path q false grown_domain later_ns request found_later m)) (ground.modes function)
              ∙ ap (λ (u : Verdict). Some u) (ready-said is_path q false grown_domain later_ns request found_later (switched_mode mode) (arrived-ready is_path q grown_domain d ended target_later here));
          again =
              by_mode-again mode attached false x grown_domain found_now found_later (line_of ns request) (line_of later_ns request) (move_to is_path p x target_now) target_now (move_to is_path q grown_domain target_later) target_later d ended
              calm ground.some (λ learn. granted.learned (ap (λ (u : Verdict). u.reason) v_is ∙ learn)) (arrived-lands is_path q grown_domain d ended target_later here);
        }

    by_other : is_manual request ≡ false → (o : Option Function) → function_of request.args request.perm ≡ o → Again is_path q process request d ended
    by_other other None e =
        absurd
        (let none : None ≡ Some v =
        sym (other-in is_path p attached process x profile request.args request.perm request.attributes other
        ∙ ap (option_map (λ (f : Function). in_mode is_path p attached x (namespace_of p x) request found_now (mode_of profile f))) e) ∙ now in cc)
    by_other other (Some function) e = by_function function other e

    pub verdict-again : Again is_path q process request d ended
    verdict-again = by_kind (is_or (is_manual request))
      where
        by_kind : (is_manual request ≡ true) ⊎ (is_manual request ≡ false) → Again is_path q process request d ended
        by_kind (inl e) = let (name, is) = manual-name request.args request.perm request.attributes e in by_manual name is
        by_kind (inr e) = by_other e (function_of request.args request.perm) refl
