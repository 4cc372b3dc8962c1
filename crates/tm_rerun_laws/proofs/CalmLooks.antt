-- A verdict in a calm mode asks nobody; and what is known of the last of some looks.
use Rattle.std.proofs.Common.{◌≡◌, ◌≤◌, ◌<◌, ℕ, List, [], ◌∷◌, length, Bool, true, false, refl, sym, ap, ◌∙◌, subst, arith, inl, inr, ◌⊎◌}
use Rattle.std.specs.Prelude.{Option, Some, None, ◌&&◌, ◌||◌, not, option_map}
use Rattle.std.specs.Option.{option_and_then}
use Rattle.std.specs.List.{AllByRecursion, list_all}
use Rattle.std.proofs.lemmas.Bool.{and_parts}
use Rattle.tm_word.specs.Prelude.{Text}
use Rattle.tm_rules.specs.Prelude.{DomainName, Granting, aggregated, can_enter, decision, domain_at, first, is_calm_mode, is_execute, is_manual, is_strict, line_of, mode_of, namespace_of, profile_of}
use Rattle.tm_rules.specs.Types.{Domain, Entry, Function, Heard, Look, Mode, Move, Namespace, Policy, Proc, Profile, Reason, Request, Verdict, function_of}
use Rattle.tm_legal.specs.Prelude.{History, LooksRise, by_entry, by_mode, denied, execute_verdict, grants_with, in_mode, is_enforcing, is_granting, is_ready, last_look, manual_verdict, move_to, moving, raised, seen, verdict, verdict_in, with_line}
use Rattle.tm_rerun_laws.specs.Repeating.{execute_of}
use Rattle.tm_rerun_laws.proofs.SameWay.{way_of}
use Rattle.tm_rerun_laws.proofs.Again.{if-both}
use Rattle.tm_rerun_laws.proofs.VerdictAgain.{is_or, manual-name, manual-in, other-in}

-- Nobody is asked in a calm mode

-- the supervisor is asked
abbrev pub asks : Reason → Bool
asks Reason.Ask = true
asks _ = false

-- a verdict in a calm mode asks nobody
abbrev pub Calms : Verdict → Type 0
Calms v = is_calm_mode v.mode ≡ true → asks v.reason ≡ false

by_mode-calms : (mode : Mode) (attached : Bool) (domain : Domain) (found : Option Granting) (line : Entry) (move : Move) (target : Option DomainName) → Calms (by_mode mode attached domain found line move target)
unfolding by_mode
by_mode-calms Mode.Disabled attached domain found line move target = λ h. refl
by_mode-calms Mode.Learning attached domain None line move target = if-both Calms domain.quota_exceeded (moving (Some Mode.Learning) Reason.Quota move target) (with_line (moving (Some Mode.Learning) Reason.Learn move target) line) (λ h. refl) (λ h. refl)
by_mode-calms Mode.Learning attached domain (Some g) line move target = λ h. refl
by_mode-calms Mode.Permissive attached domain None line move target = λ h. refl
by_mode-calms Mode.Permissive attached domain (Some g) line move target = λ h. refl
by_mode-calms Mode.Enforcing attached domain None line move target = if-both Calms attached (with_line (moving (Some Mode.Enforcing) Reason.Ask move target) line) (denied (Some Mode.Enforcing) Reason.NoEntry) (λ h. absurd cc) (λ h. refl)
by_mode-calms Mode.Enforcing attached domain (Some g) line move target = λ h. refl

module _ (is_path : Text → Bool) (policy : Policy) (attached : Bool) (process : Proc) (request : Request) where
  manual-calms : (domain : Domain) (name : DomainName) (found : Option Granting) → Calms (manual_verdict is_path policy domain name found)
  unfolding manual_verdict
  manual-calms domain name None = λ h. refl
  manual-calms domain name (Some g) = if-both Calms (can_enter is_path policy domain.name name) (by_entry None g (move_to is_path policy domain (Some name)) (Some name)) (denied None Reason.NotReady) (λ h. refl) (λ h. refl)

  in_mode-calms : (domain : Domain) (ns : Namespace) (found : Option Granting) (mode : Mode) → Calms (in_mode is_path policy attached domain ns request found mode)
  unfolding execute_verdict
  in_mode-calms domain ns found mode =
      let way : Option DomainName = way_of ns domain.name found request in
      if-both Calms (is_execute request) (execute_verdict is_path policy attached domain ns mode found request) (by_mode mode attached domain found (line_of ns request) Move.Stay None)
      (if-both Calms (not (is_ready is_path policy domain way) && (is_strict (decision ns domain.name found request) || is_enforcing mode)) (denied (Some mode) Reason.NotReady) (by_mode mode attached domain found (line_of ns request) (move_to is_path policy domain way) way)
      (λ h. refl) (by_mode-calms mode attached domain found (line_of ns request) (move_to is_path policy domain way) way))
      (by_mode-calms mode attached domain found (line_of ns request) Move.Stay None)

  verdict_in-calms : (domain : Domain) (profile : Profile) (v : Verdict) → verdict_in is_path policy attached process request domain profile ≡ Some v → Calms v
  verdict_in-calms domain profile v is = by_kind (is_or (is_manual request))
    where
      by_function : is_manual request ≡ false → (o : Option Function) → function_of request.args request.perm ≡ o → Calms v
      by_function other None e =
          absurd
          (let none : None ≡ Some v =
          sym (other-in is_path policy attached process domain profile request.args request.perm request.attributes other
          ∙ ap (option_map (λ (f : Function). in_mode is_path policy attached domain (namespace_of policy domain) request (first (namespace_of policy domain) domain process request) (mode_of profile f))) e) ∙ is in cc)
      by_function other (Some f) e =
          let one : Some (in_mode is_path policy attached domain (namespace_of policy domain) request (first (namespace_of policy domain) domain process request) (mode_of profile f)) ≡ Some v =
          sym (other-in is_path policy attached process domain profile request.args request.perm request.attributes other
          ∙ ap (option_map (λ (f : Function). in_mode is_path policy attached domain (namespace_of policy domain) request (first (namespace_of policy domain) domain process request) (mode_of profile f))) e) ∙ is in
          subst (λ (u : Verdict). Calms u) (let same : in_mode is_path policy attached domain (namespace_of policy domain) request (first (namespace_of policy domain) domain process request) (mode_of profile f) ≡ v = cc in same)
          (in_mode-calms domain (namespace_of policy domain) (first (namespace_of policy domain) domain process request) (mode_of profile f))

      by_kind : (is_manual request ≡ true) ⊎ (is_manual request ≡ false) → Calms v
      by_kind (inl e) =
          let (name, named) = manual-name request.args request.perm request.attributes e in
          let one : Some (manual_verdict is_path policy domain name (first (namespace_of policy domain) domain process request)) ≡ Some v = sym (manual-in is_path policy attached process domain profile request name named) ∙ is in
          subst (λ (u : Verdict). Calms u) (let same : manual_verdict is_path policy domain name (first (namespace_of policy domain) domain process request) ≡ v = cc in same)
          (manual-calms domain name (first (namespace_of policy domain) domain process request))
      by_kind (inr e) = by_function e (function_of request.args request.perm) refl

  -- where there is a verdict, its domain and profile are there
  pub record VerdictThere (d : ℕ) (v : Verdict) : Type 0 where
    pub domain : Domain
    pub profile : Profile
    pub at : domain_at policy d ≡ Some domain
    pub has : profile_of policy domain ≡ Some profile
    pub calms : Calms v

  pub verdict-there : (d : ℕ) (v : Verdict) → verdict is_path policy attached d process request ≡ Some v → VerdictThere d v
  unfolding verdict
  verdict-there d v is = by_domain (domain_at policy d) refl is
    where
      by_profile : (domain : Domain) → domain_at policy d ≡ Some domain → (o : Option Profile) → profile_of policy domain ≡ o → option_and_then (verdict_in is_path policy attached process request domain) o ≡ Some v → VerdictThere d v
      by_profile domain at None has h = absurd cc
      by_profile domain at (Some profile) has h = record { domain = domain; profile = profile; at = at; has = has; calms = verdict_in-calms domain profile v h }

      by_domain : (o : Option Domain) → domain_at policy d ≡ o → option_and_then (λ domain. option_and_then (verdict_in is_path policy attached process request domain) (profile_of policy domain)) o ≡ Some v → VerdictThere d v
      by_domain None at h = absurd cc
      by_domain (Some domain) at h = by_profile domain at (profile_of policy domain) refl h

-- a granted look that asked nobody was granted by its reason
pub granted-so : (reason : Reason) (heard : Option Heard) → asks reason ≡ false → grants_with reason heard ≡ true → is_granting reason ≡ true
granted-so Reason.Ask heard calm h = absurd cc
granted-so (Reason.Entry place) heard calm h = h
granted-so Reason.Disabled heard calm h = h
granted-so Reason.Permissive heard calm h = h
granted-so Reason.Quota heard calm h = h
granted-so Reason.Learn heard calm h = h
granted-so Reason.NoEntry heard calm h = h
granted-so Reason.NotReady heard calm h = h
granted-so Reason.NoManual heard calm h = h

-- Lists

pub not-true : (b : Bool) → not b ≡ true → b ≡ false
not-true true h = absurd cc
not-true false h = refl

-- the last of some looks
pub last-is : (looks : List Look) → 0 < length looks → (look : Look) × (last_look looks ≡ Some look)
last-is [] h = absurd (omega arith)
last-is (look ∷ []) h = (look, refl)
last-is (look ∷ next ∷ looks) h = last-is (next ∷ looks) (omega arith)

pub last-has : (P : Look → Type 0) (looks : List Look) (look : Look) → last_look looks ≡ Some look → AllByRecursion P looks → P look
last-has P [] look is all = absurd cc
last-has P (one ∷ []) look is all = subst P (let same : one ≡ look = cc in same) all.0
last-has P (one ∷ next ∷ looks) look is all = last-has P (next ∷ looks) look is all.1

pub last-passes : (t : Look → Bool) (looks : List Look) (look : Look) → last_look looks ≡ Some look → list_all t looks ≡ true → t look ≡ true
last-passes t [] look is all = absurd cc
last-passes t (one ∷ []) look is all = let same : one ≡ look = cc in rw (← same) (and_parts (t one) true all).0
last-passes t (one ∷ next ∷ looks) look is all = last-passes t (next ∷ looks) look is (and_parts (t one) (list_all t (next ∷ looks)) all).1

pub last-version : (h : History) (looks : List Look) (floor : ℕ) (look : Look) → last_look looks ≡ Some look → LooksRise h floor looks → look.version ≤ length h
last-version h [] floor look is rises = absurd cc
last-version h (one ∷ []) floor look is rises = subst (λ (l : Look). l.version ≤ length h) (let same : one ≡ look = cc in same) rises.1
last-version h (one ∷ next ∷ looks) floor look is rises = last-version h (next ∷ looks) (raised floor (seen one)) look is rises.2

pub execute_of-grown : (ns : Namespace) (acl : List (ℕ × List Entry)) (request : Request) → execute_of (record ns { acl_groups = acl }) request ≡ execute_of ns request
unfolding aggregated
execute_of-grown ns acl request = refl
