-- Where an audit text is made, and that it is the lines.
use Rattle.std.proofs.Common.{◌≡◌, ℕ, Bool, true, false, refl, sym, ap, ◌∙◌}
use Rattle.std.specs.Prelude.{Option, Some, None, option_map, if◌then◌else◌, ◌&&◌}
use Rattle.std.specs.Option.{option_and_then}
use Rattle.tm_word.specs.Prelude.{Text}
use Rattle.tm_rules.specs.Types.{Domain, Function, Logs, Mode, Policy, Proc, Request, Verdict, function_of}
use Rattle.tm_change_domains.specs.Standing.{Standing, StandsIn}
use Rattle.tm_rules.specs.Prelude.{Grammar, audit_in, audit_lines, audit_text, domain_at, is_logged, logs_of, profile_of}
use Rattle.tm_audit.specs.Parts.{PrintsRequests, is_audited, logged, lines}

and_then_map : {A B C : Type 0} (l : B → C) (f : A → Option C) (g : A → Option B) → ((x : A) → f x ≡ option_map l (g x)) → (o : Option A) → option_and_then f o ≡ option_map l (option_and_then g o)
and_then_map l f g same None = refl
and_then_map l f g same (Some x) = same x

module _ (g : Grammar) (policy : Policy) (process : Proc) (request : Request) (verdict : Verdict) where
  -- none is made where the domain or its profile isn't there
  pub audit_nowhere : (d : ℕ) → option_and_then (profile_of policy) (domain_at policy d) ≡ None → audit_text g policy d process request verdict ≡ None
  unfolding audit_text
  audit_nowhere d absent = go (domain_at policy d) absent
    where
      go : (o : Option Domain) → option_and_then (profile_of policy) o ≡ None
          → option_and_then
          (λ domain. option_and_then (λ profile. option_and_then (λ function. option_and_then (audit_in g policy process request verdict domain (logs_of profile function)) verdict.mode) (function_of request.args request.perm)) (profile_of policy domain)) o
          ≡ None
      go None e = refl
      go (Some domain) e = rw e refl

  -- one is made exactly where it is logged
  module _ (s : Standing) (stands : StandsIn policy s) where
    abbrev text_of : Mode → Text
    text_of mode = audit_lines g s.domain mode process request verdict.reason

    abbrev made_in : Logs → Mode → Option Mode
    made_in logs mode = if is_audited mode && is_logged s.namespace s.domain logs verdict.reason then Some mode else None

    in_mode : (logs : Logs) (mode : Mode) → audit_in g policy process request verdict s.domain logs mode ≡ option_map text_of (made_in logs mode)
    in_mode logs mode = by_mode mode
      where
        by_log : (m : Mode) (b : Bool) → (if b then Some (text_of m) else None) ≡ option_map text_of (if b then Some m else None)
        by_log m true = refl
        by_log m false = refl

        by_mode : (m : Mode) → audit_in g policy process request verdict s.domain logs m ≡ option_map text_of (made_in logs m)
        by_mode Mode.Disabled = refl
        by_mode Mode.Learning = rw stands.namespace (by_log Mode.Learning (is_logged s.namespace s.domain logs verdict.reason))
        by_mode Mode.Permissive = rw stands.namespace (by_log Mode.Permissive (is_logged s.namespace s.domain logs verdict.reason))
        by_mode Mode.Enforcing = rw stands.namespace (by_log Mode.Enforcing (is_logged s.namespace s.domain logs verdict.reason))

    audit_logged : audit_text g policy s.number process request verdict ≡ option_map text_of (logged s request verdict)
    unfolding audit_text logged
    audit_logged =
        rw (stands.domain, stands.profile)
        (and_then_map text_of _ _
        (λ (function : Function). and_then_map text_of _ _ (in_mode (logs_of s.profile function)) verdict.mode)
        (function_of request.args request.perm))

    -- it is these lines, where the grammar prints requests as a trace does
    printed : PrintsRequests g → (mode : Mode) → text_of mode ≡ lines s.domain mode process request verdict.reason
    printed prints mode = rw (prints.request request, prints.attributes request) refl

    pub audit_made : (mode : Mode) → Some mode ≡ logged s request verdict → PrintsRequests g → audit_text g policy s.number process request verdict ≡ Some (lines s.domain mode process request verdict.reason)
    audit_made mode made prints = audit_logged ∙ ap (option_map text_of) (sym made) ∙ ap (λ t. Some t) (printed prints mode)

    pub audit_none : None ≡ logged s request verdict → audit_text g policy s.number process request verdict ≡ None
    audit_none none = audit_logged ∙ ap (option_map text_of) (sym none)

    pub audit_some : (mode : Mode) → Some mode ≡ logged s request verdict → audit_text g policy s.number process request verdict ≡ None → ⊥
    audit_some mode made none = let both : Some (text_of mode) ≡ None = sym (audit_logged ∙ ap (option_map text_of) (sym made)) ∙ none in absurd cc
