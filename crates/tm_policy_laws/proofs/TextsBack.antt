-- What is printed of an opened policy that lines can leave is loaded again: its live part.
use Rattle.std.proofs.Common.{◌≡◌, ℕ, ◌+◌, Bool, true, false, List, [], ◌∷◌, Ok, refl, sym, ap, subst, ◌∙◌}
use Rattle.std.specs.Prelude.{Option, Some, None, is_some, unwrap_or, cond, filter}
use Rattle.std.specs.List.{AllByRecursion, flat_map, position_from}
use Rattle.std.specs.Option.{option_map_or}
use Rattle.tm_word.specs.Prelude.{Text}
use Rattle.tm_rules.specs.Types.{Domain, FileKind, Namespace, Policy}
use Rattle.tm_rules.specs.Prelude.{LoadsBack, SamePolicy, at_key, empty_namespace, live_part, load, load_file, namespace_named, namespace_word, new_policy, open_policy, profile_of, wants_profile}
use Rattle.tm_text.specs.DomainText.{live_text, domain_text}
use Rattle.tm_text.specs.ExceptionText.{exception_lines, exception_text}
use Rattle.tm_text.specs.ManagerText.{manager_text}
use Rattle.tm_text.specs.ProfileText.{by_name, namespace_text, profile_text}
use Rattle.tm_legal.specs.Prelude.{IsOpened}
use Rattle.tm_grammar.specs.Tomoyo.{tomoyo_grammar}
use Rattle.tm_policy_laws.specs.Policies.{IsWrittenHere, IsWrittenDomain, IsWritten}
use Rattle.tm_policy_laws.specs.PolicyText.{policy_text}
use Rattle.tm_policy_laws.proofs.Folding.{loads_file}
use Rattle.tm_policy_laws.proofs.Spaces.{named, named_in, found, found_named, with_spaces, Fills, fills, by_name_all, by_name_once, by_name_found}
use Rattle.tm_policy_laws.proofs.ProfilesLoad.{with_profiles, profiles_turn}
use Rattle.tm_policy_laws.proofs.ExceptionsLoad.{HasProfiles, with_exceptions, exceptions_turn}
use Rattle.tm_policy_laws.proofs.DomainsLoad.{with_domains, is_live, Ready, all_by_place, domains_back}
use Rattle.tm_policy_laws.proofs.ManagersLoad.{with_managers, managers_load}

-- Namespaces

blank_at_first : (list : List Namespace) → AllByRecursion (λ (ns : Namespace). (named [] ns.name).profiles ≡ []) list
blank_at_first [] = tt
blank_at_first (ns ∷ list) = (refl, blank_at_first list)

module _ (p : Policy) (h : IsWritten p) where
  -- the profiles
  profiles_fill : Fills FileKind.Profile new_policy None (profile_text p) with_profiles (by_name p.namespaces) []
  unfolding profile_text
  profiles_fill =
      fills FileKind.Profile new_policy None IsWrittenHere (λ ns. ns.profiles ≡ []) namespace_text with_profiles
      (λ ns spaces good blank. profiles_turn new_policy None ns spaces good.name good.profiles blank)
      (by_name p.namespaces)
      []
      (by_name_all IsWrittenHere p.namespaces h.namespaces)
      (by_name_once p.namespaces h.names)
      (blank_at_first (by_name p.namespaces))

  -- they alone are there
  have_profiles : (name : Text) → HasProfiles (named profiles_fill.after name)
  have_profiles name = subst HasProfiles (sym (profiles_fill.all name)) (by_option (found (by_name p.namespaces) name))
    where
      by_option : (o : Option Namespace) → HasProfiles (option_map_or (λ ns. with_profiles ns (named [] name)) o (named [] name))
      by_option None = refl
      by_option (Some ns) = refl

  all_have : (list : List Namespace) → AllByRecursion (λ (ns : Namespace). HasProfiles (named profiles_fill.after ns.name)) list
  all_have [] = tt
  all_have (ns ∷ list) = (have_profiles ns.name, all_have list)

  exceptions_fill : Fills FileKind.Exception new_policy None (exception_text p) with_exceptions (by_name p.namespaces) profiles_fill.after
  unfolding exception_text
  exceptions_fill =
      fills FileKind.Exception new_policy None IsWrittenHere HasProfiles exception_lines with_exceptions
      (λ ns spaces good blank. exceptions_turn new_policy None ns good spaces blank)
      (by_name p.namespaces)
      profiles_fill.after
      (by_name_all IsWrittenHere p.namespaces h.namespaces)
      (by_name_once p.namespaces h.names)
      (all_have (by_name p.namespaces))

  -- the namespaces are those of the policy
  spaces_again : (name : Text) → named exceptions_fill.after name ≡ named p.namespaces name
  spaces_again name =
      exceptions_fill.all name
      ∙ ap (λ (old : Namespace). option_map_or (λ ns. with_exceptions ns old) (found (by_name p.namespaces) name) old) (profiles_fill.all name)
      ∙ ap (λ (o : Option Namespace). both_of o) (by_name_found name p.namespaces h.names)
      ∙ by_option (found p.namespaces name) refl
    where
      both_of : Option Namespace → Namespace
      both_of o = option_map_or (λ ns. with_exceptions ns (option_map_or (λ m. with_profiles m (named [] name)) o (named [] name))) o (option_map_or (λ m. with_profiles m (named [] name)) o (named [] name))

      by_option : (o : Option Namespace) → found p.namespaces name ≡ o → both_of o ≡ unwrap_or o (empty_namespace name)
      by_option None e = refl
      by_option (Some ns) e = ap (λ (n : Text). record ns { name = n }) (sym (found_named p.namespaces name ns e))

-- Domains

-- where namespaces are the same by name, so are profiles
profiles_again : (base p : Policy) (domain : Domain) → ((name : Text) → namespace_named base name ≡ namespace_named p name) → profile_of base domain ≡ profile_of p domain
profiles_again base p domain same = ap (λ (ns : Namespace). at_key ns.profiles domain.profile) (same (namespace_word domain.name))

-- each live domain can be written, and its profile is there
ready_by
    : (base : Policy) (domains : List Domain) → AllByRecursion IsWrittenDomain domains → AllByRecursion (λ (x : Domain). x.live ≡ true → is_some (profile_of base x) ≡ true) domains
    → AllByRecursion (λ (x : Domain). x.live ≡ true → Ready base x) domains
ready_by base [] written there = tt
ready_by base (x ∷ domains) written there = (λ live. record { written = written.0; defined = there.0 live }, ready_by base domains written.1 there.1)

-- Opening

none_wants : (t : Domain → Bool) (i : ℕ) (domains : List Domain) → AllByRecursion (λ (x : Domain). t x ≡ false) domains → position_from t i domains ≡ None
none_wants t i [] h = refl
none_wants t i (x ∷ domains) h = rw h.0 (none_wants t (i + 1) domains h.1)

-- each live domain among them has its profile
live_ones : (q : Policy) (domains : List Domain) → AllByRecursion (λ (x : Domain). x.live ≡ true → is_some (profile_of q x) ≡ true) domains → AllByRecursion (λ (x : Domain). wants_profile q x ≡ false) (filter is_live domains)
live_ones q [] h = tt
live_ones q (x ∷ domains) h = by_life x.live refl (live_ones q domains h.1)
  where
    wants : x.live ≡ true → wants_profile q x ≡ false
    wants live = rw (live, h.0 live) refl

    by_life
        : (b : Bool) → x.live ≡ b → AllByRecursion (λ (y : Domain). wants_profile q y ≡ false) (filter is_live domains)
        → AllByRecursion (λ (y : Domain). wants_profile q y ≡ false) (cond b (x ∷ filter is_live domains) (filter is_live domains))
    by_life true live rest = (wants live, rest)
    by_life false live rest = rest

-- All four texts

module _ (p : Policy) (o : IsOpened p) (h : IsWritten p) where
  -- after the profiles and the exceptions
  spaced_policy : Policy
  spaced_policy = with_spaces new_policy (exceptions_fill p h).after

  first_texts : (load_file tomoyo_grammar FileKind.Profile (profile_text p) new_policy ≡ Ok (with_spaces new_policy (profiles_fill p h).after))
      × (load_file tomoyo_grammar FileKind.Exception (exception_text p) (with_spaces new_policy (profiles_fill p h).after) ≡ Ok spaced_policy)
  unfolding spaced_policy
  first_texts = (
    loads_file FileKind.Profile (profile_text p) new_policy (with_spaces new_policy (profiles_fill p h).after) None (profiles_fill p h).loads,
    loads_file FileKind.Exception (exception_text p) (with_spaces new_policy (profiles_fill p h).after) (with_spaces new_policy (exceptions_fill p h).after) None (exceptions_fill p h).loads,
  )

  same_spaces : (name : Text) → namespace_named spaced_policy name ≡ namespace_named p name
  unfolding spaced_policy
  same_spaces name = named_in (with_spaces new_policy (exceptions_fill p h).after) name ∙ spaces_again p h name ∙ sym (named_in p name)

  profiles_there : AllByRecursion (λ (x : Domain). x.live ≡ true → is_some (profile_of spaced_policy x) ≡ true) p.domains
  profiles_there =
      all_by_place (λ (x : Domain). x.live ≡ true → is_some (profile_of spaced_policy x) ≡ true) p.domains
      (λ k x at live. ap (λ (found_ : Option _). is_some found_) (profiles_again spaced_policy p x same_spaces) ∙ o.profiles k x at live)

  -- after the domains
  peopled_policy : Policy
  peopled_policy = with_domains spaced_policy (filter is_live p.domains)

  third_text : load_file tomoyo_grammar FileKind.Domain (domain_text p) spaced_policy ≡ Ok peopled_policy
  unfolding spaced_policy peopled_policy domain_text
  third_text =
      let base : Policy = with_spaces new_policy (exceptions_fill p h).after in
      let come = domains_back base refl p.domains o.kernel_first.0 o.kernel_first.1 o.kernel_first.2 o.kernel_first.3 o.one_live (ready_by base p.domains h.domains profiles_there) in
      loads_file FileKind.Domain (flat_map live_text p.domains) base (with_domains base (filter is_live p.domains)) come.cursor come.loads

  -- after the managers
  managed_policy : Policy
  managed_policy = with_managers peopled_policy p.by_non_root p.managers

  fourth_text : load_file tomoyo_grammar FileKind.Manager (manager_text p) peopled_policy ≡ Ok managed_policy
  unfolding spaced_policy peopled_policy managed_policy
  fourth_text =
      loads_file FileKind.Manager (manager_text p) peopled_policy managed_policy None
      (managers_load peopled_policy None p refl refl h.managers h.managers_once)

  -- opened
  loaded_policy : Policy
  loaded_policy = record managed_policy { opened = true }

  opens : open_policy managed_policy ≡ Ok loaded_policy
  unfolding spaced_policy peopled_policy managed_policy loaded_policy namespace_named
  opens =
      rw (none_wants (wants_profile managed_policy) 0 (filter is_live p.domains) (live_ones managed_policy p.domains profiles_there)) refl

  load_all : load tomoyo_grammar (policy_text p) ≡ Ok loaded_policy
  unfolding load
  load_all = rw (first_texts.0, first_texts.1, third_text, fourth_text) opens

  same_live : SamePolicy loaded_policy (live_part p)
  unfolding spaced_policy peopled_policy managed_policy loaded_policy namespace_named
  same_live = record { domains = refl; namespaces = same_spaces; by_non_root = refl; managers = refl; opened = sym o.opened }

-- what was printed is loaded again
pub texts_back : (p : Policy) → IsOpened p → IsWritten p → LoadsBack tomoyo_grammar policy_text p
texts_back p o h = (loaded_policy p o h, load_all p o h, same_live p o h)
