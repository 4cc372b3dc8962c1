-- Where a name leads.
use Rattle.std.proofs.Common.{◌≡◌, ℕ, ◌+◌, List, [], ◌∷◌, Bool, true, false, ◌&&◌, refl, sym, ap, ◌∙◌}
use Rattle.std.specs.Prelude.{Option, Some, None, Ok, Err}
use Rattle.std.specs.List.{AllByRecursion, position_from}
use Rattle.tm_word.specs.Prelude.{Fails, Text, texts_equal}
use Rattle.tm_rules.specs.Prelude.{DomainName, can_enter, is_domain_name, live_domain, namespace_word}
use Rattle.tm_rules.specs.Types.{Domain, Move, Policy}
use Rattle.tm_legal.specs.Prelude.{IsNamed, made, move_to}
use Rattle.tm_domain.specs.declared.DomainFault.{DomainFault}
use Rattle.tm_domain.specs.declared.DomainFault.TheVariants.{NoMemory, NoNamespace, BadPath, TooLong}
use Rattle.tm_domain.specs.Names.{domain_cause, domain_of, is_path, is_read}
use Rattle.tm_domain.proofs.NameLaws.{right_name, same_texts}
use Rattle.tm_verdict.specs.declared.targets.Way.{Way}
use Rattle.tm_verdict.specs.Leading.{way_to}

abbrev way : Bool → Bool → Move → Option DomainName → Way
way ready strict step target = record { ready = ready; strict = strict; leads = record { step = step; target = target } }

-- a text that can't be read is no right name, and one that is read is
pub unread : (name : Text) (fault : DomainFault) → domain_of name ≡ Err fault → is_domain_name is_path name ≡ false
unread name fault e = right_name name ∙ ap is_read e

pub readable : (name made : Text) → domain_of name ≡ Ok made → is_domain_name is_path name ≡ true
readable name made e = right_name name ∙ ap is_read e

-- no live domain has a name that isn't right
none_live : (policy : Policy) (name : DomainName) → IsNamed is_path policy → is_domain_name is_path name ≡ false → live_domain policy name ≡ None
unfolding live_domain
none_live policy name named wrong = go 0 policy.domains named
  where
    other : (domain : Domain) → is_domain_name is_path domain.name ≡ true → (live same : Bool) → texts_equal domain.name name ≡ same → (live && same) ≡ false
    other domain right false same e = refl
    other domain right true false e = refl
    other domain right true true e = absurd (let is : domain.name ≡ name = same_texts domain.name name e in let both : true ≡ false = sym right ∙ ap (is_domain_name is_path) is ∙ wrong in cc)

    go : (n : ℕ) (domains : List Domain) → AllByRecursion (λ (domain : Domain). is_domain_name is_path domain.name ≡ true) domains → position_from (λ domain. domain.live && texts_equal domain.name name) n domains ≡ None
    go n [] all = refl
    go n (domain ∷ domains) all = rw (other domain all.0 domain.live (texts_equal domain.name name) refl) (go (n + 1) domains all.1)

module _ (policy : Policy) (domain : Domain) (strict : Bool) (name : DomainName) where
  -- a live domain is entered
  pub to_live : (n : ℕ) → live_domain policy name ≡ Some n → way true strict (Move.Enter n) None ≡ way_to is_path policy domain strict (Some name)
  unfolding move_to can_enter
  to_live n is = rw is refl

  -- a right name of the domain's own namespace is made
  pub to_new : live_domain policy name ≡ None → is_domain_name is_path name ≡ true → texts_equal (namespace_word name) (namespace_word domain.name) ≡ true → way true strict Move.Make (Some name) ≡ way_to is_path policy domain strict (Some name)
  unfolding move_to can_enter
  to_new none right own = rw (none, right, own) refl

  -- another one can't be entered
  pub to_other : live_domain policy name ≡ None → is_domain_name is_path name ≡ true → texts_equal (namespace_word name) (namespace_word domain.name) ≡ false → way false strict Move.Fail None ≡ way_to is_path policy domain strict (Some name)
  unfolding move_to can_enter
  to_other none right own = rw (none, right, own) refl

  -- neither can a text that is no name
  pub to_nothing : (fault : DomainFault) → IsNamed is_path policy → domain_of name ≡ Err fault → way false strict Move.Fail None ≡ way_to is_path policy domain strict (Some name)
  unfolding move_to can_enter
  to_nothing fault named e = let wrong : is_domain_name is_path name ≡ false = unread name fault e in rw (none_live policy name named wrong, wrong) refl

  -- whatever is wrong with it
  pub to_nowhere : (fault : DomainFault) → IsNamed is_path policy → ¬ (fault ≡ NoMemory) → Fails (domain_cause fault) (domain_of name) → way false strict Move.Fail None ≡ way_to is_path policy domain strict (Some name)
  to_nowhere NoMemory named other fails = absurd (other refl)
  to_nowhere NoNamespace named other fails = to_nothing NoNamespace named fails
  to_nowhere (BadPath place) named other fails = to_nothing (BadPath place) named fails
  to_nowhere TooLong named other fails = to_nothing TooLong named fails
