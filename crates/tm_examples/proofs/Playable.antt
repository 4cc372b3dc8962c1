-- There is a scene that can be played, with a supervisor: the premises of the laws of plays can be
-- met.
use Rattle.std.proofs.Common.{◌≡◌, ℕ, zero, suc, [], ◌∷◌, true, refl}
use Rattle.std.specs.Prelude.{Some, None, IsSome}
use Rattle.tm_rules.specs.Types.{Answer, Domain, ListWords, Policy}
use Rattle.tm_rules.specs.Prelude.{domain_at, is_request, profile_of}
use Rattle.tm_legal.specs.Prelude.{CanPlay, IsOpened, Scene}
use Rattle.tm_examples.proofs.Examples.{computed, «<kernel>», kernel_namespace, domain, policy_of, read, tree}
use Rattle.tm_legal.proofs.BareGrammar.{bare, bare-is}

abbrev one_domain : Policy
one_domain = policy_of kernel_namespace (domain «<kernel>» 1 [] ∷ [])

abbrev any_words : ListWords
any_words = record { patterns = []; any = true }

abbrev small : Scene
small = record { grammar = bare; policy = one_domain; trace = tree 7 (read (47 ∷ 97 ∷ []) ∷ []) ∷ []; editors = []; book = Some (record { rules = record { retries = 2; last = Answer.Yes; domain = any_words; line = any_words } ∷ []; stop = None }) }

one_place : (d : ℕ) (x : Domain) → domain_at one_domain d ≡ Some x → d ≡ 0
one_place zero x at = refl
one_place (suc d) x at = absurd cc

small-opened : IsOpened one_domain
unfolding computed
small-opened =
    record {
      opened = refl;
      one_live = λ d e x y at there live alive same. rw (one_place d x at, one_place e y there) refl;
      kernel_first = (domain «<kernel>» 1 [], refl, refl, refl);
      profiles = profiles;
      aggregators = (tt, tt);
    }
  where
    profiles : (d : ℕ) (x : Domain) → domain_at one_domain d ≡ Some x → x.live ≡ true → IsSome (profile_of one_domain x)
    profiles zero x at live = let same : domain «<kernel>» 1 [] ≡ x = cc in rw (← same) refl
    profiles (suc d) x at live = absurd cc

-- the laws of plays speak of this scene
pub small_can_play : CanPlay small
unfolding computed is_request
small_can_play = record { grammar = bare-is; opened = small-opened; named = (refl, tt); starts = (refl, tt); requests = (refl, tt); answers = refl }
