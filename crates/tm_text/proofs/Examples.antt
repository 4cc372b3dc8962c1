-- Worked examples: the printed domains and managers, and the order of namespaces.
use Rattle.std.specs.Prelude.{◌≡◌, ℕ, Bool, true, false, List, [], ◌∷◌, codes, map, refl}
use Rattle.std.specs.Fmt.{digits}
use Rattle.tm_word.specs.Prelude.{Text}
use Rattle.tm_rules.specs.Types.{Domain, Policy}
use Rattle.tm_rules.specs.Prelude.{empty_namespace, kernel}
use Rattle.tm_text.specs.DomainText.{block_text, domain_text}
use Rattle.tm_text.specs.ManagerText.{manager_text}
use Rattle.tm_text.specs.ProfileText.{comes_before, by_name}

-- a domain of that name in profile 1, without entries
pub domain_of : Text → Bool → List (ℕ × Unit {0}) → Bool → Bool → Domain
domain_of name live groups quota transition =
    record { name = name; live = live; profile = 1; groups = groups; quota_exceeded = quota; transition_failed = transition; entries = [] }

-- a policy of these domains and managers
pub policy_of : List Domain → Bool → List Text → Policy
policy_of domains by_non_root managers = record { namespaces = []; domains = domains; by_non_root = by_non_root; managers = managers; opened = false }

-- a domain ends with an empty line
pub kernel_alone : domain_text (policy_of (domain_of kernel true [] false false ∷ []) false []) ≡ codes "<kernel>\nuse_profile 1\n\n"
unfolding domain_text block_text domain_of policy_of digits
kernel_alone = refl

-- groups by their numbers, then the flags that are set
pub groups_and_flags
    : domain_text (policy_of (domain_of kernel true ((3, tt) ∷ (255, tt) ∷ []) true false ∷ domain_of (codes "<kernel> /a") true [] true true ∷ []) false [])
    ≡ codes "<kernel>\nuse_profile 1\nuse_group 3\nuse_group 255\nquota_exceeded\n\n<kernel> /a\nuse_profile 1\nquota_exceeded\ntransition_failed\n\n"
unfolding domain_text block_text domain_of policy_of digits
groups_and_flags = refl

-- a domain that isn't live prints nothing
pub dead_between
    : domain_text (policy_of (domain_of kernel true [] false false ∷ domain_of (codes "<kernel> /a") false [] true true ∷ []) false [])
    ≡ codes "<kernel>\nuse_profile 1\n\n"
unfolding domain_text block_text domain_of policy_of digits
dead_between = refl

-- managers in written order, after `manage_by_non_root`
pub managers_in_order
    : manager_text (policy_of [] true (codes "/usr/sbin/b" ∷ codes "<kernel> /a" ∷ [])) ≡ codes "manage_by_non_root\n/usr/sbin/b\n<kernel> /a\n"
unfolding manager_text policy_of
managers_in_order = refl

pub managers_alone : manager_text (policy_of [] false (codes "/a" ∷ [])) ≡ codes "/a\n"
unfolding manager_text policy_of
managers_alone = refl

-- `/` is a lesser byte than `k`
pub slash_first : comes_before (codes "</s>") kernel ≡ true
slash_first = refl

pub front_first : comes_before (codes "<a") (codes "<a>") ≡ true
front_first = refl

pub not_before_itself : comes_before kernel kernel ≡ false
not_before_itself = refl

-- three namespaces in another order than they are written
pub three_by_name
    : map (λ ns. ns.name) (by_name (empty_namespace kernel ∷ empty_namespace (codes "<z>") ∷ empty_namespace (codes "</s>") ∷ []))
    ≡ codes "</s>" ∷ kernel ∷ codes "<z>" ∷ []
unfolding by_name
three_by_name = refl
