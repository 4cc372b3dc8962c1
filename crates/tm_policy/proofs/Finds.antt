-- What a search in a domain finds, and the definition.
use Rattle.std.proofs.Common.{◌≡◌, ℕ, true, false, [], ◌++◌, refl, ap, append-nil}
use Rattle.std.specs.Prelude.{Option, Some, None, option_map, unwrap_or}
use Rattle.std.specs.List.{find}
use Rattle.tm_word.specs.Prelude.{Text, Word, texts_equal}
use Rattle.tm_rules.specs.Types.{Domain, EntryPlace, Groups, Namespace, Policy, Proc, Request}
use Rattle.tm_rules.specs.Prelude.{aggregated, domain_at, empty_namespace, entries_of, first, found, found_of, is_execute, namespace_named, namespace_of, namespace_word, path_of, placed}
use Rattle.tm_policy.specs.Searching.{Asked, found_in, acl_entries}
use Rattle.tm_policy.proofs.Lists.{no_groups}

abbrev asked_of : Groups → Proc → Request → Option Word → Asked
asked_of groups process request path = record { groups = groups; process = process; request = request; path = path }

-- an execute is searched for by its aggregated name
pub found_execute : (ns : Namespace) (domain : Domain) (process : Proc) (request : Request) (name : Word) → is_execute request ≡ true → name ≡ aggregated ns (path_of request)
    → found_in (asked_of ns.groups process request (Some name)) (placed EntryPlace.Own 0 domain.entries ++ acl_entries ns.acl_groups domain.groups) ≡ option_map found_of (first ns domain process request)
unfolding first entries_of
found_execute ns domain process request name h e = rw (e, h) refl

-- every other request as it is
pub found_plain : (ns : Namespace) (domain : Domain) (process : Proc) (request : Request) → is_execute request ≡ false
    → found_in (asked_of ns.groups process request None) (placed EntryPlace.Own 0 domain.entries ++ acl_entries ns.acl_groups domain.groups) ≡ option_map found_of (first ns domain process request)
unfolding first entries_of
found_plain ns domain process request h = rw h refl

abbrev no_members : Groups
no_members = record { paths = []; numbers = []; addrs = [] }

-- the same in a namespace without lines
pub alone_execute : (name : Text) (domain : Domain) (process : Proc) (request : Request) (path : Option Word) → is_execute request ≡ true → path ≡ Some (path_of request)
    → found_in (asked_of no_members process request path) (placed EntryPlace.Own 0 domain.entries) ≡ option_map found_of (first (empty_namespace name) domain process request)
unfolding first entries_of aggregated
alone_execute name domain process request path h e = rw (e, h, no_groups domain.groups, append-nil (placed EntryPlace.Own 0 domain.entries)) refl

pub alone_plain : (name : Text) (domain : Domain) (process : Proc) (request : Request) → is_execute request ≡ false
    → found_in (asked_of no_members process request None) (placed EntryPlace.Own 0 domain.entries) ≡ option_map found_of (first (empty_namespace name) domain process request)
unfolding first entries_of
alone_plain name domain process request h = rw (h, no_groups domain.groups, append-nil (placed EntryPlace.Own 0 domain.entries)) refl

-- the namespace of a domain: the one of that name that has a line, else an empty one
pub namespace-found : (policy : Policy) (domain : Domain) (ns : Namespace) → find (λ (n : Namespace). texts_equal n.name (namespace_word domain.name)) policy.namespaces ≡ Some ns → namespace_of policy domain ≡ ns
unfolding namespace_named
namespace-found policy domain ns e = ap (λ o. unwrap_or o (empty_namespace (namespace_word domain.name))) e

pub namespace-none : (policy : Policy) (domain : Domain) → find (λ (n : Namespace). texts_equal n.name (namespace_word domain.name)) policy.namespaces ≡ None → namespace_of policy domain ≡ empty_namespace (namespace_word domain.name)
unfolding namespace_named
namespace-none policy domain e = ap (λ o. unwrap_or o (empty_namespace (namespace_word domain.name))) e

-- what is found in the domain that is there
pub found-there : (policy : Policy) (d : ℕ) (process : Proc) (request : Request) (domain : Domain) → domain_at policy d ≡ Some domain → found policy d process request ≡ option_map found_of (first (namespace_of policy domain) domain process request)
unfolding found
found-there policy d process request domain e = rw e refl

pub found-nowhere : (policy : Policy) (d : ℕ) (process : Proc) (request : Request) → domain_at policy d ≡ None → found policy d process request ≡ None
unfolding found
found-nowhere policy d process request e = rw e refl
