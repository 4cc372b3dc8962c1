-- What the index of a policy tells after a line of the manager, the profile or the exception file.
use Rattle.std.proofs.Common.{◌≡◌, ◌⊎◌, inl, inr, ℕ, suc, Bool, true, false, if◌then◌else◌, List, [], ◌∷◌, ◌++◌, map, length, refl, sym, ap, subst, ◌∙◌, arith}
use mathlib.Core.Path.{fun_ext}
use Rattle.std.specs.Prelude.{Result, Ok, Err, IfOk, OnErr, unwrap_or}
use Rattle.std.specs.List.{list_any}
use Rattle.tm_word.specs.Prelude.{Text, texts_equal}
use Rattle.tm_rules.specs.Prelude.{Cursor, Edited, apply_read, at_key, changing_namespace, edited, empty_namespace, except_added, except_line, except_removed, except_there, in_namespace, leaving, manager_line, namespace_named, profile_line, refused}
use Rattle.tm_rules.specs.Types.{EditReply, Entry, ExceptRule, ManagerRule, Namespace, Policy, PolicyLine, ProfileEffect}
use Rattle.tm_index.specs.Listing.{Listed, listing}
use Rattle.tm_index.specs.Index.{telling, groups_listing}
use Rattle.tm_index.specs.Groups.{noting_lists}
use Rattle.tm_indexed.specs.Kinds.{is_setting}
use Rattle.tm_index.proofs.TellingLaws.{told_equal}
use Rattle.tm_indexed.proofs.LineLaws.{either}

-- managers are noted nowhere
pub manager_told : (policy : Policy) (cursor : Cursor) (delete : Bool) (rule : ManagerRule) → telling policy ≡ telling (manager_line policy cursor delete rule).policy
unfolding manager_line telling
manager_told policy cursor false ManagerRule.ByNonRoot = refl
manager_told policy cursor true ManagerRule.ByNonRoot = either policy policy.by_non_root (edited (record policy { by_non_root = false }) cursor) (refused policy cursor EditReply.NoSuchLine) refl refl
manager_told policy cursor false (ManagerRule.Name name) = refl
manager_told policy cursor true (ManagerRule.Name name) =
    either policy (list_any (texts_equal name) policy.managers) (edited (record policy { managers = leaving texts_equal name policy.managers }) cursor) (refused policy cursor EditReply.NoSuchLine) refl refl

abbrev no_groups : ℕ → Listed
no_groups number = listing []

-- a change that leaves the ACL groups leaves what is noted of a namespace; one that is made has
-- none
abbrev Stays : (Namespace → Namespace) → List Namespace → Text → Type 0
Stays change spaces name = (map groups_listing (in_namespace name change spaces) ≡ map groups_listing spaces) × (length (in_namespace name change spaces) ≡ length spaces)

abbrev Comes : (Namespace → Namespace) → List Namespace → Text → Type 0
Comes change spaces name = (map groups_listing (in_namespace name change spaces) ≡ map groups_listing spaces ++ no_groups ∷ []) × (length (in_namespace name change spaces) ≡ suc (length spaces))

in-namespace : (name : Text) (change : Namespace → Namespace) → ((ns : Namespace) → (change ns).acl_groups ≡ ns.acl_groups) → (spaces : List Namespace) → Stays change spaces name ⊎ Comes change spaces name
in-namespace name change keeps [] = inr (ap (λ g. g ∷ []) (fun_ext (λ number. ap (λ (groups : List (ℕ × List Entry)). listing (unwrap_or (at_key groups number) [])) (keeps (empty_namespace name)))), refl)
in-namespace name change keeps (ns ∷ spaces) = go (texts_equal ns.name name) (in-namespace name change keeps spaces)
  where
    next : Stays change spaces name ⊎ Comes change spaces name
        → ((map groups_listing (ns ∷ in_namespace name change spaces) ≡ map groups_listing (ns ∷ spaces)) × (length (ns ∷ in_namespace name change spaces) ≡ length (ns ∷ spaces)))
        ⊎ ((map groups_listing (ns ∷ in_namespace name change spaces) ≡ map groups_listing (ns ∷ spaces) ++ no_groups ∷ []) × (length (ns ∷ in_namespace name change spaces) ≡ suc (length (ns ∷ spaces))))
    next (inl h) = inl (ap (λ t. groups_listing ns ∷ t) h.0, ap suc h.1)
    next (inr h) = inr (ap (λ t. groups_listing ns ∷ t) h.0, ap suc h.1)

    go : (b : Bool) → Stays change spaces name ⊎ Comes change spaces name
        → ((map groups_listing (if b then change ns ∷ spaces else ns ∷ in_namespace name change spaces) ≡ map groups_listing (ns ∷ spaces)) × (length (if b then change ns ∷ spaces else ns ∷ in_namespace name change spaces) ≡ length (ns ∷ spaces)))
        ⊎ ((map groups_listing (if b then change ns ∷ spaces else ns ∷ in_namespace name change spaces) ≡ map groups_listing (ns ∷ spaces) ++ no_groups ∷ []) × (length (if b then change ns ∷ spaces else ns ∷ in_namespace name change spaces) ≡ suc (length (ns ∷ spaces))))
    go true ih = inl (ap (λ g. g ∷ map groups_listing spaces) (fun_ext (λ number. ap (λ (groups : List (ℕ × List Entry)). listing (unwrap_or (at_key groups number) [])) (keeps ns))), refl)
    go false ih = next ih

-- what is noted after a line of those files: what was, where no namespace is made, and one without
-- ACL groups besides where one is
pub record Grows (old new : Policy) : Type 0 where
  pub stays : length new.namespaces ≡ length old.namespaces → telling old ≡ telling new
  pub comes : (length new.namespaces ≡ length old.namespaces → ⊥) → noting_lists no_groups (telling old) ≡ telling new

grows-same : (policy : Policy) → Grows policy policy
grows-same policy = record { stays = λ h. refl; comes = λ h. absurd (h refl) }

grows-changed : (policy : Policy) (name : Text) (change : Namespace → Namespace) → ((ns : Namespace) → (change ns).acl_groups ≡ ns.acl_groups) → Grows policy (changing_namespace policy name change)
unfolding telling
grows-changed policy name change keeps = go (in-namespace name change keeps policy.namespaces)
  where
    go : Stays change policy.namespaces name ⊎ Comes change policy.namespaces name → Grows policy (changing_namespace policy name change)
    go (inl h) =
        record {
          stays = λ same. told_equal (telling policy) (telling (changing_namespace policy name change)) refl (sym h.0) refl;
          comes = λ other. absurd (other h.1);
        }
    go (inr h) =
        record {
          stays = λ same. absurd (omega (arith, same, h.1));
          comes = λ other. told_equal (noting_lists no_groups (telling policy)) (telling (changing_namespace policy name change)) refl (sym h.0) refl;
        }

profile-keeps : (effect : ProfileEffect) (ns : Namespace) → (profile_line effect ns).acl_groups ≡ ns.acl_groups
unfolding profile_line
profile-keeps ProfileEffect.Version ns = refl
profile-keeps (ProfileEffect.Comment n text) ns = refl
profile-keeps (ProfileEffect.Preference n audit learning) ns = refl
profile-keeps (ProfileEffect.Config n setting) ns = refl
profile-keeps (ProfileEffect.Slot n name setting) ns = refl

added-keeps : (rule : ExceptRule) (ns : Namespace) → (except_added rule ns).acl_groups ≡ ns.acl_groups
unfolding except_added
added-keeps (ExceptRule.PathGroup name member) ns = refl
added-keeps (ExceptRule.NumberGroup name member) ns = refl
added-keeps (ExceptRule.AddressGroup name member) ns = refl
added-keeps (ExceptRule.Aggregator f s) ns = refl
added-keeps (ExceptRule.Control control) ns = refl
added-keeps (ExceptRule.Acl n words) ns = refl

removed-keeps : (rule : ExceptRule) (ns : Namespace) → (except_removed rule ns).acl_groups ≡ ns.acl_groups
unfolding except_removed
removed-keeps (ExceptRule.PathGroup name member) ns = refl
removed-keeps (ExceptRule.NumberGroup name member) ns = refl
removed-keeps (ExceptRule.AddressGroup name member) ns = refl
removed-keeps (ExceptRule.Aggregator f s) ns = refl
removed-keeps (ExceptRule.Control control) ns = refl
removed-keeps (ExceptRule.Acl n words) ns = refl

grows-either : (policy : Policy) (b : Bool) (x y : Edited) → Grows policy x.policy → Grows policy y.policy → Grows policy (if b then x else y).policy
grows-either policy true x y g h = g
grows-either policy false x y g h = h

except-grows : (policy : Policy) (cursor : Cursor) (delete : Bool) (name : Text) (rule : ExceptRule) → Grows policy (except_line policy cursor delete name rule).policy
unfolding except_line
except-grows policy cursor false name rule = grows-changed policy name (except_added rule) (added-keeps rule)
except-grows policy cursor true name rule =
    grows-either policy (except_there rule (namespace_named policy name)) (edited (changing_namespace policy name (except_removed rule)) cursor) (refused policy cursor EditReply.NoSuchLine)
    (grows-changed policy name (except_removed rule) (removed-keeps rule)) (grows-same policy)

setting-grows : (policy : Policy) (cursor : Cursor) (line : PolicyLine) → is_setting line ≡ true → Grows policy (apply_read policy cursor line).policy
unfolding apply_read
setting-grows policy cursor PolicyLine.Nothing h = absurd cc
setting-grows policy cursor (PolicyLine.Profile line) h = grows-changed policy line.namespace (profile_line line.effect) (profile-keeps line.effect)
setting-grows policy cursor (PolicyLine.Exception line) h = except-grows policy cursor line.delete line.namespace line.rule
setting-grows policy cursor (PolicyLine.Group line) h = absurd cc
setting-grows policy cursor (PolicyLine.Domain rule) h = absurd cc
setting-grows policy cursor (PolicyLine.Manager delete rule) h = absurd cc

pub setting_told : (policy new : Policy) (cursor after : Cursor) (reply : EditReply) (line : PolicyLine) → is_setting line ≡ true → apply_read policy cursor line ≡ record { policy = new; cursor = after; reply = reply } → Grows policy new
setting_told policy new cursor after reply line h e = subst (λ (x : Edited). Grows policy x.policy) e (setting-grows policy cursor line h)
