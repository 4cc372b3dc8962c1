-- What the index of a policy tells after a line of the domain file.
use Rattle.std.proofs.Common.{◌≡◌, ℕ, Bool, true, false, ◌&&◌, not, if◌then◌else◌, [], ◌∷◌, ◌++◌, length, refl, sym, ap, ◌∙◌}
use Rattle.std.specs.Prelude.{Option, Some, None, Result, Ok, Err, IfOk, OnErr, is_some}
use Rattle.std.specs.Option.{option_and_then, option_map_or}
use Rattle.std.specs.List.{position_from}
use Rattle.tm_rules.specs.Prelude.{Cursor, DomainName, Edited, adding, at_key, changed_domain, chosen, count, domain_at, domain_line, edited, live_domain, namespace_word, new_domain, on_chosen, profile_numbered, put_key, refused, remove_key, same_line, with_domain}
use Rattle.tm_rules.specs.Types.{Domain, DomainRule, EditReply, Entry, Policy}
use Rattle.tm_index.specs.Labels.{label_of}
use Rattle.tm_index.specs.Listing.{Listed, noting}
use Rattle.tm_index.specs.Index.{telling, noting_in, counting_in, noting_domain}
use Rattle.tm_change_domains.specs.Properties.{is_property}
use Rattle.tm_indexed.specs.Kinds.{is_refused}
use Rattle.tm_index.proofs.ListingLaws.{listing_added, listing_joined}
use Rattle.tm_indexed.proofs.ChangeLaws.{changed_twice, pair_by, telling_changed, telling_kept}
use Rattle.tm_indexed.proofs.MakeLaws.{telling_grown}

-- a line that joined an entry: only the count is new
pub added_joined : (policy new : Policy) (number permissions k : ℕ) (line : Entry) (domain : Domain) → domain_at policy number ≡ Some domain → new ≡ with_domain policy number (record domain { entries = adding line domain.entries })
    → permissions ≡ count (record domain { entries = adding line domain.entries }) → position_from (λ (entry : Entry). same_line entry line) 0 domain.entries ≡ Some k → counting_in number permissions (telling policy) ≡ telling new
added_joined policy new number permissions k line domain there made counted found =
    telling_changed policy number domain (record domain { entries = adding line domain.entries }) there refl refl (λ (d : Listed × ℕ). (d.0, permissions)) (pair_by (sym (listing_joined line domain.entries k found)) (sym counted)) ∙ ap telling (sym made)

-- a line that went last: it is noted, and the count is new
pub added_new : (policy new : Policy) (number permissions : ℕ) (line : Entry) (domain : Domain) → domain_at policy number ≡ Some domain → new ≡ with_domain policy number (record domain { entries = adding line domain.entries })
    → permissions ≡ count (record domain { entries = adding line domain.entries }) → position_from (λ (entry : Entry). same_line entry line) 0 domain.entries ≡ None
    → counting_in number permissions (noting_in number (label_of line) (length domain.entries) (telling policy)) ≡ telling new
added_new policy new number permissions line domain there made counted none =
    changed_twice number (label_of line) (length domain.entries) permissions (telling policy)
    ∙ telling_changed policy number domain (record domain { entries = adding line domain.entries }) there refl refl (λ (d : Listed × ℕ). (noting (label_of line) (length domain.entries) d.0, permissions)) (pair_by (sym (listing_added line domain.entries none)) (sym counted))
    ∙ ap telling (sym made)

abbrev pub some_pair : ℕ → Domain → Option (ℕ × Domain)
some_pair d domain = Some (d, domain)

-- the chosen domain is there
pub chosen-there : (policy : Policy) (cursor : Cursor) (d : ℕ) (domain : Domain) → chosen policy cursor ≡ Some (d, domain) → domain_at policy d ≡ Some domain
chosen-there policy None d domain e = absurd cc
chosen-there policy (Some n) d domain e = go (domain_at policy n) refl e
  where
    inner : (x : Domain) (live : Bool) → domain_at policy n ≡ Some x → (if live then some_pair n x else None) ≡ some_pair d domain → domain_at policy d ≡ Some domain
    inner x true h f =
        let left : ℕ × Domain = (n, x) in
        let right : ℕ × Domain = (d, domain) in
        let both : left ≡ right = cc in
        ap (domain_at policy) (sym (ap (λ (p : ℕ × Domain). p.0) both)) ∙ h ∙ ap (λ (p : ℕ × Domain). Some p.1) both
    inner x false h f = absurd cc

    go : (o : Option Domain) → domain_at policy n ≡ o → option_and_then (λ (x : Domain). if x.live then some_pair n x else None) o ≡ some_pair d domain → domain_at policy d ≡ Some domain
    go None h f = absurd cc
    go (Some x) h f = inner x x.live h f

-- a change of the chosen domain
on-chosen : (policy : Policy) (cursor : Cursor) (change : ℕ → Domain → Edited) → ((d : ℕ) (domain : Domain) → domain_at policy d ≡ Some domain → telling policy ≡ telling (change d domain).policy) → telling policy ≡ telling (on_chosen policy cursor change).policy
on-chosen policy cursor change each = go (chosen policy cursor) refl
  where
    go : (o : Option (ℕ × Domain)) → chosen policy cursor ≡ o → telling policy ≡ telling (option_map_or (λ (p : ℕ × Domain). change p.0 p.1) o (refused policy cursor EditReply.NoDomain)).policy
    go None h = refl
    go (Some p) h = each p.0 p.1 (chosen-there policy cursor p.0 p.1 h)

pub either : (policy : Policy) (b : Bool) (x y : Edited) → telling policy ≡ telling x.policy → telling policy ≡ telling y.policy → telling policy ≡ telling (if b then x else y).policy
either policy true x y e f = e
either policy false x y e f = f

-- a line on a property of the chosen domain leaves what is noted
pub property_told : (policy : Policy) (cursor : Cursor) (rule : DomainRule) → is_property rule ≡ true → telling policy ≡ telling (domain_line policy cursor rule).policy
unfolding domain_line count
property_told policy cursor (DomainRule.Choose name) h = absurd cc
property_told policy cursor (DomainRule.Select name) h = absurd cc
property_told policy cursor (DomainRule.Delete name) h = absurd cc
property_told policy cursor (DomainRule.UseProfile n) h =
    on-chosen policy cursor _
    (λ d domain there.
    either policy (is_some (profile_numbered policy (namespace_word domain.name) n)) (changed_domain policy cursor d (record domain { profile = n })) (refused policy cursor EditReply.NoProfile)
    (telling_kept policy d domain (record domain { profile = n }) there refl refl refl) refl)
property_told policy cursor (DomainRule.UseGroup false n) h = on-chosen policy cursor _ (λ d domain there. telling_kept policy d domain (record domain { groups = put_key n tt domain.groups }) there refl refl refl)
property_told policy cursor (DomainRule.UseGroup true n) h =
    on-chosen policy cursor _
    (λ d domain there.
    either policy (is_some (at_key domain.groups n)) (changed_domain policy cursor d (record domain { groups = remove_key n domain.groups })) (refused policy cursor EditReply.NoSuchLine)
    (telling_kept policy d domain (record domain { groups = remove_key n domain.groups }) there refl refl refl) refl)
property_told policy cursor (DomainRule.QuotaExceeded false) h = on-chosen policy cursor _ (λ d domain there. telling_kept policy d domain (record domain { quota_exceeded = true }) there refl refl refl)
property_told policy cursor (DomainRule.QuotaExceeded true) h =
    on-chosen policy cursor _
    (λ d domain there.
    either policy domain.quota_exceeded (changed_domain policy cursor d (record domain { quota_exceeded = false })) (refused policy cursor EditReply.NoSuchLine)
    (telling_kept policy d domain (record domain { quota_exceeded = false }) there refl refl refl) refl)
property_told policy cursor (DomainRule.TransitionFailed false) h = on-chosen policy cursor _ (λ d domain there. telling_kept policy d domain (record domain { transition_failed = true }) there refl refl refl)
property_told policy cursor (DomainRule.TransitionFailed true) h =
    on-chosen policy cursor _
    (λ d domain there.
    either policy domain.transition_failed (changed_domain policy cursor d (record domain { transition_failed = false })) (refused policy cursor EditReply.NoSuchLine)
    (telling_kept policy d domain (record domain { transition_failed = false }) there refl refl refl) refl)
property_told policy cursor (DomainRule.Acl delete entry) h = absurd cc

-- whether there was memory or not
pub line_either : {E : Type 0} (r : Result EditReply E) (policy new : Policy) (cursor : Cursor) (edit : Edited) → IfOk r (λ reply. edit ≡ record { policy = new; cursor = cursor; reply = reply }) → OnErr r (new ≡ policy)
    → telling policy ≡ telling edit.policy → telling policy ≡ telling new
line_either (Ok reply) policy new cursor edit done kept e = e ∙ ap (λ (x : Edited). telling x.policy) done
line_either (Err fault) policy new cursor edit done kept e = ap telling (sym kept)

-- the same where the cursor may move
pub edit_either : {E : Type 0} (r : Result EditReply E) (policy new : Policy) (before after : Cursor) (edit : Edited) → IfOk r (λ reply. edit ≡ record { policy = new; cursor = after; reply = reply }) → OnErr r ((new ≡ policy) × (after ≡ before))
    → telling policy ≡ telling edit.policy → telling policy ≡ telling new
edit_either (Ok reply) policy new before after edit done kept e = e ∙ ap (λ (x : Edited). telling x.policy) done
edit_either (Err fault) policy new before after edit done kept e = ap telling (sym kept.0)

-- a name that a live domain has changes no policy
pub choose_old : (policy : Policy) (cursor : Cursor) (home : ℕ) (name : DomainName) → live_domain policy name ≡ Some home → telling policy ≡ telling (domain_line policy cursor (DomainRule.Choose name)).policy
unfolding domain_line
choose_old policy cursor home name is = rw is refl

-- one that none has is refused, or a domain is made and noted
pub choose_new : (policy new : Policy) (cursor after : Cursor) (reply : EditReply) (name : DomainName) → live_domain policy name ≡ None
    → domain_line policy cursor (DomainRule.Choose name) ≡ record { policy = new; cursor = after; reply = reply } → is_refused reply ≡ false → noting_domain name (length policy.domains) (telling policy) ≡ telling new
unfolding domain_line
choose_new policy new cursor after reply name is e made = go (policy.opened && not (is_some (profile_numbered policy (namespace_word name) 0))) (rw is at e)
  where
    go : (b : Bool) → (if b then refused policy cursor EditReply.NoProfile else edited (record policy { domains = policy.domains ++ new_domain name 0 [] ∷ [] }) (Some (length policy.domains))) ≡ record { policy = new; cursor = after; reply = reply }
        → noting_domain name (length policy.domains) (telling policy) ≡ telling new
    go true f = let told : true ≡ false = ap (λ (x : Edited). is_refused x.reply) f ∙ made in absurd cc
    go false f = telling_grown policy name 0 [] ∙ ap (λ (x : Edited). telling x.policy) f

-- where it is refused nothing changes
pub choose_refused : (policy new : Policy) (cursor after : Cursor) (reply : EditReply) (name : DomainName) → live_domain policy name ≡ None
    → domain_line policy cursor (DomainRule.Choose name) ≡ record { policy = new; cursor = after; reply = reply } → is_refused reply ≡ true → telling policy ≡ telling new
unfolding domain_line
choose_refused policy new cursor after reply name is e made = go (policy.opened && not (is_some (profile_numbered policy (namespace_word name) 0))) (rw is at e)
  where
    go : (b : Bool) → (if b then refused policy cursor EditReply.NoProfile else edited (record policy { domains = policy.domains ++ new_domain name 0 [] ∷ [] }) (Some (length policy.domains))) ≡ record { policy = new; cursor = after; reply = reply }
        → telling policy ≡ telling new
    go true f = ap (λ (x : Edited). telling x.policy) f
    go false f = let told : false ≡ true = ap (λ (x : Edited). is_refused x.reply) f ∙ made in absurd cc
