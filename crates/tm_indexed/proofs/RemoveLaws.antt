-- What the index of a policy tells after a line is taken out of a domain.
use Rattle.std.proofs.Common.{◌≡◌, ℕ, zero, suc, ◌<◌, ◌==◌, Bool, true, false, if◌then◌else◌, List, [], ◌∷◌, length, get_or, refl, sym, ap, ◌∙◌, arith, eqb-true}
use Rattle.std.proofs.lemmas.Bool.{eqb-false}
use Rattle.std.specs.Prelude.{Option, Some, None, slice_get}
use Rattle.std.specs.Option.{option_and_then}
use Rattle.std.specs.List.{position_from}
use Rattle.tm_rules.specs.Prelude.{Cursor, Edited, changed_at, changed_domain, chosen, count, deleting, domain_at, domain_line, has_part, refused, same_line, with_domain, without_permissions}
use Rattle.tm_rules.specs.Types.{Domain, DomainRule, EditReply, Entry, Policy}
use Rattle.tm_change_entries.proofs.Edits.{place_within}
use Rattle.tm_index.specs.Listing.{Listed, listing, closed}
use Rattle.tm_index.specs.Index.{Told, telling, counting_in, closing_in}
use Rattle.tm_indexed.specs.Gone.{gone_at, closing_if}
use Rattle.tm_indexed.specs.Groups.{closed_if}
use Rattle.tm_indexed.specs.Kinds.{is_refused}
use Rattle.tm_index.proofs.ListingLaws.{listing_none, listing_out, listing_left}
use Rattle.tm_indexed.proofs.ChangeLaws.{changed-twice, at-changed, pair_by, telling_changed}
use Rattle.tm_index.proofs.TellingLaws.{told_equal}

read-get : (entries : List Entry) (k : ℕ) (e : Entry) → slice_get entries k ≡ Some e → e ≡ get_or entries k e
read-get [] k e h = absurd cc
read-get (x ∷ xs) zero e h = cc
read-get (x ∷ xs) (suc k) e h = read-get xs k e h

read-there : (entries : List Entry) (k : ℕ) → k < length entries → slice_get entries k ≡ None → ⊥
read-there [] k less none = omega (arith, less)
read-there (x ∷ xs) zero less none = cc
read-there (x ∷ xs) (suc k) less none = read-there xs k (omega (arith, less)) none

-- the list after a line is taken out
pub listing_deleted : (line : Entry) (entries : List Entry) (at : Option ℕ) → position_from (λ (entry : Entry). same_line entry line) 0 entries ≡ at → listing (deleting line entries) ≡ closed_if (gone_at entries at line) (listing entries)
listing_deleted line entries None e = sym (listing_none line entries e)
listing_deleted line entries (Some k) e = go (slice_get entries k) refl
  where
    inner : (x : Entry) (b : Bool) → slice_get entries k ≡ Some x → (without_permissions x.perms.bits line.perms.bits == 0) ≡ b → listing (deleting line entries) ≡ closed_if (if b then Some k else None) (listing entries)
    inner x true h f = sym (listing_out line entries k x e (read-get entries k x h) (eqb-true _ _ f))
    inner x false h f = sym (listing_left line entries k x e (read-get entries k x h) (eqb-false _ _ f))

    go : (o : Option Entry) → slice_get entries k ≡ o → listing (deleting line entries) ≡ closed_if (option_and_then (λ (entry : Entry). if without_permissions entry.perms.bits line.perms.bits == 0 then Some k else None) o) (listing entries)
    go (Some x) h = inner x (without_permissions x.perms.bits line.perms.bits == 0) h refl
    go None h = absurd (read-there entries k (place_within line entries k e) h)

closing-counting : (number permissions : ℕ) (gone : Option ℕ) (x : Told)
    → counting_in number permissions (closing_if number gone x) ≡ (record x { domains = changed_at number (λ (d : Listed × ℕ). (closed_if gone d.0, permissions)) x.domains })
closing-counting number permissions None x = refl
closing-counting number permissions (Some place) x =
    told_equal (counting_in number permissions (closing_in number place x)) (record x { domains = changed_at number (λ (d : Listed × ℕ). (closed place d.0, permissions)) x.domains })
    (changed-twice number (λ (d : Listed × ℕ). (d.0, permissions)) (λ (d : Listed × ℕ). (closed place d.0, d.1)) x.domains) refl refl

-- what is left of the chosen domain, where the line isn't refused
pub removed-is : (policy new : Policy) (cursor after : Cursor) (reply : EditReply) (number : ℕ) (domain : Domain) (line : Entry) → chosen policy cursor ≡ Some (number, domain)
    → domain_line policy cursor (DomainRule.Acl true line) ≡ record { policy = new; cursor = after; reply = reply } → is_refused reply ≡ false → new ≡ with_domain policy number (record domain { entries = deleting line domain.entries })
unfolding domain_line
removed-is policy new cursor after reply number domain line there e done = go (has_part line domain.entries) (rw there at e)
  where
    go : (b : Bool) → (if b then changed_domain policy cursor number (record domain { entries = deleting line domain.entries }) else refused policy cursor EditReply.NoSuchLine) ≡ record { policy = new; cursor = after; reply = reply }
        → new ≡ with_domain policy number (record domain { entries = deleting line domain.entries })
    go true f = sym (ap (λ (x : Edited). x.policy) f)
    go false f = let told : true ≡ false = ap (λ (x : Edited). is_refused x.reply) f ∙ done in absurd cc

-- and the policy, where it is
pub refused-is : (policy new : Policy) (cursor after : Cursor) (reply : EditReply) (number : ℕ) (domain : Domain) (line : Entry) → chosen policy cursor ≡ Some (number, domain)
    → domain_line policy cursor (DomainRule.Acl true line) ≡ record { policy = new; cursor = after; reply = reply } → is_refused reply ≡ true → telling policy ≡ telling new
unfolding domain_line
refused-is policy new cursor after reply number domain line there e done = go (has_part line domain.entries) (rw there at e)
  where
    go : (b : Bool) → (if b then changed_domain policy cursor number (record domain { entries = deleting line domain.entries }) else refused policy cursor EditReply.NoSuchLine) ≡ record { policy = new; cursor = after; reply = reply }
        → telling policy ≡ telling new
    go true f = let told : false ≡ true = ap (λ (x : Edited). is_refused x.reply) f ∙ done in absurd cc
    go false f = ap (λ (x : Edited). telling x.policy) f

-- what is told after a line is taken out
pub removed_told : (policy new : Policy) (number : ℕ) (gone : Option ℕ) (domain : Domain) (line : Entry) → domain_at policy number ≡ Some domain → new ≡ with_domain policy number (record domain { entries = deleting line domain.entries })
    → gone ≡ gone_at domain.entries (position_from (λ (entry : Entry). same_line entry line) 0 domain.entries) line
    → counting_in number (count (record domain { entries = deleting line domain.entries })) (closing_if number gone (telling policy)) ≡ telling new
removed_told policy new number gone domain line there made leaves =
    let after : Domain = record domain { entries = deleting line domain.entries } in
    closing-counting number (count after) gone (telling policy)
    ∙ telling_changed policy number domain after there refl refl (λ (d : Listed × ℕ). (closed_if gone d.0, count after))
    (pair_by (listing_deleted line domain.entries (position_from (λ (entry : Entry). same_line entry line) 0 domain.entries) refl ∙ ap (λ o. closed_if o (listing domain.entries)) (sym leaves)) refl)
    ∙ ap telling (sym made)

-- the domain is there afterwards
pub after_there : (policy new : Policy) (number : ℕ) (domain after : Domain) → domain_at policy number ≡ Some domain → new ≡ with_domain policy number after → domain_at new number ≡ Some after
after_there policy new number domain after there made = ap (λ (p : Policy). domain_at p number) made ∙ at-changed (λ x. after) policy.domains number domain there
