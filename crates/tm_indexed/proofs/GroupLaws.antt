-- What the index of a policy tells after a line of an ACL group is added or taken out.
use Rattle.std.proofs.Common.{◌≡◌, ℕ, zero, suc, ◌==◌, Bool, true, false, if◌then◌else◌, List, [], ◌∷◌, ◌++◌, map, length, refl, sym, ap, subst, ◌∙◌, eqb-true, eq-eqb}
use mathlib.Core.Path.{fun_ext}
use Rattle.std.specs.Prelude.{Option, Some, None, Result, Ok, Err, OnOk, OnErr, slice_get, unwrap_or}
use Rattle.std.specs.Option.{option_map_or}
use Rattle.std.specs.List.{AllByRecursion, position_from}
use Rattle.tm_word.specs.Prelude.{Text, texts_equal}
use Rattle.tm_rules.specs.Types.{Entry, GroupLine, Namespace, Policy}
use Rattle.tm_rules.specs.Prelude.{IsFewHere, IsShort, acl_group, adding, at_key, changed_at, changing_namespace, deleting, empty_namespace, in_namespace, put_group, put_key, remove_key, same_line, with_group}
use Rattle.tm_change_namespaces.specs.AclGroups.{line_added, line_taken}
use Rattle.tm_change_namespaces.specs.Named.{named}
use Rattle.tm_change_namespaces.proofs.GroupLaws.{added_some, named_there, none_short, put_some, short_at}
use Rattle.tm_change_namespaces.proofs.MapLaws.{put_there}
use Rattle.tm_change_namespaces.proofs.Places.{namespace_last, namespace_there, none_found}
use Rattle.tm_index.specs.declared.label.Label.{Label}
use Rattle.tm_index.specs.Labels.{label_of}
use Rattle.tm_index.specs.Listing.{Listed, listing, noting}
use Rattle.tm_index.specs.Index.{Told, telling, groups_listing}
use Rattle.tm_indexed.specs.Gone.{gone_at}
use Rattle.tm_indexed.specs.Groups.{closed_if}
use Rattle.tm_index.specs.Groups.{group_with, in_group, noting_lists}
use Rattle.tm_index.proofs.IndexLaws.{put_other}
use Rattle.tm_index.proofs.ListingLaws.{line_found, listing_added, listing_joined}
use Rattle.tm_index.proofs.GroupLists.{with-same}
use Rattle.tm_indexed.proofs.RemoveLaws.{listing_deleted}
use Rattle.tm_index.proofs.TellingLaws.{told_equal}

-- where none are noted no entry shares a line
pub place_nowhere : (entries : List Entry) (label : Label) (line : Entry) → listing [] ≡ listing entries → label ≡ label_of line → None ≡ position_from (λ (entry : Entry). same_line entry line) 0 entries
unfolding listing
place_nowhere entries label line e h = line_found (listing []) entries label line [] e h refl

-- The groups of a namespace

remove-other : {A : Type 0} (n m : ℕ) (xs : List (ℕ × A)) → (n == m) ≡ false → at_key (remove_key n xs) m ≡ at_key xs m
remove-other n m [] apart = refl
remove-other n m (x ∷ xs) apart = go (remove-other n m xs apart) (x.0 == n) refl
  where
    go : at_key (remove_key n xs) m ≡ at_key xs m → (c : Bool) → (x.0 == n) ≡ c → at_key (if c then xs else x ∷ remove_key n xs) m ≡ (if x.0 == m then Some x.1 else at_key xs m)
    go ih true k =
        let same : x.0 ≡ n = eqb-true x.0 n k in
        let away : (x.0 == m) ≡ false = subst (λ t. (t == m) ≡ false) (sym same) apart in
        rw away refl
    go ih false k = ap (λ t. if x.0 == m then Some x.1 else t) ih

set-other : (n m : ℕ) (entries : List Entry) (groups : List (ℕ × List Entry)) → (n == m) ≡ false → at_key (put_group n entries groups) m ≡ at_key groups m
set-other n m [] groups apart = remove-other n m groups apart
set-other n m (e ∷ es) groups apart = put_other n m (e ∷ es) groups apart

-- the groups of a namespace, one of which has other entries
pub entries_put : (group : ℕ) (entries : List Entry) (change : Listed → Listed) (ns : Namespace) → acl_group (with_group group entries ns) group ≡ entries → listing entries ≡ change (listing (acl_group ns group))
    → groups_listing (with_group group entries ns) ≡ group_with group change (groups_listing ns)
entries_put group entries change ns there e = fun_ext (λ number. go number (group == number) refl)
  where
    go : (number : ℕ) (b : Bool) → (group == number) ≡ b → groups_listing (with_group group entries ns) number ≡ (if b then change (groups_listing ns number) else groups_listing ns number)
    go number true h =
        let same : number ≡ group = sym (eqb-true group number h) in
        ap (λ n. listing (acl_group (with_group group entries ns) n)) same ∙ ap listing there ∙ e ∙ ap (λ n. change (groups_listing ns n)) (sym same)
    go number false h = ap (λ (o : Option (List Entry)). listing (unwrap_or o [])) (set-other group number entries ns.acl_groups h)

-- the entries that a line is added to
added-there : (line : GroupLine) (ns : Namespace) → acl_group (line_added line ns) line.group ≡ adding line.entry (acl_group ns line.group)
added-there line ns =
    let entries = adding line.entry (acl_group ns line.group) in
    ap (λ (groups : List (ℕ × List Entry)). unwrap_or (at_key groups line.group) []) (sym (put_some line.group entries ns.acl_groups (added_some line.entry (acl_group ns line.group))))
    ∙ ap (λ (o : Option (List Entry)). unwrap_or o []) (put_there line.group entries ns.acl_groups)

abbrev pub at_line : GroupLine → Namespace → Option ℕ
at_line line ns = position_from (λ (entry : Entry). same_line entry line.entry) 0 (acl_group ns line.group)

-- a line that shares no entry of its group
pub added_new : (line : GroupLine) (ns : Namespace) → at_line line ns ≡ None → groups_listing (line_added line ns) ≡ group_with line.group (noting (label_of line.entry) (length (acl_group ns line.group))) (groups_listing ns)
added_new line ns none =
    entries_put line.group (adding line.entry (acl_group ns line.group)) (noting (label_of line.entry) (length (acl_group ns line.group))) ns (added-there line ns) (sym (listing_added line.entry (acl_group ns line.group) none))

-- one that does
pub added_joined : (line : GroupLine) (ns : Namespace) (k : ℕ) → at_line line ns ≡ Some k → groups_listing (line_added line ns) ≡ groups_listing ns
added_joined line ns k found =
    entries_put line.group (adding line.entry (acl_group ns line.group)) (λ x. x) ns (added-there line ns) (sym (listing_joined line.entry (acl_group ns line.group) k found)) ∙ with-same line.group (groups_listing ns)

-- one that is taken out
pub taken_out : (line : GroupLine) (ns : Namespace) → acl_group (line_taken line ns) line.group ≡ deleting line.entry (acl_group ns line.group)
    → groups_listing (line_taken line ns) ≡ group_with line.group (closed_if (gone_at (acl_group ns line.group) (at_line line ns) line.entry)) (groups_listing ns)
taken_out line ns left =
    entries_put line.group (deleting line.entry (acl_group ns line.group)) (closed_if (gone_at (acl_group ns line.group) (at_line line ns) line.entry)) ns left (listing_deleted line.entry (acl_group ns line.group) (at_line line ns) refl)

-- The namespaces of a policy

seen-changed : {A B : Type 0} (see : A → B) (f : A → A) (g : B → B) (xs : List A) (k : ℕ) (x : A) → slice_get xs k ≡ Some x → see (f x) ≡ g (see x) → map see (changed_at k f xs) ≡ changed_at k g (map see xs)
seen-changed see f g [] k x there e = refl
seen-changed see f g (z ∷ zs) zero x there e = let same : x ≡ z = cc in ap (λ t. t ∷ map see zs) (subst (λ y. see (f y) ≡ g (see y)) same e)
seen-changed see f g (z ∷ zs) (suc k) x there e = ap (λ t. see z ∷ t) (seen-changed see f g zs k x there e)

seen-kept : {A B : Type 0} (see : A → B) (f : A → A) (xs : List A) (k : ℕ) (x : A) → slice_get xs k ≡ Some x → see (f x) ≡ see x → map see (changed_at k f xs) ≡ map see xs
seen-kept see f [] k x there e = refl
seen-kept see f (z ∷ zs) zero x there e = let same : x ≡ z = cc in ap (λ t. t ∷ map see zs) (subst (λ y. see (f y) ≡ see y) same e)
seen-kept see f (z ∷ zs) (suc k) x there e = ap (λ t. see z ∷ t) (seen-kept see f zs k x there e)

seen-more : {A B : Type 0} (see : A → B) (xs : List A) (x : A) → map see xs ++ see x ∷ [] ≡ map see (xs ++ x ∷ [])
seen-more see [] x = refl
seen-more see (y ∷ ys) x = ap (λ t. see y ∷ t) (seen-more see ys x)

-- a change that leaves each element leaves the list
same-at : {A : Type 0} (f : A → A) (k : ℕ) (xs : List A) → ((x : A) → f x ≡ x) → changed_at k f xs ≡ xs
same-at f k [] same = refl
same-at f zero (x ∷ xs) same = ap (λ t. t ∷ xs) (same x)
same-at f (suc k) (x ∷ xs) same = ap (λ t. x ∷ t) (same-at f k xs same)

-- where no entry has gone, what is told stays
pub none_gone : (number group : ℕ) (x : Told) → x ≡ in_group number group (closed_if None) x
none_gone number group x = told_equal x (in_group number group (closed_if None) x) refl (sym (same-at (group_with group (λ y. y)) number x.groups (with-same group))) refl

module _ (policy : Policy) (name : Text) (change : Namespace → Namespace) where
  -- a group of a namespace that is there is changed
  pub told_changed : (group k : ℕ) (f : Listed → Listed) → position_from (λ (ns : Namespace). texts_equal ns.name name) 0 policy.namespaces ≡ Some k
      → groups_listing (change (named name policy.namespaces)) ≡ group_with group f (groups_listing (named name policy.namespaces)) → in_group k group f (telling policy) ≡ telling (changing_namespace policy name change)
  unfolding telling
  told_changed group k f found e =
      told_equal (in_group k group f (telling policy)) (telling (changing_namespace policy name change)) refl
      (sym (ap (map groups_listing) (sym (namespace_there name change policy.namespaces k found))
      ∙ seen-changed groups_listing change (group_with group f) policy.namespaces k (named name policy.namespaces) (named_there name policy.namespaces k found) e))
      refl

  -- it is seen as before
  pub told_kept : (k : ℕ) → position_from (λ (ns : Namespace). texts_equal ns.name name) 0 policy.namespaces ≡ Some k → groups_listing (change (named name policy.namespaces)) ≡ groups_listing (named name policy.namespaces)
      → telling policy ≡ telling (changing_namespace policy name change)
  unfolding telling
  told_kept k found e =
      told_equal (telling policy) (telling (changing_namespace policy name change)) refl
      (sym (ap (map groups_listing) (sym (namespace_there name change policy.namespaces k found)) ∙ seen-kept groups_listing change policy.namespaces k (named name policy.namespaces) (named_there name policy.namespaces k found) e)) refl

  -- a namespace is made last
  pub told_made : (lists : ℕ → Listed) → position_from (λ (ns : Namespace). texts_equal ns.name name) 0 policy.namespaces ≡ None → groups_listing (change (empty_namespace name)) ≡ lists
      → noting_lists lists (telling policy) ≡ telling (changing_namespace policy name change)
  unfolding telling
  told_made lists none e =
      told_equal (noting_lists lists (telling policy)) (telling (changing_namespace policy name change)) refl
      (ap (λ l. map groups_listing policy.namespaces ++ l ∷ []) (sym e) ∙ seen-more groups_listing policy.namespaces (change (empty_namespace name)) ∙ ap (map groups_listing) (namespace_last name change policy.namespaces none)) refl

-- a line in a namespace that is made
pub added_first : (line : GroupLine) → groups_listing (line_added line (empty_namespace line.namespace)) ≡ group_with line.group (noting (label_of line.entry) 0) (λ number. listing [])
added_first line = added_new line (empty_namespace line.namespace) refl

-- a line that shares an entry, whether there was memory or not
pub joined_either : {X E : Type 0} (r : Result X E) (policy : Policy) (after : List Namespace) (line : GroupLine) (k : ℕ) → at_line line (named line.namespace policy.namespaces) ≡ Some k → OnOk r (after ≡ in_namespace line.namespace (line_added line) policy.namespaces)
    → OnErr r (after ≡ policy.namespaces) → telling policy ≡ telling (record policy { namespaces = after })
joined_either (Ok x) policy after line k found done kept = go (position_from (λ (ns : Namespace). texts_equal ns.name line.namespace) 0 policy.namespaces) refl
  where
    go : (o : Option ℕ) → position_from (λ (ns : Namespace). texts_equal ns.name line.namespace) 0 policy.namespaces ≡ o → telling policy ≡ telling (record policy { namespaces = after })
    go (Some n) e =
        told_kept policy line.namespace (line_added line) n e (added_joined line (named line.namespace policy.namespaces) k found) ∙ ap (λ (spaces : List Namespace). telling (record policy { namespaces = spaces })) (sym done)
    go None e =
        let nothing : at_line line (named line.namespace policy.namespaces) ≡ None =
        ap (λ (o : Option Namespace). at_line line (unwrap_or o (empty_namespace line.namespace))) (none_found (λ (ns : Namespace). texts_equal ns.name line.namespace) 0 policy.namespaces e) in
        let both : None ≡ Some k = sym nothing ∙ found in
        absurd cc
joined_either (Err fault) policy after line k found done kept = ap (λ (spaces : List Namespace). telling (record policy { namespaces = spaces })) (sym kept)

-- what is told of other namespaces
pub telling_so : (policy : Policy) (after made : List Namespace) → after ≡ made → telling (record policy { namespaces = made }) ≡ telling (record policy { namespaces = after })
telling_so policy after made e = ap (λ (spaces : List Namespace). telling (record policy { namespaces = spaces })) (sym e)

-- Lists that are short

pub few_here : (spaces : List Namespace) (k : ℕ) (ns : Namespace) → AllByRecursion IsFewHere spaces → slice_get spaces k ≡ Some ns → IsFewHere ns
few_here [] k ns each e = absurd cc
few_here (x ∷ xs) zero ns each e = subst IsFewHere (let same : x ≡ ns = cc in same) each.0
few_here (x ∷ xs) (suc k) ns each e = few_here xs k ns each.1 e

pub short_group : (ns : Namespace) (group : ℕ) → IsFewHere ns → IsShort (acl_group ns group)
short_group ns group few = go (at_key ns.acl_groups group) refl
  where
    go : (o : Option (List Entry)) → at_key ns.acl_groups group ≡ o → IsShort (unwrap_or o [])
    go None e = none_short [] refl
    go (Some entries) e = short_at group entries ns.acl_groups (sym e) few.acl_entries
