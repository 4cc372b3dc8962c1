-- What lines leave of a namespace, and of the list of namespaces.
use Rattle.std.proofs.Common.{◌≡◌, ℕ, ◌<◌, ◌==◌, Bool, true, false, ◌&&◌, List, [], ◌∷◌, Some, refl, sym, ap, subst, ◌∙◌, arith, eq-eqb}
use Rattle.std.specs.Prelude.{if◌then◌else◌, unwrap_or}
use Rattle.std.specs.List.{AllByRecursion, IsDistinct}
use Rattle.std.specs.Bool.{beq}
use Rattle.std.proofs.lemmas.Bool.{eqb-true}
use Rattle.tm_word.specs.Prelude.{Pattern, Text, Word, texts_equal}
use Rattle.tm_list.specs.Map.{Rises}
use Rattle.tm_list.proofs.MapLaws.{Rises-put, Rises-without}
use Rattle.tm_rules.specs.Types.{AddrRange, Control, Entry, ExceptRule, Namespace, Profile, ProfileEffect, Range}
use Rattle.tm_rules.specs.Prelude.{acl_group, adding, addrs_equal, at_key, deleting, empty_namespace, except_added, except_removed, in_namespace, joining, kind_number, leaving, options_equal, patterns_equal, profile_line, put_group, ranges_equal, same_addr_range, same_aggregator, same_control, same_member, with_group}
use Rattle.tm_rules.proofs.EqualityLaws.{same_texts, same_patterns, same_ranges, same_addrs, same_options}
use Rattle.tm_entry.specs.Entries.{is_entry}
use Rattle.tm_profile.specs.Texts.{IsNamespaceWord, IsEffect}
use Rattle.tm_profile.specs.Texts.{IsWritten as AreProfiles}
use Rattle.tm_profile.proofs.KeptLaws.{effect_kept}
use Rattle.tm_profile.proofs.TextLaws.{same_name as profile_name}
use Rattle.tm_policy_line.specs.Written.{is_written_rule}
use Rattle.tm_policy_laws.specs.Policies.{AreEntries, AreRules, path_rule, number_rule, address_rule, aggregator_rule, control_rule, IsAclGroup, IsWrittenHere, same_name}
use Rattle.tm_policy_laws.proofs.ListLaws.{IsEven, all_joining, all_filter, all_put, all_without, even_from, once_joining, once_leaving}
use Rattle.tm_policy_laws.proofs.EntryLists.{none_entries, are_adding, are_deleting}

-- The tests of sameness are even

abbrev equal_numbers : ℕ → ℕ → Bool
equal_numbers x y = x == y

even_numbers : IsEven equal_numbers
even_numbers = even_from equal_numbers (record { sound = eqb-true; full = λ x. eq-eqb x x refl })

even_flags : IsEven beq
even_flags true true = refl
even_flags true false = refl
even_flags false true = refl
even_flags false false = refl

joined_even : {a b c d : Bool} → a ≡ c → b ≡ d → (a && b) ≡ (c && d)
joined_even {a} {b} {c} {d} h k = ap (λ v. v && b) h ∙ ap (λ v. c && v) k

pub even_texts : IsEven texts_equal
even_texts = even_from texts_equal same_texts

pub even_members : {A : Type 0} (same : A → A → Bool) → IsEven same → IsEven (same_member same)
even_members same even x y = joined_even (even_texts x.0 y.0) (even x.1 y.1)

pub even_paths : IsEven (same_member patterns_equal)
even_paths = even_members patterns_equal (even_from patterns_equal same_patterns)

pub even_ranges : IsEven (same_member ranges_equal)
even_ranges = even_members ranges_equal (even_from ranges_equal same_ranges)

pub even_addr_ranges : IsEven (same_member same_addr_range)
even_addr_ranges = even_members same_addr_range (λ x y. joined_even (even_from addrs_equal same_addrs x.low y.low) (even_from addrs_equal same_addrs x.high y.high))

pub even_aggregators : IsEven same_aggregator
even_aggregators x y = joined_even (even_from patterns_equal same_patterns x.0 y.0) (even_texts x.1 y.1)

even_options : IsEven (options_equal texts_equal)
even_options = even_from (options_equal texts_equal) (same_options texts_equal same_texts)

pub even_controls : IsEven same_control
even_controls x y =
    joined_even (joined_even (joined_even (even_numbers (kind_number x.kind) (kind_number y.kind)) (even_options x.program y.program)) (even_options x.domain y.domain)) (even_flags x.last y.last)

-- Lists of rules

pub are_joining : {A : Type 0} (rule : A → ExceptRule) (same : A → A → Bool) (x : A) (xs : List A) → IsEven same → is_written_rule (rule x) ≡ true → AreRules rule same xs → AreRules rule same (joining same x xs)
are_joining rule same x xs even h are = record {
  each = all_joining (λ y. is_written_rule (rule y) ≡ true) same x xs h are.each;
  once = once_joining same x xs even are.once;
}

pub are_leaving : {A : Type 0} (rule : A → ExceptRule) (same : A → A → Bool) (x : A) (xs : List A) → AreRules rule same xs → AreRules rule same (leaving same x xs)
are_leaving rule same x xs are = record {
  each = all_filter (λ y. is_written_rule (rule y) ≡ true) _ xs are.each;
  once = once_leaving same x xs are.once;
}

-- Changes of a namespace

-- a change that keeps the name, and what lines can leave
pub record KeepsWritten (change : Namespace → Namespace) : Type 0 where
  pub name : (ns : Namespace) → (change ns).name ≡ ns.name
  pub here : (ns : Namespace) → IsWrittenHere ns → IsWrittenHere (change ns)

-- another list of one kind
module _ (ns : Namespace) (h : IsWrittenHere ns) where
  profiles_here : (profiles : List (ℕ × Profile)) → AreProfiles profiles → IsWrittenHere (record ns { profiles = profiles })
  profiles_here profiles k = record { name = h.name; profiles = k; paths = h.paths; numbers = h.numbers; addrs = h.addrs; aggregators = h.aggregators; controls = h.controls; acl_order = h.acl_order; acl_groups = h.acl_groups }

  paths_here : (paths : List (Word × Pattern)) → AreRules path_rule (same_member patterns_equal) paths → IsWrittenHere (record ns { groups = record ns.groups { paths = paths } })
  paths_here paths k = record { name = h.name; profiles = h.profiles; paths = k; numbers = h.numbers; addrs = h.addrs; aggregators = h.aggregators; controls = h.controls; acl_order = h.acl_order; acl_groups = h.acl_groups }

  numbers_here : (numbers : List (Word × Range)) → AreRules number_rule (same_member ranges_equal) numbers → IsWrittenHere (record ns { groups = record ns.groups { numbers = numbers } })
  numbers_here numbers k = record { name = h.name; profiles = h.profiles; paths = h.paths; numbers = k; addrs = h.addrs; aggregators = h.aggregators; controls = h.controls; acl_order = h.acl_order; acl_groups = h.acl_groups }

  addrs_here : (addrs : List (Word × AddrRange)) → AreRules address_rule (same_member same_addr_range) addrs → IsWrittenHere (record ns { groups = record ns.groups { addrs = addrs } })
  addrs_here addrs k = record { name = h.name; profiles = h.profiles; paths = h.paths; numbers = h.numbers; addrs = k; aggregators = h.aggregators; controls = h.controls; acl_order = h.acl_order; acl_groups = h.acl_groups }

  aggregators_here : (aggregators : List (Pattern × Word)) → AreRules aggregator_rule same_aggregator aggregators → IsWrittenHere (record ns { aggregators = aggregators })
  aggregators_here aggregators k = record { name = h.name; profiles = h.profiles; paths = h.paths; numbers = h.numbers; addrs = h.addrs; aggregators = k; controls = h.controls; acl_order = h.acl_order; acl_groups = h.acl_groups }

  controls_here : (controls : List Control) → AreRules control_rule same_control controls → IsWrittenHere (record ns { controls = controls })
  controls_here controls k = record { name = h.name; profiles = h.profiles; paths = h.paths; numbers = h.numbers; addrs = h.addrs; aggregators = h.aggregators; controls = k; acl_order = h.acl_order; acl_groups = h.acl_groups }

  groups_here : (groups : List (ℕ × List Entry)) → Rises (λ n. n) groups → AllByRecursion IsAclGroup groups → IsWrittenHere (record ns { acl_groups = groups })
  groups_here groups k l = record { name = h.name; profiles = h.profiles; paths = h.paths; numbers = h.numbers; addrs = h.addrs; aggregators = h.aggregators; controls = h.controls; acl_order = k; acl_groups = l }

pub empty_here : (name : Text) → IsNamespaceWord name → IsWrittenHere (empty_namespace name)
unfolding IsDistinct
empty_here name h = record {
  name = h;
  profiles = (tt, tt);
  paths = record { each = tt; once = tt };
  numbers = record { each = tt; once = tt };
  addrs = record { each = tt; once = tt };
  aggregators = record { each = tt; once = tt };
  controls = record { each = tt; once = tt };
  acl_order = tt;
  acl_groups = tt;
}

-- Profile lines

effect_here : (effect : ProfileEffect) (ns : Namespace) → IsEffect effect → IsWrittenHere ns → IsWrittenHere (profile_line effect ns)
unfolding profile_line
effect_here ProfileEffect.Version ns h k = k
effect_here (ProfileEffect.Comment n comment) ns h k = profiles_here ns k _ (effect_kept (ProfileEffect.Comment n comment) ns h k.profiles)
effect_here (ProfileEffect.Preference n audit learning) ns h k = profiles_here ns k _ (effect_kept (ProfileEffect.Preference n audit learning) ns h k.profiles)
effect_here (ProfileEffect.Config n setting) ns h k = profiles_here ns k _ (effect_kept (ProfileEffect.Config n setting) ns h k.profiles)
effect_here (ProfileEffect.Slot n slot setting) ns h k = profiles_here ns k _ (effect_kept (ProfileEffect.Slot n slot setting) ns h k.profiles)

pub profile_line-keeps : (effect : ProfileEffect) → IsEffect effect → KeepsWritten (profile_line effect)
profile_line-keeps effect h = record { name = λ ns. profile_name effect ns; here = λ ns k. effect_here effect ns h k }

-- Exception lines

pub added-keeps : (rule : ExceptRule) → is_written_rule rule ≡ true → KeepsWritten (except_added rule)
unfolding except_added
added-keeps (ExceptRule.PathGroup name member) h = record { name = λ ns. refl; here = λ ns k. paths_here ns k _ (are_joining path_rule (same_member patterns_equal) (name, member) ns.groups.paths even_paths h k.paths) }
added-keeps (ExceptRule.NumberGroup name member) h = record { name = λ ns. refl; here = λ ns k. numbers_here ns k _ (are_joining number_rule (same_member ranges_equal) (name, member) ns.groups.numbers even_ranges h k.numbers) }
added-keeps (ExceptRule.AddressGroup name member) h = record { name = λ ns. refl; here = λ ns k. addrs_here ns k _ (are_joining address_rule (same_member same_addr_range) (name, member) ns.groups.addrs even_addr_ranges h k.addrs) }
added-keeps (ExceptRule.Aggregator one other) h = record { name = λ ns. refl; here = λ ns k. aggregators_here ns k _ (are_joining aggregator_rule same_aggregator (one, other) ns.aggregators even_aggregators h k.aggregators) }
added-keeps (ExceptRule.Control control) h = record { name = λ ns. refl; here = λ ns k. controls_here ns k _ (are_joining control_rule same_control control ns.controls even_controls h k.controls) }
added-keeps (ExceptRule.Acl n words) h = record { name = λ ns. refl; here = λ ns k. k }

pub removed-keeps : (rule : ExceptRule) → KeepsWritten (except_removed rule)
unfolding except_removed
removed-keeps (ExceptRule.PathGroup name member) = record { name = λ ns. refl; here = λ ns k. paths_here ns k _ (are_leaving path_rule (same_member patterns_equal) (name, member) ns.groups.paths k.paths) }
removed-keeps (ExceptRule.NumberGroup name member) = record { name = λ ns. refl; here = λ ns k. numbers_here ns k _ (are_leaving number_rule (same_member ranges_equal) (name, member) ns.groups.numbers k.numbers) }
removed-keeps (ExceptRule.AddressGroup name member) = record { name = λ ns. refl; here = λ ns k. addrs_here ns k _ (are_leaving address_rule (same_member same_addr_range) (name, member) ns.groups.addrs k.addrs) }
removed-keeps (ExceptRule.Aggregator one other) = record { name = λ ns. refl; here = λ ns k. aggregators_here ns k _ (are_leaving aggregator_rule same_aggregator (one, other) ns.aggregators k.aggregators) }
removed-keeps (ExceptRule.Control control) = record { name = λ ns. refl; here = λ ns k. controls_here ns k _ (are_leaving control_rule same_control control ns.controls k.controls) }
removed-keeps (ExceptRule.Acl n words) = record { name = λ ns. refl; here = λ ns k. k }

-- ACL groups

entries_at : (n : ℕ) (groups : List (ℕ × List Entry)) → AllByRecursion IsAclGroup groups → AreEntries (unwrap_or (at_key groups n) [])
entries_at n [] all = none_entries
entries_at n (group ∷ groups) all = go (group.0 == n) (entries_at n groups all.1)
  where
    go : (b : Bool) → AreEntries (unwrap_or (at_key groups n) []) → AreEntries (unwrap_or (if b then Some group.1 else at_key groups n) [])
    go true more = all.0.entries
    go false more = more

pub put_group-all : (n : ℕ) (entries : List Entry) (groups : List (ℕ × List Entry)) → n < 256 → AreEntries entries → AllByRecursion IsAclGroup groups → AllByRecursion IsAclGroup (put_group n entries groups)
put_group-all n [] groups h are all = all_without IsAclGroup n groups all
put_group-all n (e ∷ es) groups h are all = all_put IsAclGroup n (e ∷ es) groups (record { number = h; some = omega arith; entries = are }) all

pub put_group-rises : (n : ℕ) (entries : List Entry) (groups : List (ℕ × List Entry)) → Rises (λ n. n) groups → Rises (λ n. n) (put_group n entries groups)
put_group-rises n [] groups rises = Rises-without (λ (m : ℕ). m) n groups rises
put_group-rises n (e ∷ es) groups rises = Rises-put (λ (m : ℕ). m) n (e ∷ es) groups rises

group-keeps : (n : ℕ) (change : List Entry → List Entry) → n < 256 → ((entries : List Entry) → AreEntries entries → AreEntries (change entries)) → KeepsWritten (λ ns. with_group n (change (acl_group ns n)) ns)
group-keeps n change h keeps = record {
  name = λ ns. refl;
  here = λ ns k.
      let entries = change (acl_group ns n) in
      groups_here ns k (put_group n entries ns.acl_groups) (put_group-rises n entries ns.acl_groups k.acl_order)
      (put_group-all n entries ns.acl_groups h (keeps (acl_group ns n) (entries_at n ns.acl_groups k.acl_groups)) k.acl_groups);
}

pub group_added-keeps : (n : ℕ) (line : Entry) → n < 256 → is_entry line ≡ true → KeepsWritten (λ ns. with_group n (adding line (acl_group ns n)) ns)
group_added-keeps n line h fits = group-keeps n (adding line) h (λ entries are. are_adding line entries fits are)

pub group_deleted-keeps : (n : ℕ) (line : Entry) → n < 256 → KeepsWritten (λ ns. with_group n (deleting line (acl_group ns n)) ns)
group_deleted-keeps n line h = group-keeps n (deleting line) h (λ entries are. are_deleting line entries are)

-- The list of namespaces

module _ (change : Namespace → Namespace) (keeps : KeepsWritten change) (name : Text) where
  pub changed_each : (list : List Namespace) → IsNamespaceWord name → AllByRecursion IsWrittenHere list → AllByRecursion IsWrittenHere (in_namespace name change list)
  changed_each [] h all = (keeps.here (empty_namespace name) (empty_here name h), tt)
  changed_each (ns ∷ rest) h all = go (texts_equal ns.name name) (changed_each rest h all.1)
    where
      go : (b : Bool) → AllByRecursion IsWrittenHere (in_namespace name change rest) → AllByRecursion IsWrittenHere (if b then change ns ∷ rest else ns ∷ in_namespace name change rest)
      go true more = (keeps.here ns all.0, all.1)
      go false more = (all.0, more)

  -- a name that no namespace has, and that isn't the changed one's
  apart : (word : Text) (list : List Namespace) → texts_equal word name ≡ false → AllByRecursion (λ (m : Namespace). texts_equal word m.name ≡ false) list → AllByRecursion (λ (m : Namespace). texts_equal word m.name ≡ false) (in_namespace name change list)
  apart word [] h all = (subst (λ m. texts_equal word m ≡ false) (sym (keeps.name (empty_namespace name))) h, tt)
  apart word (ns ∷ rest) h all = go (texts_equal ns.name name) (apart word rest h all.1)
    where
      go : (b : Bool) → AllByRecursion (λ (m : Namespace). texts_equal word m.name ≡ false) (in_namespace name change rest) → AllByRecursion (λ (m : Namespace). texts_equal word m.name ≡ false) (if b then change ns ∷ rest else ns ∷ in_namespace name change rest)
      go true more = (subst (λ m. texts_equal word m ≡ false) (sym (keeps.name ns)) all.0, all.1)
      go false more = (all.0, more)

  pub changed_once : (list : List Namespace) → IsDistinct same_name list → IsDistinct same_name (in_namespace name change list)
  unfolding IsDistinct
  changed_once [] once = (tt, tt)
  changed_once (ns ∷ rest) once = go (texts_equal ns.name name) refl (changed_once rest once.1)
    where
      go : (b : Bool) → texts_equal ns.name name ≡ b → IsDistinct same_name (in_namespace name change rest) → IsDistinct same_name (if b then change ns ∷ rest else ns ∷ in_namespace name change rest)
      go true e more = (subst (λ (word : Text). AllByRecursion (λ (m : Namespace). texts_equal word m.name ≡ false) rest) (sym (keeps.name ns)) once.0, once.1)
      go false e more = (apart ns.name rest e once.0, more)
