-- The printed exception lines of each namespace are loaded into it.
use Rattle.std.proofs.Common.{◌≡◌, ℕ, ◌<◌, Bool, true, false, List, [], ◌∷◌, ◌++◌, refl, sym, ap, subst, ◌∙◌, append_assoc, arith}
use Rattle.std.specs.Prelude.{unwrap_or}
use Rattle.std.specs.List.{AllByRecursion, IsDistinct, flat_map}
use Rattle.std.proofs.lemmas.List.{append-nil}
use Rattle.tm_word.specs.Prelude.{Pattern, Text, Word}
use Rattle.tm_list.specs.Map.{Rises}
use Rattle.tm_rules.specs.Types.{AddrRange, Control, Entry, ExceptRule, FileKind, GroupLine, Namespace, Policy, PolicyLine, Range}
use Rattle.tm_rules.specs.Prelude.{Cursor, acl_group, adding, apply_read, empty_namespace, except_added, except_line, group_line, joining, patterns_equal, ranges_equal, same_addr_range, same_aggregator, same_control, same_line, same_member, with_group}
use Rattle.tm_line.specs.Namespaces.{line_text}
use Rattle.tm_entry.specs.Entries.{is_entry}
use Rattle.tm_except.specs.Reading.{line}
use Rattle.tm_except.specs.Printing.{rule_words, line_words, lists_text}
use Rattle.tm_profile.specs.Texts.{IsNamespaceWord}
use Rattle.tm_profile.proofs.MapEnds.{Below, below_at, put_last, at_none, at_last, put_again}
use Rattle.tm_text.specs.ExceptionText.{acl_line, acl_lines, exception_lines}
use Rattle.tm_policy_line.specs.Printing.{group_line_words}
use Rattle.tm_policy_line.specs.Written.{is_written_rule}
use Rattle.tm_policy_line.proofs.TextLines.{named_joined}
use Rattle.tm_policy_line.proofs.PrintedWords.{line_are, group_line_are}
use Rattle.tm_policy_line.proofs.ExceptionAgain.{exception_again, acl_group_again}
use Rattle.tm_policy_laws.specs.Policies.{AreRules, path_rule, number_rule, address_rule, aggregator_rule, control_rule, IsAclGroup, IsWrittenHere}
use Rattle.tm_policy_laws.proofs.ListLaws.{IsEven, joining_all, joined_after, once_before}
use Rattle.tm_policy_laws.proofs.EntryLists.{adds_last}
use Rattle.tm_policy_laws.proofs.NamespaceLaws.{even_paths, even_ranges, even_addr_ranges, even_aggregators, even_controls, added-keeps}
use Rattle.tm_policy_laws.proofs.Spaces.{named, Turns, Changes, changes_none, changes_both, changes_line}

-- the namespace with these groups, aggregators and controls
abbrev with_lists : List (Word × Pattern) → List (Word × Range) → List (Word × AddrRange) → List (Pattern × Word) → List Control → Namespace → Namespace
with_lists paths numbers addrs aggregators controls ns =
    record ns { groups = record { paths = paths; numbers = numbers; addrs = addrs }; aggregators = aggregators; controls = controls }

-- the namespace with these ACL groups
abbrev put_acl : List (ℕ × List Entry) → Namespace → Namespace
put_acl groups ns = record ns { acl_groups = groups }

-- an entry joins a group
abbrev in_group : ℕ → Entry → Namespace → Namespace
in_group n entry ns = with_group n (adding entry (acl_group ns n)) ns

abbrev acl_group_line : Text → ℕ → Entry → GroupLine
acl_group_line name n entry = record { delete = false; namespace = name; group = n; entry = entry }

-- an entry that no other shares a line with goes last, in a group that goes last
first_in : (n : ℕ) (entry : Entry) (done : List (ℕ × List Entry)) (ns : Namespace) → Below (λ k. k) n done → in_group n entry (put_acl done ns) ≡ put_acl (done ++ (n, entry ∷ []) ∷ []) ns
unfolding adding
first_in n entry done ns h = rw (at_none n done h) (ap (λ groups. put_acl groups ns) (put_last (λ (k : ℕ). k) n (entry ∷ []) done h))

next_in
    : (n : ℕ) (entry first : Entry) (entries : List Entry) (done : List (ℕ × List Entry)) (ns : Namespace) → Below (λ k. k) n done → AllByRecursion (λ e. same_line e entry ≡ false) (first ∷ entries)
    → in_group n entry (put_acl (done ++ (n, first ∷ entries) ∷ []) ns) ≡ put_acl (done ++ (n, first ∷ (entries ++ entry ∷ [])) ∷ []) ns
next_in n entry first entries done ns h differ =
    ap (λ o. with_group n (adding entry (unwrap_or o [])) (put_acl (done ++ (n, first ∷ entries) ∷ []) ns)) (at_last n (first ∷ entries) done h)
    ∙ ap (λ (es : List Entry). with_group n es (put_acl (done ++ (n, first ∷ entries) ∷ []) ns)) (adds_last entry (first ∷ entries) differ)
    ∙ ap (λ groups. put_acl groups ns) (put_again n (first ∷ entries) (first ∷ (entries ++ entry ∷ [])) done h)

module _ (base : Policy) (c : Cursor) (name : Text) (word : IsNamespaceWord name) where
  -- Rules

  rule_changes : (rule : ExceptRule) (old : Namespace) → is_written_rule rule ≡ true → Changes FileKind.Exception base c (line_text name (rule_words rule)) name old (except_added rule old)
  unfolding apply_read except_line line_words
  rule_changes rule old written =
      subst (λ (t : Text). Changes FileKind.Exception base c t name old (except_added rule old)) (sym (named_joined name (rule_words rule)))
      (changes_line FileKind.Exception base c (name ∷ rule_words rule) (PolicyLine.Exception (line false name rule)) name (except_added rule) old
      (line_are false name rule word.0 written)
      (exception_again false name rule word.1 written)
      (added-keeps rule written).name
      (λ p. refl))

  -- a list of rules
  module _
      {A : Type 0}
      (rule : A → ExceptRule)
      (same : A → A → Bool)
      (put : List A → Namespace → Namespace)
      (adds : (x : A) (done : List A) (ns : Namespace) → except_added (rule x) (put done ns) ≡ put (joining same x done) ns)
    where
      abbrev text_of : List A → Text
      text_of xs = flat_map (λ x. line_text name (rule_words (rule x))) xs

      rules_change
          : (xs done : List A) (ns : Namespace) → AllByRecursion (λ (x : A). is_written_rule (rule x) ≡ true) xs
          → Changes FileKind.Exception base c (text_of xs) name (put done ns) (put (joining_all same done xs) ns)
      rules_change [] done ns h = changes_none FileKind.Exception base c
      rules_change (x ∷ xs) done ns h =
          changes_both FileKind.Exception base c
          (subst (λ (new : Namespace). Changes FileKind.Exception base c (line_text name (rule_words (rule x))) name (put done ns) new) (adds x done ns) (rule_changes (rule x) (put done ns) h.0))
          (rules_change xs (joining same x done) ns h.1)

      list_changes : (xs : List A) (ns : Namespace) → IsEven same → AreRules rule same xs → Changes FileKind.Exception base c (text_of xs) name (put [] ns) (put xs ns)
      list_changes xs ns even h =
          subst
          (λ (ys : List A). Changes FileKind.Exception base c (text_of xs) name (put [] ns) (put ys ns))
          (joined_after same [] xs even h.once)
          (rules_change xs [] ns h.each)

  -- ACL groups

  entry_changes
      : (n : ℕ) (entry : Entry) (old : Namespace) → n < 256 → is_entry entry ≡ true → Changes FileKind.Exception base c (acl_line name n entry) name old (in_group n entry old)
  unfolding apply_read group_line
  entry_changes n entry old low written =
      let made : GroupLine = acl_group_line name n entry in
      changes_line FileKind.Exception base c (group_line_words made) (PolicyLine.Group made) name (in_group n entry) old
      (group_line_are made word.0 low written)
      (acl_group_again made word.1 low written)
      (λ ns. refl)
      (λ p. refl)

  entries_change
      : (n : ℕ) (first : Entry) (entries rest : List Entry) (done : List (ℕ × List Entry)) (ns : Namespace)
      → n < 256 → Below (λ k. k) n done → IsDistinct same_line ((first ∷ entries) ++ rest) → AllByRecursion (λ (e : Entry). is_entry e ≡ true) rest
      → Changes FileKind.Exception base c (flat_map (acl_line name n) rest) name (put_acl (done ++ (n, first ∷ entries) ∷ []) ns) (put_acl (done ++ (n, first ∷ (entries ++ rest)) ∷ []) ns)
  entries_change n first entries [] done ns low below once written =
      subst
      (λ (es : List Entry). Changes FileKind.Exception base c [] name (put_acl (done ++ (n, first ∷ entries) ∷ []) ns) (put_acl (done ++ (n, first ∷ es) ∷ []) ns))
      (sym (append-nil entries))
      (changes_none FileKind.Exception base c)
  entries_change n first entries (entry ∷ rest) done ns low below once written =
      let old : Namespace = put_acl (done ++ (n, first ∷ entries) ∷ []) ns in
      let mid : Namespace = put_acl (done ++ (n, first ∷ (entries ++ entry ∷ [])) ∷ []) ns in
      let whole : (entries ++ entry ∷ []) ++ rest ≡ entries ++ entry ∷ rest = append_assoc entries (entry ∷ []) rest in
      changes_both FileKind.Exception base c
      (subst (λ (new : Namespace). Changes FileKind.Exception base c (acl_line name n entry) name old new) (next_in n entry first entries done ns below (once_before same_line (first ∷ entries) entry rest once)) (entry_changes n entry old low written.0))
      (subst
      (λ (es : List Entry). Changes FileKind.Exception base c (flat_map (acl_line name n) rest) name mid (put_acl (done ++ (n, first ∷ es) ∷ []) ns))
      whole
      (entries_change n first (entries ++ entry ∷ []) rest done ns low below (subst (λ (es : List Entry). IsDistinct same_line (first ∷ es)) (sym whole) once) written.1))

  group_changes
      : (n : ℕ) (entries : List Entry) (done : List (ℕ × List Entry)) (ns : Namespace) → Below (λ k. k) n done → IsAclGroup (n, entries)
      → Changes FileKind.Exception base c (acl_lines name (n, entries)) name (put_acl done ns) (put_acl (done ++ (n, entries) ∷ []) ns)
  group_changes n [] done ns below h = let none : 0 < 0 = h.some in absurd (omega (arith, none))
  group_changes n (first ∷ rest) done ns below h =
      changes_both FileKind.Exception base c
      (subst (λ (new : Namespace). Changes FileKind.Exception base c (acl_line name n first) name (put_acl done ns) new) (first_in n first done ns below) (entry_changes n first (put_acl done ns) h.number h.entries.each.0))
      (entries_change n first [] rest done ns h.number below h.entries.once h.entries.each.1)

  groups_change
      : (groups done : List (ℕ × List Entry)) (ns : Namespace) → Rises (λ n. n) (done ++ groups) → AllByRecursion IsAclGroup groups
      → Changes FileKind.Exception base c (flat_map (acl_lines name) groups) name (put_acl done ns) (put_acl (done ++ groups) ns)
  groups_change [] done ns rises h =
      subst (λ (all : List (ℕ × List Entry)). Changes FileKind.Exception base c [] name (put_acl done ns) (put_acl all ns)) (sym (append-nil done)) (changes_none FileKind.Exception base c)
  groups_change (group ∷ groups) done ns rises h =
      let whole : (done ++ group ∷ []) ++ groups ≡ done ++ group ∷ groups = append_assoc done (group ∷ []) groups in
      changes_both FileKind.Exception base c
      (group_changes group.0 group.1 done ns (below_at (λ (n : ℕ). n) done group groups rises) h.0)
      (subst
      (λ (all : List (ℕ × List Entry)). Changes FileKind.Exception base c (flat_map (acl_lines name) groups) name (put_acl (done ++ group ∷ []) ns) (put_acl all ns))
      whole
      (groups_change groups (done ++ group ∷ []) ns (subst (Rises (λ (n : ℕ). n)) (sym whole) rises) h.1))

-- All lines of a namespace

-- nothing but profiles was written yet
abbrev pub HasProfiles : Namespace → Type 0
HasProfiles ns = ns ≡ record (empty_namespace ns.name) { profiles = ns.profiles }

-- a namespace with these lists
abbrev pub with_exceptions : Namespace → Namespace → Namespace
with_exceptions ns old = record old { groups = ns.groups; aggregators = ns.aggregators; controls = ns.controls; acl_groups = ns.acl_groups }

module _ (base : Policy) (c : Cursor) (ns : Namespace) (h : IsWrittenHere ns) where
  lists_change
      : (old : Namespace)
      → Changes FileKind.Exception base c (lists_text ns) ns.name (with_lists [] [] [] [] [] old) (with_lists ns.groups.paths ns.groups.numbers ns.groups.addrs ns.aggregators ns.controls old)
  unfolding lists_text except_added rule_words
  lists_change old =
      let p = ns.groups.paths in
      let n = ns.groups.numbers in
      let a = ns.groups.addrs in
      let f = ns.aggregators in
      let k = ns.controls in
      let paths =
      list_changes base c ns.name h.name path_rule (same_member patterns_equal) (λ xs ns_. with_lists xs [] [] [] [] ns_) (λ x done ns_. refl) p old even_paths h.paths in
      let numbers =
      list_changes base c ns.name h.name number_rule (same_member ranges_equal) (λ xs ns_. with_lists p xs [] [] [] ns_) (λ x done ns_. refl) n old even_ranges h.numbers in
      let addrs =
      list_changes base c ns.name h.name address_rule (same_member same_addr_range) (λ xs ns_. with_lists p n xs [] [] ns_) (λ x done ns_. refl) a old even_addr_ranges h.addrs in
      let aggregators =
      list_changes base c ns.name h.name aggregator_rule same_aggregator (λ xs ns_. with_lists p n a xs [] ns_) (λ x done ns_. refl) f old even_aggregators h.aggregators in
      let controls =
      list_changes base c ns.name h.name control_rule same_control (λ xs ns_. with_lists p n a f xs ns_) (λ x done ns_. refl) k old even_controls h.controls in
      changes_both FileKind.Exception base c paths
      (changes_both FileKind.Exception base c numbers
      (changes_both FileKind.Exception base c addrs
      (changes_both FileKind.Exception base c aggregators controls)))

  lines_change
      : (old : Namespace)
      → Changes FileKind.Exception base c (exception_lines ns) ns.name (with_lists [] [] [] [] [] (put_acl [] old)) (with_exceptions ns old)
  unfolding exception_lines
  lines_change old =
      let bare : Namespace = put_acl [] old in
      let mid : Namespace = with_lists ns.groups.paths ns.groups.numbers ns.groups.addrs ns.aggregators ns.controls bare in
      changes_both FileKind.Exception base c
      (lists_change bare)
      (groups_change base c ns.name h.name ns.acl_groups [] mid h.acl_order h.acl_groups)

  -- the printed lines of a namespace that has profiles alone
  pub exceptions_turn
      : (spaces : List Namespace) → HasProfiles (named spaces ns.name)
      → Turns FileKind.Exception base c (exception_lines ns) ns.name spaces (with_exceptions ns (named spaces ns.name))
  exceptions_turn spaces blank = (lines_change (named spaces ns.name)).turns spaces blank
