-- The printed domains are made again, live ones alone, by new numbers.
use Rattle.std.proofs.Common.{◌≡◌, ℕ, suc, ◌+◌, ◌<◌, Bool, true, false, ◌&&◌, List, [], ◌∷◌, ◌++◌, length, true≢false, refl, sym, ap, subst, ◌∙◌, append_assoc}
use Rattle.std.specs.Prelude.{Some, None, is_some, if◌then◌else◌, cond, slice_get, filter}
use Rattle.std.specs.List.{AllByRecursion, flat_map, position_from}
use Rattle.std.proofs.lemmas.Bool.{lt-ltb}
use Rattle.std.proofs.lemmas.List.{append-nil}
use Rattle.tm_word.specs.Prelude.{Text, texts_equal}
use Rattle.tm_rules.specs.Types.{Domain, DomainRule, Entry, FileKind, Policy, PolicyLine}
use Rattle.tm_rules.specs.Prelude.{Cursor, DomainName, Edited, Numbers, adding, apply_read, changed_at, changed_domain, domain_line, edited, kernel, live_domain, namespace_named, namespace_word, new_domain, on_chosen, profile_numbered, put_key}
use Rattle.tm_domain.proofs.NameLaws.{same_texts}
use Rattle.tm_line.specs.DomainWords.{domain_parts}
use Rattle.tm_entry.specs.Entries.{is_entry}
use Rattle.tm_text.specs.DomainText.{flag_line, group_line, entry_line, block_text, live_text}
use Rattle.tm_policy_line.specs.Printing.{printed_line, profile_words, quota_words, failed_words, domain_rule_words}
use Rattle.tm_policy_line.specs.Written.{is_domain_rule}
use Rattle.tm_policy_laws.specs.Policies.{IsMember, IsWrittenDomain}
use Rattle.tm_policy_laws.proofs.ListLaws.{putting_all, adding_all, put_after}
use Rattle.tm_policy_laws.proofs.EntryLists.{added_after}
use Rattle.tm_policy_line.proofs.PrintedWords.{domain_are}
use Rattle.tm_policy_line.proofs.DomainAgain.{domain_again}
use Rattle.tm_policy_laws.proofs.Folding.{Loads, loads_none, loads_both, loads_all, loads_line, loads_empty}

-- The last domain

get_last : (made : List Domain) (x : Domain) → slice_get (made ++ x ∷ []) (length made) ≡ Some x
get_last [] x = refl
get_last (a ∷ made) x = get_last made x

set_last : (made : List Domain) (x y : Domain) → changed_at (length made) (λ z. y) (made ++ x ∷ []) ≡ made ++ y ∷ []
set_last [] x y = refl
set_last (a ∷ made) x y = ap (λ ds. a ∷ ds) (set_last made x y)

-- the policy with these domains
abbrev pub with_domains : Policy → List Domain → Policy
with_domains base domains = record base { domains = domains }

-- the chosen domain is the last one
chosen_last : (base : Policy) (made : List Domain) (x : Domain) (change : ℕ → Domain → Edited) → x.live ≡ true → on_chosen (with_domains base (made ++ x ∷ [])) (Some (length made)) change ≡ change (length made) x
chosen_last base made x change live = rw (get_last made x, live) refl

changed_last : (base : Policy) (made : List Domain) (x y : Domain) → changed_domain (with_domains base (made ++ x ∷ [])) (Some (length made)) (length made) y ≡ edited (with_domains base (made ++ y ∷ [])) (Some (length made))
changed_last base made x y = ap (λ ds. edited (with_domains base ds) (Some (length made))) (set_last made x y)

profiles_stay : (base : Policy) (domains : List Domain) (ns : Text) (n : ℕ) → profile_numbered (with_domains base domains) ns n ≡ profile_numbered base ns n
unfolding namespace_named
profiles_stay base domains ns n = refl

-- Lines of the last domain

-- one domain after those that were made
abbrev at_last : Policy → List Domain → Domain → Policy
at_last base made x = with_domains base (made ++ x ∷ [])

module _ (base : Policy) (made : List Domain) (x : Domain) (live : x.live ≡ true) where
  profile_done : (n : ℕ) → is_some (profile_numbered base (namespace_word x.name) n) ≡ true → domain_line (at_last base made x) (Some (length made)) (DomainRule.UseProfile n) ≡ edited (at_last base made (record x { profile = n })) (Some (length made))
  unfolding domain_line
  profile_done n defined =
      chosen_last base made x _ live
      ∙ rw (profiles_stay base (made ++ x ∷ []) (namespace_word x.name) n, defined) (changed_last base made x (record x { profile = n }))

  group_done : (n : ℕ) → domain_line (at_last base made x) (Some (length made)) (DomainRule.UseGroup false n) ≡ edited (at_last base made (record x { groups = put_key n tt x.groups })) (Some (length made))
  unfolding domain_line
  group_done n = chosen_last base made x _ live ∙ changed_last base made x (record x { groups = put_key n tt x.groups })

  quota_done : domain_line (at_last base made x) (Some (length made)) (DomainRule.QuotaExceeded false) ≡ edited (at_last base made (record x { quota_exceeded = true })) (Some (length made))
  unfolding domain_line
  quota_done = chosen_last base made x _ live ∙ changed_last base made x (record x { quota_exceeded = true })

  failed_done : domain_line (at_last base made x) (Some (length made)) (DomainRule.TransitionFailed false) ≡ edited (at_last base made (record x { transition_failed = true })) (Some (length made))
  unfolding domain_line
  failed_done = chosen_last base made x _ live ∙ changed_last base made x (record x { transition_failed = true })

  entry_done : (entry : Entry) → domain_line (at_last base made x) (Some (length made)) (DomainRule.Acl false entry) ≡ edited (at_last base made (record x { entries = adding entry x.entries })) (Some (length made))
  unfolding domain_line
  entry_done entry = chosen_last base made x _ live ∙ changed_last base made x (record x { entries = adding entry x.entries })

-- A domain's block

rule_loads
    : {p : Policy} {c : Cursor} {q : Policy} {d : Cursor} (rule : DomainRule) → is_domain_rule rule ≡ true → domain_line p c rule ≡ edited q d
    → Loads FileKind.Domain (printed_line (domain_rule_words rule)) p c q d
unfolding apply_read
rule_loads rule right done = loads_line (domain_rule_words rule) (PolicyLine.Domain rule) (domain_are rule right) (domain_again rule right) done

module _ (base : Policy) (made : List Domain) where
  -- lines that lead from one last domain to another
  abbrev Makes : Text → Domain → Domain → Type 0
  Makes text x y = Loads FileKind.Domain text (at_last base made x) (Some (length made)) (at_last base made y) (Some (length made))

  profile_makes : (x : Domain) (n : ℕ) → x.live ≡ true → n < 256 → is_some (profile_numbered base (namespace_word x.name) n) ≡ true → Makes (printed_line (profile_words n)) x (record x { profile = n })
  unfolding is_domain_rule domain_rule_words
  profile_makes x n live low defined = rule_loads (DomainRule.UseProfile n) (lt-ltb n 256 low) (profile_done base made x live n defined)

  groups_make : (x : Domain) (groups : Numbers) → x.live ≡ true → AllByRecursion IsMember groups → Makes (flat_map group_line groups) x (record x { groups = putting_all x.groups groups })
  unfolding is_domain_rule domain_rule_words
  groups_make x groups live h =
      loads_all IsMember group_line (λ s. at_last base made (record x { groups = s })) (Some (length made)) (λ s group. put_key group.0 group.1 s)
      (λ group s low. rule_loads (DomainRule.UseGroup false group.0) (lt-ltb group.0 256 low) (group_done base made (record x { groups = s }) live group.0))
      groups
      x.groups
      h

  quota_makes : (x : Domain) (flag : Bool) → x.live ≡ true → x.quota_exceeded ≡ false → Makes (flag_line quota_words flag) x (record x { quota_exceeded = flag })
  unfolding is_domain_rule domain_rule_words
  quota_makes x true live none = rule_loads (DomainRule.QuotaExceeded false) refl (quota_done base made x live)
  quota_makes x false live none = subst (λ (flag : Bool). Makes [] x (record x { quota_exceeded = flag })) none loads_none

  failed_makes : (x : Domain) (flag : Bool) → x.live ≡ true → x.transition_failed ≡ false → Makes (flag_line failed_words flag) x (record x { transition_failed = flag })
  unfolding is_domain_rule domain_rule_words
  failed_makes x true live none = rule_loads (DomainRule.TransitionFailed false) refl (failed_done base made x live)
  failed_makes x false live none = subst (λ (flag : Bool). Makes [] x (record x { transition_failed = flag })) none loads_none

  entries_make : (x : Domain) (entries : List Entry) → x.live ≡ true → AllByRecursion (λ (e : Entry). is_entry e ≡ true) entries → Makes (flat_map entry_line entries) x (record x { entries = adding_all x.entries entries })
  unfolding is_domain_rule domain_rule_words
  entries_make x entries live h =
      loads_all (λ (e : Entry). is_entry e ≡ true) entry_line (λ s. at_last base made (record x { entries = s })) (Some (length made)) (λ s entry. adding entry s)
      (λ entry s right. rule_loads (DomainRule.Acl false entry) right (entry_done base made (record x { entries = s }) live entry))
      entries
      x.entries
      h

  -- the whole block, once its name is chosen
  block_loads
      : (domain : Domain) (start : Policy) (c : Cursor) → domain.live ≡ true → IsWrittenDomain domain → is_some (profile_numbered base (namespace_word domain.name) domain.profile) ≡ true
      → domain_line start c (DomainRule.Choose domain.name) ≡ edited (at_last base made (new_domain domain.name 0 [])) (Some (length made))
      → Loads FileKind.Domain (block_text domain) start c (at_last base made domain) (Some (length made))
  unfolding block_text is_domain_rule domain_rule_words
  block_loads domain start c live h defined chosen =
      let x0 : Domain = new_domain domain.name 0 [] in
      let x1 : Domain = record x0 { profile = domain.profile } in
      let x2 : Domain = record x1 { groups = domain.groups } in
      let x3 : Domain = record x2 { quota_exceeded = domain.quota_exceeded } in
      let x4 : Domain = record x3 { transition_failed = domain.transition_failed } in
      let x5 : Domain = record x4 { entries = domain.entries } in
      let name : Loads FileKind.Domain (printed_line (domain_parts domain.name)) start c (at_last base made x0) (Some (length made)) = rule_loads (DomainRule.Choose domain.name) h.name chosen in
      let profile : Makes (printed_line (profile_words domain.profile)) x0 x1 = profile_makes x0 domain.profile refl h.profile defined in
      let groups : Makes (flat_map group_line domain.groups) x1 x2 =
      subst (λ (gs : Numbers). Makes (flat_map group_line domain.groups) x1 (record x1 { groups = gs })) (put_after [] domain.groups h.group_order) (groups_make x1 domain.groups refl h.groups) in
      let quota : Makes (flag_line quota_words domain.quota_exceeded) x2 x3 = quota_makes x2 domain.quota_exceeded refl refl in
      let failed : Makes (flag_line failed_words domain.transition_failed) x3 x4 = failed_makes x3 domain.transition_failed refl refl in
      let entries : Makes (flat_map entry_line domain.entries) x4 x5 =
      subst (λ (es : List Entry). Makes (flat_map entry_line domain.entries) x4 (record x4 { entries = es })) (added_after [] domain.entries h.entries.once) (entries_make x4 domain.entries refl h.entries.each) in
      let same : x5 ≡ domain = ap (λ (l : Bool). record domain { live = l }) (sym live) in
      let empty : Makes (10 ∷ []) x5 domain = subst (λ (y : Domain). Makes (10 ∷ []) x5 y) same loads_empty in
      loads_both (loads_both (loads_both (loads_both (loads_both name profile) groups) (loads_both quota failed)) entries) empty

-- Names

-- no live domain has the name before, and the last one hasn't either
position_none : (t : Domain → Bool) (i : ℕ) (made : List Domain) (x : Domain) → position_from t i made ≡ None → t x ≡ false → position_from t i (made ++ x ∷ []) ≡ None
position_none t i [] x none other = rw other refl
position_none t i (a ∷ made) x none other = by_test (t a) none (position_none t (i + 1) made x)
  where
    by_test
        : (b : Bool) → cond b (Some i) (position_from t (i + 1) made) ≡ None → (position_from t (i + 1) made ≡ None → t x ≡ false → position_from t (i + 1) (made ++ x ∷ []) ≡ None)
        → cond b (Some i) (position_from t (i + 1) (made ++ x ∷ [])) ≡ None
    by_test true e rest = absurd cc
    by_test false e rest = rest e other

other_name : (x : Domain) (name : DomainName) → texts_equal x.name name ≡ false → (x.live && texts_equal x.name name) ≡ false
other_name x name other = by_life x.live
  where
    by_life : (b : Bool) → (b && texts_equal x.name name) ≡ false
    by_life true = other
    by_life false = refl

still_none : (base : Policy) (made : List Domain) (x : Domain) (name : DomainName) → live_domain (with_domains base made) name ≡ None → texts_equal x.name name ≡ false → live_domain (with_domains base (made ++ x ∷ [])) name ≡ None
unfolding live_domain
still_none base made x name none other = position_none (λ domain. domain.live && texts_equal domain.name name) 0 made x none (other_name x name other)

-- each live domain of a list has a name that no live one before it has
abbrev pub Apart : List Domain → Type 0
Apart [] = Unit {0}
Apart (x ∷ xs) = (x.live ≡ true → AllByRecursion (λ (y : Domain). y.live ≡ true → texts_equal x.name y.name ≡ false) xs) × Apart xs

-- at most one live domain of each name
abbrev pub OneLive : List Domain → Type 0
OneLive ds = (d e : ℕ) (x y : Domain) → slice_get ds d ≡ Some x → slice_get ds e ≡ Some y → x.live ≡ true → y.live ≡ true → x.name ≡ y.name → d ≡ e

pub all_by_place : {A : Type 0} (P : A → Type 0) (xs : List A) → ((k : ℕ) (x : A) → slice_get xs k ≡ Some x → P x) → AllByRecursion P xs
all_by_place P [] h = tt
all_by_place P (x ∷ xs) h = (h 0 x refl, all_by_place P xs (λ k y e. h (suc k) y e))

pub apart : (ds : List Domain) → OneLive ds → Apart ds
apart [] one = tt
apart (x ∷ xs) one = (λ live. all_by_place (λ (y : Domain). y.live ≡ true → texts_equal x.name y.name ≡ false) xs (λ k y there alive. by_test k y there live alive (texts_equal x.name y.name) refl), apart xs (λ d e a b at there live alive same. less d e (one (suc d) (suc e) a b at there live alive same)))
  where
    less : (d e : ℕ) → suc d ≡ suc e → d ≡ e
    less d e h = cc

    by_test : (k : ℕ) (y : Domain) → slice_get xs k ≡ Some y → x.live ≡ true → y.live ≡ true → (b : Bool) → texts_equal x.name y.name ≡ b → texts_equal x.name y.name ≡ false
    by_test k y there live alive true e = let same : 0 ≡ suc k = one 0 (suc k) x y refl there live alive (same_texts x.name y.name e) in absurd cc
    by_test k y there live alive false e = e

-- All domains

abbrev pub is_live : Domain → Bool
is_live domain = domain.live

-- what is asked of a live domain: its lines can be read, and its profile is there
pub record Ready (base : Policy) (domain : Domain) : Type 0 where
  pub written : IsWrittenDomain domain
  pub defined : is_some (profile_numbered base (namespace_word domain.name) domain.profile) ≡ true

-- a live domain's name isn't taken
abbrev pub IsFree : Policy → List Domain → Domain → Type 0
IsFree base made domain = domain.live ≡ true → live_domain (with_domains base made) domain.name ≡ None

made_new
    : (base : Policy) (made : List Domain) (c : Cursor) (name : DomainName) → base.opened ≡ false → live_domain (with_domains base made) name ≡ None
    → domain_line (with_domains base made) c (DomainRule.Choose name) ≡ edited (with_domains base (made ++ new_domain name 0 [] ∷ [])) (Some (length made))
unfolding domain_line
made_new base made c name shut none = rw (none, shut) refl

free_after
    : (base : Policy) (made : List Domain) (x : Domain) (xs : List Domain) → AllByRecursion (λ (y : Domain). y.live ≡ true → texts_equal x.name y.name ≡ false) xs → AllByRecursion (IsFree base made) xs
    → AllByRecursion (IsFree base (made ++ x ∷ [])) xs
free_after base made x [] differ free = tt
free_after base made x (y ∷ xs) differ free = (λ live. still_none base made x y.name (free.0 live) (differ.0 live), free_after base made x xs differ.1 free.1)

-- the domains of a text come last, in their order
pub record Comes (text : Text) (base : Policy) (start : List Domain) (c : Cursor) (end : List Domain) : Type 0 where
  pub cursor : Cursor
  pub loads : Loads FileKind.Domain text (with_domains base start) c (with_domains base end) cursor

module _ (base : Policy) (shut : base.opened ≡ false) where
  pub domains_come
      : (xs made : List Domain) (c : Cursor) → AllByRecursion (λ (x : Domain). x.live ≡ true → Ready base x) xs → AllByRecursion (IsFree base made) xs → Apart xs
      → Comes (flat_map live_text xs) base made c (made ++ filter is_live xs)
  domains_come [] made c ready free apart_ =
      subst (λ (ds : List Domain). Comes [] base made c ds) (sym (append-nil made)) (record { cursor = c; loads = loads_none })
  domains_come (x ∷ xs) made c ready free apart_ = by_life x.live refl (domains_come xs)
    where
      by_life
          : (b : Bool) → x.live ≡ b
          → ((made_ : List Domain) (c_ : Cursor) → AllByRecursion (λ (y : Domain). y.live ≡ true → Ready base y) xs → AllByRecursion (IsFree base made_) xs → Apart xs → Comes (flat_map live_text xs) base made_ c_ (made_ ++ filter is_live xs))
          → Comes ((if b then block_text x else []) ++ flat_map live_text xs) base made c (made ++ cond b (x ∷ filter is_live xs) (filter is_live xs))
      by_life false dead rest = rest made c ready.1 free.1 apart_.1
      by_life true live rest =
          let r = ready.0 live in
          let block = block_loads base made x (with_domains base made) c live r.written r.defined (made_new base made c x.name shut (free.0 live)) in
          let more = rest (made ++ x ∷ []) (Some (length made)) ready.1 (free_after base made x xs (apart_.0 live) free.1) apart_.1 in
          let whole : (made ++ x ∷ []) ++ filter is_live xs ≡ made ++ x ∷ filter is_live xs = append_assoc made (x ∷ []) (filter is_live xs) in
          subst
          (λ (ds : List Domain). Comes (block_text x ++ flat_map live_text xs) base made c ds)
          whole
          (record {
            cursor = more.cursor;
            loads = loads_both block more.loads;
          })

-- `<kernel>` first

-- the first block meets domain 0
kernel_chosen : (base : Policy) (name : DomainName) → name ≡ kernel → domain_line (with_domains base (new_domain kernel 0 [] ∷ [])) None (DomainRule.Choose name) ≡ edited (with_domains base (new_domain name 0 [] ∷ [])) (Some 0)
unfolding domain_line live_domain
kernel_chosen base name is = subst (λ (n : DomainName). domain_line (with_domains base (new_domain kernel 0 [] ∷ [])) None (DomainRule.Choose n) ≡ edited (with_domains base (new_domain n 0 [] ∷ [])) (Some 0)) (sym is) refl

none_before : (base : Policy) (name : DomainName) → live_domain (with_domains base []) name ≡ None
unfolding live_domain
none_before base name = refl

free_first
    : (base : Policy) (x : Domain) (xs : List Domain) → AllByRecursion (λ (y : Domain). y.live ≡ true → texts_equal x.name y.name ≡ false) xs → AllByRecursion (IsFree base (x ∷ [])) xs
free_first base x [] differ = tt
free_first base x (y ∷ xs) differ = (λ live. still_none base [] x y.name (none_before base y.name) (differ.0 live), free_first base x xs differ.1)

-- all domains of a policy whose first domain is a live `<kernel>`
pub domains_back
    : (base : Policy) → base.opened ≡ false → (domains : List Domain) (first : Domain) → slice_get domains 0 ≡ Some first → first.name ≡ kernel → first.live ≡ true → OneLive domains
    → AllByRecursion (λ (x : Domain). x.live ≡ true → Ready base x) domains
    → Comes (flat_map live_text domains) base (new_domain kernel 0 [] ∷ []) None (filter is_live domains)
domains_back base shut [] first at name live one ready = absurd cc
domains_back base shut (x ∷ xs) first at name live one ready =
    let same : x ≡ first = cc in
    by_life x.live refl (ap (λ (d : Domain). d.live) same ∙ live) (ap (λ (d : Domain). d.name) same ∙ name)
  where
    by_life
        : (b : Bool) → x.live ≡ b → x.live ≡ true → x.name ≡ kernel
        → Comes ((if b then block_text x else []) ++ flat_map live_text xs) base (new_domain kernel 0 [] ∷ []) None (cond b (x ∷ filter is_live xs) (filter is_live xs))
    by_life false dead alive is = absurd (true≢false (sym alive ∙ dead))
    by_life true _ alive is =
        let r = ready.0 alive in
        let a = apart (x ∷ xs) one in
        let start : Policy = with_domains base (new_domain kernel 0 [] ∷ []) in
        let block = block_loads base [] x start None alive r.written r.defined (kernel_chosen base x.name is) in
        let more = domains_come base shut xs (x ∷ []) (Some 0) ready.1 (free_first base x xs (a.0 alive)) a.1 in
        record {
          cursor = more.cursor;
          loads = loads_both block more.loads;
        }
