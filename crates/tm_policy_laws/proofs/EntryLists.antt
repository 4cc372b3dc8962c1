-- Lists of entries: each can be written and no two share a line, as lines are added and deleted.
use Rattle.std.proofs.Common.{◌≡◌, ℕ, ◌<◌, ◌^◌, ◌==◌, nat_lt, Bool, true, false, ◌||◌, ◌&&◌, List, [], ◌∷◌, ◌++◌, length, refl, sym, ap, subst, ◌∙◌, arith}
use Rattle.std.specs.Prelude.{if◌then◌else◌, bit_or}
use Rattle.std.specs.List.{AllByRecursion, IsDistinct}
use Rattle.std.proofs.lemmas.Bool.{eqb-true, eqb-false, ltb-true, lt-ltb, eq-eqb}
use Rattle.std.proofs.lemmas.Nat.{or_lt, le_or_l}
use Rattle.std.proofs.lemmas.List.{append_assoc, append-nil}
use Rattle.tm_rules.specs.Types.{Args, Entry}
use Rattle.tm_rules.specs.Prelude.{adding, args_equal, conds_equal, deleting, is_domain_name, same_line, unless_empty, without_permissions}
use Rattle.tm_rules.proofs.EqualityLaws.{both, all, same_args}
use Rattle.tm_word.specs.Prelude.{spelled_pattern}
use Rattle.tm_pattern.specs.Grammar.{is_right}
use Rattle.tm_domain.specs.Names.{is_path}
use Rattle.tm_line.specs.declared.permissions.Row.{Row}
use Rattle.tm_line.specs.Permissions.{names}
use Rattle.tm_line.specs.Written.{is_set, is_name, is_number, is_address}
use Rattle.tm_file.specs.Preferences.{is_prefer}
use Rattle.tm_file.specs.FileLines.{is_file}
use Rattle.tm_net.specs.NetLines.{is_net, is_env, inet_permissions, unix_permissions}
use Rattle.tm_cond.specs.Written.{is_cond}
use Rattle.tm_entry.specs.Entries.{is_entry}
use Rattle.tm_policy_laws.specs.Policies.{AreEntries}
use Rattle.tm_policy_laws.proofs.ListLaws.{adding_all, once_before}

-- Permissions that a line can write, as some are joined and taken

-- the permissions without others, some of which are left
abbrev left_of : ℕ → ℕ → ℕ
left_of bits taken = without_permissions bits taken

-- joined permissions pass the test, and what is left of some
pub record Closed (test : ℕ → Bool) : Type 0 where
  pub joined : (x y : ℕ) → test x ≡ true → test y ≡ true → test (bit_or x y) ≡ true
  pub left : (x y : ℕ) → test x ≡ true → (left_of x y == 0) ≡ false → test (left_of x y) ≡ true

closed_and : (test : ℕ → Bool) (more : Bool) → Closed test → Closed (λ bits. test bits && more)
closed_and test more c = record {
  joined = λ x y h k. let a = both (test x) more h in let b = both (test y) more k in all (test (bit_or x y)) more (c.joined x y a.0 b.0) a.1;
  left = λ x y h some. let a = both (test x) more h in all (test (left_of x y)) more (c.left x y a.0 some) a.1;
}

or_false : (a : Bool) → (a || false) ≡ true → a ≡ true
or_false true h = refl
or_false false h = h

false_or : (a : Bool) → a ≡ true → (a || false) ≡ true
false_or true h = refl
false_or false h = h

closed_or : (test : ℕ → Bool) → Closed test → Closed (λ bits. test bits || false)
closed_or test c = record {
  joined = λ x y h k. false_or (test (bit_or x y)) (c.joined x y (or_false (test x) h) (or_false (test y) k));
  left = λ x y h some. false_or (test (left_of x y)) (c.left x y (or_false (test x) h) some);
}

abbrev top : Row → ℕ
top acl_row = 2 ^ length (names acl_row)

closed_set : (acl_row : Row) → Closed (is_set acl_row)
closed_set acl_row = record { joined = joined; left = left }
  where
    joined : (x y : ℕ) → is_set acl_row x ≡ true → is_set acl_row y ≡ true → is_set acl_row (bit_or x y) ≡ true
    joined x y h k =
        let a = both (nat_lt 0 x) (nat_lt x (top acl_row)) h in
        let b = both (nat_lt 0 y) (nat_lt y (top acl_row)) k in
        let low : 0 < x = ltb-true 0 x a.0 in
        let some : 0 < bit_or x y = omega (arith, low, le_or_l x y) in
        let high : bit_or x y < top acl_row = or_lt (length (names acl_row)) x y (ltb-true x (top acl_row) a.1) (ltb-true y (top acl_row) b.1) in
        rw (lt-ltb _ _ some) (lt-ltb _ _ high)

    left : (x y : ℕ) → is_set acl_row x ≡ true → (left_of x y == 0) ≡ false → is_set acl_row (left_of x y) ≡ true
    left x y h e =
        let a = both (nat_lt 0 x) (nat_lt x (top acl_row)) h in
        let below : x < top acl_row = ltb-true x (top acl_row) a.1 in
        let other = eqb-false (left_of x y) 0 e in
        let some : 0 < left_of x y = omega (arith, other) in
        let high : left_of x y < top acl_row = omega (arith, below) in
        rw (lt-ltb _ _ some) (lt-ltb _ _ high)

abbrev is_one : ℕ → Bool
is_one bits = bits == 1

closed_one : Closed is_one
closed_one = record { joined = joined; left = left }
  where
    joined : (x y : ℕ) → is_one x ≡ true → is_one y ≡ true → is_one (bit_or x y) ≡ true
    joined x y h k = subst (λ v. is_one (bit_or v y) ≡ true) (sym (eqb-true x 1 h)) (subst (λ v. is_one (bit_or 1 v) ≡ true) (sym (eqb-true y 1 k)) refl)

    left : (x y : ℕ) → is_one x ≡ true → (left_of x y == 0) ≡ false → is_one (left_of x y) ≡ true
    left x y h e =
        let one = eqb-true x 1 h in
        let other = eqb-false (left_of x y) 0 e in
        let same : left_of x y ≡ 1 = omega (arith, one, other) in
        eq-eqb (left_of x y) 1 same

abbrev can : Args → ℕ → Bool
can args bits = is_file args bits || is_net args bits

closed_can : (args : Args) → Closed (can args)
unfolding is_file is_net
closed_can (Args.Path n) = closed_or _ (closed_and _ (is_name n) (closed_set Row.Path))
closed_can (Args.Execute n prefer) = closed_or _ (closed_and _ (is_prefer prefer) (closed_and _ (is_name n) closed_one))
closed_can (Args.PathNumber n k) = closed_or _ (closed_and _ (is_number k) (closed_and _ (is_name n) (closed_set Row.PathNumber)))
closed_can (Args.Device n mode major minor) =
    closed_or _ (closed_and _ (is_number minor) (closed_and _ (is_number major) (closed_and _ (is_number mode) (closed_and _ (is_name n) (closed_set Row.Device)))))
closed_can (Args.Path2 n m) = closed_or _ (closed_and _ (is_name m) (closed_and _ (is_name n) (closed_set Row.Pair)))
closed_can (Args.Mount device dir type flags) = closed_or _ (closed_and _ (is_number flags) (closed_and _ (is_name type) (closed_and _ (is_name dir) (closed_and _ (is_name device) closed_one))))
closed_can (Args.Inet kind address port) = closed_and _ (is_number port) (closed_and _ (is_address address) (closed_set (inet_permissions kind)))
closed_can (Args.Unix kind n) = closed_and _ (is_name n) (closed_set (unix_permissions kind))
closed_can (Args.Env pattern_) = closed_and _ (is_env (spelled_pattern pattern_)) (closed_and _ (is_right pattern_) closed_one)
closed_can (Args.Manual name) = closed_and _ (is_domain_name is_path name) closed_one

-- Entries that a line can write

-- the entry with other permissions
abbrev with_bits : Entry → ℕ → Entry
with_bits entry bits = record entry { perms = record { bits = bits } }

entry_joined : (entry line : Entry) → same_line entry line ≡ true → is_entry entry ≡ true → is_entry line ≡ true → is_entry (with_bits entry (bit_or entry.perms.bits line.perms.bits)) ≡ true
unfolding is_entry
entry_joined entry line same h k =
    let args = same_args.sound entry.args line.args (both (args_equal entry.args line.args) (conds_equal entry.cond line.cond) same).0 in
    let a = both (can entry.args entry.perms.bits) (is_cond entry.cond) h in
    let b = both (can line.args line.perms.bits) (is_cond line.cond) k in
    let c = subst (λ args. can args line.perms.bits ≡ true) (sym args) b.0 in
    all (can entry.args (bit_or entry.perms.bits line.perms.bits)) (is_cond entry.cond) ((closed_can entry.args).joined entry.perms.bits line.perms.bits a.0 c) a.1

entry_left : (entry : Entry) (taken : ℕ) → is_entry entry ≡ true → (left_of entry.perms.bits taken == 0) ≡ false → is_entry (with_bits entry (left_of entry.perms.bits taken)) ≡ true
unfolding is_entry
entry_left entry taken h some =
    let a = both (can entry.args entry.perms.bits) (is_cond entry.cond) h in
    all (can entry.args (left_of entry.perms.bits taken)) (is_cond entry.cond) ((closed_can entry.args).left entry.perms.bits taken a.0 some) a.1

-- Lists of entries

all_adding : (P : Entry → Type 0) (line : Entry) (entries : List Entry) → P line → ((entry : Entry) → same_line entry line ≡ true → P entry → P (with_bits entry (bit_or entry.perms.bits line.perms.bits))) → AllByRecursion P entries → AllByRecursion P (adding line entries)
unfolding adding
all_adding P line [] h join each = (h, tt)
all_adding P line (entry ∷ entries) h join each = go (same_line entry line) refl (all_adding P line entries h join each.1)
  where
    go : (b : Bool) → same_line entry line ≡ b → AllByRecursion P (adding line entries) → AllByRecursion P (if b then with_bits entry (bit_or entry.perms.bits line.perms.bits) ∷ entries else entry ∷ adding line entries)
    go true e more = (join entry e each.0, each.1)
    go false e more = (each.0, more)

once_adding : (line : Entry) (entries : List Entry) → IsDistinct same_line entries → IsDistinct same_line (adding line entries)
unfolding adding IsDistinct
once_adding line [] once = (tt, tt)
once_adding line (entry ∷ entries) once = go (same_line entry line) refl (once_adding line entries once.1)
  where
    go : (b : Bool) → same_line entry line ≡ b → IsDistinct same_line (adding line entries) → IsDistinct same_line (if b then with_bits entry (bit_or entry.perms.bits line.perms.bits) ∷ entries else entry ∷ adding line entries)
    go true e more = once
    go false e more = (all_adding (λ y. same_line entry y ≡ false) line entries e (λ y s h. h) once.0, more)

pub none_entries : AreEntries []
unfolding IsDistinct
none_entries = record { each = tt; once = tt }

pub are_adding : (line : Entry) (entries : List Entry) → is_entry line ≡ true → AreEntries entries → AreEntries (adding line entries)
are_adding line entries h are = record {
  each = all_adding (λ e. is_entry e ≡ true) line entries h (λ e same k. entry_joined e line same k h) are.each;
  once = once_adding line entries are.once;
}

all_deleting : (P : Entry → Type 0) (line : Entry) (entries : List Entry) → ((entry : Entry) (taken : ℕ) → P entry → (left_of entry.perms.bits taken == 0) ≡ false → P (with_bits entry (left_of entry.perms.bits taken))) → AllByRecursion P entries → AllByRecursion P (deleting line entries)
unfolding deleting
all_deleting P line [] less each = tt
all_deleting P line (entry ∷ entries) less each = go (same_line entry line) (all_deleting P line entries less each.1)
  where
    rest : (b : Bool) → (left_of entry.perms.bits line.perms.bits == 0) ≡ b → AllByRecursion P (if b then entries else with_bits entry (left_of entry.perms.bits line.perms.bits) ∷ entries)
    rest true e = each.1
    rest false e = (less entry line.perms.bits each.0 e, each.1)

    go : (b : Bool) → AllByRecursion P (deleting line entries) → AllByRecursion P (if b then unless_empty (with_bits entry (left_of entry.perms.bits line.perms.bits)) entries else entry ∷ deleting line entries)
    go true more = rest (left_of entry.perms.bits line.perms.bits == 0) refl
    go false more = (each.0, more)

once_deleting : (line : Entry) (entries : List Entry) → IsDistinct same_line entries → IsDistinct same_line (deleting line entries)
unfolding deleting IsDistinct
once_deleting line [] once = tt
once_deleting line (entry ∷ entries) once = go (same_line entry line) (once_deleting line entries once.1)
  where
    rest : (b : Bool) → IsDistinct same_line (if b then entries else with_bits entry (left_of entry.perms.bits line.perms.bits) ∷ entries)
    rest true = once.1
    rest false = once

    go : (b : Bool) → IsDistinct same_line (deleting line entries) → IsDistinct same_line (if b then unless_empty (with_bits entry (left_of entry.perms.bits line.perms.bits)) entries else entry ∷ deleting line entries)
    go true more = rest (left_of entry.perms.bits line.perms.bits == 0)
    go false more = (all_deleting (λ y. same_line entry y ≡ false) line entries (λ y taken h some. h) once.0, more)

pub are_deleting : (line : Entry) (entries : List Entry) → AreEntries entries → AreEntries (deleting line entries)
are_deleting line entries are = record {
  each = all_deleting (λ e. is_entry e ≡ true) line entries (λ e taken h some. entry_left e taken h some) are.each;
  once = once_deleting line entries are.once;
}

-- Entries rebuilt

pub adds_last : (line : Entry) (done : List Entry) → AllByRecursion (λ e. same_line e line ≡ false) done → adding line done ≡ done ++ line ∷ []
unfolding adding
adds_last line [] differ = refl
adds_last line (entry ∷ done) differ = rw differ.0 (ap (λ t. entry ∷ t) (adds_last line done differ.1))

pub added_after : (done lines : List Entry) → IsDistinct same_line (done ++ lines) → adding_all done lines ≡ done ++ lines
added_after done [] once = sym (append-nil done)
added_after done (line ∷ lines) once =
    let whole : (done ++ line ∷ []) ++ lines ≡ done ++ line ∷ lines = append_assoc done (line ∷ []) lines in
    ap (λ list. adding_all list lines) (adds_last line done (once_before same_line done line lines once))
    ∙ added_after (done ++ line ∷ []) lines (subst (IsDistinct same_line) (sym whole) once)
    ∙ whole
