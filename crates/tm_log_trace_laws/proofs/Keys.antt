-- Which keys a table has, and which numbers nobody has.
use Rattle.std.proofs.Common.{◌≡◌, ℕ, ◌<◌, ◌≤◌, ◌==◌, Bool, true, false, cond, List, [], ◌∷◌, refl, sym, ap, ◌∙◌, arith, ◌⊎◌, inl, inr}
use Rattle.std.specs.Prelude.{Option, Some, None}
use Rattle.std.specs.declared.cmp.Ordering.{Ordering}
use Rattle.std.specs.declared.cmp.Ordering.TheVariants.{Less, Equal, Greater}
use Rattle.std.specs.Ordering.{is_eq, nat_cmp, match_ordering}
use Rattle.std.specs.Cmp.{unsigned_tied}
use Rattle.std.specs.BTreeMap.{is_at, insert_entry}
use Rattle.std.specs.Map.{lookup}
use Rattle.std.proofs.lemmas.Bool.{eq-eqb, ne_eqb, eqb-true, eqb-false}

abbrev pub Table : Type 0
Table = List (ℕ × ℕ)

abbrev pub key_in : Table → ℕ → Option ℕ
key_in table n = lookup (is_at (nat_cmp n)) table

is-key : (n m : ℕ) → n ≡ m → is_eq (nat_cmp n m) ≡ true
is-key n m e = unsigned_tied n m ∙ eq-eqb n m e

no-key : (n m : ℕ) → (n ≡ m → ⊥) → is_eq (nat_cmp n m) ≡ false
no-key n m ne = unsigned_tied n m ∙ ne_eqb n m ne

equal-keys : (n m : ℕ) → nat_cmp n m ≡ Equal → n ≡ m
equal-keys n m e = eqb-true n m (sym (unsigned_tied n m) ∙ ap is_eq e)

pub insert-other : (table : Table) (key p n : ℕ) → (n ≡ key → ⊥) → key_in (insert_entry nat_cmp table key p) n ≡ key_in table n
insert-other [] key p n ne = rw (no-key n key ne) refl
insert-other (e ∷ es) key p n ne = by (nat_cmp key e.0) refl (insert-other es key p n ne)
  where
    by : (o : Ordering) → nat_cmp key e.0 ≡ o → key_in (insert_entry nat_cmp es key p) n ≡ key_in es n → key_in (match_ordering o ((key, p) ∷ e ∷ es) ((e.0, p) ∷ es) (e ∷ insert_entry nat_cmp es key p)) n ≡ key_in (e ∷ es) n
    by Less is more = rw (no-key n key ne) refl
    by Equal is more = rw (no-key n e.0 (λ same. ne (same ∙ sym (equal-keys key e.0 is)))) refl
    by Greater is more = ap (λ t. cond (is_eq (nat_cmp n e.0)) (Some e.1) t) more

pub insert-same : (table : Table) (key p : ℕ) → key_in (insert_entry nat_cmp table key p) key ≡ Some p
insert-same [] key p = rw (is-key key key refl) refl
insert-same (e ∷ es) key p = by (nat_cmp key e.0) refl (insert-same es key p)
  where
    by : (o : Ordering) → nat_cmp key e.0 ≡ o → key_in (insert_entry nat_cmp es key p) key ≡ Some p → key_in (match_ordering o ((key, p) ∷ e ∷ es) ((e.0, p) ∷ es) (e ∷ insert_entry nat_cmp es key p)) key ≡ Some p
    by Less is more = rw (is-key key key refl) refl
    by Equal is more = rw (is-key key e.0 (equal-keys key e.0 is)) refl
    by Greater is more = rw is more

-- a number that nobody has: a pid that no key is, or one past those that were invented
abbrev pub IsFree : Table → ℕ → ℕ → Type 0
IsFree table invented n = ((n ≤ 4194304) × (key_in table n ≡ None)) ⊎ ((4194304 < n) × (invented < n))

pub free-before : (table : Table) (invented key p n : ℕ) → IsFree (insert_entry nat_cmp table key p) invented n → key ≤ 4194304 → IsFree table invented n × (n ≡ key → ⊥)
free-before table invented key p n (inl few) low = by (n == key) refl
  where
    by : (b : Bool) → (n == key) ≡ b → IsFree table invented n × (n ≡ key → ⊥)
    by true e =
        let same : n ≡ key = eqb-true n key e in
        let there : key_in (insert_entry nat_cmp table key p) n ≡ Some p = rw same (insert-same table key p) in
        let none : key_in (insert_entry nat_cmp table key p) n ≡ None = few.1 in
        absurd cc
    by false e = (inl (few.0, sym (insert-other table key p n (eqb-false n key e)) ∙ few.1), eqb-false n key e)
free-before table invented key p n (inr many) low = (inr many, λ e. (let a : 4194304 < n = many.0 in absurd (omega arith)))

pub free-after : (table : Table) (invented key p n : ℕ) → (n ≡ key → ⊥) → IsFree table invented n → IsFree (insert_entry nat_cmp table key p) invented n
free-after table invented key p n ne (inl few) = inl (few.0, insert-other table key p n ne ∙ few.1)
free-after table invented key p n ne (inr many) = inr many

-- fewer are free after one more was invented
pub free-invented : (table : Table) (invented next n : ℕ) → invented < next → 4194304 < next → IsFree table next n → IsFree table invented n × (n ≡ next → ⊥)
free-invented table invented next n more past (inl few) = (inl few, λ e. (let a : n ≤ 4194304 = few.0 in absurd (omega arith)))
free-invented table invented next n more past (inr many) = (let a : next < n = many.1 in (inr (many.0, omega arith), λ e. absurd (omega arith)))
