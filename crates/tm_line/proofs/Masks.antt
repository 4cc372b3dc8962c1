-- Rows as tables of names with their bits.
use Rattle.std.proofs.Common.{◌≡◌, ℕ, ◌*◌, ◌==◌, Bool, true, false, cond, ◌||◌, List, [], ◌∷◌, Some, refl, sym, ap, subst}
use Rattle.std.specs.List.{list_all, list_any}
use Rattle.std.proofs.lemmas.Bool.{eqb-true}
use Rattle.tm_word.specs.Prelude.{Text, begins, begins_row, name_of, named, texts_equal}
use Rattle.tm_word.proofs.TextLaws.{texts_sound}
use Rattle.tm_line.specs.declared.permissions.Row.{Row}
use Rattle.tm_line.specs.Permissions.{names, masked, mask_from, perm_on, perms_from, perms_spelling}
use Rattle.tm_line.proofs.Steps.{both}

-- looking a name up gives its bit
pub mask_of : (mask : ℕ) (names : List Text) (piece : Text) → named (masked mask names) piece ≡ mask_from mask names piece
mask_of mask [] piece = refl
mask_of mask (name ∷ more) piece = ap (λ o. cond (texts_equal piece name) (Some mask) o) (mask_of (mask * 2) more piece)

-- a front of one of a table's names
pub front_of : (mask : ℕ) (names : List Text) (front : Text) → begins_row (masked mask names) front ≡ list_any (λ name. begins front name) names
front_of mask [] front = refl
front_of mask (name ∷ more) front = ap (λ t. begins front name || t) (front_of (mask * 2) more front)

-- the set ones of a table's names join those before
abbrev pub joined : ℕ → List (Text × ℕ) → Text → Text
joined bits [] text = text
joined bits (row ∷ more) text = joined bits more (perm_on bits row.1 row.0 text)

pub text_of : (bits mask : ℕ) (names : List Text) (text : Text) → joined bits (masked mask names) text ≡ perms_from bits mask names text
text_of bits mask [] text = refl
text_of bits mask (name ∷ more) text = text_of bits (mask * 2) more (perm_on bits mask name text)

-- what passes for each row of a table passes for a number's row
in_table : (p : Text × ℕ → Bool) (table : List (Text × ℕ)) (bits : ℕ) (name : Text) → list_all p table ≡ true → name_of table bits ≡ Some name → p (name, bits) ≡ true
in_table p [] bits name all e = absurd cc
in_table p (row ∷ more) bits name all e =
    let b = both (p row) (list_all p more) all in
    found (bits == row.1) refl b.0 e (in_table p more bits name b.1)
  where
    found : (t : Bool) → (bits == row.1) ≡ t → p row ≡ true → cond t (Some row.0) (name_of more bits) ≡ Some name → (name_of more bits ≡ Some name → p (name, bits) ≡ true) → p (name, bits) ≡ true
    found true same passes e go =
        let a : row.1 ≡ bits = sym (eqb-true bits row.1 same) in
        let b : row.0 ≡ name = cc in
        subst (λ (m : ℕ). p (name, m) ≡ true) a (subst (λ (n : Text). p (n, row.1) ≡ true) b passes)
    found false same passes e go = go e

abbrev is_only : Row → Text × ℕ → Bool
is_only acl_row row = texts_equal (perms_spelling acl_row row.1) row.0

each_only : (acl_row : Row) → list_all (is_only acl_row) (masked 1 (names acl_row)) ≡ true
unfolding perm_on
each_only Row.Path = refl
each_only Row.PathNumber = refl
each_only Row.Device = refl
each_only Row.Pair = refl
each_only Row.Listening = refl
each_only Row.Sending = refl

-- one permission alone is printed as its name
pub only_one : (acl_row : Row) (bits : ℕ) (name : Text) → name_of (masked 1 (names acl_row)) bits ≡ Some name → perms_spelling acl_row bits ≡ name
only_one acl_row bits name e = texts_sound (perms_spelling acl_row bits) name (in_table (is_only acl_row) (masked 1 (names acl_row)) bits name (each_only acl_row) e)
