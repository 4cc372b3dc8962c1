-- The word of one permission: it is read as its place, and tells its row.
use Rattle.std.proofs.Common.{◌≡◌, ℕ, ◌<◌, ◌^◌, ◌==◌, Bool, true, false, ◌&&◌, not, [], ◌∷◌, length, Option, Some, None, refl, sym, ap, ◌∙◌}
use Rattle.std.specs.Prelude.{codes, slice_index_or}
use Rattle.std.proofs.lemmas.Bool.{eqb-true}
use Rattle.std.proofs.lemmas.List.Quantifiers.{position-Some}
use Rattle.tm_word.specs.Prelude.{Text, texts_equal}
use Rattle.tm_line.specs.declared.permissions.Row.{Row}
use Rattle.tm_line.specs.Permissions.{names, perm_on, perms_spelling}
use Rattle.tm_line.specs.Written.{is_set}
use Rattle.tm_line.proofs.Steps.{both, not_true}
use Rattle.tm_word.proofs.Spelled.{below, below-at}
use Rattle.tm_entry.specs.FileLines.{row_of}
use Rattle.tm_trace.specs.Requests.{place_in}

-- how many permissions a row has
abbrev pub width : Row → ℕ
width acl_row = length (names acl_row)

-- the word of the permission at a place
abbrev pub perm_text : Row → ℕ → Text
perm_text acl_row perm = perms_spelling acl_row (2 ^ perm)

-- ---- by trying each

abbrev is_place : Option ℕ → ℕ → Bool
is_place None perm = false
is_place (Some k) perm = k == perm

abbrev is_read : Row → ℕ → Bool
is_read acl_row perm = is_place (place_in acl_row (perm_text acl_row perm)) perm && is_set acl_row (2 ^ perm)

path : below (width Row.Path) (is_read Row.Path) ≡ true
unfolding below perm_on place_in
path = refl

path_number : below (width Row.PathNumber) (is_read Row.PathNumber) ≡ true
unfolding below perm_on place_in
path_number = refl

device : below (width Row.Device) (is_read Row.Device) ≡ true
unfolding below perm_on place_in
device = refl

pair : below (width Row.Pair) (is_read Row.Pair) ≡ true
unfolding below perm_on place_in
pair = refl

listening : below (width Row.Listening) (is_read Row.Listening) ≡ true
unfolding below perm_on place_in
listening = refl

sending : below (width Row.Sending) (is_read Row.Sending) ≡ true
unfolding below perm_on place_in
sending = refl

each : (acl_row : Row) → below (width acl_row) (is_read acl_row) ≡ true
each Row.Path = path
each Row.PathNumber = path_number
each Row.Device = device
each Row.Pair = pair
each Row.Listening = listening
each Row.Sending = sending

place_is : (o : Option ℕ) (perm : ℕ) → is_place o perm ≡ true → o ≡ Some perm
place_is None perm h = absurd cc
place_is (Some k) perm h = ap Some (eqb-true k perm h)

pub place_again : (acl_row : Row) (perm : ℕ) → perm < width acl_row → place_in acl_row (perm_text acl_row perm) ≡ Some perm
place_again acl_row perm low =
    place_is (place_in acl_row (perm_text acl_row perm)) perm (both (is_place (place_in acl_row (perm_text acl_row perm)) perm) (is_set acl_row (2 ^ perm)) (below-at (width acl_row) (is_read acl_row) perm (each acl_row) low)).0

pub perm_set : (acl_row : Row) (perm : ℕ) → perm < width acl_row → is_set acl_row (2 ^ perm) ≡ true
perm_set acl_row perm low = (both (is_place (place_in acl_row (perm_text acl_row perm)) perm) (is_set acl_row (2 ^ perm)) (below-at (width acl_row) (is_read acl_row) perm (each acl_row) low)).1

pub place_read : (acl_row : Row) (word : Text) (perm : ℕ) → place_in acl_row word ≡ Some perm → perm < width acl_row
unfolding place_in
place_read acl_row word perm e = (position-Some (λ name. texts_equal word name) (names acl_row) perm [] e).0

-- ---- the rows of files

abbrev pub is_file_row : Row → Bool
is_file_row Row.Path = true
is_file_row Row.PathNumber = true
is_file_row Row.Device = true
is_file_row Row.Pair = true
is_file_row Row.Listening = false
is_file_row Row.Sending = false

abbrev row_place : Row → ℕ
row_place Row.Path = 0
row_place Row.PathNumber = 1
row_place Row.Device = 2
row_place Row.Pair = 3
row_place Row.Listening = 4
row_place Row.Sending = 5

abbrev is_row : Option Row → Row → Bool
is_row None acl_row = false
is_row (Some r) acl_row = row_place r == row_place acl_row

abbrev is_listed : Row → ℕ → Bool
is_listed acl_row perm = is_row (row_of (perm_text acl_row perm)) acl_row && not (texts_equal (perm_text acl_row perm) (codes "mount"))

path_listed : below (width Row.Path) (is_listed Row.Path) ≡ true
unfolding below perm_on row_of
path_listed = refl

path_number_listed : below (width Row.PathNumber) (is_listed Row.PathNumber) ≡ true
unfolding below perm_on row_of
path_number_listed = refl

device_listed : below (width Row.Device) (is_listed Row.Device) ≡ true
unfolding below perm_on row_of
device_listed = refl

pair_listed : below (width Row.Pair) (is_listed Row.Pair) ≡ true
unfolding below perm_on row_of
pair_listed = refl

each_listed : (acl_row : Row) → is_file_row acl_row ≡ true → below (width acl_row) (is_listed acl_row) ≡ true
each_listed Row.Path h = path_listed
each_listed Row.PathNumber h = path_number_listed
each_listed Row.Device h = device_listed
each_listed Row.Pair h = pair_listed
each_listed Row.Listening h = absurd cc
each_listed Row.Sending h = absurd cc

row_at : (r : Row) → slice_index_or (Row.Path ∷ Row.PathNumber ∷ Row.Device ∷ Row.Pair ∷ Row.Listening ∷ Row.Sending ∷ []) (row_place r) Row.Path ≡ r
row_at Row.Path = refl
row_at Row.PathNumber = refl
row_at Row.Device = refl
row_at Row.Pair = refl
row_at Row.Listening = refl
row_at Row.Sending = refl

same_row : (r acl_row : Row) → (row_place r == row_place acl_row) ≡ true → r ≡ acl_row
same_row r acl_row e =
    sym (row_at r) ∙ ap (λ n. slice_index_or (Row.Path ∷ Row.PathNumber ∷ Row.Device ∷ Row.Pair ∷ Row.Listening ∷ Row.Sending ∷ []) n Row.Path) (eqb-true (row_place r) (row_place acl_row) e) ∙ row_at acl_row

row_is : (o : Option Row) (acl_row : Row) → is_row o acl_row ≡ true → o ≡ Some acl_row
row_is None acl_row h = absurd cc
row_is (Some r) acl_row h = ap Some (same_row r acl_row h)

-- the permission of a file's row tells the row, and isn't `mount`
pub record IsListed (acl_row : Row) (perm : ℕ) : Type 0 where
  pub row : row_of (perm_text acl_row perm) ≡ Some acl_row
  pub mount : texts_equal (perm_text acl_row perm) (codes "mount") ≡ false

pub listed : (acl_row : Row) (perm : ℕ) → is_file_row acl_row ≡ true → perm < width acl_row → IsListed acl_row perm
listed acl_row perm h low =
    let t = both (is_row (row_of (perm_text acl_row perm)) acl_row) (not (texts_equal (perm_text acl_row perm) (codes "mount"))) (below-at (width acl_row) (is_listed acl_row) perm (each_listed acl_row h) low) in
    record { row = row_is (row_of (perm_text acl_row perm)) acl_row t.0; mount = not_true _ t.1 }
