-- The place of a permission by its bit.
use Rattle.std.proofs.Common.{◌≡◌, ℕ, suc, ◌+◌, ◌*◌, ◌^◌, ◌<◌, ◌≤◌, ◌==◌, Bool, true, false, cond, List, [], ◌∷◌, length, codes, Option, Some, None, Result, Ok, Err, refl, sym, ap, ◌∙◌, arith}
use Rattle.std.specs.Prelude.{if◌then◌else◌, is_some, option_map}
use Rattle.std.specs.List.{position_from}
use Rattle.std.specs.Int.Count.{count_trailing_zeros}
use Rattle.std.proofs.lemmas.Bool.{eqb-true}
use Rattle.std.proofs.lemmas.Iterator.Adapters.{position_from-zero}
use Rattle.tm_word.specs.Prelude.{Text, texts_equal, ◌>>=◌}
use Rattle.tm_rules.specs.Types.{Args, LineKind, NameUnion}
use Rattle.tm_line.specs.declared.permissions.Row.{Row}
use Rattle.tm_line.specs.Permissions.{names, mask_from, mask_in}
use Rattle.tm_word.proofs.Spelled.{below, below-at}
use Rattle.tm_entry.specs.FileLines.{row_of}
use Rattle.tm_trace.specs.Requests.{place_in, path_name, args_at, with_perm, named_path, file_request, request_line}

-- the place of the lowest bit
abbrev lowest : ℕ → ℕ
lowest mask = count_trailing_zeros 16 mask

each : below 16 (λ k. lowest (2 ^ k) == k) ≡ true
unfolding below count_trailing_zeros
each = refl

lowest_is : (k : ℕ) → k < 16 → lowest (2 ^ k) ≡ k
lowest_is k low = eqb-true (lowest (2 ^ k)) k (below-at 16 (λ n. lowest (2 ^ n) == n) k each low)

step : (i : ℕ) (t : Bool) (here more : Option ℕ) → i < 16 → here ≡ option_map lowest more → cond t (Some i) here ≡ option_map lowest (cond t (Some (2 ^ i)) more)
step i true here more low e = ap Some (sym (lowest_is i low))
step i false here more low e = e

from : (word : Text) (i : ℕ) (more : List Text) → i + length more ≤ 16 → position_from (λ name. texts_equal word name) i more ≡ option_map lowest (mask_from (2 ^ i) more word)
from word i [] low = refl
from word i (name ∷ more) low =
    let next : i + 1 ≡ suc i = omega arith in
    let double : 2 ^ suc i ≡ 2 ^ i * 2 = omega arith in
    let twice : 2 ^ (i + 1) ≡ 2 ^ i * 2 = ap (λ n. 2 ^ n) next ∙ double in
    let after : i + 1 + length more ≤ 16 = omega (arith, low) in
    step i (texts_equal word name) (position_from (λ n. texts_equal word n) (i + 1) more) (mask_from (2 ^ i * 2) more word) (omega (arith, low))
    (from word (i + 1) more after ∙ ap (λ m. option_map lowest (mask_from m more word)) twice)

fits : (acl_row : Row) → 0 + length (names acl_row) ≤ 16
fits Row.Path = omega arith
fits Row.PathNumber = omega arith
fits Row.Device = omega arith
fits Row.Pair = omega arith
fits Row.Listening = omega arith
fits Row.Sending = omega arith

-- a permission's place in its row is that of its bit
place_by_bit : (acl_row : Row) (word : Text) → place_in acl_row word ≡ option_map (count_trailing_zeros 16) (mask_in acl_row word)
unfolding place_in
place_by_bit acl_row word = position_from-zero (λ name. texts_equal word name) (names acl_row) ∙ from word 0 (names acl_row) (fits acl_row)

pub place_some : (acl_row : Row) (word : Text) (mask : ℕ) → mask_in acl_row word ≡ Some mask → place_in acl_row word ≡ Some (count_trailing_zeros 16 mask)
place_some acl_row word mask e = place_by_bit acl_row word ∙ ap (λ (m : Option ℕ). option_map (count_trailing_zeros 16) m) e

pub place_none : (acl_row : Row) (word : Text) → mask_in acl_row word ≡ None → place_in acl_row word ≡ None
place_none acl_row word e = place_by_bit acl_row word ∙ ap (λ (m : Option ℕ). option_map (count_trailing_zeros 16) m) e

-- a row has a place for a permission where it has a bit for it
place_there : (acl_row : Row) (word : Text) → is_some (place_in acl_row word) ≡ is_some (mask_in acl_row word)
place_there acl_row word = ap is_some (place_by_bit acl_row word) ∙ mapped (mask_in acl_row word)
  where
    mapped : (mask : Option ℕ) → is_some (option_map (count_trailing_zeros 16) mask) ≡ is_some mask
    mapped None = refl
    mapped (Some mask) = refl

-- the row of a permission is the first in which it has a place
pub row_by_place : (word : Text) → row_of word ≡ (
    if is_some (place_in Row.Path word) then Some Row.Path else
    (if is_some (place_in Row.PathNumber word) then Some Row.PathNumber else
    (if is_some (place_in Row.Device word) then Some Row.Device else (if is_some (place_in Row.Pair word) then Some Row.Pair else None))))
unfolding row_of
row_by_place word = rw (place_there Row.Path word, place_there Row.PathNumber word, place_there Row.Device word, place_there Row.Pair word) refl

-- the arguments of a single path
path_line : (perm : ℕ) (name : Text) (words : List Text) → with_perm perm (args_at Row.Path perm (name ∷ words)) ≡ named_path perm name words
unfolding args_at
path_line perm name words = read (path_name perm name)
  where
    pair : NameUnion → Result (NameUnion × List Text) LineKind
    pair x = Ok (x, words)

    path : NameUnion × List Text → Result (Args × List Text) LineKind
    path x = Ok (Args.Path x.0, x.1)

    whole : NameUnion → Result (Args × ℕ × List Text) LineKind
    whole x = Ok (Args.Path x, perm, words)

    read : (found : Result NameUnion LineKind) → with_perm perm ((found >>= pair) >>= path) ≡ (found >>= whole)
    read (Ok x) = refl
    read (Err kind) = refl

-- a request of a single path
pub path_is : (keyword word name : Text) (words : List Text) (perm : ℕ) → texts_equal keyword (codes "file") ≡ true → texts_equal word (codes "mount") ≡ false → place_in Row.Path word ≡ Some perm
    → request_line (keyword ∷ word ∷ name ∷ words) ≡ named_path perm name words
unfolding request_line file_request
path_is keyword word name words perm file other place = rw (file, other, row_by_place word, place, place) (path_line perm name words)
