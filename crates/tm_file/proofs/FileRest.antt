-- What a file line leaves is the end of the words.
use Rattle.std.proofs.Common.{◌≡◌, ℕ, ◌-◌, Bool, true, false, cond, List, [], ◌∷◌, length, drop, Option, Some, None, Result, Ok, refl, subst}
use Rattle.std.specs.Prelude.{codes}
use Rattle.tm_word.specs.Prelude.{Text, begins_with_byte, texts_equal, ◌>>=◌}
use Rattle.tm_rules.specs.Types.{Args, LineKind, Perms, Prefer}
use Rattle.tm_line.specs.declared.permissions.Row.{Row}
use Rattle.tm_line.specs.Lines.{is_last, keyword_at}
use Rattle.tm_line.specs.Permissions.{pieces_of, perms_of}
use Rattle.tm_line.specs.Arguments.{path_word, name_at, number_at}
use Rattle.tm_line.specs.Domains.{domain_at}
use Rattle.tm_line.proofs.Steps.{bind_ok, ok_is}
use Rattle.tm_line.proofs.RestLaws.{Rest, rest_none, rest_more, rest_then, rest_is, name_rest, number_rest, domain_rest, keyword_rest}
use Rattle.tm_file.specs.Preferences.{turn_of, turn_or_place, prefer_at, with_prefer, path_at}
use Rattle.tm_file.specs.FileLines.{row_in, args_at, mount_at, perms, with_perms, row_line, perms_line, file_line}

abbrev Line : Type 0
Line = List Text

abbrev Found : Type 0
Found = Option Prefer × Line

abbrev Read : Type 0
Read = Args × Line

abbrev Whole : Type 0
Whole = Args × Perms × Line

-- ---- preferences

path_part : (word : Text) (words : Line) (x : Found) → (path_word word >>= λ path. Ok (Some (Prefer.Path path), words)) ≡ Ok x → Rest (word ∷ words) x.1
path_part word words x e =
    let b = bind_ok (path_word word) (λ path. Ok (Some (Prefer.Path path), words)) x e in
    let made : Found = (Some (Prefer.Path b.0), words) in
    subst (λ (y : Found). Rest (word ∷ words) y.1) {x = made} (ok_is made x b.2) (word ∷ [], refl)

domain_part : (words : Line) (x : Found) → (domain_at words >>= λ y. Ok (Some (Prefer.Domain y.0), y.1)) ≡ Ok x → Rest words x.1
domain_part words x e =
    let b = bind_ok (domain_at words) (λ y. Ok (Some (Prefer.Domain y.0), y.1)) x e in
    let made : Found = (Some (Prefer.Domain b.0.0), b.0.1) in
    subst (λ (y : Found). Rest words y.1) {x = made} (ok_is made x b.2) (domain_rest words b.0 b.1)

place_part : (slash angle : Bool) (word : Text) (words : Line) (x : Found)
    → cond slash (path_word word >>= λ path. Ok (Some (Prefer.Path path), words)) (cond angle (domain_at (word ∷ words) >>= λ y. Ok (Some (Prefer.Domain y.0), y.1)) (Ok (None, word ∷ words))) ≡ Ok x → Rest (word ∷ words) x.1
place_part true angle word words x e = path_part word words x e
place_part false true word words x e = domain_part (word ∷ words) x e
place_part false false word words x e = let made : Found = (None, word ∷ words) in subst (λ (y : Found). Rest (word ∷ words) y.1) {x = made} (ok_is made x e) (rest_none (word ∷ words))

turn_part : (o : Option Prefer) (word : Text) (words : Line) (x : Found) → turn_or_place o word words ≡ Ok x → Rest (word ∷ words) x.1
turn_part (Some turn) word words x e = let made : Found = (Some turn, words) in subst (λ (y : Found). Rest (word ∷ words) y.1) {x = made} (ok_is made x e) (word ∷ [], refl)
turn_part None word words x e = place_part (begins_with_byte 47 word) (begins_with_byte 60 word) word words x e

prefer_rest : (words : Line) (x : Found) → prefer_at words ≡ Ok x → Rest words x.1
unfolding prefer_at
prefer_rest [] x e = let made : Found = (None, []) in subst (λ (y : Found). Rest [] y.1) {x = made} (ok_is made x e) (rest_none [])
prefer_rest (word ∷ words) x e = turn_part (turn_of word) word words x e

path_rest : (alone : Bool) (words : Line) (x : Read) → path_at alone words ≡ Ok x → Rest words x.1
unfolding path_at
path_rest false words x e =
    let a = bind_ok (name_at words) (λ name. Ok (Args.Path name.0, name.1)) x e in
    let made : Read = (Args.Path a.0.0, a.0.1) in
    subst (λ (y : Read). Rest words y.1) {x = made} (ok_is made x a.2) (name_rest words a.0 a.1)
path_rest true words x e =
    let a = bind_ok (name_at words) (λ name. prefer_at name.1 >>= λ found. Ok (with_prefer name.0 found.0, found.1)) x e in
    let b = bind_ok (prefer_at a.0.1) (λ found. Ok (with_prefer a.0.0 found.0, found.1)) x a.2 in
    let made : Read = (with_prefer a.0.0 b.0.0, b.0.1) in
    subst (λ (y : Read). Rest words y.1) {x = made} (ok_is made x b.2) (rest_then words a.0.1 b.0.1 (name_rest words a.0 a.1) (prefer_rest a.0.1 b.0 b.1))

-- ---- rows

args_rest : (row : Row) (alone : Bool) (words : Line) (x : Read) → args_at row alone words ≡ Ok x → Rest words x.1
unfolding args_at
args_rest Row.Path alone words x e = path_rest alone words x e
args_rest Row.PathNumber alone words x e =
    let a = bind_ok (name_at words) (λ name. number_at name.1 >>= λ number. Ok (Args.PathNumber name.0 number.0, number.1)) x e in
    let b = bind_ok (number_at a.0.1) (λ number. Ok (Args.PathNumber a.0.0 number.0, number.1)) x a.2 in
    let made : Read = (Args.PathNumber a.0.0 b.0.0, b.0.1) in
    subst (λ (y : Read). Rest words y.1) {x = made} (ok_is made x b.2) (rest_then words a.0.1 b.0.1 (name_rest words a.0 a.1) (number_rest a.0.1 b.0 b.1))
args_rest Row.Device alone words x e =
    let a = bind_ok (name_at words) (λ name. number_at name.1 >>= λ mode. number_at mode.1 >>= λ major. number_at major.1 >>= λ minor. Ok (Args.Device name.0 mode.0 major.0 minor.0, minor.1)) x e in
    let b = bind_ok (number_at a.0.1) (λ mode. number_at mode.1 >>= λ major. number_at major.1 >>= λ minor. Ok (Args.Device a.0.0 mode.0 major.0 minor.0, minor.1)) x a.2 in
    let c = bind_ok (number_at b.0.1) (λ major. number_at major.1 >>= λ minor. Ok (Args.Device a.0.0 b.0.0 major.0 minor.0, minor.1)) x b.2 in
    let d = bind_ok (number_at c.0.1) (λ minor. Ok (Args.Device a.0.0 b.0.0 c.0.0 minor.0, minor.1)) x c.2 in
    let made : Read = (Args.Device a.0.0 b.0.0 c.0.0 d.0.0, d.0.1) in
    let three : Rest words c.0.1 = rest_then words b.0.1 c.0.1 (rest_then words a.0.1 b.0.1 (name_rest words a.0 a.1) (number_rest a.0.1 b.0 b.1)) (number_rest b.0.1 c.0 c.1) in
    subst (λ (y : Read). Rest words y.1) {x = made} (ok_is made x d.2) (rest_then words c.0.1 d.0.1 three (number_rest c.0.1 d.0 d.1))
args_rest Row.Pair alone words x e =
    let a = bind_ok (name_at words) (λ first. name_at first.1 >>= λ second. Ok (Args.Path2 first.0 second.0, second.1)) x e in
    let b = bind_ok (name_at a.0.1) (λ second. Ok (Args.Path2 a.0.0 second.0, second.1)) x a.2 in
    let made : Read = (Args.Path2 a.0.0 b.0.0, b.0.1) in
    subst (λ (y : Read). Rest words y.1) {x = made} (ok_is made x b.2) (rest_then words a.0.1 b.0.1 (name_rest words a.0 a.1) (name_rest a.0.1 b.0 b.1))
args_rest Row.Listening alone words x e = absurd cc
args_rest Row.Sending alone words x e = absurd cc

mount_rest : (words : Line) (x : Read) → mount_at words ≡ Ok x → Rest words x.1
unfolding mount_at
mount_rest words x e =
    let a = bind_ok (name_at words) (λ device. name_at device.1 >>= λ dir. name_at dir.1 >>= λ type. number_at type.1 >>= λ flags. Ok (Args.Mount device.0 dir.0 type.0 flags.0, flags.1)) x e in
    let b = bind_ok (name_at a.0.1) (λ dir. name_at dir.1 >>= λ type. number_at type.1 >>= λ flags. Ok (Args.Mount a.0.0 dir.0 type.0 flags.0, flags.1)) x a.2 in
    let c = bind_ok (name_at b.0.1) (λ type. number_at type.1 >>= λ flags. Ok (Args.Mount a.0.0 b.0.0 type.0 flags.0, flags.1)) x b.2 in
    let d = bind_ok (number_at c.0.1) (λ flags. Ok (Args.Mount a.0.0 b.0.0 c.0.0 flags.0, flags.1)) x c.2 in
    let made : Read = (Args.Mount a.0.0 b.0.0 c.0.0 d.0.0, d.0.1) in
    let three : Rest words c.0.1 = rest_then words b.0.1 c.0.1 (rest_then words a.0.1 b.0.1 (name_rest words a.0 a.1) (name_rest a.0.1 b.0 b.1)) (name_rest b.0.1 c.0 c.1) in
    subst (λ (y : Read). Rest words y.1) {x = made} (ok_is made x d.2) (rest_then words c.0.1 d.0.1 three (number_rest c.0.1 d.0 d.1))

-- ---- lines

with_rest : (bits : ℕ) (words : Line) (r : Result Read LineKind) (x : Whole) → ((y : Read) → r ≡ Ok y → Rest words y.1) → with_perms bits r ≡ Ok x → Rest words x.2
with_rest bits words r x known e =
    let b = bind_ok r (λ y. Ok (y.0, perms bits, y.1)) x e in
    let made : Whole = (b.0.0, perms bits, b.0.1) in
    subst (λ (y : Whole). Rest words y.2) {x = made} (ok_is made x b.2) (known b.0 b.1)

row_rest : (o : Option Row) (word : Text) (words : Line) (x : Whole) → row_line o word words ≡ Ok x → Rest words x.2
unfolding row_line
row_rest None word words x e = absurd cc
row_rest (Some row) word words x e =
    let b = bind_ok (perms_of row word (is_last words)) (λ bits. with_perms bits (args_at row (texts_equal word (codes "execute")) words)) x e in
    with_rest b.0 words (args_at row (texts_equal word (codes "execute")) words) x (λ y f. args_rest row (texts_equal word (codes "execute")) words y f) b.2

list_rest : (words : Line) (x : Whole) → perms_line words ≡ Ok x → Rest words x.2
unfolding perms_line
list_rest [] x e = absurd cc
list_rest (word ∷ words) x e = rest_more word words x.2 (by_mount (texts_equal word (codes "mount")) e)
  where
    by_mount : (t : Bool) → cond t (with_perms 1 (mount_at words)) (row_line (row_in (pieces_of word)) word words) ≡ Ok x → Rest words x.2
    by_mount true f = with_rest 1 words (mount_at words) x (λ y g. mount_rest words y g) f
    by_mount false f = row_rest (row_in (pieces_of word)) word words x f

whole_rest : (words : Line) (x : Whole) → file_line words ≡ Ok x → Rest words x.2
unfolding file_line
whole_rest words x e =
    let b = bind_ok (keyword_at (codes "file") words) perms_line x e in
    rest_then words b.0 x.2 (keyword_rest (codes "file") words b.0 b.1) (list_rest b.0 x b.2)

pub file_rest : (words rest : Line) (a : Args) (p : Perms) → file_line words ≡ Ok (a, p, rest) → rest ≡ drop (length words - length rest) words
file_rest words rest a p e = rest_is words rest (whole_rest words (a, p, rest) e)
