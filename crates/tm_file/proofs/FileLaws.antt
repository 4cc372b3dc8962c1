-- The lines of files: what is written is read again, and what is read can be written.
use Rattle.std.proofs.Common.{◌≡◌, ℕ, ◌<◌, ◌^◌, ◌==◌, nat_lt, Bool, true, false, cond, ◌&&◌, not, List, [], ◌∷◌, ◌++◌, length, Option, Some, None, Result, Ok, inl, inr, refl, sym, ap, subst, ◌∙◌, arith}
use Rattle.std.specs.Prelude.{codes}
use Rattle.std.proofs.lemmas.Bool.{eqb-true, eq-eqb, ltb-true}
use Rattle.tm_word.specs.Prelude.{Text, texts_equal, ◌>>=◌}
use Rattle.tm_rules.specs.Types.{Args, LineKind, NameUnion, Perms, Prefer}
use Rattle.tm_line.proofs.NameLaws.{same_texts}
use Rattle.tm_line.specs.declared.permissions.Row.{Row}
use Rattle.tm_line.specs.Lines.{is_last, keyword_at}
use Rattle.tm_line.specs.Permissions.{names, pieces_of, perm_on, perms_of, perms_spelling}
use Rattle.tm_line.specs.Arguments.{name_at, number_at}
use Rattle.tm_line.specs.Printing.{name_spelling, number_spelling}
use Rattle.tm_line.specs.Written.{is_name, is_number, is_set}
use Rattle.tm_line.proofs.Steps.{bind_ok, ok_is, both, all, not_true}
use Rattle.tm_line.proofs.NameArgLaws.{name_at_again, name_at_read}
use Rattle.tm_line.proofs.NumberArgLaws.{number_at_again, number_at_read}
use Rattle.tm_line.proofs.PermLaws.{all_to, all_at, perms_again, perms_read}
use Rattle.tm_file.specs.Preferences.{prefer_words, is_prefer, no_prefer, path_at}
use Rattle.tm_file.specs.FileLines.{row_of, row_in, args_at, mount_at, perms, with_perms, row_line, perms_line, file_line, file_words, is_file}
use Rattle.tm_file.proofs.PreferLaws.{IsPath, name_alone, no_preference, preference, path_read}

abbrev Line : Type 0
Line = List Text

-- ---- the printed permissions of a row are of that row, and aren't `mount`: by trying each set

abbrev same_row : Row → Row → Bool
same_row Row.Path Row.Path = true
same_row Row.PathNumber Row.PathNumber = true
same_row Row.Device Row.Device = true
same_row Row.Pair Row.Pair = true
same_row _ _ = false

row_is : (a b : Row) → same_row a b ≡ true → a ≡ b
row_is Row.Path Row.Path e = refl
row_is Row.Path Row.PathNumber e = absurd cc
row_is Row.Path Row.Device e = absurd cc
row_is Row.Path Row.Pair e = absurd cc
row_is Row.Path Row.Listening e = absurd cc
row_is Row.Path Row.Sending e = absurd cc
row_is Row.PathNumber Row.Path e = absurd cc
row_is Row.PathNumber Row.PathNumber e = refl
row_is Row.PathNumber Row.Device e = absurd cc
row_is Row.PathNumber Row.Pair e = absurd cc
row_is Row.PathNumber Row.Listening e = absurd cc
row_is Row.PathNumber Row.Sending e = absurd cc
row_is Row.Device Row.Path e = absurd cc
row_is Row.Device Row.PathNumber e = absurd cc
row_is Row.Device Row.Device e = refl
row_is Row.Device Row.Pair e = absurd cc
row_is Row.Device Row.Listening e = absurd cc
row_is Row.Device Row.Sending e = absurd cc
row_is Row.Pair Row.Path e = absurd cc
row_is Row.Pair Row.PathNumber e = absurd cc
row_is Row.Pair Row.Device e = absurd cc
row_is Row.Pair Row.Pair e = refl
row_is Row.Pair Row.Listening e = absurd cc
row_is Row.Pair Row.Sending e = absurd cc
row_is Row.Listening b e = absurd cc
row_is Row.Sending b e = absurd cc

abbrev is_found : Option Row → Row → Bool
is_found None row = false
is_found (Some r) row = same_row r row

abbrev is_listed : Row → ℕ → Bool
is_listed row bits = is_found (row_in (pieces_of (perms_spelling row bits))) row && not (texts_equal (perms_spelling row bits) (codes "mount"))

pair : all_to 7 (is_listed Row.Pair) ≡ true
unfolding all_to perm_on row_of
pair = refl

device : all_to 3 (is_listed Row.Device) ≡ true
unfolding all_to perm_on row_of
device = refl

path_number : all_to 255 (is_listed Row.PathNumber) ≡ true
unfolding all_to perm_on row_of
path_number = refl

path : all_to 2047 (is_listed Row.Path) ≡ true
unfolding all_to perm_on row_of
path = refl

-- the rows of files
abbrev is_file_row : Row → Bool
is_file_row Row.Listening = false
is_file_row Row.Sending = false
is_file_row _ = true

listed : (row : Row) (bits : ℕ) → is_file_row row ≡ true → 0 < bits → bits < 2 ^ length (names row) → is_listed row bits ≡ true
listed Row.Path bits h low high = all_at 2047 (is_listed Row.Path) bits path low (omega (arith, high))
listed Row.PathNumber bits h low high = all_at 255 (is_listed Row.PathNumber) bits path_number low (omega (arith, high))
listed Row.Device bits h low high = all_at 3 (is_listed Row.Device) bits device low (omega (arith, high))
listed Row.Pair bits h low high = all_at 7 (is_listed Row.Pair) bits pair low (omega (arith, high))
listed Row.Listening bits h low high = absurd cc
listed Row.Sending bits h low high = absurd cc

found_is : (o : Option Row) (row : Row) → is_found o row ≡ true → o ≡ Some row
found_is None row e = absurd cc
found_is (Some r) row e = ap Some (row_is r row e)

-- ---- a line of permissions that are printed

abbrev Done : Args → ℕ → Line → Line → Type 0
Done a bits words more = perms_line words ≡ Ok (a, perms bits, more)

list_again : (row : Row) (bits : ℕ) (words : Line) (a : Args) (more : Line) → is_file_row row ≡ true → is_set row bits ≡ true → args_at row (texts_equal (perms_spelling row bits) (codes "execute")) words ≡ Ok (a, more)
    → Done a bits (perms_spelling row bits ∷ words) more
unfolding perms_line row_line
list_again row bits words a more h set e =
    let b = both (nat_lt 0 bits) (nat_lt bits (2 ^ length (names row))) set in
    let l = both (is_found (row_in (pieces_of (perms_spelling row bits))) row) (not (texts_equal (perms_spelling row bits) (codes "mount"))) (listed row bits h (ltb-true _ _ b.0) (ltb-true _ _ b.1)) in
    let found : row_in (pieces_of (perms_spelling row bits)) ≡ Some row = found_is _ row l.0 in
    let no : texts_equal (perms_spelling row bits) (codes "mount") ≡ false = not_true _ l.1 in
    let read : perms_of row (perms_spelling row bits) (is_last words) ≡ Ok bits = perms_again row bits (is_last words) set in
    rw (no, found, read, e) refl

abbrev Again : Args → ℕ → Line → Type 0
Again a bits more = file_line (file_words a bits ++ more) ≡ Ok (a, perms bits, more)

after_file : (words more : Line) (a : Args) (bits : ℕ) → Done a bits words more → file_line (codes "file" ∷ words) ≡ Ok (a, perms bits, more)
unfolding file_line
after_file words more a bits e = e

-- ---- the arguments of each row

path_again : (n : NameUnion) (bits : ℕ) (more : Line) → is_set Row.Path bits ≡ true → is_name n ≡ true → no_prefer more ≡ true → Again (Args.Path n) bits more
unfolding file_words args_at
path_again n bits more set h k =
    after_file (perms_spelling Row.Path bits ∷ name_spelling n ∷ more) more (Args.Path n) bits (list_again Row.Path bits (name_spelling n ∷ more) (Args.Path n) more refl set (by_word (texts_equal (perms_spelling Row.Path bits) (codes "execute"))))
  where
    by_word : (t : Bool) → path_at t (name_spelling n ∷ more) ≡ Ok (Args.Path n, more)
    by_word true = no_preference n more h k
    by_word false = name_alone n more h

execute_one : (n : NameUnion) (p : Prefer) (more : Line) → is_name n ≡ true → is_prefer p ≡ true → no_prefer more ≡ true → Again (Args.Execute n p) 1 more
unfolding file_words args_at perm_on
execute_one n p more h k l =
    after_file (codes "execute" ∷ name_spelling n ∷ (prefer_words p ++ more)) more (Args.Execute n p) 1
    (list_again Row.Path 1 (name_spelling n ∷ (prefer_words p ++ more)) (Args.Execute n p) more refl refl (preference n p more h k l))

path_number_again : (n : NameUnion) (k : _) (bits : ℕ) (more : Line) → is_set Row.PathNumber bits ≡ true → is_name n ≡ true → is_number k ≡ true → Again (Args.PathNumber n k) bits more
unfolding file_words args_at
path_number_again n k bits more set h i =
    after_file (perms_spelling Row.PathNumber bits ∷ name_spelling n ∷ number_spelling k ∷ more) more (Args.PathNumber n k) bits
    (list_again Row.PathNumber bits (name_spelling n ∷ number_spelling k ∷ more) (Args.PathNumber n k) more refl set (rw (name_at_again n (number_spelling k ∷ more) h, number_at_again k more i) refl))

device_again : (n : NameUnion) (mode major minor : _) (bits : ℕ) (more : Line) → is_set Row.Device bits ≡ true → is_name n ≡ true → is_number mode ≡ true → is_number major ≡ true → is_number minor ≡ true → Again (Args.Device n mode major minor) bits more
unfolding file_words args_at
device_again n mode major minor bits more set h i j k =
    let minors : Line = number_spelling minor ∷ more in
    let majors : Line = number_spelling major ∷ minors in
    let modes : Line = number_spelling mode ∷ majors in
    after_file (perms_spelling Row.Device bits ∷ name_spelling n ∷ modes) more (Args.Device n mode major minor) bits
    (list_again Row.Device bits (name_spelling n ∷ modes) (Args.Device n mode major minor) more refl set (rw (name_at_again n modes h, number_at_again mode majors i, number_at_again major minors j, number_at_again minor more k) refl))

pair_again : (first second : NameUnion) (bits : ℕ) (more : Line) → is_set Row.Pair bits ≡ true → is_name first ≡ true → is_name second ≡ true → Again (Args.Path2 first second) bits more
unfolding file_words args_at
pair_again first second bits more set h i =
    after_file (perms_spelling Row.Pair bits ∷ name_spelling first ∷ name_spelling second ∷ more) more (Args.Path2 first second) bits
    (list_again Row.Pair bits (name_spelling first ∷ name_spelling second ∷ more) (Args.Path2 first second) more refl set (rw (name_at_again first (name_spelling second ∷ more) h, name_at_again second more i) refl))

mount_again : (device dir type : NameUnion) (flags : _) (more : Line) → is_name device ≡ true → is_name dir ≡ true → is_name type ≡ true → is_number flags ≡ true → Again (Args.Mount device dir type flags) 1 more
unfolding file_words perms_line mount_at
mount_again device dir type flags more h i j k =
    let last : Line = number_spelling flags ∷ more in
    let types : Line = name_spelling type ∷ last in
    let dirs : Line = name_spelling dir ∷ types in
    after_file (codes "mount" ∷ name_spelling device ∷ dirs) more (Args.Mount device dir type flags) 1
    (rw (name_at_again device dirs h, name_at_again dir types i, name_at_again type last j, number_at_again flags more k) refl)

-- what is written is read again
pub file_again : (a : Args) (bits : ℕ) (more : Line) → is_file a bits ≡ true → no_prefer more ≡ true → file_line (file_words a bits ++ more) ≡ Ok (a, perms bits, more)
unfolding is_file
file_again (Args.Path n) bits more h k = let b = both (is_set Row.Path bits) (is_name n) h in path_again n bits more b.0 b.1 k
file_again (Args.Execute n p) bits more h k =
    let c = both (bits == 1 && is_name n) (is_prefer p) h in
    let b = both (bits == 1) (is_name n) c.0 in
    subst (λ i. Again (Args.Execute n p) i more) (sym (eqb-true bits 1 b.0)) (execute_one n p more b.1 c.1 k)
file_again (Args.PathNumber n i) bits more h k =
    let c = both (is_set Row.PathNumber bits && is_name n) (is_number i) h in
    let b = both (is_set Row.PathNumber bits) (is_name n) c.0 in
    path_number_again n i bits more b.0 b.1 c.1
file_again (Args.Device n mode major minor) bits more h k =
    let e = both (is_set Row.Device bits && is_name n && is_number mode && is_number major) (is_number minor) h in
    let d = both (is_set Row.Device bits && is_name n && is_number mode) (is_number major) e.0 in
    let c = both (is_set Row.Device bits && is_name n) (is_number mode) d.0 in
    let b = both (is_set Row.Device bits) (is_name n) c.0 in
    device_again n mode major minor bits more b.0 b.1 c.1 d.1 e.1
file_again (Args.Path2 first second) bits more h k =
    let c = both (is_set Row.Pair bits && is_name first) (is_name second) h in
    let b = both (is_set Row.Pair bits) (is_name first) c.0 in
    pair_again first second bits more b.0 b.1 c.1
file_again (Args.Mount device dir type flags) bits more h k =
    let e = both (bits == 1 && is_name device && is_name dir && is_name type) (is_number flags) h in
    let d = both (bits == 1 && is_name device && is_name dir) (is_name type) e.0 in
    let c = both (bits == 1 && is_name device) (is_name dir) d.0 in
    let b = both (bits == 1) (is_name device) c.0 in
    subst (λ i. Again (Args.Mount device dir type flags) i more) (sym (eqb-true bits 1 b.0)) (mount_again device dir type flags more b.1 c.1 d.1 e.1)
file_again (Args.Inet kind address port) bits more h k = absurd cc
file_again (Args.Unix kind n) bits more h k = absurd cc
file_again (Args.Env p) bits more h k = absurd cc
file_again (Args.Manual domain) bits more h k = absurd cc

-- ---- what is read can be written

abbrev Read : Type 0
Read = Args × Line

two : (a b : Bool) → a ≡ true → b ≡ true → (a && b) ≡ true
two a b h k = all a b h k

three : (a b c : Bool) → a ≡ true → b ≡ true → c ≡ true → (a && b && c) ≡ true
three a b c h k l = all (a && b) c (all a b h k) l

five : (a b c d e : Bool) → a ≡ true → b ≡ true → c ≡ true → d ≡ true → e ≡ true → (a && b && c && d && e) ≡ true
five a b c d e h i j k l = all (a && b && c && d) e (all (a && b && c) d (three a b c h i j) k) l

path_right : (alone : Bool) (a : Args) (bits : ℕ) → is_set Row.Path bits ≡ true → (alone ≡ true → bits ≡ 1) → IsPath alone a → is_file a bits ≡ true
unfolding is_file
path_right alone a bits set one is =
    elim is [
      | inl x ↦ subst (λ b. is_file b bits ≡ true) x.2 (two (is_set Row.Path bits) (is_name x.0) set x.1)
      | inr x ↦ subst (λ b. is_file b bits ≡ true) x.5 (three (bits == 1) (is_name x.0) (is_prefer x.1) (eq-eqb bits 1 (one x.2)) x.3 x.4)
    ]

args_right : (row : Row) (alone : Bool) (bits : ℕ) (words : Line) (x : Read) → is_set row bits ≡ true → (row ≡ Row.Path → alone ≡ true → bits ≡ 1) → args_at row alone words ≡ Ok x → is_file x.0 bits ≡ true
unfolding args_at is_file
args_right Row.Path alone bits words x set one e = path_right alone x.0 bits set (one refl) (path_read alone words x e)
args_right Row.PathNumber alone bits words x set one e =
    let a = bind_ok (name_at words) (λ name. number_at name.1 >>= λ number. Ok (Args.PathNumber name.0 number.0, number.1)) x e in
    let b = bind_ok (number_at a.0.1) (λ number. Ok (Args.PathNumber a.0.0 number.0, number.1)) x a.2 in
    let made : Read = (Args.PathNumber a.0.0 b.0.0, b.0.1) in
    subst (λ (y : Read). is_file y.0 bits ≡ true) {x = made} (ok_is made x b.2)
    (three (is_set Row.PathNumber bits) (is_name a.0.0) (is_number b.0.0) set (name_at_read words a.0 a.1) (number_at_read a.0.1 b.0 b.1))
args_right Row.Device alone bits words x set one e =
    let a = bind_ok (name_at words) (λ name. number_at name.1 >>= λ mode. number_at mode.1 >>= λ major. number_at major.1 >>= λ minor. Ok (Args.Device name.0 mode.0 major.0 minor.0, minor.1)) x e in
    let b = bind_ok (number_at a.0.1) (λ mode. number_at mode.1 >>= λ major. number_at major.1 >>= λ minor. Ok (Args.Device a.0.0 mode.0 major.0 minor.0, minor.1)) x a.2 in
    let c = bind_ok (number_at b.0.1) (λ major. number_at major.1 >>= λ minor. Ok (Args.Device a.0.0 b.0.0 major.0 minor.0, minor.1)) x b.2 in
    let d = bind_ok (number_at c.0.1) (λ minor. Ok (Args.Device a.0.0 b.0.0 c.0.0 minor.0, minor.1)) x c.2 in
    let made : Read = (Args.Device a.0.0 b.0.0 c.0.0 d.0.0, d.0.1) in
    subst (λ (y : Read). is_file y.0 bits ≡ true) {x = made} (ok_is made x d.2)
    (five (is_set Row.Device bits) (is_name a.0.0) (is_number b.0.0) (is_number c.0.0) (is_number d.0.0) set (name_at_read words a.0 a.1) (number_at_read a.0.1 b.0 b.1) (number_at_read b.0.1 c.0 c.1) (number_at_read c.0.1 d.0 d.1))
args_right Row.Pair alone bits words x set one e =
    let a = bind_ok (name_at words) (λ first. name_at first.1 >>= λ second. Ok (Args.Path2 first.0 second.0, second.1)) x e in
    let b = bind_ok (name_at a.0.1) (λ second. Ok (Args.Path2 a.0.0 second.0, second.1)) x a.2 in
    let made : Read = (Args.Path2 a.0.0 b.0.0, b.0.1) in
    subst (λ (y : Read). is_file y.0 bits ≡ true) {x = made} (ok_is made x b.2)
    (three (is_set Row.Pair bits) (is_name a.0.0) (is_name b.0.0) set (name_at_read words a.0 a.1) (name_at_read a.0.1 b.0 b.1))
args_right Row.Listening alone bits words x set one e = absurd cc
args_right Row.Sending alone bits words x set one e = absurd cc

mount_right : (words : Line) (x : Read) → mount_at words ≡ Ok x → is_file x.0 1 ≡ true
unfolding mount_at is_file
mount_right words x e =
    let a = bind_ok (name_at words) (λ device. name_at device.1 >>= λ dir. name_at dir.1 >>= λ type. number_at type.1 >>= λ flags. Ok (Args.Mount device.0 dir.0 type.0 flags.0, flags.1)) x e in
    let b = bind_ok (name_at a.0.1) (λ dir. name_at dir.1 >>= λ type. number_at type.1 >>= λ flags. Ok (Args.Mount a.0.0 dir.0 type.0 flags.0, flags.1)) x a.2 in
    let c = bind_ok (name_at b.0.1) (λ type. number_at type.1 >>= λ flags. Ok (Args.Mount a.0.0 b.0.0 type.0 flags.0, flags.1)) x b.2 in
    let d = bind_ok (number_at c.0.1) (λ flags. Ok (Args.Mount a.0.0 b.0.0 c.0.0 flags.0, flags.1)) x c.2 in
    let made : Read = (Args.Mount a.0.0 b.0.0 c.0.0 d.0.0, d.0.1) in
    subst (λ (y : Read). is_file y.0 1 ≡ true) {x = made} (ok_is made x d.2)
    (five true (is_name a.0.0) (is_name b.0.0) (is_name c.0.0) (is_number d.0.0) refl (name_at_read words a.0 a.1) (name_at_read a.0.1 b.0 b.1) (name_at_read b.0.1 c.0 c.1) (number_at_read c.0.1 d.0 d.1))

abbrev Whole : Type 0
Whole = Args × Perms × Line

abbrev Right : Whole → Type 0
Right x = is_file x.0 x.1.bits ≡ true

with_right : (bits : ℕ) (r : Result Read LineKind) (x : Whole) → ((y : Read) → r ≡ Ok y → is_file y.0 bits ≡ true) → with_perms bits r ≡ Ok x → Right x
with_right bits r x known e =
    let b = bind_ok r (λ y. Ok (y.0, perms bits, y.1)) x e in
    let made : Whole = (b.0.0, perms bits, b.0.1) in
    subst Right {x = made} (ok_is made x b.2) (known b.0 b.1)

-- the word `execute` is one permission
one_bit : (word : Text) (last : Bool) (bits : ℕ) → texts_equal word (codes "execute") ≡ true → perms_of Row.Path word last ≡ Ok bits → bits ≡ 1
unfolding perms_of perm_on
one_bit word last bits same e =
    let is : word ≡ codes "execute" = same_texts word (codes "execute") same in
    let read : perms_of Row.Path (codes "execute") last ≡ Ok bits = subst (λ t. perms_of Row.Path t last ≡ Ok bits) is e in
    sym (ok_is 1 bits (sym (perms_again Row.Path 1 last refl) ∙ read))

row_right : (o : Option Row) (word : Text) (words : Line) (x : Whole) → row_line o word words ≡ Ok x → Right x
unfolding row_line
row_right None word words x e = absurd cc
row_right (Some row) word words x e =
    let b = bind_ok (perms_of row word (is_last words)) (λ bits. with_perms bits (args_at row (texts_equal word (codes "execute")) words)) x e in
    let set = perms_read row word (is_last words) b.0 b.1 in
    let one : row ≡ Row.Path → texts_equal word (codes "execute") ≡ true → b.0 ≡ 1 = λ is same. one_bit word (is_last words) b.0 same (subst (λ r. perms_of r word (is_last words) ≡ Ok b.0) is b.1) in
    with_right b.0 (args_at row (texts_equal word (codes "execute")) words) x (λ y f. args_right row (texts_equal word (codes "execute")) b.0 words y set one f) b.2

list_right : (words : Line) (x : Whole) → perms_line words ≡ Ok x → Right x
unfolding perms_line
list_right [] x e = absurd cc
list_right (word ∷ words) x e = by_mount (texts_equal word (codes "mount")) e
  where
    by_mount : (t : Bool) → cond t (with_perms 1 (mount_at words)) (row_line (row_in (pieces_of word)) word words) ≡ Ok x → Right x
    by_mount true f = with_right 1 (mount_at words) x (λ y g. mount_right words y g) f
    by_mount false f = row_right (row_in (pieces_of word)) word words x f

pub file_right : (words : Line) (x : Whole) → file_line words ≡ Ok x → is_file x.0 x.1.bits ≡ true
unfolding file_line
file_right words x e = let b = bind_ok (keyword_at (codes "file") words) perms_line x e in list_right b.0 x b.2

-- what is read is written in its normal form, which is read again
pub file_normal : (words more : Line) (a : Args) (p : Perms) (rest : Line) → file_line words ≡ Ok (a, p, rest) → no_prefer more ≡ true → file_line (file_words a p.bits ++ more) ≡ Ok (a, p, more)
file_normal words more a p rest e h = file_again a p.bits more (file_right words (a, p, rest) e) h
