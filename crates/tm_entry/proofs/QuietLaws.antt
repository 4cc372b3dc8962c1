-- A line of an entry that doesn't name `execute` lets nothing be executed.
use Rattle.std.proofs.Common.{◌≡◌, ℕ, ◌*◌, ◌%◌, ◌==◌, Bool, true, false, cond, ◌&&◌, not, List, [], ◌∷◌, Option, Some, None, Result, Ok, Err, refl, sym, ap, subst, ◌∙◌}
use Rattle.std.specs.Prelude.{codes, bit_or}
use Rattle.std.specs.Int.{bit_at}
use Rattle.std.specs.List.{slice_split}
use Rattle.std.proofs.lemmas.Bool.{and_parts}
use Rattle.std.proofs.lemmas.Nat.Bits.{bit_at_or, bit_at-zero, bit_at_lowest}
use Rattle.std.proofs.Math.Nat.{mul-mod_left}
use Rattle.tm_word.specs.Prelude.{Text, begins, texts_equal, ◌>>=◌}
use Rattle.tm_rules.specs.Types.{Args, Cond, Entry, LineKind, Perms}
use Rattle.tm_rules.specs.Prelude.{has_permission, is_one_of, is_quiet_acl, lets_execute}
use Rattle.tm_rules.proofs.EqualityLaws.{same_texts}
use Rattle.tm_file.specs.Row.{Row}
use Rattle.tm_file.specs.Lines.{is_last, keyword_kind, keyword_at}
use Rattle.tm_file.specs.Arguments.{name_at, number_at}
use Rattle.tm_file.specs.Permissions.{names, mask_from, mask_in, pieces_of, bits_of, bits_or_kind, perms_of, with_mask}
use Rattle.tm_file.proofs.Steps.{bind_ok, done, ok_is, chosen, not_true}
use Rattle.tm_file.specs.FileLines.{row_in, args_at, mount_at, perms, with_perms, row_line, perms_line, file_line}
use Rattle.tm_net.specs.NetLines.{net_line, is_net}
use Rattle.tm_net.proofs.NetLaws.{net_right}
use Rattle.tm_cond.specs.Reading.{cond_of}
use Rattle.tm_entry.specs.Entries.{acl_line, entry, entry_of}

abbrev Read : Type 0
Read = Args × Perms × List Text

-- a line with these arguments and permissions lets something be executed
abbrev lets : Args → ℕ → Bool
lets (Args.Path n) bits = has_permission bits 0
lets (Args.Execute n prefer) bits = has_permission bits 0
lets (Args.PathNumber n k) bits = false
lets (Args.Device n a b c) bits = false
lets (Args.Path2 n m) bits = false
lets (Args.Mount d p k f) bits = false
lets (Args.Inet k a p) bits = false
lets (Args.Unix k n) bits = false
lets (Args.Env n) bits = false
lets (Args.Manual d) bits = false

lets_is : (a : Args) (p : Perms) (c : Cond) → lets_execute (entry a p c) ≡ lets a p.bits
lets_is (Args.Path n) p c = refl
lets_is (Args.Execute n prefer) p c = refl
lets_is (Args.PathNumber n k) p c = refl
lets_is (Args.Device n x y z) p c = refl
lets_is (Args.Path2 n m) p c = refl
lets_is (Args.Mount d q k f) p c = refl
lets_is (Args.Inet k a q) p c = refl
lets_is (Args.Unix k n) p c = refl
lets_is (Args.Env n) p c = refl
lets_is (Args.Manual d) p c = refl

abbrev Quiet : Read → Type 0
Quiet x = lets x.0 x.1.bits ≡ false

-- Lines of network, environment and task

net_quiet : (a : Args) (bits : ℕ) → is_net a bits ≡ true → lets a bits ≡ false
unfolding is_net
net_quiet (Args.Path n) bits h = absurd cc
net_quiet (Args.Execute n prefer) bits h = absurd cc
net_quiet (Args.PathNumber n k) bits h = refl
net_quiet (Args.Device n x y z) bits h = refl
net_quiet (Args.Path2 n m) bits h = refl
net_quiet (Args.Mount d q k f) bits h = refl
net_quiet (Args.Inet k a q) bits h = refl
net_quiet (Args.Unix k n) bits h = refl
net_quiet (Args.Env n) bits h = refl
net_quiet (Args.Manual d) bits h = refl

-- Permissions without `execute`

-- no piece is `execute`
abbrev Free : List Text → Type 0
Free pieces = is_one_of (codes "execute") pieces ≡ false

some_is : (x y : ℕ) → Some x ≡ Some y → x ≡ y
some_is x y e = cc

-- the bits of later permissions are even
even : (mask : ℕ) (list : List Text) (piece : Text) (found : ℕ) → mask % 2 ≡ 0 → mask_from mask list piece ≡ Some found → found % 2 ≡ 0
even mask [] piece found h e = absurd cc
even mask (name ∷ more) piece found h e = go (texts_equal piece name) e (even (mask * 2) more piece found (mul-mod_left mask 2))
  where
    go : (b : Bool) → cond b (Some mask) (mask_from (mask * 2) more piece) ≡ Some found → (mask_from (mask * 2) more piece ≡ Some found → found % 2 ≡ 0) → found % 2 ≡ 0
    go true is later = subst (λ k. k % 2 ≡ 0) (some_is mask found is) h
    go false is later = later is

other_way : (x y : Text) → texts_equal x y ≡ false → texts_equal y x ≡ false
other_way x y h = go (texts_equal y x) refl
  where
    go : (b : Bool) → texts_equal y x ≡ b → texts_equal y x ≡ false
    go false e = e
    go true e =
        let same : y ≡ x = same_texts.sound y x e in
        let yes : texts_equal x y ≡ true = subst (λ z. texts_equal x z ≡ true) (sym same) (same_texts.full x) in
        absurd (let wrong : true ≡ false = sym yes ∙ h in cc)

-- a permission that isn't the first has not its bit
later_even : (first : Text) (more : List Text) (piece : Text) (mask : ℕ) → texts_equal piece first ≡ false → mask_from 1 (first ∷ more) piece ≡ Some mask → mask % 2 ≡ 0
later_even first more piece mask h e = even 2 more piece mask refl (rw h at e)

-- all but the first
abbrev others : List Text → List Text
others [] = []
others (first ∷ more) = more

not_first : (piece : Text) (mask : ℕ) → texts_equal (codes "execute") piece ≡ false → mask_in Row.Path piece ≡ Some mask → bit_at mask 0 ≡ 0
not_first piece mask h e = bit_at_lowest mask ∙ later_even (codes "execute") (others (names Row.Path)) piece mask (other_way (codes "execute") piece h) e

bits_free : (before : ℕ) (pieces : List Text) (bits : ℕ) → Free pieces → bit_at before 0 ≡ 0 → bits_of before Row.Path pieces ≡ Some bits → bit_at bits 0 ≡ 0
bits_free before [] bits free zero_ e = subst (λ k. bit_at k 0 ≡ 0) (some_is before bits e) zero_
bits_free before (piece ∷ pieces) bits free zero_ e = go (mask_in Row.Path piece) refl e (λ next start rest. bits_free next pieces bits (parts free).1 start rest)
  where
    parts : Free (piece ∷ pieces) → (texts_equal (codes "execute") piece ≡ false) × Free pieces
    parts h = split (texts_equal (codes "execute") piece) refl h
      where
        split : (b : Bool) → texts_equal (codes "execute") piece ≡ b → Free (piece ∷ pieces) → (texts_equal (codes "execute") piece ≡ false) × Free pieces
        split false is f = (is, rw is at f)
        split true is f = absurd (let wrong : true ≡ false = rw is at f in cc)

    go : (o : Option ℕ) → mask_in Row.Path piece ≡ o → with_mask o before (λ next. bits_of next Row.Path pieces) ≡ Some bits → ((next : ℕ) → bit_at next 0 ≡ 0 → bits_of next Row.Path pieces ≡ Some bits → bit_at bits 0 ≡ 0) → bit_at bits 0 ≡ 0
    go None is found later = absurd cc
    go (Some mask) is found later = later (bit_or before mask) (bit_at_or before mask 0 ∙ rw (zero_, not_first piece mask (parts free).0 is) refl) found

-- the bits that a word spells
spelled : (o : Option ℕ) (unfinished : Bool) (bits : ℕ) → bits_or_kind o unfinished ≡ Ok bits → o ≡ Some bits
spelled (Some x) unfinished bits e = ap (λ k. Some k) (ok_is x bits e)
spelled None unfinished bits e = absurd cc

none_set : (word : Text) (last : Bool) (bits : ℕ) → Free (slice_split (λ b. b == 47) word) → perms_of Row.Path word last ≡ Ok bits → has_permission bits 0 ≡ false
unfolding perms_of
none_set word last bits free e =
    let found : bits_of 0 Row.Path (pieces_of word) ≡ Some bits = spelled (bits_of 0 Row.Path (pieces_of word)) _ bits e in
    ap (λ k. k == 1) (bits_free 0 (pieces_of word) bits free (bit_at-zero 0) found)

-- Lines of files

path_quiet : (a : Args) (bits : ℕ) → has_permission bits 0 ≡ false → lets a bits ≡ false
path_quiet (Args.Path n) bits h = h
path_quiet (Args.Execute n prefer) bits h = h
path_quiet (Args.PathNumber n k) bits h = refl
path_quiet (Args.Device n x y z) bits h = refl
path_quiet (Args.Path2 n m) bits h = refl
path_quiet (Args.Mount d q k f) bits h = refl
path_quiet (Args.Inet k a q) bits h = refl
path_quiet (Args.Unix k n) bits h = refl
path_quiet (Args.Env n) bits h = refl
path_quiet (Args.Manual d) bits h = refl

-- the arguments that were read, with the bits that stood before them
put : (bits : ℕ) (read : Result (Args × List Text) LineKind) (x : Read) → with_perms bits read ≡ Ok x → (y : Args × List Text) × (read ≡ Ok y) × ((y.0, perms bits, y.1) ≡ x)
put bits read x e = let y = bind_ok read (λ y. Ok (y.0, perms bits, y.1)) x e in (y.0, y.1, ok_is (y.0.0, perms bits, y.0.1) x y.2)

-- the arguments of a row without `execute` let nothing be executed, whatever the bits
abbrev Still : Args → Type 0
Still a = (bits : ℕ) → lets a bits ≡ false

still_by : (made y : Args × List Text) → done made ≡ done y → Still made.0 → Still y.0
still_by made y e h = subst (λ (z : Args × List Text). Still z.0) (ok_is made y e) h

row_still : (acl_row : Row) (alone : Bool) (words : List Text) (y : Args × List Text) → args_at acl_row alone words ≡ Ok y → (acl_row ≡ Row.Path → ⊥) → Still y.0
unfolding args_at
row_still Row.Path alone words y e other = absurd (other refl)
row_still Row.PathNumber alone words y e other =
    let n = bind_ok (name_at words) (λ name. number_at name.1 >>= λ number. Ok (Args.PathNumber name.0 number.0, number.1)) y e in
    let k = bind_ok (number_at n.0.1) (λ number. Ok (Args.PathNumber n.0.0 number.0, number.1)) y n.2 in
    still_by (Args.PathNumber n.0.0 k.0.0, k.0.1) y k.2 (λ bits. refl {a = false})
row_still Row.Device alone words y e other =
    let n = bind_ok (name_at words) (λ name. number_at name.1 >>= λ mode. number_at mode.1 >>= λ major. number_at major.1 >>= λ minor. Ok (Args.Device name.0 mode.0 major.0 minor.0, minor.1)) y e in
    let a = bind_ok (number_at n.0.1) (λ mode. number_at mode.1 >>= λ major. number_at major.1 >>= λ minor. Ok (Args.Device n.0.0 mode.0 major.0 minor.0, minor.1)) y n.2 in
    let b = bind_ok (number_at a.0.1) (λ major. number_at major.1 >>= λ minor. Ok (Args.Device n.0.0 a.0.0 major.0 minor.0, minor.1)) y a.2 in
    let c = bind_ok (number_at b.0.1) (λ minor. Ok (Args.Device n.0.0 a.0.0 b.0.0 minor.0, minor.1)) y b.2 in
    still_by (Args.Device n.0.0 a.0.0 b.0.0 c.0.0, c.0.1) y c.2 (λ bits. refl {a = false})
row_still Row.Pair alone words y e other =
    let n = bind_ok (name_at words) (λ first. name_at first.1 >>= λ second. Ok (Args.Path2 first.0 second.0, second.1)) y e in
    let m = bind_ok (name_at n.0.1) (λ second. Ok (Args.Path2 n.0.0 second.0, second.1)) y n.2 in
    still_by (Args.Path2 n.0.0 m.0.0, m.0.1) y m.2 (λ bits. refl {a = false})
row_still Row.Listening alone words y e other = absurd cc
row_still Row.Sending alone words y e other = absurd cc

row_quiet : (acl_row : Row) (word : Text) (words : List Text) (x : Read) → Free (slice_split (λ b. b == 47) word) → row_line (Some acl_row) word words ≡ Ok x → Quiet x
unfolding row_line
row_quiet acl_row word words x free e =
    let b = bind_ok (perms_of acl_row word (is_last words)) (λ bits. with_perms bits (args_at acl_row (texts_equal word (codes "execute")) words)) x e in
    let y = put b.0 (args_at acl_row (texts_equal word (codes "execute")) words) x b.2 in
    subst Quiet y.2 (by_row acl_row refl b.0 b.1 y.0 y.1)
  where
    by_row : (r : Row) → acl_row ≡ r → (bits : ℕ) → perms_of r word (is_last words) ≡ Ok bits → (y : Args × List Text) → args_at r (texts_equal word (codes "execute")) words ≡ Ok y → lets y.0 bits ≡ false
    by_row Row.Path is bits spelt y read = path_quiet y.0 bits (none_set word (is_last words) bits free spelt)
    by_row Row.PathNumber is bits spelt y read = row_still Row.PathNumber (texts_equal word (codes "execute")) words y read (λ same. cc) bits
    by_row Row.Device is bits spelt y read = row_still Row.Device (texts_equal word (codes "execute")) words y read (λ same. cc) bits
    by_row Row.Pair is bits spelt y read = row_still Row.Pair (texts_equal word (codes "execute")) words y read (λ same. cc) bits
    by_row Row.Listening is bits spelt y read = row_still Row.Listening (texts_equal word (codes "execute")) words y read (λ same. cc) bits
    by_row Row.Sending is bits spelt y read = row_still Row.Sending (texts_equal word (codes "execute")) words y read (λ same. cc) bits

one_by : (made y : Args × List Text) → done made ≡ done y → lets made.0 1 ≡ false → lets y.0 1 ≡ false
one_by made y e h = subst (λ (z : Args × List Text). lets z.0 1 ≡ false) (ok_is made y e) h

mount_quiet : (words : List Text) (x : Read) → with_perms 1 (mount_at words) ≡ Ok x → Quiet x
unfolding mount_at
mount_quiet words x e =
    let y = put 1 (mount_at words) x e in
    let a = bind_ok (name_at words) (λ device. name_at device.1 >>= λ dir. name_at dir.1 >>= λ type. number_at type.1 >>= λ flags. Ok (Args.Mount device.0 dir.0 type.0 flags.0, flags.1)) y.0 y.1 in
    let b = bind_ok (name_at a.0.1) (λ dir. name_at dir.1 >>= λ type. number_at type.1 >>= λ flags. Ok (Args.Mount a.0.0 dir.0 type.0 flags.0, flags.1)) y.0 a.2 in
    let c = bind_ok (name_at b.0.1) (λ type. number_at type.1 >>= λ flags. Ok (Args.Mount a.0.0 b.0.0 type.0 flags.0, flags.1)) y.0 b.2 in
    let d = bind_ok (number_at c.0.1) (λ flags. Ok (Args.Mount a.0.0 b.0.0 c.0.0 flags.0, flags.1)) y.0 c.2 in
    subst Quiet y.2 (one_by (Args.Mount a.0.0 b.0.0 c.0.0 d.0.0, d.0.1) y.0 d.2 (refl {a = false}))

some_row : (o : Option Row) (word : Text) (words : List Text) (x : Read) → Free (slice_split (λ b. b == 47) word) → row_line o word words ≡ Ok x → Quiet x
unfolding row_line
some_row (Some acl_row) word words x free e = row_quiet acl_row word words x free e
some_row None word words x free e = absurd cc

-- what stands after `file`
perms_quiet : (word : Text) (words : List Text) (x : Read) → Free (slice_split (λ b. b == 47) word) → perms_line (word ∷ words) ≡ Ok x → Quiet x
unfolding perms_line
perms_quiet word words x free e = go (texts_equal word (codes "mount")) e
  where
    go : (b : Bool) → cond b (with_perms 1 (mount_at words)) (row_line (row_in (pieces_of word)) word words) ≡ Ok x → Quiet x
    go true f = mount_quiet words x f
    go false f = some_row (row_in (pieces_of word)) word words x free f

nothing_left : (x : Read) → perms_line [] ≡ Ok x → Quiet x
unfolding perms_line
nothing_left x e = absurd cc

file_quiet : (word : Text) (words : List Text) (x : Read) → is_quiet_acl (word ∷ words) ≡ true → file_line (word ∷ words) ≡ Ok x → Quiet x
unfolding file_line
file_quiet word words x quiet e =
    let r = bind_ok (keyword_at (codes "file") (word ∷ words)) perms_line x e in
    let k = chosen (texts_equal word (codes "file")) words r.0 (keyword_kind (is_last words && begins word (codes "file"))) r.1 in
    by_words words quiet (subst (λ left. perms_line left ≡ Ok x) (sym k.1) r.2)
  where
    by_words : (list : List Text) → is_quiet_acl (word ∷ list) ≡ true → perms_line list ≡ Ok x → Quiet x
    by_words [] h f = nothing_left x f
    by_words (permissions ∷ rest) h f =
        let both = and_parts (is_one_of word (codes "file" ∷ codes "network" ∷ codes "misc" ∷ codes "task" ∷ [])) (not (is_one_of (codes "execute") (slice_split (λ b. b == 47) permissions))) h in
        perms_quiet permissions rest x (not_true (is_one_of (codes "execute") (slice_split (λ b. b == 47) permissions)) both.1) f

acl_quiet : (words : List Text) (x : Read) → is_quiet_acl words ≡ true → acl_line words ≡ Ok x → Quiet x
unfolding acl_line
acl_quiet [] x quiet e = absurd cc
acl_quiet (word ∷ words) x quiet e = by_word (texts_equal word (codes "file")) (is_last words && begins word (codes "file")) e
  where
    by_word : (t u : Bool) → cond t (file_line (word ∷ words)) (cond u (Err LineKind.Arity) (net_line (word ∷ words))) ≡ Ok x → Quiet x
    by_word true u f = file_quiet word words x quiet f
    by_word false true f = absurd cc
    by_word false false f = net_quiet x.0 x.1.bits (net_right (word ∷ words) x f)

-- an entry that is read from such words lets nothing be executed
pub quiet_entry : (words : List Text) (e : Entry) → is_quiet_acl words ≡ true → entry_of words ≡ Ok e → lets_execute e ≡ false
unfolding entry_of
quiet_entry words e quiet h =
    let line = bind_ok (acl_line words) (λ line. cond_of line.2 >>= λ c. Ok (entry line.0 line.1 c)) e h in
    let c = bind_ok (cond_of line.0.2) (λ c. Ok (entry line.0.0 line.0.1 c)) e line.2 in
    subst (λ (y : Entry). lets_execute y ≡ false) (ok_is (entry line.0.0 line.0.1 c.0) e c.2) (lets_is line.0.0 line.0.1 c.0 ∙ acl_quiet words line.0 quiet line.1)
