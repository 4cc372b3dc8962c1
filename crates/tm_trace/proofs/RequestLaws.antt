-- The line of a request: what is printed is read again, and what is read can be printed.
use Rattle.std.proofs.Common.{◌≡◌, ℕ, ◌<◌, ◌^◌, ◌==◌, nat_lt, Bool, true, false, cond, ◌&&◌, List, [], ◌∷◌, ◌++◌, Option, Some, None, Result, Ok, Err, refl, sym, ap, subst}
use Rattle.std.specs.Prelude.{codes}
use Rattle.std.proofs.lemmas.Bool.{eqb-true, ltb-true, lt-ltb}
use Rattle.tm_word.specs.Prelude.{Pattern, Text, texts_equal, ◌>>=◌}
use Rattle.tm_rules.specs.Types.{AddrUnion, Args, InetKind, LineKind, NameUnion, NumberUnion, UnixKind}
use Rattle.tm_rules.specs.Prelude.{DomainName, is_addr, is_domain_name, is_name, is_number}
use Rattle.tm_line.specs.Names.{is_path}
use Rattle.tm_line.specs.declared.permissions.Row.{Row}
use Rattle.tm_line.specs.Lines.{word_at}
use Rattle.tm_line.specs.Domains.{domain_at}
use Rattle.tm_line.specs.DomainWords.{ends_domain}
use Rattle.tm_line.specs.Printing.{name_spelling, number_spelling}
use Rattle.tm_line.proofs.Steps.{bind_ok, done, ok_is, both, all}
use Rattle.tm_line.proofs.DomainLaws.{domain_again, at_right}
use Rattle.tm_entry.specs.FileLines.{row_of, file_words}
use Rattle.tm_entry.specs.NetLines.{inet_kind, unix_kind, inet_permissions, unix_permissions, inet_word, unix_word, net_words}
use Rattle.tm_entry.specs.Entries.{acl_words}
use Rattle.tm_trace.specs.Requests.{or_keyword, one_of, only_at, place_in, literal_name, path_name, single_number, single_address, env_name, args_at, mount_at, with_perm, row_request, file_request, inet_request, unix_request, network_request, misc_request, task_request, request_line}
use Rattle.tm_trace.proofs.Names.{is_at, is_env_name, name_again, path_again, env_again, name_read, path_read, env_read}
use Rattle.tm_trace.proofs.Singles.{single_again, single_read, address_again, address_read}
use Rattle.tm_trace.proofs.Perms.{width, perm_text, place_again, place_read, is_file_row, listed}

abbrev pub Line : Type 0
Line = List Text

-- what the line of a request says, with the place of its permission
unfoldable pub is_line : Args → ℕ → Bool
is_line (Args.Path n) perm = is_name n && is_at perm n && nat_lt perm (width Row.Path)
is_line (Args.Execute n prefer) perm = false
is_line (Args.PathNumber n k) perm = is_name n && is_number k && nat_lt perm (width Row.PathNumber)
is_line (Args.Device n mode major minor) perm = is_name n && is_number mode && is_number major && is_number minor && nat_lt perm (width Row.Device)
is_line (Args.Path2 n m) perm = is_name n && is_name m && nat_lt perm (width Row.Pair)
is_line (Args.Mount device dir kind flags) perm = is_name device && is_name dir && is_name kind && is_number flags && perm == 0
is_line (Args.Inet kind address port) perm = is_addr address && is_number port && nat_lt perm (width (inet_permissions kind))
is_line (Args.Unix kind n) perm = is_name n && nat_lt perm (width (unix_permissions kind))
is_line (Args.Env p) perm = is_env_name p && perm == 0
is_line (Args.Manual domain) perm = is_domain_name is_path domain && perm == 0

-- the printed words of its line
abbrev pub line_words : Args → ℕ → Line
line_words a perm = acl_words a (record { bits = 2 ^ perm })

-- ---- what is printed is read again

abbrev pub Again : Args → ℕ → Line → Type 0
Again a perm more = request_line (line_words a perm ++ more) ≡ Ok (a, perm, more)

below_is : (perm n : ℕ) → nat_lt perm n ≡ true → perm < n
below_is perm n h = ltb-true perm n h

row_again : (acl_row : Row) (perm : ℕ) (words : Line) (a : Args) (more : Line) → is_file_row acl_row ≡ true → perm < width acl_row → args_at acl_row perm words ≡ Ok (a, more)
    → request_line (codes "file" ∷ perm_text acl_row perm ∷ words) ≡ Ok (a, perm, more)
unfolding request_line file_request
row_again acl_row perm words a more h low e = let l = listed acl_row perm h low in rw (l.mount, l.row, place_again acl_row perm low, e) refl

path_line : (n : NameUnion) (perm : ℕ) (more : Line) → is_name n ≡ true → is_at perm n ≡ true → perm < width Row.Path → Again (Args.Path n) perm more
unfolding acl_words file_words args_at
path_line n perm more h k low = row_again Row.Path perm (name_spelling n ∷ more) (Args.Path n) more refl low (rw (path_again perm n h k) refl)

path_number_line : (n : NameUnion) (k : NumberUnion) (perm : ℕ) (more : Line) → is_name n ≡ true → is_number k ≡ true → perm < width Row.PathNumber → Again (Args.PathNumber n k) perm more
unfolding acl_words file_words args_at
path_number_line n k perm more h i low =
    row_again Row.PathNumber perm (name_spelling n ∷ number_spelling k ∷ more) (Args.PathNumber n k) more refl low (rw (name_again n h, single_again k i) refl)

device_line : (n : NameUnion) (mode major minor : NumberUnion) (perm : ℕ) (more : Line) → is_name n ≡ true → is_number mode ≡ true → is_number major ≡ true → is_number minor ≡ true → perm < width Row.Device → Again (Args.Device n mode major minor) perm more
unfolding acl_words file_words args_at
device_line n mode major minor perm more h i j k low =
    row_again Row.Device perm (name_spelling n ∷ number_spelling mode ∷ number_spelling major ∷ number_spelling minor ∷ more) (Args.Device n mode major minor) more refl low
    (rw (name_again n h, single_again mode i, single_again major j, single_again minor k) refl)

pair_line : (n m : NameUnion) (perm : ℕ) (more : Line) → is_name n ≡ true → is_name m ≡ true → perm < width Row.Pair → Again (Args.Path2 n m) perm more
unfolding acl_words file_words args_at
pair_line n m perm more h i low = row_again Row.Pair perm (name_spelling n ∷ name_spelling m ∷ more) (Args.Path2 n m) more refl low (rw (name_again n h, name_again m i) refl)

mount_line : (device dir type : NameUnion) (flags : NumberUnion) (more : Line) → is_name device ≡ true → is_name dir ≡ true → is_name type ≡ true → is_number flags ≡ true → Again (Args.Mount device dir type flags) 0 more
unfolding acl_words file_words request_line file_request mount_at
mount_line device dir type flags more h i j k = rw (name_again device h, name_again dir i, name_again type j, single_again flags k) refl

inet_kind_again : (kind : InetKind) → inet_kind (inet_word kind) ≡ Some kind
inet_kind_again InetKind.Stream = refl
inet_kind_again InetKind.Dgram = refl
inet_kind_again InetKind.Raw = refl

unix_kind_again : (kind : UnixKind) → unix_kind (unix_word kind) ≡ Some kind
unix_kind_again UnixKind.Stream = refl
unix_kind_again UnixKind.Dgram = refl
unix_kind_again UnixKind.Seqpacket = refl

inet_line : (kind : InetKind) (address : AddrUnion) (port : NumberUnion) (perm : ℕ) (more : Line) → is_addr address ≡ true → is_number port ≡ true → perm < width (inet_permissions kind) → Again (Args.Inet kind address port) perm more
unfolding acl_words net_words request_line network_request inet_request
inet_line kind address port perm more h i low =
    rw (inet_kind_again kind, place_again (inet_permissions kind) perm low, address_again address h, single_again port i) refl

unix_line : (kind : UnixKind) (n : NameUnion) (perm : ℕ) (more : Line) → is_name n ≡ true → perm < width (unix_permissions kind) → Again (Args.Unix kind n) perm more
unfolding acl_words net_words request_line network_request unix_request
unix_line kind n perm more h low = rw (unix_kind_again kind, place_again (unix_permissions kind) perm low, name_again n h) refl

env_line : (p : Pattern) (more : Line) → is_env_name p ≡ true → Again (Args.Env p) 0 more
unfolding acl_words net_words request_line misc_request
env_line p more h = rw (env_again p h) refl

manual_line : (domain : DomainName) (more : Line) → is_domain_name is_path domain ≡ true → ends_domain more ≡ true → Again (Args.Manual domain) 0 more
unfolding acl_words net_words request_line task_request
manual_line domain more h k = rw (domain_again domain more h k) refl

zero_is : (perm : ℕ) → (perm == 0) ≡ true → 0 ≡ perm
zero_is perm h = sym (eqb-true perm 0 h)

pub line_again : (a : Args) (perm : ℕ) (more : Line) → is_line a perm ≡ true → ends_domain more ≡ true → request_line (line_words a perm ++ more) ≡ Ok (a, perm, more)
unfolding is_line
line_again (Args.Path n) perm more h k =
    let s = both (is_name n && is_at perm n) (nat_lt perm (width Row.Path)) h in
    let t = both (is_name n) (is_at perm n) s.0 in
    path_line n perm more t.0 t.1 (below_is perm (width Row.Path) s.1)
line_again (Args.Execute n prefer) perm more h k = absurd cc
line_again (Args.PathNumber n i) perm more h k =
    let s = both (is_name n && is_number i) (nat_lt perm (width Row.PathNumber)) h in
    let t = both (is_name n) (is_number i) s.0 in
    path_number_line n i perm more t.0 t.1 (below_is perm (width Row.PathNumber) s.1)
line_again (Args.Device n mode major minor) perm more h k =
    let s = both (is_name n && is_number mode && is_number major && is_number minor) (nat_lt perm (width Row.Device)) h in
    let t = both (is_name n && is_number mode && is_number major) (is_number minor) s.0 in
    let u = both (is_name n && is_number mode) (is_number major) t.0 in
    let v = both (is_name n) (is_number mode) u.0 in
    device_line n mode major minor perm more v.0 v.1 u.1 t.1 (below_is perm (width Row.Device) s.1)
line_again (Args.Path2 n m) perm more h k =
    let s = both (is_name n && is_name m) (nat_lt perm (width Row.Pair)) h in
    let t = both (is_name n) (is_name m) s.0 in
    pair_line n m perm more t.0 t.1 (below_is perm (width Row.Pair) s.1)
line_again (Args.Mount device dir type flags) perm more h k =
    let s = both (is_name device && is_name dir && is_name type && is_number flags) (perm == 0) h in
    let t = both (is_name device && is_name dir && is_name type) (is_number flags) s.0 in
    let u = both (is_name device && is_name dir) (is_name type) t.0 in
    let v = both (is_name device) (is_name dir) u.0 in
    subst (λ i. Again (Args.Mount device dir type flags) i more) (zero_is perm s.1) (mount_line device dir type flags more v.0 v.1 u.1 t.1)
line_again (Args.Inet kind address port) perm more h k =
    let s = both (is_addr address && is_number port) (nat_lt perm (width (inet_permissions kind))) h in
    let t = both (is_addr address) (is_number port) s.0 in
    inet_line kind address port perm more t.0 t.1 (below_is perm (width (inet_permissions kind)) s.1)
line_again (Args.Unix kind n) perm more h k =
    let s = both (is_name n) (nat_lt perm (width (unix_permissions kind))) h in
    unix_line kind n perm more s.0 (below_is perm (width (unix_permissions kind)) s.1)
line_again (Args.Env p) perm more h k =
    let s = both (is_env_name p) (perm == 0) h in
    subst (λ i. Again (Args.Env p) i more) (zero_is perm s.1) (env_line p more s.0)
line_again (Args.Manual domain) perm more h k =
    let s = both (is_domain_name is_path domain) (perm == 0) h in
    subst (λ i. Again (Args.Manual domain) i more) (zero_is perm s.1) (manual_line domain more s.0 k)

-- ---- what is read can be printed

abbrev Whole : Type 0
Whole = Args × ℕ × Line

abbrev IsLine : Whole → Type 0
IsLine x = is_line x.0 x.1 ≡ true

-- a word's value, and the words after it
at_ok : {A : Type 0} (P : A → Type 0) (read : Text → Result A LineKind) (words : Line) (x : A × Line) → ((word : Text) (a : A) → read word ≡ Ok a → P a) → word_at read words ≡ Ok x → P x.0
at_ok P read [] x h e = absurd cc
at_ok P read (word ∷ words) x h e =
    let a = bind_ok (read word) (λ a. Ok (a, words)) x e in
    subst (λ (y : _ × Line). P y.0) (ok_is (a.0, words) x a.2) (h word a.0 a.1)

keyword_ok : {A : Type 0} (o : Option A) (x : A) → or_keyword o ≡ Ok x → o ≡ Some x
keyword_ok None x e = absurd cc
keyword_ok (Some y) x e = ap Some (ok_is y x e)

name_at : (words : Line) (x : NameUnion × Line) → word_at literal_name words ≡ Ok x → is_name x.0 ≡ true
name_at words x e = at_ok (λ n. is_name n ≡ true) literal_name words x name_read e

number_at : (words : Line) (x : NumberUnion × Line) → word_at single_number words ≡ Ok x → is_number x.0 ≡ true
number_at words x e = at_ok (λ n. is_number n ≡ true) single_number words x single_read e

perm_at : (acl_row : Row) (words : Line) (x : ℕ × Line) → one_of (place_in acl_row) words ≡ Ok x → nat_lt x.0 (width acl_row) ≡ true
perm_at acl_row words x e =
    at_ok (λ n. nat_lt n (width acl_row) ≡ true) (λ word. or_keyword (place_in acl_row word)) words x (λ word n f. lt-ltb n (width acl_row) (place_read acl_row word n (keyword_ok (place_in acl_row word) n f))) e

-- the value that was read is this one
line_is : (perm : ℕ) (made x : Args × Line) → done made ≡ done x → is_line made.0 perm ≡ true → is_line x.0 perm ≡ true
line_is perm made x e h = subst (λ (y : Args × Line). is_line y.0 perm ≡ true) {x = made} (ok_is made x e) h

whole_is : (made x : Whole) → done made ≡ done x → IsLine made → IsLine x
whole_is made x e h = subst IsLine {x = made} (ok_is made x e) h

three : (a b c : Bool) → a ≡ true → b ≡ true → c ≡ true → (a && b && c) ≡ true
three a b c h i j = all (a && b) c (all a b h i) j

five : (a b c d e : Bool) → a ≡ true → b ≡ true → c ≡ true → d ≡ true → e ≡ true → (a && b && c && d && e) ≡ true
five a b c d e h i j k l = all (a && b && c && d) e (all (a && b && c) d (three a b c h i j) k) l

args_right : (acl_row : Row) (perm : ℕ) (words : Line) (x : Args × Line) → nat_lt perm (width acl_row) ≡ true → args_at acl_row perm words ≡ Ok x → is_line x.0 perm ≡ true
unfolding args_at is_line
args_right Row.Path perm words x low e =
    let a = bind_ok (word_at (path_name perm) words) (λ name. Ok (Args.Path name.0, name.1)) x e in
    let is = at_ok (λ n. (is_name n ≡ true) × (is_at perm n ≡ true)) (path_name perm) words a.0 (path_read perm) a.1 in
    line_is perm (Args.Path a.0.0, a.0.1) x a.2 (three (is_name a.0.0) (is_at perm a.0.0) (nat_lt perm (width Row.Path)) is.0 is.1 low)
args_right Row.PathNumber perm words x low e =
    let a = bind_ok (word_at literal_name words) (λ name. word_at single_number name.1 >>= λ number. Ok (Args.PathNumber name.0 number.0, number.1)) x e in
    let b = bind_ok (word_at single_number a.0.1) (λ number. Ok (Args.PathNumber a.0.0 number.0, number.1)) x a.2 in
    line_is perm (Args.PathNumber a.0.0 b.0.0, b.0.1) x b.2
    (three (is_name a.0.0) (is_number b.0.0) (nat_lt perm (width Row.PathNumber)) (name_at words a.0 a.1) (number_at a.0.1 b.0 b.1) low)
args_right Row.Device perm words x low e =
    let a = bind_ok (word_at literal_name words) (λ name. word_at single_number name.1 >>= λ mode. word_at single_number mode.1 >>= λ major. word_at single_number major.1 >>= λ minor. Ok (Args.Device name.0 mode.0 major.0 minor.0, minor.1)) x e in
    let b = bind_ok (word_at single_number a.0.1) (λ mode. word_at single_number mode.1 >>= λ major. word_at single_number major.1 >>= λ minor. Ok (Args.Device a.0.0 mode.0 major.0 minor.0, minor.1)) x a.2 in
    let c = bind_ok (word_at single_number b.0.1) (λ major. word_at single_number major.1 >>= λ minor. Ok (Args.Device a.0.0 b.0.0 major.0 minor.0, minor.1)) x b.2 in
    let d = bind_ok (word_at single_number c.0.1) (λ minor. Ok (Args.Device a.0.0 b.0.0 c.0.0 minor.0, minor.1)) x c.2 in
    line_is perm (Args.Device a.0.0 b.0.0 c.0.0 d.0.0, d.0.1) x d.2
    (five (is_name a.0.0) (is_number b.0.0) (is_number c.0.0) (is_number d.0.0) (nat_lt perm (width Row.Device)) (name_at words a.0 a.1) (number_at a.0.1 b.0 b.1) (number_at b.0.1 c.0 c.1) (number_at c.0.1 d.0 d.1) low)
args_right Row.Pair perm words x low e =
    let a = bind_ok (word_at literal_name words) (λ first. word_at literal_name first.1 >>= λ second. Ok (Args.Path2 first.0 second.0, second.1)) x e in
    let b = bind_ok (word_at literal_name a.0.1) (λ second. Ok (Args.Path2 a.0.0 second.0, second.1)) x a.2 in
    line_is perm (Args.Path2 a.0.0 b.0.0, b.0.1) x b.2
    (three (is_name a.0.0) (is_name b.0.0) (nat_lt perm (width Row.Pair)) (name_at words a.0 a.1) (name_at a.0.1 b.0 b.1) low)
args_right Row.Listening perm words x low e = absurd cc
args_right Row.Sending perm words x low e = absurd cc

mount_right : (words : Line) (x : Args × Line) → mount_at words ≡ Ok x → is_line x.0 0 ≡ true
unfolding mount_at is_line
mount_right words x e =
    let a = bind_ok (word_at literal_name words) (λ device. word_at literal_name device.1 >>= λ dir. word_at literal_name dir.1 >>= λ type. word_at single_number type.1 >>= λ flags. Ok (Args.Mount device.0 dir.0 type.0 flags.0, flags.1)) x e in
    let b = bind_ok (word_at literal_name a.0.1) (λ dir. word_at literal_name dir.1 >>= λ type. word_at single_number type.1 >>= λ flags. Ok (Args.Mount a.0.0 dir.0 type.0 flags.0, flags.1)) x a.2 in
    let c = bind_ok (word_at literal_name b.0.1) (λ type. word_at single_number type.1 >>= λ flags. Ok (Args.Mount a.0.0 b.0.0 type.0 flags.0, flags.1)) x b.2 in
    let d = bind_ok (word_at single_number c.0.1) (λ flags. Ok (Args.Mount a.0.0 b.0.0 c.0.0 flags.0, flags.1)) x c.2 in
    line_is 0 (Args.Mount a.0.0 b.0.0 c.0.0 d.0.0, d.0.1) x d.2
    (five (is_name a.0.0) (is_name b.0.0) (is_name c.0.0) (is_number d.0.0) true (name_at words a.0 a.1) (name_at a.0.1 b.0 b.1) (name_at b.0.1 c.0 c.1) (number_at c.0.1 d.0 d.1) refl)

perm_right : (perm : ℕ) (read : Result (Args × Line) LineKind) (x : Whole) → with_perm perm read ≡ Ok x → ((y : Args × Line) → read ≡ Ok y → is_line y.0 perm ≡ true) → IsLine x
perm_right perm read x e h =
    let a = bind_ok read (λ y. Ok (y.0, perm, y.1)) x e in
    whole_is (a.0.0, perm, a.0.1) x a.2 (h a.0 a.1)

row_right : (o : Option Row) (word : Text) (words : Line) (x : Whole) → row_request o word words ≡ Ok x → IsLine x
row_right None word words x e = absurd cc
row_right (Some acl_row) word words x e =
    let p = bind_ok (or_keyword (place_in acl_row word)) (λ perm. with_perm perm (args_at acl_row perm words)) x e in
    let low : nat_lt p.0 (width acl_row) ≡ true = lt-ltb p.0 (width acl_row) (place_read acl_row word p.0 (keyword_ok (place_in acl_row word) p.0 p.1)) in
    perm_right p.0 (args_at acl_row p.0 words) x p.2 (λ y f. args_right acl_row p.0 words y low f)

file_right : (words : Line) (x : Whole) → file_request words ≡ Ok x → IsLine x
unfolding file_request
file_right [] x e = absurd cc
file_right (word ∷ words) x e = by_word (texts_equal word (codes "mount")) e
  where
    by_word : (t : Bool) → cond t (with_perm 0 (mount_at words)) (row_request (row_of word) word words) ≡ Ok x → IsLine x
    by_word true f = perm_right 0 (mount_at words) x f (mount_right words)
    by_word false f = row_right (row_of word) word words x f

inet_right : (words : Line) (x : Whole) → inet_request words ≡ Ok x → IsLine x
unfolding inet_request is_line
inet_right words x e =
    let a = bind_ok (one_of inet_kind words) (λ kind. one_of (place_in (inet_permissions kind.0)) kind.1 >>= λ perm. word_at single_address perm.1 >>= λ address. word_at single_number address.1 >>= λ port. Ok (Args.Inet kind.0 address.0 port.0, perm.0, port.1)) x e in
    let b = bind_ok (one_of (place_in (inet_permissions a.0.0)) a.0.1) (λ perm. word_at single_address perm.1 >>= λ address. word_at single_number address.1 >>= λ port. Ok (Args.Inet a.0.0 address.0 port.0, perm.0, port.1)) x a.2 in
    let c = bind_ok (word_at single_address b.0.1) (λ address. word_at single_number address.1 >>= λ port. Ok (Args.Inet a.0.0 address.0 port.0, b.0.0, port.1)) x b.2 in
    let d = bind_ok (word_at single_number c.0.1) (λ port. Ok (Args.Inet a.0.0 c.0.0 port.0, b.0.0, port.1)) x c.2 in
    let address = at_ok (λ n. is_addr n ≡ true) single_address b.0.1 c.0 address_read c.1 in
    whole_is (Args.Inet a.0.0 c.0.0 d.0.0, b.0.0, d.0.1) x d.2
    (three (is_addr c.0.0) (is_number d.0.0) (nat_lt b.0.0 (width (inet_permissions a.0.0))) address (number_at c.0.1 d.0 d.1) (perm_at (inet_permissions a.0.0) a.0.1 b.0 b.1))

unix_right : (words : Line) (x : Whole) → unix_request words ≡ Ok x → IsLine x
unfolding unix_request is_line
unix_right words x e =
    let a = bind_ok (one_of unix_kind words) (λ kind. one_of (place_in (unix_permissions kind.0)) kind.1 >>= λ perm. word_at literal_name perm.1 >>= λ name. Ok (Args.Unix kind.0 name.0, perm.0, name.1)) x e in
    let b = bind_ok (one_of (place_in (unix_permissions a.0.0)) a.0.1) (λ perm. word_at literal_name perm.1 >>= λ name. Ok (Args.Unix a.0.0 name.0, perm.0, name.1)) x a.2 in
    let c = bind_ok (word_at literal_name b.0.1) (λ name. Ok (Args.Unix a.0.0 name.0, b.0.0, name.1)) x b.2 in
    whole_is (Args.Unix a.0.0 c.0.0, b.0.0, c.0.1) x c.2
    (all (is_name c.0.0) (nat_lt b.0.0 (width (unix_permissions a.0.0))) (name_at b.0.1 c.0 c.1) (perm_at (unix_permissions a.0.0) a.0.1 b.0 b.1))

network_right : (words : Line) (x : Whole) → network_request words ≡ Ok x → IsLine x
unfolding network_request
network_right [] x e = absurd cc
network_right (word ∷ words) x e = by_word (texts_equal word (codes "inet")) (texts_equal word (codes "unix")) e
  where
    by_word : (s t : Bool) → cond s (inet_request words) (cond t (unix_request words) (Err LineKind.Keyword)) ≡ Ok x → IsLine x
    by_word true t f = inet_right words x f
    by_word false true f = unix_right words x f
    by_word false false f = absurd cc

misc_right : (words : Line) (x : Whole) → misc_request words ≡ Ok x → IsLine x
unfolding misc_request is_line
misc_right words x e =
    let a = bind_ok (only_at (codes "env") words) (λ rest. word_at env_name rest >>= λ name. Ok (Args.Env name.0, 0, name.1)) x e in
    let b = bind_ok (word_at env_name a.0) (λ name. Ok (Args.Env name.0, 0, name.1)) x a.2 in
    let is = at_ok (λ p. is_env_name p ≡ true) env_name a.0 b.0 env_read b.1 in
    whole_is (Args.Env b.0.0, 0, b.0.1) x b.2 (all (is_env_name b.0.0) true is refl)

task_right : (words : Line) (x : Whole) → task_request words ≡ Ok x → IsLine x
unfolding task_request is_line
task_right words x e =
    let a = bind_ok (only_at (codes "manual_domain_transition") words) (λ rest. domain_at rest >>= λ domain. Ok (Args.Manual domain.0, 0, domain.1)) x e in
    let b = bind_ok (domain_at a.0) (λ domain. Ok (Args.Manual domain.0, 0, domain.1)) x a.2 in
    whole_is (Args.Manual b.0.0, 0, b.0.1) x b.2 (all (is_domain_name is_path b.0.0) true (at_right a.0 b.0 b.1) refl)

pub line_read : (words : Line) (x : Args × ℕ × Line) → request_line words ≡ Ok x → is_line x.0 x.1 ≡ true
unfolding request_line
line_read [] x e = absurd cc
line_read (word ∷ words) x e = by_word (texts_equal word (codes "file")) (texts_equal word (codes "network")) (texts_equal word (codes "misc")) (texts_equal word (codes "task")) e
  where
    by_word : (s t u v : Bool) → cond s (file_request words) (cond t (network_request words) (cond u (misc_request words) (cond v (task_request words) (Err LineKind.Keyword)))) ≡ Ok x → IsLine x
    by_word true t u v f = file_right words x f
    by_word false true u v f = network_right words x f
    by_word false false true v f = misc_right words x f
    by_word false false false true f = task_right words x f
    by_word false false false false f = absurd cc
