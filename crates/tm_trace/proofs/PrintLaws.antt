-- Printed lines: one permission of a request, and words that are appended one after another.
use Rattle.std.proofs.Common.{◌≡◌, ℕ, suc, ◌+◌, ◌*◌, ◌^◌, ◌≤◌, ◌≢◌, nat_lt, Bool, true, false, cond, List, [], ◌∷◌, ◌++◌, length, refl, sym, ap, ◌∙◌, arith, append_assoc}
use Rattle.std.specs.Prelude.{codes, bit_and}
use Rattle.std.specs.Fmt.{decimal}
use Rattle.std.proofs.lemmas.Bool.{ltb-false}
use Rattle.std.proofs.lemmas.Nat.{pow_apart}
use Rattle.tm_word.specs.Prelude.{Text, joined}
use Rattle.tm_rules.specs.Types.{Args, InetKind, Perms, Request, UnixKind}
use Rattle.tm_rules.specs.Prelude.{permission}
use Rattle.tm_line.specs.declared.permissions.Row.{Row}
use Rattle.tm_line.specs.Lines.{spaced}
use Rattle.tm_line.specs.Permissions.{names, perm_on, perms_from, perms_spelling}
use Rattle.tm_line.proofs.JoinLaws.{joined_is}
use Rattle.tm_entry.specs.FileLines.{file_words}
use Rattle.tm_entry.specs.NetLines.{net_words}
use Rattle.tm_entry.specs.Entries.{acl_words}
use Rattle.tm_entry.proofs.TextLaws.{acl_first}
use Rattle.tm_trace.specs.Printing.{request_words, request_text, attribute_words, attributes_text}
use Rattle.tm_trace.proofs.TextLaws.{request_joined}

-- ---- a place that no row has

-- no permission
none : (mask : ℕ) (more : List Text) (text : Text) → perms_from 0 mask more text ≡ text
unfolding perm_on
none mask [] text = refl
none mask (name ∷ more) text = none (mask * 2) more text

-- a bit above all of these
above : (p k : ℕ) (more : List Text) (text : Text) → k + length more ≤ p → perms_from (2 ^ p) (2 ^ k) more text ≡ text
unfolding perm_on
above p k [] text low = refl
above p k (name ∷ more) text low =
    rw apart (ap (λ m. perms_from (2 ^ p) m more text) twice ∙ above p (suc k) more text (omega (arith, low)))
  where
    other : p ≢ k
    other = λ e. omega (arith, low, e)

    apart : bit_and (2 ^ p) (2 ^ k) ≡ 0
    apart = pow_apart p k other

    twice : 2 ^ k * 2 ≡ 2 ^ suc k
    twice = omega arith

row_above : (acl_row : Row) (p : ℕ) → 16 ≤ p → perms_spelling acl_row 0 ≡ perms_spelling acl_row (2 ^ p)
row_above acl_row p high = none 1 (names acl_row) [] ∙ sym (above p 0 (names acl_row) [] (fits acl_row))
  where
    fits : (r : Row) → 0 + length (names r) ≤ p
    fits Row.Path = omega (arith, high)
    fits Row.PathNumber = omega (arith, high)
    fits Row.Device = omega (arith, high)
    fits Row.Pair = omega (arith, high)
    fits Row.Listening = omega (arith, high)
    fits Row.Sending = omega (arith, high)

abbrev perms : ℕ → Perms
perms bits = record { bits = bits }

words_above : (args : Args) (p : ℕ) → 16 ≤ p → acl_words args (perms 0) ≡ acl_words args (perms (2 ^ p))
unfolding acl_words file_words net_words
words_above (Args.Path name) p high = rw (row_above Row.Path p high) refl
words_above (Args.Execute name prefer) p high = rw (row_above Row.Path p high) refl
words_above (Args.PathNumber name number) p high = rw (row_above Row.PathNumber p high) refl
words_above (Args.Device name mode major minor) p high = rw (row_above Row.Device p high) refl
words_above (Args.Path2 first second) p high = rw (row_above Row.Pair p high) refl
words_above (Args.Mount device dir type flags) p high = refl
words_above (Args.Inet InetKind.Stream address port) p high = rw (row_above Row.Listening p high) refl
words_above (Args.Inet InetKind.Dgram address port) p high = rw (row_above Row.Sending p high) refl
words_above (Args.Inet InetKind.Raw address port) p high = rw (row_above Row.Sending p high) refl
words_above (Args.Unix UnixKind.Stream name) p high = rw (row_above Row.Listening p high) refl
words_above (Args.Unix UnixKind.Dgram name) p high = rw (row_above Row.Sending p high) refl
words_above (Args.Unix UnixKind.Seqpacket name) p high = rw (row_above Row.Listening p high) refl
words_above (Args.Env name) p high = refl
words_above (Args.Manual domain) p high = refl

-- the words of a line with the permission at a place
pub one_permission : (args : Args) (p : ℕ) → acl_words args (perms (cond (nat_lt p 16) (permission p) 0)) ≡ acl_words args (perms (permission p))
one_permission args p = by_test (nat_lt p 16) refl
  where
    by_test : (t : Bool) → nat_lt p 16 ≡ t → acl_words args (perms (cond t (permission p) 0)) ≡ acl_words args (perms (permission p))
    by_test true e = refl
    by_test false e = words_above args p (ltb-false p 16 e)

-- ---- a request's line

-- the words of a request and its attributes, after a space
words_spaced : (r : Request) → spaced (request_words r ++ attribute_words r.attributes) ≡ 32 ∷ (request_text r ++ attributes_text r)
unfolding request_words
words_spaced r =
    let w = acl_first r.args (perms (permission r.perm)) in
    let more : List Text = attribute_words r.attributes in
    let some : request_words r ++ more ≡ w.first ∷ (w.rest ++ more) = ap (λ (words : List Text). words ++ more) w.are in
    ap spaced some ∙ ap (λ text. 32 ∷ text) (sym (joined_is w.first (w.rest ++ more)) ∙ ap joined (sym some) ∙ request_joined r)

-- `do`, the pid, and the words after it
pub do_joined : (pid : ℕ) (r : Request)
    → ((codes "do" ++ 32 ∷ decimal pid) ++ 32 ∷ []) ++ request_text r ++ attributes_text r ≡ joined (codes "do" ∷ decimal pid ∷ (request_words r ++ attribute_words r.attributes))
do_joined pid r =
    let words : List Text = request_words r ++ attribute_words r.attributes in
    let text : Text = request_text r ++ attributes_text r in
    grouped (codes "do") (decimal pid) (request_text r) (attributes_text r)
    ∙ ap (λ (t : Text). codes "do" ++ 32 ∷ (decimal pid ++ t)) (sym (words_spaced r)) ∙ sym (joined_is (codes "do") (decimal pid ∷ words))
  where
    grouped : (a b c d : Text) → (((a ++ 32 ∷ b) ++ 32 ∷ []) ++ c) ++ d ≡ a ++ 32 ∷ (b ++ 32 ∷ (c ++ d))
    grouped a b c d = simp append_assoc refl

-- ---- numbers

spaced_more : (words more : List Text) → spaced (words ++ more) ≡ spaced words ++ spaced more
spaced_more [] more = refl
spaced_more (next ∷ words) more = ap (λ text. 32 ∷ (next ++ text)) (spaced_more words more) ∙ ap (λ text. 32 ∷ text) (sym (append_assoc next (spaced words) (spaced more)))

-- four words that were appended after four others
pub four_more : (o a b c d e f g h : Text)
    → (o ++ spaced (a ∷ b ∷ c ∷ d ∷ [])) ++ spaced (e ∷ f ∷ g ∷ h ∷ []) ≡ o ++ spaced (a ∷ b ∷ c ∷ d ∷ e ∷ f ∷ g ∷ h ∷ [])
four_more o a b c d e f g h =
    append_assoc o (spaced (a ∷ b ∷ c ∷ d ∷ [])) (spaced (e ∷ f ∷ g ∷ h ∷ [])) ∙ ap (λ (t : Text). o ++ t) (sym (spaced_more (a ∷ b ∷ c ∷ d ∷ []) (e ∷ f ∷ g ∷ h ∷ [])))
