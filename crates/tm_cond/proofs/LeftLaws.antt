-- Left words: each attribute that has a word is read from it, and what is read has a word.
use Rattle.std.proofs.Common.{◌≡◌, ℕ, ◌+◌, ◌/◌, ◌%◌, ◌^◌, ◌<◌, ◌==◌, nat_lt, Bool, true, false, cond, ◌&&◌, not, List, [], ◌∷◌, ◌++◌, Option, Some, None, Result, Ok, Err, refl, sym, ap, subst, ◌∙◌, arith, append_assoc}
use Rattle.std.specs.Prelude.{codes}
use Rattle.std.specs.List.{list_all}
use Rattle.std.specs.Fmt.{decimal}
use Rattle.std.specs.Char.{digit_value}
use Rattle.std.specs.Str.Parse.{AllDigits}
use Rattle.std.proofs.lemmas.Bool.{eqb-true, ne_eqb, ltb-true, lt-ltb}
use Rattle.std.proofs.lemmas.Fmt.{decimal_is_IsNumeral}
use Rattle.std.proofs.lemmas.List.Folds.{list_all-append}
use Rattle.tm_word.specs.Prelude.{Text, after, spell, spelled_word, spelling_of, ◌>>=◌}
use Rattle.tm_number.specs.Numbers.{plain_of}
use Rattle.tm_number.proofs.NumberLaws.{plain_again, plain_small}
use Rattle.tm_word.proofs.Spelled.{word_found, word_again, word_small}
use Rattle.tm_rules.specs.Types.{Attr, LineKind, StatPlace}
use Rattle.tm_line.proofs.Steps.{bind_ok, ok_is, both, all}
use Rattle.tm_cond.specs.Attributes.{or_wrong, without_last, quoted, attr_text, numeric_word, other_table, other_word, argv_word, envp_word, or_read, or_rest, field_word, attr_word}
use Rattle.tm_cond.specs.Written.{is_name_byte, is_attr}
use Rattle.tm_cond.proofs.PieceLaws.{or_wrong_ok, after_found, without_last_again, without_last_other, without_last_found, quoted_again, quoted_found, named_fits}
use Rattle.tm_cond.proofs.NumericLaws.{IsLeft, numeric_again, numeric_read}

abbrev pub not_equals : ℕ → Bool
not_equals c = not (c == 61)

-- ---- digits

digits_uncut : (ds : List ℕ) → AllDigits 10 ds → list_all not_equals ds ≡ true
digits_uncut [] h = refl
digits_uncut (d ∷ ds) h =
    let isnt : (d == 61) ≡ false = ne_eqb d 61 (λ e. let low : digit_value 61 < 10 = subst (λ k. digit_value k < 10) e h.0 in absurd (omega (arith, low))) in
    rw isnt (digits_uncut ds h.1)

decimal_uncut : (n : ℕ) → n < 2 ^ 32 → list_all not_equals (decimal n) ≡ true
decimal_uncut n low = digits_uncut (decimal n) (decimal_is_IsNumeral n (omega (arith, low))).0.1

decimal_read : (n : ℕ) → nat_lt n (2 ^ 32) ≡ true → plain_of (2 ^ 32) (decimal n) ≡ Some n
decimal_read n h = let low : n < 2 ^ 32 = ltb-true n (2 ^ 32) h in plain_again (2 ^ 32) n low (omega (arith, low))

plain_low : (text : Text) (n : ℕ) → plain_of (2 ^ 32) text ≡ Some n → nat_lt n (2 ^ 32) ≡ true
plain_low text n e = lt-ltb n (2 ^ 32) (plain_small (2 ^ 32) n text e)

-- ---- names

abbrev low_byte : ℕ → Bool
low_byte c = nat_lt c 256

byte_uncut : (b : ℕ) → is_name_byte b ≡ true → list_all not_equals (spelling_of b) ≡ true
byte_uncut b h = by_form (b == 92) (nat_lt 32 b && nat_lt b 127)
  where
    low : b < 256
    low = ltb-true b 256 (both (low_byte b) (not_equals b) h).0

    high_digit : (48 + b / 64 == 61) ≡ false
    high_digit = ne_eqb (48 + b / 64) 61 (λ e. absurd (omega (arith, low, e)))

    middle_digit : (48 + b / 8 % 8 == 61) ≡ false
    middle_digit = ne_eqb (48 + b / 8 % 8) 61 (λ e. absurd (omega (arith, e)))

    low_digit : (48 + b % 8 == 61) ≡ false
    low_digit = ne_eqb (48 + b % 8) 61 (λ e. absurd (omega (arith, e)))

    by_form : (back plain : Bool) → list_all not_equals (cond back (92 ∷ 92 ∷ []) (cond plain (b ∷ []) (92 ∷ (48 + b / 64) ∷ (48 + b / 8 % 8) ∷ (48 + b % 8) ∷ []))) ≡ true
    by_form true plain = refl
    by_form false true = rw (both (low_byte b) (not_equals b) h).1 refl
    by_form false false = rw (high_digit, middle_digit, low_digit) refl

name_uncut : (name : Text) → list_all is_name_byte name ≡ true → list_all not_equals (spell name) ≡ true
name_uncut [] h = refl
name_uncut (b ∷ name) h =
    let split = both (is_name_byte b) (list_all is_name_byte name) h in
    list_all-append not_equals (spelling_of b) (spell name) ∙ all (list_all not_equals (spelling_of b)) (list_all not_equals (spell name)) (byte_uncut b split.0) (name_uncut name split.1)

pub name_bytes : (name : Text) → list_all is_name_byte name ≡ true → list_all low_byte name ≡ true
name_bytes [] h = refl
name_bytes (b ∷ name) h =
    let split = both (is_name_byte b) (list_all is_name_byte name) h in
    all (low_byte b) (list_all low_byte name) (both (low_byte b) (not_equals b) split.0).0 (name_bytes name split.1)

byte_kept : (b : ℕ) → list_all not_equals (spelling_of b) ≡ true → not_equals b ≡ true
byte_kept b h = by_test (b == 61) refl
  where
    by_test : (t : Bool) → (b == 61) ≡ t → not t ≡ true
    by_test false e = refl
    by_test true e = let wrong : list_all not_equals (spelling_of 61) ≡ true = subst (λ c. list_all not_equals (spelling_of c) ≡ true) (eqb-true b 61 e) h in absurd cc

name_kept : (name : Text) → list_all low_byte name ≡ true → list_all not_equals (spell name) ≡ true → list_all is_name_byte name ≡ true
name_kept [] low h = refl
name_kept (b ∷ name) low h =
    let lows = both (low_byte b) (list_all low_byte name) low in
    let parts = both (list_all not_equals (spelling_of b)) (list_all not_equals (spell name)) (sym (list_all-append not_equals (spelling_of b) (spell name)) ∙ h) in
    all (is_name_byte b) (list_all is_name_byte name) (all (low_byte b) (not_equals b) lows.0 (byte_kept b parts.0)) (name_kept name lows.1 parts.1)

-- ---- brackets

named_end : (inner : Text) → 34 ∷ (inner ++ 34 ∷ 93 ∷ []) ≡ (34 ∷ (inner ++ 34 ∷ [])) ++ 93 ∷ []
named_end inner = ap (λ t. 34 ∷ t) (sym (append_assoc inner (34 ∷ []) (93 ∷ [])))

named_closed : (inner : Text) → without_last 93 (34 ∷ (inner ++ 34 ∷ 93 ∷ [])) ≡ Some (34 ∷ (inner ++ 34 ∷ []))
named_closed inner = ap (without_last 93) (named_end inner) ∙ without_last_again 93 (34 ∷ (inner ++ 34 ∷ []))

ended_uncut : (text end : Text) → list_all not_equals text ≡ true → list_all not_equals end ≡ true → list_all not_equals (text ++ end) ≡ true
ended_uncut text end h k = list_all-append not_equals text end ∙ all (list_all not_equals text) (list_all not_equals end) h k

front_uncut : (text end : Text) → list_all not_equals (text ++ end) ≡ true → (list_all not_equals text ≡ true) × (list_all not_equals end ≡ true)
front_uncut text end h = both (list_all not_equals text) (list_all not_equals end) (sym (list_all-append not_equals text end) ∙ h)

argv_left : (n : ℕ) → nat_lt n (2 ^ 32) ≡ true → IsLeft (Attr.Argv n)
unfolding attr_text attr_word numeric_word other_word argv_word
argv_left n h = record {
  reads = rw (without_last_again 93 (decimal n), decimal_read n h) refl;
  uncut = ended_uncut (decimal n) (93 ∷ []) (decimal_uncut n (ltb-true n (2 ^ 32) h)) refl;
  unmarked = without_last_other 33 93 (codes "exec.argv[" ++ decimal n) refl;
}

envp_left : (name : Text) → list_all is_name_byte name ≡ true → IsLeft (Attr.Envp name)
unfolding attr_text attr_word numeric_word other_word envp_word
envp_left name h = record {
  reads = rw (named_closed (spell name), quoted_again (spell name), word_again name (name_bytes name h)) refl;
  uncut = ended_uncut (spell name) (34 ∷ 93 ∷ []) (name_uncut name h) refl;
  unmarked = ap (λ t. without_last 33 (codes "exec.envp[" ++ t)) (named_end (spell name)) ∙ without_last_other 33 93 (codes "exec.envp[" ++ 34 ∷ (spell name ++ 34 ∷ [])) refl;
}

pub attr_again : (attr : Attr) → is_attr attr ≡ true → IsLeft attr
unfolding is_attr attr_text attr_word numeric_word field_word other_word without_last
attr_again (Attr.Task field) h = (numeric_again (Attr.Task field) refl h).left
attr_again Attr.Argc h = (numeric_again Attr.Argc refl h).left
attr_again Attr.Envc h = (numeric_again Attr.Envc refl h).left
attr_again (Attr.Stat place field) h = (numeric_again (Attr.Stat place field) refl h).left
attr_again (Attr.Kind StatPlace.Path1) h = record { reads = refl; uncut = refl; unmarked = refl }
attr_again (Attr.Kind StatPlace.Path2) h = record { reads = refl; uncut = refl; unmarked = refl }
attr_again (Attr.Kind StatPlace.Path1Parent) h = absurd cc
attr_again (Attr.Kind StatPlace.Path2Parent) h = absurd cc
attr_again (Attr.Argv n) h = argv_left n h
attr_again (Attr.Envp name) h = envp_left name h
attr_again Attr.RealPath h = record { reads = refl; uncut = refl; unmarked = refl }
attr_again Attr.Target h = record { reads = refl; uncut = refl; unmarked = refl }

-- ---- what is read has a word

or_read_ok : {A : Type 0} (P : A → Type 0) (o : Option A) (other : Result A LineKind) (y : A) → or_read o other ≡ Ok y → (o ≡ Some y → P y) → (other ≡ Ok y → P y) → P y
or_read_ok P (Some x) other y e f g = f (ap Some (ok_is x y e))
or_read_ok P None other y e f g = g e

or_rest_ok : (P : Attr → Type 0) (o : Option Text) (read : Text → Result Attr LineKind) (other : Result Attr LineKind) (y : Attr) → or_rest o read other ≡ Ok y → ((rest : Text) → o ≡ Some rest → read rest ≡ Ok y → P y) → (other ≡ Ok y → P y) → P y
or_rest_ok P (Some rest) read other y e f g = f rest refl e
or_rest_ok P None read other y e f g = g e

abbrev HasWord : Attr → Type 0
HasWord attr = is_attr attr ≡ true

other_read : (text : Text) (attr : Attr) → other_word text ≡ Some attr → HasWord attr
unfolding is_attr other_word
other_read text attr e = named_fits (λ t a. HasWord a) other_table text attr (refl, (refl, (refl, (refl, tt)))) e

argv_read : (rest : Text) (attr : Attr) → argv_word rest ≡ Ok attr → HasWord attr
unfolding is_attr argv_word
argv_read rest attr e =
    let digits = bind_ok (or_wrong (without_last 93 rest)) (λ t. or_wrong (plain_of (2 ^ 32) t) >>= λ n. Ok (Attr.Argv n)) attr e in
    let n = bind_ok (or_wrong (plain_of (2 ^ 32) digits.0)) (λ n. Ok (Attr.Argv n)) attr digits.2 in
    subst HasWord (ok_is (Attr.Argv n.0) attr n.2) (plain_low digits.0 n.0 (or_wrong_ok (plain_of (2 ^ 32) digits.0) n.0 n.1))

envp_read : (rest : Text) (attr : Attr) → list_all not_equals rest ≡ true → envp_word rest ≡ Ok attr → HasWord attr
unfolding is_attr envp_word
envp_read rest attr h e =
    let text = bind_ok (or_wrong (without_last 93 rest)) (λ t. quoted t >>= λ i. or_wrong (spelled_word i) >>= λ name. Ok (Attr.Envp name)) attr e in
    let inner = bind_ok (quoted text.0) (λ i. or_wrong (spelled_word i) >>= λ name. Ok (Attr.Envp name)) attr text.2 in
    let name = bind_ok (or_wrong (spelled_word inner.0)) (λ name. Ok (Attr.Envp name)) attr inner.2 in
    let whole : rest ≡ text.0 ++ 93 ∷ [] = without_last_found 93 rest text.0 (or_wrong_ok (without_last 93 rest) text.0 text.1) in
    let within : text.0 ≡ 34 ∷ (inner.0 ++ 34 ∷ []) = quoted_found text.0 inner.0 inner.1 in
    let read : spelled_word inner.0 ≡ Some name.0 = or_wrong_ok (spelled_word inner.0) name.0 name.1 in
    let spelled : inner.0 ≡ spell name.0 = word_found inner.0 name.0 read in
    let text_uncut = (front_uncut text.0 (93 ∷ []) (subst (λ t. list_all not_equals t ≡ true) whole h)).0 in
    let inner_uncut = (front_uncut inner.0 (34 ∷ []) (subst (λ t. list_all not_equals t ≡ true) within text_uncut)).0 in
    let kept = name_kept name.0 (word_small inner.0 name.0 read) (subst (λ t. list_all not_equals t ≡ true) spelled inner_uncut) in
    subst HasWord (ok_is (Attr.Envp name.0) attr name.2) kept

pub attr_read : (text : Text) (attr : Attr) → list_all not_equals text ≡ true → attr_word text ≡ Ok attr → is_attr attr ≡ true
unfolding attr_word
attr_read text attr h e =
    let named = or_rest (after (codes "exec.envp[") text) envp_word (Err LineKind.Condition) in
    let placed = or_rest (after (codes "exec.argv[") text) argv_word named in
    or_read_ok HasWord (numeric_word text) (or_read (other_word text) placed) attr e (λ f. (numeric_read text attr f).1)
    (λ e1. or_read_ok HasWord (other_word text) placed attr e1 (other_read text attr)
    (λ e2. or_rest_ok HasWord (after (codes "exec.argv[") text) argv_word named attr e2 (λ rest at f. argv_read rest attr f)
    (λ e3. or_rest_ok HasWord (after (codes "exec.envp[") text) envp_word (Err LineKind.Condition) attr e3
    (λ rest at f. envp_read rest attr (front_uncut (codes "exec.envp[") rest (subst (λ t. list_all not_equals t ≡ true) (after_found (codes "exec.envp[") text rest at) h)).1 f)
    (λ e4. absurd cc))))
