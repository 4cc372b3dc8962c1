-- Lines and words of texts that are joined.
use Rattle.std.proofs.Common.{◌≡◌, ℕ, suc, ◌+◌, ◌<◌, ◌≤◌, ◌==◌, Bool, true, false, cond, not, List, [], ◌∷◌, ◌++◌, length, take, drop, Some, None, refl, sym, ap, subst, ◌∙◌, arith}
use Rattle.std.specs.List.{position, position_from, list_all, filter, slice_split, onto_first, concat}
use Rattle.std.proofs.lemmas.Bool.{ne_eqb}
use Rattle.std.proofs.lemmas.Iterator.Adapters.{position_from-zero}
use Rattle.std.proofs.lemmas.List.{append-nil}
use Rattle.std.proofs.lemmas.List.Elements.{filter-append}
use Rattle.std.proofs.lemmas.List.Splits.{slice_split-cons_no, slice_split-cons_yes, length-slice_split}
use Rattle.tm_word.specs.Prelude.{Text, is_separator, is_solid, is_word, joined, words_of}
use Rattle.tm_addr.proofs.Free.{Free, free_append}
use Rattle.tm_line.proofs.Steps.{both, not_true}
use Rattle.tm_line.proofs.WholeLaws.{words_again}
use Rattle.tm_run.specs.Reading.{onto_line, lines_of}

-- ---- where the first line ends

-- the place of the first byte 10, counted from i, cuts the first line off
abbrev Found : Text → ℕ → ℕ → Type 0
Found xs i j = (k : ℕ) × (j ≡ i + k) × (lines_of xs ≡ take (suc k) xs ∷ lines_of (drop (suc k) xs)) × (k < length xs)

some_is : (x y : ℕ) → Some x ≡ Some y → x ≡ y
some_is x y e = cc

found_cons : (x : ℕ) (xs : Text) (i j : ℕ) (b : Bool) → (x == 10) ≡ b → cond b (Some i) (position_from (λ c. c == 10) (i + 1) xs) ≡ Some j → (position_from (λ c. c == 10) (i + 1) xs ≡ Some j → Found xs (i + 1) j) → Found (x ∷ xs) i j
unfolding lines_of
found_cons x xs i j true h e more = let same : i ≡ j = some_is i j e in (0, omega (arith, same), rw h refl, omega arith)
found_cons x xs i j false h e more =
    let f = more e in
    (suc f.0, omega (arith, f.1), rw (h, f.2) refl, omega (arith, f.3))

found_from : (xs : Text) (i j : ℕ) → position_from (λ c. c == 10) i xs ≡ Some j → Found xs i j
found_from [] i j e = absurd cc
found_from (x ∷ xs) i j e = found_cons x xs i j (x == 10) refl e (found_from xs (i + 1) j)

pub line_found : (xs : Text) (k : ℕ) → position (λ c. c == 10) xs ≡ Some k → (lines_of xs ≡ take (k + 1) xs ∷ lines_of (drop (k + 1) xs)) × (k < length xs)
line_found xs k e =
    let f = found_from xs 0 k (sym (position_from-zero (λ c. c == 10) xs) ∙ e) in
    let same : suc f.0 ≡ k + 1 = omega (arith, f.1) in
    (subst (λ (m : ℕ). lines_of xs ≡ take m xs ∷ lines_of (drop m xs)) same f.2, omega (arith, f.1, f.3))

-- a text without that byte is one line, unless it is empty
abbrev whole : Text → List Text
whole [] = []
whole (x ∷ xs) = (x ∷ xs) ∷ []

onto_whole : (x : ℕ) (xs : Text) → onto_line x (whole xs) ≡ (x ∷ xs) ∷ []
onto_whole x [] = refl
onto_whole x (y ∷ xs) = refl

none_cons : (x : ℕ) (xs : Text) (i : ℕ) (b : Bool) → (x == 10) ≡ b → cond b (Some i) (position_from (λ c. c == 10) (i + 1) xs) ≡ None → (position_from (λ c. c == 10) (i + 1) xs ≡ None → lines_of xs ≡ whole xs) → lines_of (x ∷ xs) ≡ (x ∷ xs) ∷ []
unfolding lines_of
none_cons x xs i true h e more = absurd cc
none_cons x xs i false h e more = rw (h, more e) (onto_whole x xs)

none_from : (xs : Text) (i : ℕ) → position_from (λ c. c == 10) i xs ≡ None → lines_of xs ≡ whole xs
unfolding lines_of
none_from [] i e = refl
none_from (x ∷ xs) i e = none_cons x xs i (x == 10) refl e (none_from xs (i + 1))

line_none : (xs : Text) → position (λ c. c == 10) xs ≡ None → lines_of xs ≡ whole xs
line_none xs e = none_from xs 0 (sym (position_from-zero (λ c. c == 10) xs) ∙ e)

pub no_line : lines_of [] ≡ []
unfolding lines_of
no_line = refl

pub line_empty : (xs : Text) → length xs < 1 → lines_of xs ≡ []
line_empty [] h = no_line
line_empty (x ∷ xs) h = absurd (omega (arith, h))

whole_some : (xs : Text) → 1 ≤ length xs → whole xs ≡ xs ∷ []
whole_some [] h = absurd (omega (arith, h))
whole_some (x ∷ xs) h = refl

pub line_last : (xs : Text) → position (λ c. c == 10) xs ≡ None → 1 ≤ length xs → lines_of xs ≡ xs ∷ lines_of []
line_last xs e h = line_none xs e ∙ whole_some xs h ∙ ap (λ (ls : List Text). xs ∷ ls) (sym no_line)

-- ---- lines joined

onto_joined : (x : ℕ) (lines : List Text) → concat (onto_line x lines) ≡ x ∷ concat lines
onto_joined x [] = refl
onto_joined x (line ∷ lines) = refl

joined_cons : (x : ℕ) (xs : Text) (b : Bool) → concat (lines_of xs) ≡ xs → concat (cond b ((x ∷ []) ∷ lines_of xs) (onto_line x (lines_of xs))) ≡ x ∷ xs
joined_cons x xs true h = ap (λ (t : Text). x ∷ t) h
joined_cons x xs false h = onto_joined x (lines_of xs) ∙ ap (λ (t : Text). x ∷ t) h

-- the lines of a text make it up
pub lines_joined : (text : Text) → concat (lines_of text) ≡ text
unfolding lines_of
lines_joined [] = refl
lines_joined (x ∷ xs) = joined_cons x xs (x == 10) (lines_joined xs)

-- ---- texts that are one line

-- a line with the byte that ends it, whatever comes after it
abbrev pub IsLine : Text → Type 0
IsLine line = (more : Text) → lines_of (line ++ more) ≡ line ∷ lines_of more

pub end_line : IsLine (10 ∷ [])
unfolding lines_of
end_line more = refl

pub line_from : (front rest : Text) → Free 10 front → IsLine rest → IsLine (front ++ rest)
unfolding lines_of
line_from [] rest h k more = k more
line_from (x ∷ front) rest h k more = rw h.0 (ap (onto_line x) (line_from front rest h.1 k more))

-- a text in which the byte isn't
pub free_by : (c : ℕ) (text : Text) → list_all (λ b. not (b == c)) text ≡ true → Free c text
free_by c [] h = tt
free_by c (b ∷ text) h = let t = both (not (b == c)) (list_all (λ x. not (x == c)) text) h in (not_true (b == c) t.0, free_by c text t.1)

-- ---- words of joined texts

onto_more : (x : ℕ) (pieces others : List Text) → 0 < length pieces → onto_first x (pieces ++ others) ≡ onto_first x pieces ++ others
onto_more x [] others h = absurd (omega (arith, h))
onto_more x (piece ∷ pieces) others h = refl

split_cons : (p : ℕ → Bool) (x : ℕ) (xs ys : Text) (y : ℕ) (b : Bool) → p x ≡ b → slice_split p (xs ++ y ∷ ys) ≡ slice_split p xs ++ slice_split p ys → slice_split p (x ∷ (xs ++ y ∷ ys)) ≡ slice_split p (x ∷ xs) ++ slice_split p ys
split_cons p x xs ys y true e h =
    slice_split-cons_yes p x (xs ++ y ∷ ys) e ∙ ap (λ (ts : List Text). [] ∷ ts) h ∙ ap (λ (ts : List Text). ts ++ slice_split p ys) (sym (slice_split-cons_yes p x xs e))
split_cons p x xs ys y false e h =
    let some : 0 < length (slice_split p xs) = omega (arith, length-slice_split p xs) in
    slice_split-cons_no p x (xs ++ y ∷ ys) e ∙ ap (onto_first x) h ∙ onto_more x (slice_split p xs) (slice_split p ys) some ∙ ap (λ (ts : List Text). ts ++ slice_split p ys) (sym (slice_split-cons_no p x xs e))

split_more : (p : ℕ → Bool) (xs ys : Text) (y : ℕ) → p y ≡ true → slice_split p (xs ++ y ∷ ys) ≡ slice_split p xs ++ slice_split p ys
split_more p [] ys y h = slice_split-cons_yes p y ys h
split_more p (x ∷ xs) ys y h = split_cons p x xs ys y (p x) refl (split_more p xs ys y h)

-- a byte that separates words stands between those before it and those after it
pub words_cut : (xs ys : Text) (b : ℕ) → is_separator b ≡ true → words_of (xs ++ b ∷ ys) ≡ words_of xs ++ words_of ys
unfolding words_of
words_cut xs ys b h =
    ap (filter (λ (run : Text). not (length run == 0))) (split_more is_separator xs ys b h) ∙ filter-append (λ (run : Text). not (length run == 0)) (slice_split is_separator xs) (slice_split is_separator ys)

word_alone : (w : Text) → is_word w ≡ true → words_of w ≡ w ∷ []
word_alone w h = words_again (w ∷ []) (rw h refl)

no_words : words_of [] ≡ []
unfolding words_of
no_words = refl

pub word_solid : (w : Text) → is_word w ≡ true → is_solid w ≡ true
word_solid w h = (both (not (length w == 0)) (is_solid w) h).1

-- what separates words isn't in one
pub solid_free : (c : ℕ) (text : Text) → is_separator c ≡ true → is_solid text ≡ true → Free c text
solid_free c [] s h = tt
solid_free c (b ∷ text) s h =
    let t = both (not (is_separator b)) (is_solid text) h in
    let no : is_separator b ≡ false = not_true (is_separator b) t.0 in
    (ne_eqb b c (λ e. let yes : is_separator b ≡ true = ap is_separator e ∙ s in absurd (let wrong : true ≡ false = sym yes ∙ no in cc)), solid_free c text s t.1)

-- ---- lines and the words that they are made of

-- these words in a part of a line
pub record Spells (text : Text) (words : List Text) : Type 0 where
  pub found : words_of text ≡ words
  pub inline : Free 10 text

pub one_word : (w : Text) → is_word w ≡ true → Spells w (w ∷ [])
one_word w h = record { found = word_alone w h; inline = solid_free 10 w refl (word_solid w h) }

pub spells_more : (text more : Text) (words others : List Text) → Spells text words → Spells more others → Spells (text ++ 32 ∷ more) (words ++ others)
spells_more text more words others s t = record {
  found = words_cut text more 32 refl ∙ ap (λ (ws : List Text). ws ++ words_of more) s.found ∙ ap (λ (ws : List Text). words ++ ws) t.found;
  inline = free_append 10 text (32 ∷ more) s.inline (refl, t.inline);
}

joined_inline : (words : List Text) → list_all is_word words ≡ true → Free 10 (joined words)
joined_inline [] h = tt
joined_inline (w ∷ []) h = solid_free 10 w refl (word_solid w (both (is_word w) true h).0)
joined_inline (w ∷ v ∷ words) h =
    let t = both (is_word w) (list_all is_word (v ∷ words)) h in
    free_append 10 w (32 ∷ joined (v ∷ words)) (solid_free 10 w refl (word_solid w t.0)) (refl, joined_inline (v ∷ words) t.1)

pub spells_joined : (words : List Text) → list_all is_word words ≡ true → Spells (joined words) words
spells_joined words h = record { found = words_again words h; inline = joined_inline words h }

-- a line with the byte that ends it, and its words
pub record Line (line : Text) (words : List Text) : Type 0 where
  pub found : words_of line ≡ words
  pub ends : IsLine line

pub last : (text : Text) (words : List Text) → Spells text words → Line (text ++ 10 ∷ []) words
last text words s = record {
  found = words_cut text [] 10 refl ∙ ap (λ (ws : List Text). ws ++ words_of []) s.found ∙ ap (λ (ws : List Text). words ++ ws) no_words ∙ append-nil words;
  ends = line_from text (10 ∷ []) s.inline end_line;
}
