-- The words of a text, cut piece by piece, and that they are words.
use Rattle.std.proofs.Common.{Bool, true, ◌&&◌, ◌≡◌, ℕ, ◌+◌, ◌==◌, not, List, [], ◌∷◌, ◌++◌, length, take, drop, Some, None, refl, ap, ◌∙◌, suc, false, arith}
use Rattle.std.proofs.lemmas.Bool.{ne_eqb}
use Rattle.std.specs.Prelude.{if◌then◌else◌}
use Rattle.std.specs.List.{position, filter, slice_split, list_all, onto_first}
use Rattle.std.proofs.lemmas.List.Splits.{slice_split-cons_no, slice_split-cons_yes}
use Rattle.tm_word.proofs.Cuts.{cut_some, cut_none}
use Rattle.tm_word.specs.Prelude.{Text, if_word, is_separator, is_solid, is_word, words_of}

both : (a b : Bool) → (a && b) ≡ true → (a ≡ true) × (b ≡ true)
both true b e = (refl, e)
both false b e = absurd cc

all : (a b : Bool) → a ≡ true → b ≡ true → (a && b) ≡ true
all a b h k = rw (h, k) refl

-- the pieces that are words
abbrev full : List Text → List Text
full pieces = filter (λ run. not (length run == 0)) pieces

full_cons : (piece : Text) (pieces : List Text) → full (piece ∷ pieces) ≡ if_word piece ++ full pieces
full_cons [] pieces = refl
full_cons (b ∷ piece) pieces = let some : (suc (length piece) == 0) ≡ false = ne_eqb _ _ (λ e. absurd (omega (arith, e))) in rw some refl

pub piece_cut : (text : Text) (place : ℕ) → position is_separator text ≡ Some place → words_of text ≡ if_word (take place text) ++ words_of (drop (place + 1) text)
unfolding words_of
piece_cut text place e = ap full (cut_some is_separator text place e).0 ∙ full_cons (take place text) (slice_split is_separator (drop (place + 1) text))

pub piece_last : (text : Text) → position is_separator text ≡ None → words_of text ≡ if_word text ++ words_of []
unfolding words_of
piece_last text e = ap full (cut_none is_separator text e) ∙ full_cons text []

pub no_words : (text : Text) → length text ≡ 0 → words_of text ≡ []
unfolding words_of
no_words [] e = refl
no_words (b ∷ text) e = absurd (omega (arith, e))

-- ---- the words of a line are words

onto_solid : (b : ℕ) (parts : List Text) → is_separator b ≡ false → list_all is_solid parts ≡ true → list_all is_solid (onto_first b parts) ≡ true
onto_solid b [] h k = rw h refl
onto_solid b (part ∷ parts) h k = rw h k

one_more : (b : ℕ) (text : Text) (t : Bool) → is_separator b ≡ t → list_all is_solid (slice_split is_separator text) ≡ true → list_all is_solid (slice_split is_separator (b ∷ text)) ≡ true
one_more b text true e h = ap (list_all is_solid) (slice_split-cons_yes is_separator b text e) ∙ h
one_more b text false e h = ap (list_all is_solid) (slice_split-cons_no is_separator b text e) ∙ onto_solid b (slice_split is_separator text) e h

parts_solid : (text : Text) → list_all is_solid (slice_split is_separator text) ≡ true
parts_solid [] = refl
parts_solid (b ∷ text) = one_more b text (is_separator b) refl (parts_solid text)

abbrev not_none : Text → Bool
not_none run = not (length run == 0)

full_words : (parts : List Text) → list_all is_solid parts ≡ true → list_all is_word (filter not_none parts) ≡ true
full_words [] h = refl
full_words (part ∷ parts) h =
    let t = both (is_solid part) (list_all is_solid parts) h in
    by_length (not_none part) refl t.0 (full_words parts t.1)
  where
    by_length : (t : Bool) → not_none part ≡ t → is_solid part ≡ true → list_all is_word (filter not_none parts) ≡ true → list_all is_word (if t then part ∷ filter not_none parts else filter not_none parts) ≡ true
    by_length true e k more = all (is_word part) (list_all is_word (filter not_none parts)) (all (not_none part) (is_solid part) e k) more
    by_length false e k more = more

pub words_are : (text : Text) → list_all is_word (words_of text) ≡ true
unfolding words_of
words_are text = full_words (slice_split is_separator text) (parts_solid text)
