-- Small questions on texts: how they begin, where they are cut, whether they are equal.
use Rattle.std.specs.Prelude.{◌≡◌, ℕ, ◌<◌, ◌==◌, ◌&&◌, if◌then◌else◌, Bool, true, false, not, List, [], ◌∷◌, length, Option, Some, None}
use Rattle.std.specs.List.{list_all, slice_split}
use Rattle.tm_word.specs.Words.{Text}
use Rattle.tm_word.specs.Spelling.{is_separator, words_of}
use Rattle.tm_word.specs.declared.texts.Words.{Words}

-- two lists are equal, element by element
abbrev pub lists_equal : {A : Type 0} → (A → A → Bool) → List A → List A → Bool
lists_equal same [] [] = true
lists_equal same (x ∷ xs) (y ∷ ys) = same x y && lists_equal same xs ys
lists_equal same _ _ = false

-- two texts are equal, byte by byte
abbrev pub texts_equal : Text → Text → Bool
texts_equal = lists_equal ◌==◌

-- a text that begins with this byte
abbrev pub begins_with_byte : ℕ → Text → Bool
begins_with_byte b [] = false
begins_with_byte b (c ∷ text) = c == b

-- a text is a front of another, or all of it
abbrev pub begins : Text → Text → Bool
begins [] whole = true
begins (a ∷ front) (b ∷ whole) = a == b && begins front whole
begins (a ∷ front) [] = false

-- the text after this front
abbrev pub after : Text → Text → Option Text
after [] text = Some text
after (a ∷ front) [] = None
after (a ∷ front) (b ∷ text) = if a == b then after front text else None

-- the pieces of a text between these bytes
abbrev pub pieces : ℕ → Text → List Text
pieces byte = slice_split (λ b. b == byte)

-- the lines of a text
abbrev pub lines_of : Text → List Text
lines_of text = pieces 10 text

-- a first piece, and the shorter text after the byte that ends it
pub record IsCut (byte : ℕ) (text piece rest : Text) : Type 0 where
  pub pieces_are : pieces byte text ≡ piece ∷ pieces byte rest
  pub shorter : length rest < length text

-- a piece between separators is a word where it is not empty
abbrev pub if_word : Text → List Text
if_word [] = []
if_word (b ∷ piece) = (b ∷ piece) ∷ []

-- the words of a line that are still to come
unfoldable pub words_left : Words → List Text
words_left words = words_of words.rest.now

-- no byte separates words
abbrev pub is_solid : Text → Bool
is_solid text = list_all (λ b. not (is_separator b)) text

-- a word of a line
abbrev pub is_word : Text → Bool
is_word text = not (length text == 0) && is_solid text
