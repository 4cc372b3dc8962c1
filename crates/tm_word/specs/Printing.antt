-- How a pattern is written, and what a literal is.
use Rattle.std.specs.Prelude.{ℕ, ◌==◌, ◌&&◌, Bool, true, false, List, [], ◌∷◌, ◌++◌, map, length}
use Rattle.std.specs.List.{flat_map, list_all, join_with_byte}
use Rattle.tm_word.specs.declared.Element.{Element}
use Rattle.tm_word.specs.declared.Component.{Component}
use Rattle.tm_word.specs.declared.Repeat.{Repeat}
use Rattle.tm_word.specs.Words.{Text, Word, Part, Pattern}
use Rattle.tm_word.specs.Spelling.{spelling_of}
use Rattle.tm_word.specs.Matching.{components, is_once}

-- how an element is written: a byte as in a word, any other as a backslash and its letter
abbrev pub spelled_element : Element → Text
spelled_element (Element.Byte b) = spelling_of b
spelled_element Element.Star = 92 ∷ 42 ∷ []
spelled_element Element.NoDot = 92 ∷ 64 ∷ []
spelled_element Element.One = 92 ∷ 63 ∷ []
spelled_element Element.Digits = 92 ∷ 36 ∷ []
spelled_element Element.Digit = 92 ∷ 43 ∷ []
spelled_element Element.Hexes = 92 ∷ 88 ∷ []
spelled_element Element.Hex = 92 ∷ 120 ∷ []
spelled_element Element.Letters = 92 ∷ 65 ∷ []
spelled_element Element.Letter = 92 ∷ 97 ∷ []

-- how a part is written
abbrev pub spelled_part : Part → Text
spelled_part part = flat_map spelled_element part

-- each subtracted part after `\-`
abbrev pub spelled_minus : List Part → Text
spelled_minus parts = flat_map (λ part. 92 ∷ 45 ∷ spelled_part part) parts

-- `\{` before what stands for one or more components, `\(` before what stands for any number
abbrev pub opening : Repeat → Text
opening Repeat.Once = []
opening Repeat.OneOrMore = 92 ∷ 123 ∷ []
opening Repeat.ZeroOrMore = 92 ∷ 40 ∷ []

-- `\}` and `\)` after them
abbrev pub closing : Repeat → Text
closing Repeat.Once = []
closing Repeat.OneOrMore = 92 ∷ 125 ∷ []
closing Repeat.ZeroOrMore = 92 ∷ 41 ∷ []

-- a component between its marks: the first part, and each subtracted one
abbrev pub spelled_component : Component → Text
spelled_component c = opening c.repeat ++ spelled_part c.first ++ spelled_minus c.minus ++ closing c.repeat

-- the one spelling of a pattern: its components joined by slashes
unfoldable pub spelled_pattern : Pattern → Text
spelled_pattern [] = []
spelled_pattern (c ∷ cs) = spelled_component c ++ flat_map (λ d. 47 ∷ spelled_component d) cs

-- it stands for its own byte
abbrev pub is_byte : Element → Bool
is_byte (Element.Byte b) = true
is_byte _ = false

-- it stands for its own bytes: no element of the table, nothing subtracted, not repeated
abbrev pub is_plain : Component → Bool
is_plain c = is_once c.repeat && length c.minus == 0 && list_all is_byte c.first

-- each component of a literal stands for its own bytes
unfoldable pub is_literal : Pattern → Bool
is_literal pattern = list_all is_plain pattern

-- the component of these bytes alone
abbrev pub literal_component : Word → Component
literal_component bytes = record { repeat = Repeat.Once; first = map Element.Byte bytes; minus = [] }

-- the pattern of a name's own bytes
unfoldable pub literal : Word → Pattern
literal name = map literal_component (components name)

-- the byte that an element stands for
abbrev pub element_bytes : Element → List ℕ
element_bytes (Element.Byte b) = b ∷ []
element_bytes _ = []

-- the bytes of a component of a literal
abbrev pub component_bytes : Component → Word
component_bytes c = flat_map element_bytes c.first

-- the name of a literal
unfoldable pub literal_word : Pattern → Word
literal_word pattern = join_with_byte 47 (map component_bytes pattern)
