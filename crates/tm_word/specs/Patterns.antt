-- How a pattern is kept.
use Rattle.std.specs.Prelude.{◌≡◌, ⊤}
use Rattle.tm_word.specs.declared.pattern.Form.{Form}
use Rattle.tm_word.specs.Words.{Word, Pattern}
use Rattle.tm_word.specs.Printing.{literal}

-- it is no name's literal
unfoldable pub IsNoLiteral : Pattern → Type 0
IsNoLiteral pattern = (name : Word) → pattern ≡ literal name → ⊥

-- the pattern that is kept so
unfoldable pub components_of : Form → Pattern
components_of (Form.Literal name) = literal name
components_of (Form.Components components) = components

-- a name's literal is kept as that name
unfoldable pub IsKept : Form → Type 0
IsKept (Form.Literal name) = ⊤
IsKept (Form.Components components) = IsNoLiteral components
