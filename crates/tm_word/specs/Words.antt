-- The lists that have a name of their own.
use Rattle.std.specs.Prelude.{ℕ, List}
use Rattle.tm_word.specs.declared.Element.{Element}
use Rattle.tm_word.specs.declared.Component.{Component}

-- the bytes that a line is written in
abbrev pub Text : Type 0
Text = List ℕ

-- the bytes that a spelling stands for
abbrev pub Word : Type 0
Word = List ℕ

-- what stands between two marks of a pattern
abbrev pub Part : Type 0
Part = List Element

-- the components of a pattern between its slashes
abbrev pub Pattern : Type 0
Pattern = List Component
