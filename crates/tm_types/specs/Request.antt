-- What a process asks for, and the words of its name arguments.
use Rattle.std.specs.Prelude.{◌≡◌, ℕ, List, [], ◌∷◌, ◌++◌, ⊤, Option, Some, None, flat_map}
use Rattle.tm_number.specs.Component.{Component}
use Rattle.tm_number.specs.Printing.{element_bytes, literal, literal_word}
use Rattle.tm_types.specs.declared.unions.NameUnion.{NameUnion}
use Rattle.tm_types.specs.declared.entry.Args.{Args}
use Rattle.tm_types.specs.declared.request.Attributes.{Attributes}

-- the arguments of a line with literal names, the place of its permission in the row, and its
-- attributes
pub record Asked : Type 0 where
  pub args : Args
  pub perm : ℕ
  pub attributes : Attributes

-- what is recorded of a request of which nothing is
abbrev pub no_attributes : Attributes
no_attributes = record { real_path = None; argv = []; envp = []; target = None; stats = [] }

-- what is recorded of a request, of which attributes are kept only where there are some
abbrev pub attributes_of : Option Attributes → Attributes
attributes_of None = no_attributes
attributes_of (Some attributes) = attributes

-- the word of a name argument of a request; a request has no group
abbrev pub name_value : NameUnion → List ℕ
name_value (NameUnion.One pattern_) = literal_word pattern_
name_value (NameUnion.Group group) = []

-- the words of the name arguments, in order
abbrev pub argument_words : Args → List (List ℕ)
argument_words (Args.Path n) = name_value n ∷ []
argument_words (Args.Execute n prefer) = name_value n ∷ []
argument_words (Args.PathNumber n k) = name_value n ∷ []
argument_words (Args.Device n mode major minor) = name_value n ∷ []
argument_words (Args.Path2 n m) = name_value n ∷ name_value m ∷ []
argument_words (Args.Mount device dir kind flags) = name_value device ∷ name_value dir ∷ name_value kind ∷ []
argument_words (Args.Inet kind addr port) = []
argument_words (Args.Unix kind n) = name_value n ∷ []
argument_words (Args.Env n) = literal_word n ∷ []
argument_words (Args.Manual domain) = []

-- a name argument that is the literal of its word
unfoldable pub IsLiteral : NameUnion → Type 0
IsLiteral n = n ≡ NameUnion.One (literal (name_value n))

-- each name argument is a name's literal
unfoldable pub AreLiterals : Args → Type 0
AreLiterals (Args.Path n) = IsLiteral n
AreLiterals (Args.Execute n prefer) = IsLiteral n
AreLiterals (Args.PathNumber n k) = IsLiteral n
AreLiterals (Args.Device n mode major minor) = IsLiteral n
AreLiterals (Args.Path2 n m) = IsLiteral n × IsLiteral m
AreLiterals (Args.Mount device dir kind flags) = IsLiteral device × IsLiteral dir × IsLiteral kind
AreLiterals (Args.Inet kind addr port) = ⊤
AreLiterals (Args.Unix kind n) = IsLiteral n
AreLiterals (Args.Env n) = IsLiteral (NameUnion.One n)
AreLiterals (Args.Manual domain) = ⊤

-- the names that are kept with arguments: none where each is a name's literal, and otherwise all
unfoldable pub AreNamed : Args → Option (List (List ℕ)) → Type 0
AreNamed args None = AreLiterals args
AreNamed args (Some names) = names ≡ argument_words args

-- the bytes of a literal: those of its first component, and each other one behind its slash
abbrev pub joined_bytes : List Component → List ℕ
joined_bytes [] = []
joined_bytes (c ∷ cs) = flat_map element_bytes c.first ++ flat_map (λ (d : Component). 47 ∷ flat_map element_bytes d.first) cs
