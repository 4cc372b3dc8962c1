-- How a brief list is kept.
use Rattle.std.specs.Prelude.{List, [], ◌∷◌}
use Rattle.tm_types.specs.declared.brief.Form.{Form}

-- the elements of the list that is kept so
abbrev pub elements_of : {T : Type 0} → Form T → List T
elements_of Form.Empty = []
elements_of (Form.One only) = only ∷ []
elements_of (Form.Many items) = items.items
