-- How places of one key are kept.
use Rattle.std.specs.Prelude.{ℕ, List, [], ◌∷◌}
use Rattle.tm_index.specs.declared.places.Form.{Form}

-- the places that are kept so
abbrev pub places_of : Form → List ℕ
places_of Form.None = []
places_of (Form.One place) = place ∷ []
places_of (Form.Many places) = places
