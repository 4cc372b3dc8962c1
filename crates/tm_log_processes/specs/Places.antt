-- The places of executes, and the domain at each.
use Rattle.std.specs.Prelude.{ℕ, Bool, List, [], ◌∷◌, ◌++◌, slice_get, Option}
use Rattle.std.specs.List.{position}
use Rattle.tm_rules.specs.Prelude.{DomainName}
use Rattle.tm_word.specs.Prelude.{texts_equal}
use Rattle.tm_log_processes.specs.declared.process.Place.{Place}
use Rattle.tm_log_processes.specs.Lists.{is_named}

-- the places in the order in which they were recorded, and their domains
pub record Left : Type 0 where
  pub places : List Place
  pub domains : List DomainName

abbrev pub no_places : Left
no_places = record { places = []; domains = [] }

abbrev pub with_place : Left → Place → DomainName → Left
with_place left place domain = record { places = left.places ++ place ∷ []; domains = left.domains ++ domain ∷ [] }

-- the first place in a domain
abbrev pub first_in : Left → DomainName → Option ℕ
first_in left domain = position (λ name. texts_equal name domain) left.domains

abbrev pub is_at : Left → ℕ → DomainName → Bool
is_at left i domain = is_named (slice_get left.domains i) domain
