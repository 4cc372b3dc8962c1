-- What a line leaves of the entry that it shares.
use Rattle.std.specs.Prelude.{◌≡◌, ℕ, List, Option, Some, None, if◌then◌else◌, ◌==◌, slice_get}
use Rattle.std.specs.Option.{option_and_then}
use Rattle.tm_rules.specs.Types.{Domain, Entry, Policy}
use Rattle.std.specs.List.{position_from}
use Rattle.tm_rules.specs.Prelude.{Cursor, chosen, same_line, without_permissions}
use Rattle.tm_index.specs.Index.{Told, closing_in}

-- the place of an entry that has nothing left
abbrev pub gone_at : List Entry → Option ℕ → Entry → Option ℕ
gone_at entries None line = None
gone_at entries (Some place) line =
    option_and_then
    (λ
    (entry : Entry).
    if without_permissions entry.perms.bits line.perms.bits == 0 then Some place else None)
    (slice_get entries place)

-- the domain of this number is the chosen one, and the entry that a line shares there goes away, or
-- not
pub record IsChosen (policy : Policy) (cursor : Cursor) (number : ℕ) (gone : Option ℕ)
    (line : Entry) : Type 0 where
  pub domain : Domain
  pub there : chosen policy cursor ≡ Some (number, domain)
  pub leaves : gone ≡ gone_at domain.entries (position_from (λ
      (entry : Entry). same_line entry line) 0 domain.entries) line

-- the entry that has gone is gone from the list of a domain, where one has
abbrev pub closing_if : ℕ → Option ℕ → Told → Told
closing_if number None x = x
closing_if number (Some place) x = closing_in number place x
