-- What is looked up of a line in a domain.
use Rattle.std.specs.Prelude.{◌≡◌, length}
use Rattle.std.specs.List.{position_from}
use Rattle.tm_rules.specs.Types.{Domain, Entry}
use Rattle.tm_rules.specs.Prelude.{count, has_line, same_line}
use Rattle.tm_indexed.specs.declared.learning.Looked.{Looked}

-- how many entries and permissions the domain has, where the entry stands that the line shares, and
-- whether the whole line is there
pub record IsLooked (looked : Looked) (domain : Domain) (line : Entry) : Type 0 where
  pub entries : looked.length ≡ length domain.entries
  pub permissions : looked.permissions ≡ count domain
  pub at : looked.at ≡ position_from (λ (entry : Entry). same_line entry line) 0 domain.entries
  pub there : looked.there ≡ has_line line domain.entries
