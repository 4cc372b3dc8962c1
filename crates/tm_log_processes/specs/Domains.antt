-- Which domains a process may be in after one transition.
use Rattle.std.specs.Prelude.{Bool, true, ◌||◌, Option, Some, None}
use Rattle.tm_rules.specs.Prelude.{DomainName, namespace_word}
use Rattle.tm_domain.specs.Names.{parent_of}
use Rattle.tm_word.specs.Prelude.{texts_equal}

-- to a namespace word, to the domain with one more word, or to its namespace word with one more
-- word
abbrev pub leads_by : Option DomainName → DomainName → Bool
leads_by None from = true
leads_by (Some front) from = texts_equal front from || texts_equal front (namespace_word from)

-- one reset, child or initialize transition may lead from a domain to another
unfoldable pub leads : DomainName → DomainName → Bool
leads from to = leads_by (parent_of to) from
