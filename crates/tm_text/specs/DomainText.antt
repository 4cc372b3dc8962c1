-- The printed text of the domains.
use Rattle.std.specs.Prelude.{ℕ, Bool, true, false, if◌then◌else◌, List, [], ◌∷◌, ◌++◌}
use Rattle.std.specs.List.{flat_map}
use Rattle.tm_word.specs.Prelude.{Text}
use Rattle.tm_rules.specs.Types.{Domain, Entry, Policy}
use Rattle.tm_line.specs.DomainWords.{domain_parts}
use Rattle.tm_policy_line.specs.Entries.{entry_words}
use Rattle.tm_policy_line.specs.Printing.{printed_line, profile_words, group_words, quota_words, failed_words}

-- a line that stands where its flag is set
abbrev pub flag_line : List Text → Bool → Text
flag_line words true = printed_line words
flag_line words false = []

-- the line of an ACL group that the domain uses
abbrev pub group_line : ℕ × Unit {0} → Text
group_line group = printed_line (group_words group.0)

-- the line of an entry
abbrev pub entry_line : Entry → Text
entry_line entry = printed_line (entry_words entry)

-- the name and the profile of a domain
abbrev pub name_lines : Domain → Text
name_lines domain =
    printed_line (domain_parts domain.name) ++ printed_line (profile_words domain.profile)

-- the flags of a domain that are set
abbrev pub flag_lines : Domain → Text
flag_lines domain =
    flag_line quota_words domain.quota_exceeded ++ flag_line failed_words domain.transition_failed

-- a domain's name, its profile, its groups by their numbers, its flags, its entries in order, and
-- an empty line
unfoldable pub block_text : Domain → Text
block_text domain =
    name_lines domain ++ flat_map group_line domain.groups ++ flag_lines domain
    ++ flat_map entry_line domain.entries ++ 10 ∷ []

-- a domain that isn't live prints nothing
abbrev pub live_text : Domain → Text
live_text domain = if domain.live then block_text domain else []

-- each live domain, by its number
unfoldable pub domain_text : Policy → Text
domain_text policy = flat_map live_text policy.domains
