-- texts of domain names: what reading gives, and the names that are made from names
use Rattle.std.specs.Prelude.{◌≡◌, ℕ, ◌==◌, nat_le, Bool, true, false, ◌&&◌, ◌||◌, not, if◌then◌else◌, List, [], ◌∷◌, length, Option, Some, None, unwrap_or, Result, Ok, Err, codes}
use Rattle.std.specs.List.{position_from, slice_split}
use Rattle.std.specs.Result.{is_ok}
use Rattle.tm_pattern.specs.Reading.{pattern_of}
use Rattle.tm_rules.specs.Types.{Prefer}
use Rattle.tm_pattern.specs.Words.{Text}
use Rattle.tm_pattern.specs.Texts.{begins_with_byte, texts_equal}
use Rattle.tm_rules.specs.Prelude.{DomainName, has_parent, is_namespace_word, parent_name, target_name}
use Rattle.tm_rules.specs.Transition.{By_preference}
use Rattle.tm_domain.specs.declared.DomainFault.{DomainFault}
use Rattle.tm_domain.specs.declared.DomainFault.TheVariants.{NoNamespace, BadPath, TooLong, NoMemory}

-- a fault's cause in the text; want of memory has none
abbrev pub domain_cause : DomainFault → Option DomainFault
domain_cause NoMemory = None
domain_cause fault = Some fault

-- the text is a domain name
abbrev pub is_read : Result Text DomainFault → Bool
is_read (Ok name) = true
is_read (Err fault) = false

-- a path is a pattern that begins with `/`
unfoldable pub is_path : Text → Bool
is_path text = begins_with_byte 47 text && is_ok (pattern_of text)

-- a word that stands in no angle brackets is no namespace word, whatever a path is
abbrev pub HasNoBrackets : Text → Type 0
HasNoBrackets word = (is : Text → Bool) → is_namespace_word is word ≡ false

-- a word with this in angle brackets is a namespace word where this is a path or `kernel`
abbrev pub IsInBrackets : Text → Text → Type 0
IsInBrackets word inner =
    (is : Text → Bool)
    → is_namespace_word is word ≡ (is inner || texts_equal inner (codes "kernel"))

-- the place of the first word that is no path, counted from this number
abbrev pub bad_path : ℕ → List Text → Option ℕ
bad_path n words = position_from (λ word. not (is_path word)) n words

-- a name is at most 4,085 bytes long
abbrev pub short_name : DomainName → Result DomainName DomainFault
short_name name = if nat_le (length name) 4085 then Ok name else Err TooLong

abbrev pub paths_or_fault : Option ℕ → DomainName → Result DomainName DomainFault
paths_or_fault (Some n) name = Err (BadPath n)
paths_or_fault None name = short_name name

-- a namespace word and paths, joined by single spaces; the first fault of the words, then that of
-- the length
abbrev pub domain_at : List Text → Text → Result DomainName DomainFault
domain_at [] text = Err NoNamespace
domain_at (first ∷ paths) text =
    if is_namespace_word is_path first then paths_or_fault (bad_path 1 paths) text
    else Err NoNamespace

unfoldable pub domain_of : Text → Result DomainName DomainFault
domain_of text = domain_at (slice_split (λ b. b == 32) text) text

-- the name without its last word; a namespace word alone has no parent
abbrev pub parent_of : DomainName → Option DomainName
parent_of name = if has_parent name then Some (parent_name name) else None

-- where a preference leads; keep leads to the domain itself
unfoldable pub preferred_name : DomainName → Text → Prefer → DomainName
preferred_name name candidate prefer =
    unwrap_or (target_name name candidate (By_preference prefer)) name
