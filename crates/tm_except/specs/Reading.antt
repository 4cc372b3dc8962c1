-- Exception lines: what each word gives, and the kind of the first one at which the line can't go
-- on.
use Rattle.std.specs.Prelude.{ℕ, ◌&&◌, ◌||◌, not, if◌then◌else◌, Bool, true, false, List, [], ◌∷◌, map, Option, Some, None, Result, Ok, Err, codes}
use Rattle.std.specs.Option.{option_or}
use Rattle.tm_word.specs.Prelude.{Pattern, Text, Word, begins, begins_row, begins_with_byte, named, of_word, row_of, spelled_word, texts_equal, ◌>>=◌}
use Rattle.tm_rules.specs.Types.{Control, ControlKind, ExceptLine, ExceptRule, LineKind}
use Rattle.tm_line.specs.Lines.{or_kind, is_last, ended, keyword_kind, word_at}
use Rattle.tm_line.specs.Arguments.{group_word, pattern_word, path_word, range_word, addr_range_word, plain_word}
use Rattle.tm_line.specs.Written.{begins_name}
use Rattle.tm_line.specs.Domains.{domain_to_end}
use Rattle.tm_line.specs.Namespaces.{opens, namespace_at}
use Rattle.tm_except.specs.declared.reading.Head.{Head}
use Rattle.tm_except.specs.Printing.{kind_text}

-- Groups and aggregators

-- a member of a path group is a pattern, not empty and without `@` in front
unfoldable pub member_word : Text → Result Pattern LineKind
member_word text = if begins_name text then pattern_word text else Err LineKind.Name

-- the first name of an aggregator is a pattern, not empty
unfoldable pub first_word : Text → Result Pattern LineKind
first_word [] = Err LineKind.Name
first_word (b ∷ text) = pattern_word (b ∷ text)

-- a literal path is the spelled word of a name that begins with `/`
unfoldable pub literal_word : Text → Result Word LineKind
literal_word text =
    if begins_with_byte 47 text then or_kind LineKind.Name (spelled_word text)
    else Err LineKind.Name

unfoldable pub path_group : List Text → Result ExceptRule LineKind
path_group words = do
  name ← word_at group_word words
  member ← word_at member_word name.1
  ended (ExceptRule.PathGroup name.0 member.0) member.1

unfoldable pub number_group : List Text → Result ExceptRule LineKind
number_group words = do
  name ← word_at group_word words
  member ← word_at range_word name.1
  ended (ExceptRule.NumberGroup name.0 member.0) member.1

unfoldable pub address_group : List Text → Result ExceptRule LineKind
address_group words = do
  name ← word_at group_word words
  member ← word_at addr_range_word name.1
  ended (ExceptRule.AddressGroup name.0 member.0) member.1

unfoldable pub aggregator : List Text → Result ExceptRule LineKind
aggregator words = do
  one ← word_at first_word words
  other ← word_at literal_word one.1
  ended (ExceptRule.Aggregator one.0 other.0) other.1

-- ACL groups

-- the line of the group stays as words, one or more
abbrev pub group_line : ℕ → List Text → Result ExceptRule LineKind
group_line n [] = Err LineKind.Arity
group_line n (word ∷ words) = Ok (ExceptRule.Acl n (word ∷ words))

unfoldable pub acl_group : List Text → Result ExceptRule LineKind
acl_group words = word_at (plain_word 256) words >>= λ n. group_line n.0 n.1

-- Controls

-- an unfinished `any` as the last word is a missing word
abbrev pub side_kind : LineKind → Text → Bool → LineKind
side_kind kind word last = if last && begins word (codes "any") then LineKind.Arity else kind

abbrev pub program_by : Result Text LineKind → Text → Bool → Result (Option Text) LineKind
program_by (Ok path) word last = Ok (Some path)
program_by (Err kind) word last = Err (side_kind kind word last)

-- `any` or a path
unfoldable pub program_word : Text → Bool → Result (Option Text) LineKind
program_word word last =
    if texts_equal word (codes "any") then Ok None else program_by (path_word word) word last

-- a domain side: its text, and whether it is one path
abbrev pub any_domain : Option Text × Bool
any_domain = (None, false)

abbrev pub path_side : Result Text LineKind → Text → List Text
    → Result (Option Text × Bool) LineKind
path_side (Ok path) word words = ended (Some path, true) words
path_side (Err kind) word words = Err (side_kind kind word (is_last words))

-- a domain name that runs to the line's end
abbrev pub name_side : List Text → Result (Option Text × Bool) LineKind
name_side words = domain_to_end words >>= λ name. Ok (Some name, false)

-- `any`, a domain name, or one path
unfoldable pub domain_side : List Text → Result (Option Text × Bool) LineKind
domain_side [] = Err LineKind.Arity
domain_side (word ∷ words) =
    if texts_equal word (codes "any") then ended any_domain words
    else
    (if opens word then name_side (word ∷ words) else path_side (path_word word) word words)

abbrev pub control : ControlKind → Option Text → Option Text × Bool → Control
control kind program side =
    record { kind = kind; program = program; domain = side.0; last = side.1 }

-- `from` and the domain side; a missing side is `any`
unfoldable pub from_side : ControlKind → Option Text → List Text → Result Control LineKind
from_side kind program [] = Ok (control kind program any_domain)
from_side kind program (word ∷ words) =
    if texts_equal word (codes "from")
    then (domain_side words >>= λ side. Ok (control kind program side))
    else Err LineKind.Arity

-- the program's side first
unfoldable pub program_line : ControlKind → List Text → Result Control LineKind
program_line kind [] = Err LineKind.Arity
program_line kind (word ∷ words) =
    program_word word (is_last words) >>= λ program. from_side kind program words

-- one side alone is the domain's
abbrev pub alone : Option Text → Option Text × Bool
alone None = any_domain
alone (Some path) = (Some path, true)

abbrev pub keep_side : ControlKind → Option Text → List Text → Result Control LineKind
keep_side kind side [] = Ok (control kind None (alone side))
keep_side kind side (word ∷ words) = from_side kind side (word ∷ words)

-- the two keep forms may have the domain's side alone
unfoldable pub keep_line : ControlKind → List Text → Result Control LineKind
keep_line kind [] = Err LineKind.Arity
keep_line kind (word ∷ words) =
    if opens word
    then (name_side (word ∷ words) >>= λ side. Ok (control kind None side))
    else (program_word word (is_last words) >>= λ side. keep_side kind side words)

abbrev pub is_keep : ControlKind → Bool
is_keep ControlKind.NoKeep = true
is_keep ControlKind.Keep = true
is_keep _ = false

abbrev pub control_sides : ControlKind → List Text → Result Control LineKind
control_sides kind words = if is_keep kind then keep_line kind words else program_line kind words

abbrev pub control_line : ControlKind → List Text → Result ExceptRule LineKind
control_line kind words = control_sides kind words >>= λ found. Ok (ExceptRule.Control found)

-- The line

-- the six kinds of control
abbrev pub controls : List ControlKind
controls =
    ControlKind.NoReset ∷ ControlKind.Reset ∷ ControlKind.NoInitialize ∷ ControlKind.Initialize
    ∷ ControlKind.NoKeep ∷ ControlKind.Keep ∷ []

unfoldable pub control_word : Text → Option ControlKind
control_word word = of_word kind_text controls word

abbrev pub control_head : Option ControlKind → Option Head
control_head None = None
control_head (Some kind) = Some (Head.Control kind)

-- the leading words of groups and aggregators
abbrev pub lists : List (Text × Head)
lists =
    (codes "path_group", Head.PathGroup) ∷ (codes "number_group", Head.NumberGroup)
    ∷ (codes "address_group", Head.AddressGroup) ∷ (codes "aggregator", Head.Aggregator)
    ∷ (codes "acl_group", Head.Acl) ∷ []

-- the leading word
unfoldable pub head_of : Text → Option Head
head_of word = option_or (named lists word) (control_head (control_word word))

-- a leading word begins so
unfoldable pub begins_list : Text → Bool
begins_list word = begins_row lists word

unfoldable pub begins_control : Text → Bool
begins_control word = begins_row (map (row_of kind_text) controls) word

-- `delete` may stand at the very front alone
unfoldable pub begins_rule : Bool → Text → Bool
begins_rule first word =
    begins_list word || begins_control word || first && begins word (codes "delete")

abbrev pub rule_by : Option Head → Bool → Text → List Text → Result ExceptRule LineKind
rule_by (Some Head.PathGroup) first word words = path_group words
rule_by (Some Head.NumberGroup) first word words = number_group words
rule_by (Some Head.AddressGroup) first word words = address_group words
rule_by (Some Head.Aggregator) first word words = aggregator words
rule_by (Some (Head.Control kind)) first word words = control_line kind words
rule_by (Some Head.Acl) first word words = acl_group words
rule_by None first word words = Err (keyword_kind (is_last words && begins_rule first word))

-- a rule, at the very front or after a namespace word or `delete`
unfoldable pub rule_at : Bool → List Text → Result ExceptRule LineKind
rule_at first [] = Err LineKind.Arity
rule_at first (word ∷ words) = rule_by (head_of word) first word words

abbrev pub line : Bool → Text → ExceptRule → ExceptLine
line delete name rule = record { delete = delete; namespace = name; rule = rule }

-- a namespace word that may stand there, and the rule
unfoldable pub named_line : Bool → List Text → Result ExceptLine LineKind
named_line delete [] = Err LineKind.Arity
named_line delete (word ∷ words) = do
  found ← namespace_at (word ∷ words)
  rule ← rule_at (not delete && not (opens word)) found.1
  Ok (line delete found.0 rule)

-- an exception line
unfoldable pub line_of : List Text → Result ExceptLine LineKind
line_of [] = Err LineKind.Arity
line_of (word ∷ words) =
    if texts_equal word (codes "delete") then named_line true words
    else named_line false (word ∷ words)
