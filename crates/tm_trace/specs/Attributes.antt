-- The attributes of a request: words `NAME=VALUE` after it, in any order.
use Rattle.std.specs.Prelude.{ℕ, ◌+◌, ◌*◌, ◌==◌, nat_lt, ◌&&◌, ◌||◌, not, Bool, if◌then◌else◌, List, [], ◌∷◌, ◌++◌, take, drop, codes, Option, Some, None, is_some, Result, Ok, Err}
use Rattle.std.specs.List.{position, list_any}
use Rattle.tm_word.specs.Prelude.{Text, Word, is_empty, spelled_word, texts_equal, ◌>>=◌}
use Rattle.tm_number.specs.Numbers.{number_of}
use Rattle.tm_rules.specs.Types.{Args, Attr, Attributes, LineKind, Request, Stat, StatField, StatPlace, no_attributes}
use Rattle.tm_rules.specs.Prelude.{is_execute, is_symlink, may_have}
use Rattle.tm_line.specs.Arguments.{kinded}
use Rattle.tm_entry.specs.Attributes.{or_wrong, quoted, kind_word, attr_word}

-- Stats stand in the order in which they are printed

-- the first name and its folder, then the second name and its folder
abbrev pub place_rank : StatPlace → ℕ
place_rank StatPlace.Path1 = 0
place_rank StatPlace.Path1Parent = 1
place_rank StatPlace.Path2 = 2
place_rank StatPlace.Path2Parent = 3

-- the numbers of a file; its type stands after perm, at 4
abbrev pub field_rank : StatField → ℕ
field_rank StatField.Uid = 0
field_rank StatField.Gid = 1
field_rank StatField.Ino = 2
field_rank StatField.Perm = 3
field_rank StatField.Major = 5
field_rank StatField.Minor = 6
field_rank StatField.DevMajor = 7
field_rank StatField.DevMinor = 8

-- the place of an attribute among all stats, whatever its value
abbrev pub stat_rank : Stat → ℕ
stat_rank (Stat.Number place field value) = place_rank place * 9 + field_rank field
stat_rank (Stat.Kind place kind) = place_rank place * 9 + 4

-- the same attribute stands already
abbrev pub has_stat : Stat → List Stat → Bool
has_stat stat stats = list_any (λ other. stat_rank other == stat_rank stat) stats

-- before the first that is printed later
unfoldable pub put_stat : Stat → List Stat → List Stat
put_stat stat [] = stat ∷ []
put_stat stat (other ∷ stats) =
    if nat_lt (stat_rank stat) (stat_rank other) then stat ∷ other ∷ stats
    else other ∷ put_stat stat stats

-- The kind of a request, by its arguments and the place of its permission

-- the request of a line with these attributes
abbrev pub request : Args → ℕ → Attributes → Request
request args perm attributes = record { args = args; perm = perm; attributes = attributes }

-- the request is an execute
abbrev pub executes : Args → ℕ → Bool
executes args perm = is_execute (request args perm no_attributes)

-- it is for a symlink
abbrev pub links : Args → ℕ → Bool
links args perm = is_symlink (request args perm no_attributes)

-- One attribute more

-- where a test passes
abbrev pub only_if : {A : Type 0} → Bool → Result A LineKind → Result A LineKind
only_if test read = if test then read else Err LineKind.Condition

-- W in double quotes, a spelled word that is possibly empty
unfoldable pub quoted_word : Text → Result Word LineKind
quoted_word text = quoted text >>= λ inner. or_wrong (spelled_word inner)

-- the value of any number
unfoldable pub value_word : Text → Result ℕ LineKind
value_word text = kinded LineKind.Condition (number_of text) >>= λ n. Ok n.value

-- an environment name stands already
abbrev pub has_name : Word → List (Word × Word) → Bool
has_name name envp = list_any (λ pair. texts_equal pair.0 name) envp

-- one argument more of an execute
unfoldable pub with_argument : Args → ℕ → Attributes → Text → Result Attributes LineKind
with_argument args perm at text =
    only_if (executes args perm)
    (quoted_word text >>= λ word. Ok (record at { argv = at.argv ++ word ∷ [] }))

-- the real path of an execute, once
unfoldable pub with_real_path : Args → ℕ → Attributes → Text → Result Attributes LineKind
with_real_path args perm at text =
    only_if (executes args perm && not (is_some at.real_path))
    (quoted_word text >>= λ word. Ok (record at { real_path = Some word }))

-- a name of its environment, once
unfoldable pub with_name : Args → ℕ → Attributes → Word → Text → Result Attributes LineKind
with_name args perm at name text =
    only_if (executes args perm && not (has_name name at.envp))
    (quoted_word text >>= λ word. Ok (record at { envp = at.envp ++ (name, word) ∷ [] }))

-- the target of a symlink, once
unfoldable pub with_target : Args → ℕ → Attributes → Text → Result Attributes LineKind
with_target args perm at text =
    only_if (links args perm && not (is_some at.target))
    (quoted_word text >>= λ word. Ok (record at { target = Some word }))

-- a stat of a name that the request has, once
unfoldable pub with_stat : Args → Attributes → Stat → Result Attributes LineKind
with_stat args at stat =
    only_if (may_have args stat && not (has_stat stat at.stats))
    (Ok (record at { stats = put_stat stat at.stats }))

-- by the left word; attributes of the process and of its counts are none of a request
unfoldable pub with_attribute : Args → ℕ → Attributes → Attr → Text → Result Attributes LineKind
with_attribute args perm at Attr.RealPath text = with_real_path args perm at text
with_attribute args perm at (Attr.Envp name) text = with_name args perm at name text
with_attribute args perm at Attr.Target text = with_target args perm at text
with_attribute args perm at (Attr.Stat place field) text =
    value_word text >>= λ value. with_stat args at (Stat.Number place field value)
with_attribute args perm at (Attr.Kind place) text =
    or_wrong (kind_word text) >>= λ kind. with_stat args at (Stat.Kind place kind)
with_attribute args perm at (Attr.Task field) text = Err LineKind.Condition
with_attribute args perm at Attr.Argc text = Err LineKind.Condition
with_attribute args perm at Attr.Envc text = Err LineKind.Condition
with_attribute args perm at (Attr.Argv n) text = Err LineKind.Condition

-- the left word and the right side; arguments have no number here
unfoldable pub with_sides : Args → ℕ → Attributes → Text → Text → Result Attributes LineKind
with_sides args perm at left text =
    if texts_equal left (codes "exec.argv") then with_argument args perm at text
    else (attr_word left >>= λ attr. with_attribute args perm at attr text)

-- a word without `=` is no attribute
abbrev pub with_word_at : Args → ℕ → Attributes → Option ℕ → Text → Result Attributes LineKind
with_word_at args perm at None word = Err LineKind.Condition
with_word_at args perm at (Some k) word = with_sides args perm at (take k word) (drop (k + 1) word)

-- a word is cut at its first `=`
unfoldable pub with_word : Args → ℕ → Attributes → Text → Result Attributes LineKind
with_word args perm at word = with_word_at args perm at (position (λ b. b == 61) word) word

-- an execute has its real path and an argument at least, a symlink its target
abbrev pub is_complete : Args → ℕ → Attributes → Bool
is_complete args perm at =
    (not (executes args perm) || (is_some at.real_path && not (is_empty at.argv)))
    && (not (links args perm) || is_some at.target)

-- what is missing comes last
unfoldable pub attributes_from : Args → ℕ → Attributes → List Text → Result Attributes LineKind
attributes_from args perm at [] = only_if (is_complete args perm at) (Ok at)
attributes_from args perm at (word ∷ words) =
    with_word args perm at word >>= λ next. attributes_from args perm next words
