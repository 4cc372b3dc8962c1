-- Conditions of a line, read and written.
use Rattle.std.specs.Prelude.{ℕ, ◌+◌, ◌==◌, Bool, true, false, if◌then◌else◌, List, [], ◌∷◌, ◌++◌, map, take, drop, codes, Option, Some, None, Result, Ok, Err}
use Rattle.std.specs.List.{position}
use Rattle.tm_word.specs.Prelude.{Text, named, spell, spelled_pattern, texts_equal, ◌>>=◌}
use Rattle.tm_rules.specs.Types.{Attr, Clause, Cond, LineKind, NameUnion, NumberUnion, Right}
use Rattle.tm_line.specs.Arguments.{kinded, group_word, pattern_word, number_word}
use Rattle.tm_line.specs.Printing.{number_spelling}
use Rattle.tm_cond.specs.Attributes.{or_wrong, quoted, without_last, numeric_word, attr_word, attr_text, kind_word, kind_text}

-- Right sides

-- a pattern in double quotes, which is possibly empty
unfoldable pub quoted_name : Text → Result NameUnion LineKind
quoted_name text = do
  inner ← quoted text
  pattern_ ← kinded LineKind.Condition (pattern_word inner)
  Ok (NameUnion.One pattern_)

-- a pattern in double quotes, or `@GROUP`
unfoldable pub name_or_group : Text → Result NameUnion LineKind
name_or_group [] = Err LineKind.Condition
name_or_group (b ∷ text) =
    if b == 64
    then (kinded LineKind.Condition (group_word text) >>= λ group. Ok (NameUnion.Group group))
    else quoted_name (b ∷ text)

-- a number argument, or a numeric attribute
abbrev pub or_numeric : Result NumberUnion LineKind → Text → Result Right LineKind
or_numeric (Ok number) text = Ok (Right.Numbers number)
or_numeric (Err kind) text = or_wrong (numeric_word text) >>= λ attr. Ok (Right.Attr attr)

-- a right side, by the attribute on the left
unfoldable pub right_word : Attr → Text → Result Right LineKind
right_word (Attr.Kind place) text = or_wrong (kind_word text) >>= λ kind. Ok (Right.Kind kind)
right_word (Attr.Argv n) text = quoted_name text >>= λ name. Ok (Right.Name name)
right_word (Attr.Envp word) text =
    if texts_equal text (codes "NULL") then Ok Right.Null
    else (quoted_name text >>= λ name. Ok (Right.Name name))
right_word Attr.RealPath text = name_or_group text >>= λ name. Ok (Right.Name name)
right_word Attr.Target text = name_or_group text >>= λ name. Ok (Right.Name name)
right_word (Attr.Task field) text = or_numeric (number_word text) text
right_word Attr.Argc text = or_numeric (number_word text) text
right_word Attr.Envc text = or_numeric (number_word text) text
right_word (Attr.Stat place field) text = or_numeric (number_word text) text

-- how a right side is written
unfoldable pub right_text : Right → Text
right_text (Right.Numbers number) = number_spelling number
right_text (Right.Attr attr) = attr_text attr
right_text (Right.Kind kind) = kind_text kind
right_text (Right.Name (NameUnion.One pattern_)) = 34 ∷ spelled_pattern pattern_ ++ 34 ∷ []
right_text (Right.Name (NameUnion.Group group)) = 64 ∷ spell group
right_text Right.Null = codes "NULL"

-- Clauses

abbrev pub clause : Attr → Bool → Right → Clause
clause left equal right = record { left = left; equal = equal; right = right }

-- a `!` before the `=` belongs to the operator
abbrev pub operated : Option Text → Text → Text × Bool
operated (Some front) text = (front, false)
operated None text = (text, true)

abbrev pub left_side : Text → Text × Bool
left_side text = operated (without_last 33 text) text

-- the left word and the operator, and the right side
unfoldable pub sides : Text × Bool → Text → Result Clause LineKind
sides left text = do
  attr ← attr_word left.0
  right ← right_word attr text
  Ok (clause attr left.1 right)

abbrev pub clause_at : Option ℕ → Text → Result Clause LineKind
clause_at None word = Err LineKind.Condition
clause_at (Some k) word = sides (left_side (take k word)) (drop (k + 1) word)

-- a word is cut at its first `=`
unfoldable pub clause_word : Text → Result Clause LineKind
clause_word word = clause_at (position (λ b. b == 61) word) word

-- the operators
abbrev pub operator : Bool → Text
operator true = 61 ∷ []
operator false = 33 ∷ 61 ∷ []

-- how a clause is written
unfoldable pub clause_text : Clause → Text
clause_text c = attr_text c.left ++ operator c.equal ++ right_text c.right

-- Conditions

abbrev pub cond_with : List Clause → Option Bool → Cond
cond_with clauses log = record { clauses = clauses; grant_log = log }

-- the two words that say whether a grant is logged
abbrev pub log_table : List (Text × Bool)
log_table = (codes "grant_log=yes", true) ∷ (codes "grant_log=no", false) ∷ []

unfoldable pub log_word : Text → Option Bool
log_word text = named log_table text

-- at most one of them stands in a line
abbrev pub logged : Option Bool → List Clause → Bool → Result Cond LineKind
logged (Some before) clauses log = Err LineKind.Condition
logged None clauses log = Ok (cond_with clauses (Some log))

-- one more word, after the conditions before
abbrev pub with_word : Option Bool → Cond → Text → Result Cond LineKind
with_word (Some log) cond_ word = logged cond_.grant_log cond_.clauses log
with_word None cond_ word =
    clause_word word >>= λ c. Ok (cond_with (cond_.clauses ++ c ∷ []) cond_.grant_log)

unfoldable pub cond_from : Cond → List Text → Result Cond LineKind
cond_from cond_ [] = Ok cond_
cond_from cond_ (word ∷ words) =
    with_word (log_word word) cond_ word >>= λ next. cond_from next words

-- the conditions that these words are
unfoldable pub cond_of : List Text → Result Cond LineKind
cond_of words = cond_from (cond_with [] None) words

-- the clauses in written order, and the log last
abbrev pub log_words : Option Bool → List Text
log_words None = []
log_words (Some true) = codes "grant_log=yes" ∷ []
log_words (Some false) = codes "grant_log=no" ∷ []

unfoldable pub cond_words : Cond → List Text
cond_words c = map clause_text c.clauses ++ log_words c.grant_log
