-- The conditions that a line can write: those that are read from some words.
use Rattle.std.specs.Prelude.{ℕ, ◌^◌, ◌==◌, nat_lt, Bool, true, false, ◌&&◌, not}
use Rattle.std.specs.List.{list_all}
use Rattle.tm_rules.specs.Types.{Attr, Clause, Cond, NameUnion, Right, StatField, StatPlace}
use Rattle.tm_union.specs.Grammar.{is_right}
use Rattle.tm_rules.specs.Prelude.{field_place}
use Rattle.tm_line.specs.Written.{is_group, is_number}

-- any byte but `=`
abbrev pub is_name_byte : ℕ → Bool
is_name_byte c = nat_lt c 256 && not (c == 61)

-- a folder has the first four numbers alone
abbrev pub has_field : StatPlace → StatField → Bool
has_field StatPlace.Path1 field = true
has_field StatPlace.Path2 field = true
has_field StatPlace.Path1Parent field = nat_lt (field_place field) 4
has_field StatPlace.Path2Parent field = nat_lt (field_place field) 4

-- and no type
abbrev pub has_type : StatPlace → Bool
has_type StatPlace.Path1 = true
has_type StatPlace.Path2 = true
has_type StatPlace.Path1Parent = false
has_type StatPlace.Path2Parent = false

-- an attribute that has a word
unfoldable pub is_attr : Attr → Bool
is_attr (Attr.Task field) = true
is_attr Attr.Argc = true
is_attr Attr.Envc = true
is_attr (Attr.Stat place field) = has_field place field
is_attr (Attr.Kind place) = has_type place
is_attr (Attr.Argv n) = nat_lt n (2 ^ 32)
is_attr (Attr.Envp name) = list_all is_name_byte name
is_attr Attr.RealPath = true
is_attr Attr.Target = true

-- its value is a number
abbrev pub is_numeric : Attr → Bool
is_numeric (Attr.Task field) = true
is_numeric Attr.Argc = true
is_numeric Attr.Envc = true
is_numeric (Attr.Stat place field) = true
is_numeric (Attr.Kind place) = false
is_numeric (Attr.Argv n) = false
is_numeric (Attr.Envp name) = false
is_numeric Attr.RealPath = false
is_numeric Attr.Target = false

-- a type of files
abbrev pub is_kind : Right → Bool
is_kind (Right.Kind kind) = true
is_kind (Right.Numbers number) = false
is_kind (Right.Attr attr) = false
is_kind (Right.Name name) = false
is_kind Right.Null = false

-- a pattern
abbrev pub is_quoted : NameUnion → Bool
is_quoted (NameUnion.One pattern_) = is_right pattern_
is_quoted (NameUnion.Group group) = false

-- a pattern or a group
abbrev pub is_quoted_or_group : NameUnion → Bool
is_quoted_or_group (NameUnion.One pattern_) = is_right pattern_
is_quoted_or_group (NameUnion.Group group) = is_group group

-- a name of this form
abbrev pub is_name_of : (NameUnion → Bool) → Right → Bool
is_name_of test (Right.Name name) = test name
is_name_of test (Right.Kind kind) = false
is_name_of test (Right.Numbers number) = false
is_name_of test (Right.Attr attr) = false
is_name_of test Right.Null = false

-- a pattern, or none
abbrev pub is_quoted_or_null : Right → Bool
is_quoted_or_null (Right.Name name) = is_quoted name
is_quoted_or_null Right.Null = true
is_quoted_or_null (Right.Kind kind) = false
is_quoted_or_null (Right.Numbers number) = false
is_quoted_or_null (Right.Attr attr) = false

-- a number, or another numeric attribute
abbrev pub is_number_or_attr : Right → Bool
is_number_or_attr (Right.Numbers number) = is_number number
is_number_or_attr (Right.Attr attr) = is_numeric attr && is_attr attr
is_number_or_attr (Right.Name name) = false
is_number_or_attr (Right.Kind kind) = false
is_number_or_attr Right.Null = false

-- a right side of this attribute
unfoldable pub is_side : Attr → Right → Bool
is_side (Attr.Kind place) right = is_kind right
is_side (Attr.Argv n) right = is_name_of is_quoted right
is_side (Attr.Envp name) right = is_quoted_or_null right
is_side Attr.RealPath right = is_name_of is_quoted_or_group right
is_side Attr.Target right = is_name_of is_quoted_or_group right
is_side (Attr.Task field) right = is_number_or_attr right
is_side Attr.Argc right = is_number_or_attr right
is_side Attr.Envc right = is_number_or_attr right
is_side (Attr.Stat place field) right = is_number_or_attr right

-- both sides fit
unfoldable pub is_clause : Clause → Bool
is_clause c = is_attr c.left && is_side c.left c.right

-- each clause fits
unfoldable pub is_cond : Cond → Bool
is_cond c = list_all is_clause c.clauses
