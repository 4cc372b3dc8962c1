-- Printed conditions are words of a line.
use Rattle.std.proofs.Common.{◌≡◌, ℕ, ◌<◌, ◌^◌, ◌==◌, Bool, true, false, not, List, [], ◌∷◌, ◌++◌, map, length, Option, Some, None, refl, sym, subst, ◌∙◌, arith, eq-eqb}
use Rattle.std.specs.Prelude.{codes}
use Rattle.std.specs.List.{list_all}
use Rattle.std.specs.Fmt.{decimal}
use Rattle.std.proofs.lemmas.Bool.{lt-ltb, le-leb, ltb-true}
use Rattle.std.proofs.lemmas.List.Folds.{list_all-append}
use Rattle.tm_word.specs.Prelude.{Text, is_solid, is_word, spell, spelled_pattern}
use Rattle.tm_rules.specs.Types.{Attr, Base, Clause, Cond, FileKindWord, IdField, NameUnion, NumberUnion, Right, StatField, StatPlace}
use Rattle.tm_number.specs.Numbers.{number, range, range_spelling}
use Rattle.tm_line.specs.Printing.{number_spelling}
use Rattle.tm_line.specs.Written.{is_number}
use Rattle.tm_line.proofs.Steps.{both, all}
use Rattle.tm_line.proofs.WholeLaws.{solid_append, word_from, spell_solid, spelled_solid, pattern_solid, number_is}
use Rattle.tm_cond.specs.Attributes.{id_text, field_text, kind_text, place_text, attr_text}
use Rattle.tm_cond.specs.Reading.{right_text, operator, clause_text, log_words, cond_words}
use Rattle.tm_cond.specs.Written.{is_attr, is_numeric, is_kind, is_quoted, is_quoted_or_group, is_name_of, is_quoted_or_null, is_number_or_attr, is_side, is_clause, is_cond}
use Rattle.tm_cond.proofs.LeftLaws.{name_bytes}
use Rattle.tm_cond.proofs.SideLaws.{quoted_too}

-- ---- attributes

id_solid : (field : IdField) → is_solid (id_text field) ≡ true
id_solid IdField.Uid = refl
id_solid IdField.Euid = refl
id_solid IdField.Suid = refl
id_solid IdField.Fsuid = refl
id_solid IdField.Gid = refl
id_solid IdField.Egid = refl
id_solid IdField.Sgid = refl
id_solid IdField.Fsgid = refl
id_solid IdField.Pid = refl
id_solid IdField.Ppid = refl

field_solid : (field : StatField) → is_solid (field_text field) ≡ true
field_solid StatField.Uid = refl
field_solid StatField.Gid = refl
field_solid StatField.Ino = refl
field_solid StatField.Perm = refl
field_solid StatField.Major = refl
field_solid StatField.Minor = refl
field_solid StatField.DevMajor = refl
field_solid StatField.DevMinor = refl

kind_solid : (kind : FileKindWord) → is_solid (kind_text kind) ≡ true
kind_solid FileKindWord.File = refl
kind_solid FileKindWord.Directory = refl
kind_solid FileKindWord.Symlink = refl
kind_solid FileKindWord.Socket = refl
kind_solid FileKindWord.Fifo = refl
kind_solid FileKindWord.Char = refl
kind_solid FileKindWord.Block = refl

place_solid : (place : StatPlace) → is_solid (place_text place) ≡ true
place_solid StatPlace.Path1 = refl
place_solid StatPlace.Path2 = refl
place_solid StatPlace.Path1Parent = refl
place_solid StatPlace.Path2Parent = refl

solid_of : (text : Text) → is_word text ≡ true → is_solid text ≡ true
solid_of text h = (both (not (length text == 0)) (is_solid text) h).1

decimal_solid : (n : ℕ) → n < 2 ^ 32 → is_solid (decimal n) ≡ true
unfolding number_spelling is_number
decimal_solid n low =
    let fits : is_number (NumberUnion.One (range (number Base.Decimal n) (number Base.Decimal n))) ≡ true = rw (lt-ltb n (2 ^ 64) (omega (arith, low)), le-leb n n (omega arith)) refl in
    let same : range_spelling (range (number Base.Decimal n) (number Base.Decimal n)) ≡ decimal n = rw (eq-eqb n n refl) refl in
    subst (λ t. is_solid t ≡ true) same (solid_of (range_spelling (range (number Base.Decimal n) (number Base.Decimal n))) (number_is (NumberUnion.One (range (number Base.Decimal n) (number Base.Decimal n))) fits))

attr_solid : (attr : Attr) → is_attr attr ≡ true → is_solid (attr_text attr) ≡ true
unfolding is_attr attr_text
attr_solid (Attr.Task field) h = solid_append (codes "task.") (id_text field) refl (id_solid field)
attr_solid Attr.Argc h = refl
attr_solid Attr.Envc h = refl
attr_solid (Attr.Stat place field) h = solid_append (place_text place) (field_text field) (place_solid place) (field_solid field)
attr_solid (Attr.Kind place) h = solid_append (place_text place) (codes "type") (place_solid place) refl
attr_solid (Attr.Argv n) h = solid_append (decimal n) (93 ∷ []) (decimal_solid n (ltb-true n (2 ^ 32) h)) refl
attr_solid (Attr.Envp name) h = solid_append (spell name) (34 ∷ 93 ∷ []) (spell_solid name (name_bytes name h)) refl
attr_solid Attr.RealPath h = refl
attr_solid Attr.Target h = refl

-- ---- right sides

name_solid : (name : NameUnion) → is_quoted_or_group name ≡ true → is_solid (right_text (Right.Name name)) ≡ true
unfolding right_text
name_solid (NameUnion.One p) h = solid_append (spelled_pattern p) (34 ∷ []) (pattern_solid p h) refl
name_solid (NameUnion.Group g) h = spelled_solid g h

kind_side : (right : Right) → is_kind right ≡ true → is_solid (right_text right) ≡ true
unfolding right_text
kind_side (Right.Kind kind) h = kind_solid kind
kind_side (Right.Numbers number) h = absurd cc
kind_side (Right.Attr attr) h = absurd cc
kind_side (Right.Name name) h = absurd cc
kind_side Right.Null h = absurd cc

name_side : (right : Right) → is_name_of is_quoted_or_group right ≡ true → is_solid (right_text right) ≡ true
name_side (Right.Name name) h = name_solid name h
name_side (Right.Kind kind) h = absurd cc
name_side (Right.Numbers number) h = absurd cc
name_side (Right.Attr attr) h = absurd cc
name_side Right.Null h = absurd cc

null_side : (right : Right) → is_quoted_or_null right ≡ true → is_solid (right_text right) ≡ true
unfolding right_text
null_side (Right.Name name) h = name_solid name (quoted_too name h)
null_side Right.Null h = refl
null_side (Right.Kind kind) h = absurd cc
null_side (Right.Numbers number) h = absurd cc
null_side (Right.Attr attr) h = absurd cc

quoted_side : (right : Right) → is_name_of is_quoted right ≡ true → is_solid (right_text right) ≡ true
quoted_side (Right.Name name) h = name_solid name (quoted_too name h)
quoted_side (Right.Kind kind) h = absurd cc
quoted_side (Right.Numbers number) h = absurd cc
quoted_side (Right.Attr attr) h = absurd cc
quoted_side Right.Null h = absurd cc

number_side : (right : Right) → is_number_or_attr right ≡ true → is_solid (right_text right) ≡ true
unfolding right_text
number_side (Right.Numbers number) h = solid_of (number_spelling number) (number_is number h)
number_side (Right.Attr attr) h = attr_solid attr (both (is_numeric attr) (is_attr attr) h).1
number_side (Right.Name name) h = absurd cc
number_side (Right.Kind kind) h = absurd cc
number_side Right.Null h = absurd cc

side_solid : (left : Attr) (right : Right) → is_side left right ≡ true → is_solid (right_text right) ≡ true
unfolding is_side
side_solid (Attr.Kind place) right h = kind_side right h
side_solid (Attr.Argv n) right h = quoted_side right h
side_solid (Attr.Envp name) right h = null_side right h
side_solid Attr.RealPath right h = name_side right h
side_solid Attr.Target right h = name_side right h
side_solid (Attr.Task field) right h = number_side right h
side_solid Attr.Argc right h = number_side right h
side_solid Attr.Envc right h = number_side right h
side_solid (Attr.Stat place field) right h = number_side right h

-- ---- conditions

operator_solid : (equal : Bool) → is_solid (operator equal) ≡ true
operator_solid true = refl
operator_solid false = refl

-- an attribute's word isn't empty
record Begun (text : Text) : Type 0 where
  first : ℕ
  rest : Text
  is : text ≡ first ∷ rest

attr_begun : (attr : Attr) → Begun (attr_text attr)
unfolding attr_text
attr_begun (Attr.Task field) = record { first = _; rest = _; is = refl }
attr_begun Attr.Argc = record { first = _; rest = _; is = refl }
attr_begun Attr.Envc = record { first = _; rest = _; is = refl }
attr_begun (Attr.Stat StatPlace.Path1 field) = record { first = _; rest = _; is = refl }
attr_begun (Attr.Stat StatPlace.Path2 field) = record { first = _; rest = _; is = refl }
attr_begun (Attr.Stat StatPlace.Path1Parent field) = record { first = _; rest = _; is = refl }
attr_begun (Attr.Stat StatPlace.Path2Parent field) = record { first = _; rest = _; is = refl }
attr_begun (Attr.Kind StatPlace.Path1) = record { first = _; rest = _; is = refl }
attr_begun (Attr.Kind StatPlace.Path2) = record { first = _; rest = _; is = refl }
attr_begun (Attr.Kind StatPlace.Path1Parent) = record { first = _; rest = _; is = refl }
attr_begun (Attr.Kind StatPlace.Path2Parent) = record { first = _; rest = _; is = refl }
attr_begun (Attr.Argv n) = record { first = _; rest = _; is = refl }
attr_begun (Attr.Envp name) = record { first = _; rest = _; is = refl }
attr_begun Attr.RealPath = record { first = _; rest = _; is = refl }
attr_begun Attr.Target = record { first = _; rest = _; is = refl }

not_empty : (front op right : Text) → Begun front → is_solid (front ++ op ++ right) ≡ true → is_word (front ++ op ++ right) ≡ true
not_empty front op right is h =
    subst (λ t. is_word (t ++ op ++ right) ≡ true) (sym is.is) (word_from is.first (is.rest ++ op ++ right) (subst (λ t. is_solid (t ++ op ++ right) ≡ true) is.is h))

clause_is : (c : Clause) → is_clause c ≡ true → is_word (clause_text c) ≡ true
unfolding is_clause clause_text
clause_is c h =
    let split = both (is_attr c.left) (is_side c.left c.right) h in
    let front = solid_append (attr_text c.left) (operator c.equal) (attr_solid c.left split.0) (operator_solid c.equal) in
    not_empty (attr_text c.left) (operator c.equal) (right_text c.right) (attr_begun c.left) (solid_append (attr_text c.left ++ operator c.equal) (right_text c.right) front (side_solid c.left c.right split.1))

clauses_are : (cs : List Clause) → list_all is_clause cs ≡ true → list_all is_word (map clause_text cs) ≡ true
clauses_are [] h = refl
clauses_are (c ∷ cs) h =
    let split = both (is_clause c) (list_all is_clause cs) h in
    all (is_word (clause_text c)) (list_all is_word (map clause_text cs)) (clause_is c split.0) (clauses_are cs split.1)

log_is : (log : Option Bool) → list_all is_word (log_words log) ≡ true
log_is None = refl
log_is (Some true) = refl
log_is (Some false) = refl

-- each condition is a word
pub cond_is : (c : Cond) → is_cond c ≡ true → list_all is_word (cond_words c) ≡ true
unfolding is_cond cond_words
cond_is c h =
    list_all-append is_word (map clause_text c.clauses) (log_words c.grant_log)
    ∙ all (list_all is_word (map clause_text c.clauses)) (list_all is_word (log_words c.grant_log)) (clauses_are c.clauses h) (log_is c.grant_log)
