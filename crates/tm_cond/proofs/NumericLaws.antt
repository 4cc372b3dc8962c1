-- Numeric attributes: each word is read as its attribute, as a left word and as a right side, and
-- what is read has a word.
use Rattle.std.proofs.Common.{◌≡◌, ◌==◌, true, not, Option, Some, None, Ok, refl, subst}
use Rattle.std.specs.Prelude.{map, codes, option_map}
use Rattle.std.specs.Option.{option_or}
use Rattle.std.specs.List.{list_all}
use Rattle.tm_word.specs.Prelude.{Text, after, named, row_of}
use Rattle.tm_number.specs.Numbers.{number_of, value_of, range_of}
use Rattle.tm_rules.specs.Types.{Attr, IdField, Right, StatField, StatPlace}
use Rattle.tm_line.specs.Arguments.{range_word, number_word}
use Rattle.tm_cond.specs.Attributes.{without_last, id_word, field_word, parent_word, field_text, parent_fields, place_text, attr_text, task_at, field_at, stat_at, count_table, numeric_word, attr_word}
use Rattle.tm_cond.specs.Reading.{or_numeric}
use Rattle.tm_cond.specs.Written.{has_field, is_attr, is_numeric}
use Rattle.tm_cond.proofs.PieceLaws.{then_some, map_some, either_some, named_fits}

-- an attribute's word: it is read on the left, it has no `=`, and no `!` at its end
pub record IsLeft (attr : Attr) : Type 0 where
  pub reads : attr_word (attr_text attr) ≡ Ok attr
  pub uncut : list_all (λ c. not (c == 61)) (attr_text attr) ≡ true
  pub unmarked : without_last 33 (attr_text attr) ≡ None

-- a numeric one is also read on the right
pub record IsNumeric (attr : Attr) : Type 0 where
  pub left : IsLeft attr
  pub right : or_numeric (number_word (attr_text attr)) (attr_text attr) ≡ Ok (Right.Attr attr)

pub numeric_again : (attr : Attr) → is_numeric attr ≡ true → is_attr attr ≡ true → IsNumeric attr
unfolding is_attr attr_text attr_word numeric_word id_word field_word parent_word without_last number_word range_word range_of number_of value_of
numeric_again (Attr.Task IdField.Uid) n h = record { left = record { reads = refl; uncut = refl; unmarked = refl }; right = refl }
numeric_again (Attr.Task IdField.Euid) n h = record { left = record { reads = refl; uncut = refl; unmarked = refl }; right = refl }
numeric_again (Attr.Task IdField.Suid) n h = record { left = record { reads = refl; uncut = refl; unmarked = refl }; right = refl }
numeric_again (Attr.Task IdField.Fsuid) n h = record { left = record { reads = refl; uncut = refl; unmarked = refl }; right = refl }
numeric_again (Attr.Task IdField.Gid) n h = record { left = record { reads = refl; uncut = refl; unmarked = refl }; right = refl }
numeric_again (Attr.Task IdField.Egid) n h = record { left = record { reads = refl; uncut = refl; unmarked = refl }; right = refl }
numeric_again (Attr.Task IdField.Sgid) n h = record { left = record { reads = refl; uncut = refl; unmarked = refl }; right = refl }
numeric_again (Attr.Task IdField.Fsgid) n h = record { left = record { reads = refl; uncut = refl; unmarked = refl }; right = refl }
numeric_again (Attr.Task IdField.Pid) n h = record { left = record { reads = refl; uncut = refl; unmarked = refl }; right = refl }
numeric_again (Attr.Task IdField.Ppid) n h = record { left = record { reads = refl; uncut = refl; unmarked = refl }; right = refl }
numeric_again Attr.Argc n h = record { left = record { reads = refl; uncut = refl; unmarked = refl }; right = refl }
numeric_again Attr.Envc n h = record { left = record { reads = refl; uncut = refl; unmarked = refl }; right = refl }
numeric_again (Attr.Stat StatPlace.Path1 StatField.Uid) n h = record { left = record { reads = refl; uncut = refl; unmarked = refl }; right = refl }
numeric_again (Attr.Stat StatPlace.Path1 StatField.Gid) n h = record { left = record { reads = refl; uncut = refl; unmarked = refl }; right = refl }
numeric_again (Attr.Stat StatPlace.Path1 StatField.Ino) n h = record { left = record { reads = refl; uncut = refl; unmarked = refl }; right = refl }
numeric_again (Attr.Stat StatPlace.Path1 StatField.Perm) n h = record { left = record { reads = refl; uncut = refl; unmarked = refl }; right = refl }
numeric_again (Attr.Stat StatPlace.Path1 StatField.Major) n h = record { left = record { reads = refl; uncut = refl; unmarked = refl }; right = refl }
numeric_again (Attr.Stat StatPlace.Path1 StatField.Minor) n h = record { left = record { reads = refl; uncut = refl; unmarked = refl }; right = refl }
numeric_again (Attr.Stat StatPlace.Path1 StatField.DevMajor) n h = record { left = record { reads = refl; uncut = refl; unmarked = refl }; right = refl }
numeric_again (Attr.Stat StatPlace.Path1 StatField.DevMinor) n h = record { left = record { reads = refl; uncut = refl; unmarked = refl }; right = refl }
numeric_again (Attr.Stat StatPlace.Path2 StatField.Uid) n h = record { left = record { reads = refl; uncut = refl; unmarked = refl }; right = refl }
numeric_again (Attr.Stat StatPlace.Path2 StatField.Gid) n h = record { left = record { reads = refl; uncut = refl; unmarked = refl }; right = refl }
numeric_again (Attr.Stat StatPlace.Path2 StatField.Ino) n h = record { left = record { reads = refl; uncut = refl; unmarked = refl }; right = refl }
numeric_again (Attr.Stat StatPlace.Path2 StatField.Perm) n h = record { left = record { reads = refl; uncut = refl; unmarked = refl }; right = refl }
numeric_again (Attr.Stat StatPlace.Path2 StatField.Major) n h = record { left = record { reads = refl; uncut = refl; unmarked = refl }; right = refl }
numeric_again (Attr.Stat StatPlace.Path2 StatField.Minor) n h = record { left = record { reads = refl; uncut = refl; unmarked = refl }; right = refl }
numeric_again (Attr.Stat StatPlace.Path2 StatField.DevMajor) n h = record { left = record { reads = refl; uncut = refl; unmarked = refl }; right = refl }
numeric_again (Attr.Stat StatPlace.Path2 StatField.DevMinor) n h = record { left = record { reads = refl; uncut = refl; unmarked = refl }; right = refl }
numeric_again (Attr.Stat StatPlace.Path1Parent StatField.Uid) n h = record { left = record { reads = refl; uncut = refl; unmarked = refl }; right = refl }
numeric_again (Attr.Stat StatPlace.Path1Parent StatField.Gid) n h = record { left = record { reads = refl; uncut = refl; unmarked = refl }; right = refl }
numeric_again (Attr.Stat StatPlace.Path1Parent StatField.Ino) n h = record { left = record { reads = refl; uncut = refl; unmarked = refl }; right = refl }
numeric_again (Attr.Stat StatPlace.Path1Parent StatField.Perm) n h = record { left = record { reads = refl; uncut = refl; unmarked = refl }; right = refl }
numeric_again (Attr.Stat StatPlace.Path1Parent StatField.Major) n h = absurd cc
numeric_again (Attr.Stat StatPlace.Path1Parent StatField.Minor) n h = absurd cc
numeric_again (Attr.Stat StatPlace.Path1Parent StatField.DevMajor) n h = absurd cc
numeric_again (Attr.Stat StatPlace.Path1Parent StatField.DevMinor) n h = absurd cc
numeric_again (Attr.Stat StatPlace.Path2Parent StatField.Uid) n h = record { left = record { reads = refl; uncut = refl; unmarked = refl }; right = refl }
numeric_again (Attr.Stat StatPlace.Path2Parent StatField.Gid) n h = record { left = record { reads = refl; uncut = refl; unmarked = refl }; right = refl }
numeric_again (Attr.Stat StatPlace.Path2Parent StatField.Ino) n h = record { left = record { reads = refl; uncut = refl; unmarked = refl }; right = refl }
numeric_again (Attr.Stat StatPlace.Path2Parent StatField.Perm) n h = record { left = record { reads = refl; uncut = refl; unmarked = refl }; right = refl }
numeric_again (Attr.Stat StatPlace.Path2Parent StatField.Major) n h = absurd cc
numeric_again (Attr.Stat StatPlace.Path2Parent StatField.Minor) n h = absurd cc
numeric_again (Attr.Stat StatPlace.Path2Parent StatField.DevMajor) n h = absurd cc
numeric_again (Attr.Stat StatPlace.Path2Parent StatField.DevMinor) n h = absurd cc
numeric_again (Attr.Kind place) n h = absurd cc
numeric_again (Attr.Argv k) n h = absurd cc
numeric_again (Attr.Envp name) n h = absurd cc
numeric_again Attr.RealPath n h = absurd cc
numeric_again Attr.Target n h = absurd cc

-- ---- what is read has a word

abbrev pub IsRead : Attr → Type 0
IsRead attr = (is_numeric attr ≡ true) × (is_attr attr ≡ true)

task_read : (text : Text) (attr : Attr) → task_at text ≡ Some attr → IsRead attr
unfolding is_attr
task_read text attr e =
    let rest = then_some (λ rest. option_map Attr.Task (id_word rest)) (after (codes "task.") text) attr e in
    let field = map_some Attr.Task (id_word rest.0) attr rest.2 in
    subst IsRead field.2 (refl, refl)

count_read : (text : Text) (attr : Attr) → named count_table text ≡ Some attr → IsRead attr
unfolding is_attr
count_read text attr e = named_fits (λ t a. IsRead a) count_table text attr ((refl, refl), ((refl, refl), tt)) e

field_read : (place : StatPlace) (text : Text) (field : StatField) → field_at place text ≡ Some field → has_field place field ≡ true
unfolding parent_word
field_read StatPlace.Path1 text field e = refl
field_read StatPlace.Path2 text field e = refl
field_read StatPlace.Path1Parent text field e = named_fits (λ t f. has_field StatPlace.Path1Parent f ≡ true) (map (row_of field_text) parent_fields) text field (refl, (refl, (refl, (refl, tt)))) e
field_read StatPlace.Path2Parent text field e = named_fits (λ t f. has_field StatPlace.Path2Parent f ≡ true) (map (row_of field_text) parent_fields) text field (refl, (refl, (refl, (refl, tt)))) e

stat_read : (place : StatPlace) (text : Text) (attr : Attr) → stat_at place text ≡ Some attr → IsRead attr
unfolding is_attr
stat_read place text attr e =
    let rest = then_some (λ rest. option_map (Attr.Stat place) (field_at place rest)) (after (place_text place) text) attr e in
    let field = map_some (Attr.Stat place) (field_at place rest.0) attr rest.2 in
    subst IsRead field.2 (refl, field_read place rest.0 field.0 field.1)

pub numeric_read : (text : Text) (attr : Attr) → numeric_word text ≡ Some attr → IsRead attr
unfolding numeric_word
numeric_read text attr e =
    let of : StatPlace → Option Attr = λ place. stat_at place text in
    let four = option_or (of StatPlace.Path1Parent) (of StatPlace.Path2Parent) in
    let three = option_or (of StatPlace.Path2) four in
    let two = option_or (of StatPlace.Path1) three in
    let one = option_or (named count_table text) two in
    either_some IsRead (task_at text) one attr e (task_read text attr)
    (λ e1. either_some IsRead (named count_table text) two attr e1 (count_read text attr)
    (λ e2. either_some IsRead (of StatPlace.Path1) three attr e2 (stat_read StatPlace.Path1 text attr)
    (λ e3. either_some IsRead (of StatPlace.Path2) four attr e3 (stat_read StatPlace.Path2 text attr)
    (λ e4. either_some IsRead (of StatPlace.Path1Parent) (of StatPlace.Path2Parent) attr e4 (stat_read StatPlace.Path1Parent text attr) (stat_read StatPlace.Path2Parent text attr)))))
