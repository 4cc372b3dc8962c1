-- Printed attributes are read again, one after another, and are words.
use Rattle.std.proofs.Common.{◌≡◌, ℕ, ◌+◌, ◌<◌, ◌^◌, ◌==◌, nat_lt, Bool, true, false, ◌||◌, not, List, [], ◌∷◌, ◌++◌, length, Some, Ok, refl, sym, ap, ◌∙◌, arith}
use Rattle.std.specs.Prelude.{codes, is_some}
use Rattle.std.specs.List.{list_all, position, position_from}
use Rattle.std.proofs.lemmas.Bool.{ne_eqb, ltb-true, le-ltb}
use Rattle.std.proofs.lemmas.List.Folds.{list_any-append}
use Rattle.std.proofs.lemmas.Iterator.Adapters.{position_from-zero}
use Rattle.std.proofs.Math.Seq.{take-append_seam, drop-append-add}
use Rattle.tm_word.specs.Prelude.{Text, Word, are_bytes, spell, texts_equal}
use Rattle.tm_rules.specs.Types.{Args, Attr, Attributes, Base, FileKindWord, Stat, StatField, StatPlace}
use Rattle.tm_number.specs.Numbers.{spelling}
use Rattle.tm_number.proofs.NumberLaws.{number_again}
use Rattle.tm_rules.specs.Prelude.{is_stat, may_have}
use Rattle.tm_entry.specs.Attributes.{kind_text, kind_word, attr_text, attr_word}
use Rattle.tm_entry.specs.Written.{is_name_byte, is_attr}
use Rattle.tm_entry.proofs.PieceLaws.{quoted_again}
use Rattle.tm_entry.proofs.LeftLaws.{not_equals, attr_again}
use Rattle.tm_line.proofs.Steps.{both, all, not_true}
use Rattle.tm_word.proofs.Spelled.{word_again}
use Rattle.tm_trace.specs.Attributes.{stat_rank, has_stat, put_stat, executes, links, quoted_word, value_word, has_name, with_argument, with_real_path, with_name, with_target, with_stat, with_attribute, with_sides, with_word}
use Rattle.tm_trace.specs.Printing.{quoted_text, real_path_text, argument_text, environment_text, target_text, base_of, stat_text}
use Rattle.tm_trace.specs.Written.{rises_from, rises, names_once, has_word}
use Rattle.tm_trace.proofs.AttributeRead.{turned}

-- ---- the cut at the first `=`

cut_from : (left right : Text) (i : ℕ) → list_all not_equals left ≡ true → position_from (λ b. b == 61) i (left ++ 61 ∷ right) ≡ Some (i + length left)
cut_from [] right i h = ap Some (omega arith)
cut_from (b ∷ left) right i h =
    let split = both (not_equals b) (list_all not_equals left) h in
    rw (not_true (b == 61) split.0) (cut_from left right (i + 1) split.1 ∙ ap Some (omega arith))

cut_again : (left right : Text) → list_all not_equals left ≡ true → position (λ b. b == 61) (left ++ 61 ∷ right) ≡ Some (length left)
cut_again left right h = position_from-zero (λ b. b == 61) (left ++ 61 ∷ right) ∙ cut_from left right 0 h ∙ ap Some (omega arith)

word_cut : (a : Args) (perm : ℕ) (at : Attributes) (left right : Text) → list_all not_equals left ≡ true → with_word a perm at (left ++ 61 ∷ right) ≡ with_sides a perm at left right
unfolding with_word
word_cut a perm at left right h = rw (cut_again left right h, take-append_seam left (61 ∷ right), drop-append-add left (61 ∷ right) 1) refl

-- ---- right sides

quoted_word_again : (w : Word) → are_bytes w ≡ true → quoted_word (quoted_text w) ≡ Ok w
unfolding quoted_word
quoted_word_again w h = rw (quoted_again (spell w), word_again w h) refl

value_again : (base : Base) (n : ℕ) → nat_lt n (2 ^ 64) ≡ true → value_word (spelling base n) ≡ Ok n
unfolding value_word
value_again base n h = rw (number_again base n (ltb-true _ _ h)) refl

kind_again : (kind : FileKindWord) → kind_word (kind_text kind) ≡ Some kind
unfolding kind_word
kind_again FileKindWord.File = refl
kind_again FileKindWord.Directory = refl
kind_again FileKindWord.Symlink = refl
kind_again FileKindWord.Socket = refl
kind_again FileKindWord.Fifo = refl
kind_again FileKindWord.Char = refl
kind_again FileKindWord.Block = refl

-- ---- one word each

-- no attribute but this has the word `exec.argv`
named_else : (attr : Attr) → is_attr attr ≡ true → texts_equal (attr_text attr) (codes "exec.argv") ≡ false
unfolding is_attr attr_text
named_else (Attr.Task field) h = refl
named_else Attr.Argc h = refl
named_else Attr.Envc h = refl
named_else (Attr.Stat StatPlace.Path1 field) h = refl
named_else (Attr.Stat StatPlace.Path2 field) h = refl
named_else (Attr.Stat StatPlace.Path1Parent field) h = refl
named_else (Attr.Stat StatPlace.Path2Parent field) h = refl
named_else (Attr.Kind StatPlace.Path1) h = refl
named_else (Attr.Kind StatPlace.Path2) h = refl
named_else (Attr.Kind StatPlace.Path1Parent) h = refl
named_else (Attr.Kind StatPlace.Path2Parent) h = refl
named_else (Attr.Argv n) h = refl
named_else (Attr.Envp name) h = refl
named_else Attr.RealPath h = refl
named_else Attr.Target h = refl

attr_sides : (a : Args) (perm : ℕ) (at : Attributes) (attr : Attr) (right : Text) → is_attr attr ≡ true → attr_word (attr_text attr) ≡ Ok attr → with_sides a perm at (attr_text attr) right ≡ with_attribute a perm at attr right
unfolding with_sides
attr_sides a perm at attr right h e = rw (named_else attr h, e) refl

attr_cut : (a : Args) (perm : ℕ) (at : Attributes) (attr : Attr) (right : Text) → is_attr attr ≡ true → with_word a perm at (attr_text attr ++ 61 ∷ right) ≡ with_attribute a perm at attr right
attr_cut a perm at attr right h = let is = attr_again attr h in word_cut a perm at (attr_text attr) right is.uncut ∙ attr_sides a perm at attr right h is.reads

pub argument_again : (a : Args) (perm : ℕ) (at : Attributes) (w : Word) → executes a perm ≡ true → are_bytes w ≡ true → with_word a perm at (argument_text w) ≡ Ok (record at { argv = at.argv ++ w ∷ [] })
unfolding with_sides with_argument
argument_again a perm at w h k = word_cut a perm at (codes "exec.argv") (quoted_text w) refl ∙ rw (h, quoted_word_again w k) refl

real_is : is_attr Attr.RealPath ≡ true
unfolding is_attr
real_is = refl

target_is : is_attr Attr.Target ≡ true
unfolding is_attr
target_is = refl

name_is : (name : Word) → list_all is_name_byte name ≡ true → is_attr (Attr.Envp name) ≡ true
unfolding is_attr
name_is name h = h

pub real_again : (a : Args) (perm : ℕ) (at : Attributes) (w : Word) → executes a perm ≡ true → is_some at.real_path ≡ false → are_bytes w ≡ true → with_word a perm at (real_path_text w) ≡ Ok (record at { real_path = Some w })
unfolding with_attribute with_real_path
real_again a perm at w h k b = attr_cut a perm at Attr.RealPath (quoted_text w) real_is ∙ rw (h, k, quoted_word_again w b) refl

pub environment_again : (a : Args) (perm : ℕ) (at : Attributes) (pair : Word × Word) → executes a perm ≡ true → has_name pair.0 at.envp ≡ false → list_all is_name_byte pair.0 ≡ true → are_bytes pair.1 ≡ true
    → with_word a perm at (environment_text pair) ≡ Ok (record at { envp = at.envp ++ pair ∷ [] })
unfolding with_attribute with_name
environment_again a perm at pair h k is b = attr_cut a perm at (Attr.Envp pair.0) (quoted_text pair.1) (name_is pair.0 is) ∙ rw (h, k, quoted_word_again pair.1 b) refl

pub target_again : (a : Args) (perm : ℕ) (at : Attributes) (w : Word) → links a perm ≡ true → is_some at.target ≡ false → are_bytes w ≡ true → with_word a perm at (target_text w) ≡ Ok (record at { target = Some w })
unfolding with_attribute with_target
target_again a perm at w h k b = attr_cut a perm at Attr.Target (quoted_text w) target_is ∙ rw (h, k, quoted_word_again w b) refl

number_is : (place : StatPlace) (field : StatField) (value : ℕ) → has_word (Stat.Number place field value) ≡ true → is_attr (Attr.Stat place field) ≡ true
unfolding is_attr
number_is place field value h = h

type_is : (place : StatPlace) (kind : FileKindWord) → has_word (Stat.Kind place kind) ≡ true → is_attr (Attr.Kind place) ≡ true
unfolding is_attr
type_is place kind h = h

pub stat_again : (a : Args) (perm : ℕ) (at : Attributes) (s : Stat) → may_have a s ≡ true → has_stat s at.stats ≡ false → is_stat s ≡ true → has_word s ≡ true
    → with_word a perm at (stat_text s) ≡ Ok (record at { stats = put_stat s at.stats })
unfolding with_attribute with_stat
stat_again a perm at (Stat.Number place field value) h k low is =
    attr_cut a perm at (Attr.Stat place field) (spelling (base_of field) value) (number_is place field value is) ∙ rw (value_again (base_of field) value low, h, k) refl
stat_again a perm at (Stat.Kind place kind) h k low is = attr_cut a perm at (Attr.Kind place) (kind_text kind) (type_is place kind is) ∙ rw (kind_again kind, h, k) refl

-- ---- a stat that is printed later goes last

last_from : (rank : ℕ) (s : Stat) (stats : List Stat) → rises_from rank (stats ++ s ∷ []) ≡ true → (rank < stat_rank s) × (put_stat s stats ≡ stats ++ s ∷ []) × (has_stat s stats ≡ false)
unfolding put_stat
last_from rank s [] h = (ltb-true rank (stat_rank s) (both (nat_lt rank (stat_rank s)) true h).0, refl, refl)
last_from rank s (other ∷ stats) h =
    let t = both (nat_lt rank (stat_rank other)) (rises_from (stat_rank other) (stats ++ s ∷ [])) h in
    let rest = last_from (stat_rank other) s stats t.1 in
    let low : rank < stat_rank other = ltb-true rank (stat_rank other) t.0 in
    let later : nat_lt (stat_rank s) (stat_rank other) ≡ false = not_later (stat_rank other) (stat_rank s) rest.0 in
    let other_rank : (stat_rank other == stat_rank s) ≡ false = not_same (stat_rank other) (stat_rank s) rest.0 in
    (omega (arith, low, rest.0), rw later (ap (λ (x : List Stat). other ∷ x) rest.1), rw (other_rank, rest.2) refl)
  where
    not_later : (a b : ℕ) → a < b → nat_lt b a ≡ false
    not_later a b h = le-ltb b a (omega (arith, h))

    not_same : (a b : ℕ) → a < b → (a == b) ≡ false
    not_same a b h = ne_eqb a b (λ e. absurd (omega (arith, h, e)))

pub put_last : (s : Stat) (stats : List Stat) → rises (stats ++ s ∷ []) ≡ true → (put_stat s stats ≡ stats ++ s ∷ []) × (has_stat s stats ≡ false)
unfolding put_stat
put_last s [] h = (refl, refl)
put_last s (other ∷ stats) h =
    let rest = last_from (stat_rank other) s stats h in
    let later : nat_lt (stat_rank s) (stat_rank other) ≡ false = le-ltb (stat_rank s) (stat_rank other) (omega (arith, rest.0)) in
    let other_rank : (stat_rank other == stat_rank s) ≡ false = ne_eqb (stat_rank other) (stat_rank s) (λ e. absurd (omega (arith, rest.0, e))) in
    (rw later (ap (λ (x : List Stat). other ∷ x) rest.1), rw (other_rank, rest.2) refl)

rises_front_from : (rank : ℕ) (xs ys : List Stat) → rises_from rank (xs ++ ys) ≡ true → rises_from rank xs ≡ true
rises_front_from rank [] ys h = refl
rises_front_from rank (x ∷ xs) ys h =
    let t = both (nat_lt rank (stat_rank x)) (rises_from (stat_rank x) (xs ++ ys)) h in
    all (nat_lt rank (stat_rank x)) (rises_from (stat_rank x) xs) t.0 (rises_front_from (stat_rank x) xs ys t.1)

pub rises_front : (xs ys : List Stat) → rises (xs ++ ys) ≡ true → rises xs ≡ true
rises_front [] ys h = refl
rises_front (x ∷ xs) ys h = rises_front_from (stat_rank x) xs ys h

-- a name that comes later isn't there yet
pub not_before : (name value : Word) (before after : List (Word × Word)) → names_once (before ++ (name, value) ∷ after) ≡ true → has_name name before ≡ false
not_before name value [] after h = refl
not_before name value (pair ∷ before) after h =
    let t = both (not (has_name pair.0 (before ++ (name, value) ∷ after))) (names_once (before ++ (name, value) ∷ after)) h in
    let none : has_name pair.0 (before ++ (name, value) ∷ after) ≡ false = not_true _ t.0 in
    let parts : (has_name pair.0 before || has_name pair.0 ((name, value) ∷ after)) ≡ false = sym (list_any-append (λ (p : Word × Word). texts_equal p.0 pair.0) before ((name, value) ∷ after)) ∙ none in
    let here : texts_equal name pair.0 ≡ false = first (texts_equal name pair.0) (has_name pair.0 after) (second (has_name pair.0 before) (has_name pair.0 ((name, value) ∷ after)) parts) in
    rw (turned name pair.0 here) (not_before name value before after t.1)
  where
    first : (a b : Bool) → (a || b) ≡ false → a ≡ false
    first true b h = absurd cc
    first false b h = refl

    second : (a b : Bool) → (a || b) ≡ false → b ≡ false
    second true b h = absurd cc
    second false b h = h
