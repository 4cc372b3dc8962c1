-- Right sides: what is written is read again, and what is read can be written.
use Rattle.std.proofs.Common.{◌≡◌, ◌==◌, Bool, true, false, cond, [], ◌∷◌, ◌++◌, Result, Ok, Err, refl, subst}
use Rattle.std.specs.Prelude.{codes}
use Rattle.tm_word.specs.Prelude.{Pattern, Text, Word, spelled_pattern, texts_equal, ◌>>=◌}
use Rattle.tm_union.specs.Grammar.{is_right}
use Rattle.tm_rules.specs.Types.{Attr, FileKindWord, LineKind, NameUnion, NumberUnion, Right}
use Rattle.tm_line.specs.Arguments.{kinded, group_word, pattern_word, number_word}
use Rattle.tm_line.proofs.Steps.{bind_ok, done, ok_is, kinded_ok, both, all}
use Rattle.tm_line.proofs.GroupLaws.{group_found, group_again}
use Rattle.tm_line.proofs.NameArgLaws.{pattern_again, pattern_read}
use Rattle.tm_line.proofs.NumberArgLaws.{number_again, number_read}
use Rattle.tm_cond.specs.Attributes.{or_wrong, quoted, kind_word, numeric_word}
use Rattle.tm_cond.specs.Reading.{quoted_name, name_or_group, or_numeric, right_word, right_text}
use Rattle.tm_cond.specs.Written.{is_attr, is_numeric, is_kind, is_quoted, is_quoted_or_group, is_name_of, is_quoted_or_null, is_number_or_attr, is_side}
use Rattle.tm_cond.proofs.PieceLaws.{or_wrong_ok, quoted_again}
use Rattle.tm_cond.proofs.NumericLaws.{numeric_again, numeric_read}

-- ---- names

quoted_name_again : (p : Pattern) → is_right p ≡ true → quoted_name (34 ∷ (spelled_pattern p ++ 34 ∷ [])) ≡ Ok (NameUnion.One p)
unfolding quoted_name
quoted_name_again p h = rw (quoted_again (spelled_pattern p), pattern_again p h) refl

quoted_name_read : (text : Text) (name : NameUnion) → quoted_name text ≡ Ok name → is_quoted name ≡ true
unfolding quoted_name
quoted_name_read text name e =
    let inner = bind_ok (quoted text) (λ i. kinded LineKind.Condition (pattern_word i) >>= λ p. Ok (NameUnion.One p)) name e in
    let p = bind_ok (kinded LineKind.Condition (pattern_word inner.0)) (λ p. Ok (NameUnion.One p)) name inner.2 in
    subst (λ n. is_quoted n ≡ true) (ok_is (NameUnion.One p.0) name p.2) (pattern_read inner.0 p.0 (kinded_ok LineKind.Condition (pattern_word inner.0) p.0 p.1)).1

name_or_group_again : (name : NameUnion) → is_quoted_or_group name ≡ true → name_or_group (right_text (Right.Name name)) ≡ Ok name
unfolding name_or_group right_text
name_or_group_again (NameUnion.One p) h = quoted_name_again p h
name_or_group_again (NameUnion.Group g) h = rw (group_again g h) refl

pub quoted_too : (name : NameUnion) → is_quoted name ≡ true → is_quoted_or_group name ≡ true
quoted_too (NameUnion.One p) h = h
quoted_too (NameUnion.Group g) h = absurd cc

name_or_group_read : (text : Text) (name : NameUnion) → name_or_group text ≡ Ok name → is_quoted_or_group name ≡ true
unfolding name_or_group
name_or_group_read [] name e = absurd cc
name_or_group_read (b ∷ text) name e = by_front (b == 64) e
  where
    by_front : (t : Bool) → cond t (kinded LineKind.Condition (group_word text) >>= λ group. Ok (NameUnion.Group group)) (quoted_name (b ∷ text)) ≡ Ok name → is_quoted_or_group name ≡ true
    by_front true f =
        let g = bind_ok (kinded LineKind.Condition (group_word text)) (λ group. Ok (NameUnion.Group group)) name f in
        subst (λ n. is_quoted_or_group n ≡ true) (ok_is (NameUnion.Group g.0) name g.2) (group_found text g.0 (kinded_ok LineKind.Condition (group_word text) g.0 g.1)).1
    by_front false f = quoted_too name (quoted_name_read (b ∷ text) name f)

-- ---- by the form of the right side

kind_again : (place : _) (right : Right) → is_kind right ≡ true → right_word (Attr.Kind place) (right_text right) ≡ Ok right
unfolding right_word right_text kind_word
kind_again place (Right.Kind FileKindWord.File) h = refl
kind_again place (Right.Kind FileKindWord.Directory) h = refl
kind_again place (Right.Kind FileKindWord.Symlink) h = refl
kind_again place (Right.Kind FileKindWord.Socket) h = refl
kind_again place (Right.Kind FileKindWord.Fifo) h = refl
kind_again place (Right.Kind FileKindWord.Char) h = refl
kind_again place (Right.Kind FileKindWord.Block) h = refl
kind_again place (Right.Numbers number) h = absurd cc
kind_again place (Right.Attr attr) h = absurd cc
kind_again place (Right.Name name) h = absurd cc
kind_again place Right.Null h = absurd cc

argv_again : (right : Right) → is_name_of is_quoted right ≡ true → (quoted_name (right_text right) >>= λ name. done (Right.Name name)) ≡ Ok right
unfolding right_text
argv_again (Right.Name (NameUnion.One p)) h = rw (quoted_name_again p h) refl
argv_again (Right.Name (NameUnion.Group g)) h = absurd cc
argv_again (Right.Kind kind) h = absurd cc
argv_again (Right.Numbers number) h = absurd cc
argv_again (Right.Attr attr) h = absurd cc
argv_again Right.Null h = absurd cc

envp_again : (word : Word) (right : Right) → is_quoted_or_null right ≡ true → right_word (Attr.Envp word) (right_text right) ≡ Ok right
unfolding right_word right_text
envp_again word (Right.Name (NameUnion.One p)) h = rw (quoted_name_again p h) refl
envp_again word (Right.Name (NameUnion.Group g)) h = absurd cc
envp_again word Right.Null h = refl
envp_again word (Right.Kind kind) h = absurd cc
envp_again word (Right.Numbers number) h = absurd cc
envp_again word (Right.Attr attr) h = absurd cc

name_again : (right : Right) → is_name_of is_quoted_or_group right ≡ true → (name_or_group (right_text right) >>= λ name. done (Right.Name name)) ≡ Ok right
name_again (Right.Name name) h = rw (name_or_group_again name h) refl
name_again (Right.Kind kind) h = absurd cc
name_again (Right.Numbers number) h = absurd cc
name_again (Right.Attr attr) h = absurd cc
name_again Right.Null h = absurd cc

number_side_again : (right : Right) → is_number_or_attr right ≡ true → or_numeric (number_word (right_text right)) (right_text right) ≡ Ok right
unfolding right_text
number_side_again (Right.Numbers number) h = rw (number_again number h) refl
number_side_again (Right.Attr attr) h = let split = both (is_numeric attr) (is_attr attr) h in (numeric_again attr split.0 split.1).right
number_side_again (Right.Name name) h = absurd cc
number_side_again (Right.Kind kind) h = absurd cc
number_side_again Right.Null h = absurd cc

-- what is written is read again
pub side_again : (left : Attr) (right : Right) → is_side left right ≡ true → right_word left (right_text right) ≡ Ok right
unfolding is_side right_word
side_again (Attr.Kind place) right h = kind_again place right h
side_again (Attr.Argv n) right h = argv_again right h
side_again (Attr.Envp word) right h = envp_again word right h
side_again Attr.RealPath right h = name_again right h
side_again Attr.Target right h = name_again right h
side_again (Attr.Task field) right h = number_side_again right h
side_again Attr.Argc right h = number_side_again right h
side_again Attr.Envc right h = number_side_again right h
side_again (Attr.Stat place field) right h = number_side_again right h

-- ---- what is read can be written

named_read : (test : NameUnion → Bool) (read : Result NameUnion LineKind) (right : Right) → ((name : NameUnion) → read ≡ Ok name → test name ≡ true) → (read >>= λ name. Ok (Right.Name name)) ≡ Ok right → is_name_of test right ≡ true
named_read test read right fits e =
    let name = bind_ok read (λ name. Ok (Right.Name name)) right e in
    subst (λ r. is_name_of test r ≡ true) (ok_is (Right.Name name.0) right name.2) (fits name.0 name.1)

null_too : (right : Right) → is_name_of is_quoted right ≡ true → is_quoted_or_null right ≡ true
null_too (Right.Name name) h = h
null_too (Right.Kind kind) h = absurd cc
null_too (Right.Numbers number) h = absurd cc
null_too (Right.Attr attr) h = absurd cc
null_too Right.Null h = absurd cc

envp_read : (text : Text) (t : Bool) (right : Right) → cond t (Ok Right.Null) (quoted_name text >>= λ name. Ok (Right.Name name)) ≡ done right → is_quoted_or_null right ≡ true
envp_read text true right e = subst (λ r. is_quoted_or_null r ≡ true) (ok_is Right.Null right e) refl
envp_read text false right e = null_too right (named_read is_quoted (quoted_name text) right (quoted_name_read text) e)

number_side_read : (text : Text) (read : Result NumberUnion LineKind) (right : Right) → number_word text ≡ read → or_numeric read text ≡ Ok right → is_number_or_attr right ≡ true
number_side_read text (Ok number) right h e = subst (λ r. is_number_or_attr r ≡ true) (ok_is (Right.Numbers number) right e) (number_read text number h)
number_side_read text (Err kind) right h e =
    let attr = bind_ok (or_wrong (numeric_word text)) (λ attr. Ok (Right.Attr attr)) right e in
    let is = numeric_read text attr.0 (or_wrong_ok (numeric_word text) attr.0 attr.1) in
    subst (λ r. is_number_or_attr r ≡ true) (ok_is (Right.Attr attr.0) right attr.2) (all (is_numeric attr.0) (is_attr attr.0) is.0 is.1)

pub side_read : (left : Attr) (text : Text) (right : Right) → right_word left text ≡ Ok right → is_side left right ≡ true
unfolding is_side right_word
side_read (Attr.Kind place) text right e =
    let kind = bind_ok (or_wrong (kind_word text)) (λ kind. Ok (Right.Kind kind)) right e in
    subst (λ r. is_kind r ≡ true) (ok_is (Right.Kind kind.0) right kind.2) refl
side_read (Attr.Argv n) text right e = named_read is_quoted (quoted_name text) right (quoted_name_read text) e
side_read (Attr.Envp word) text right e = envp_read text (texts_equal text (codes "NULL")) right e
side_read Attr.RealPath text right e = named_read is_quoted_or_group (name_or_group text) right (name_or_group_read text) e
side_read Attr.Target text right e = named_read is_quoted_or_group (name_or_group text) right (name_or_group_read text) e
side_read (Attr.Task field) text right e = number_side_read text (number_word text) right refl e
side_read Attr.Argc text right e = number_side_read text (number_word text) right refl e
side_read Attr.Envc text right e = number_side_read text (number_word text) right refl e
side_read (Attr.Stat place field) text right e = number_side_read text (number_word text) right refl e
