-- Whatever is wrong in conditions, the fault is of one kind.
use Rattle.std.proofs.Common.{◌≡◌, ◌+◌, ◌==◌, Bool, true, false, [], ◌∷◌, take, drop, Option, Some, None, Result, Ok, Err, refl, ap, subst, inl, inr}
use Rattle.std.specs.Prelude.{ℕ, ◌^◌, ◌⊎◌, codes, if◌then◌else◌}
use Rattle.std.specs.List.{position}
use Rattle.tm_word.specs.Prelude.{Fails, Text, after, spelled_word, texts_equal, ◌>>=◌}
use Rattle.tm_number.specs.Numbers.{plain_of}
use Rattle.tm_rules.specs.Types.{Attr, Cond, LineFault, LineKind, NumberUnion}
use Rattle.tm_line.specs.Lines.{line_cause}
use Rattle.tm_line.specs.Arguments.{kinded, group_word, pattern_word, number_word}
use Rattle.tm_cond.specs.Attributes.{or_wrong, without_last, quoted, kind_word, numeric_word, other_word, argv_word, envp_word, or_read, or_rest, attr_word}
use Rattle.tm_cond.specs.Reading.{quoted_name, name_or_group, or_numeric, right_word, left_side, sides, clause_at, clause_word, logged, with_word}

-- a fault is of this kind
abbrev pub OnlyWrong : {A : Type 0} → Result A LineKind → Type 0
OnlyWrong (Ok x) = Unit {0}
OnlyWrong (Err kind) = kind ≡ LineKind.Condition

-- ---- steps

option_wrong : {A : Type 0} (o : Option A) → OnlyWrong (or_wrong o)
option_wrong (Some x) = tt
option_wrong None = refl

kinded_wrong : {A F : Type 0} (r : Result A F) → OnlyWrong (kinded LineKind.Condition r)
kinded_wrong (Ok x) = tt
kinded_wrong (Err fault) = refl

then_wrong : {A B : Type 0} (r : Result A LineKind) (f : A → Result B LineKind) → OnlyWrong r → ((x : A) → OnlyWrong (f x)) → OnlyWrong (r >>= f)
then_wrong (Ok x) f h k = k x
then_wrong (Err kind) f h k = h

if_wrong : {A : Type 0} (b : Bool) (x y : Result A LineKind) → OnlyWrong x → OnlyWrong y → OnlyWrong (if b then x else y)
if_wrong true x y h k = h
if_wrong false x y h k = k

read_wrong : {A : Type 0} (o : Option A) (other : Result A LineKind) → OnlyWrong other → OnlyWrong (or_read o other)
read_wrong (Some x) other h = tt
read_wrong None other h = h

rest_wrong : (o : Option Text) (read : Text → Result Attr LineKind) (other : Result Attr LineKind) → ((rest : Text) → OnlyWrong (read rest)) → OnlyWrong other → OnlyWrong (or_rest o read other)
rest_wrong (Some rest) read other h k = h rest
rest_wrong None read other h k = k

-- ---- left words

quoted_wrong : (text : Text) → OnlyWrong (quoted text)
quoted_wrong [] = refl
quoted_wrong (b ∷ text) = if_wrong (b == 34) (or_wrong (without_last 34 text)) (Err LineKind.Condition) (option_wrong (without_last 34 text)) refl

argv_wrong : (rest : Text) → OnlyWrong (argv_word rest)
unfolding argv_word
argv_wrong rest = then_wrong (or_wrong (without_last 93 rest)) _ (option_wrong (without_last 93 rest)) (λ digits. then_wrong (or_wrong (plain_of (2 ^ 32) digits)) _ (option_wrong (plain_of (2 ^ 32) digits)) (λ n. tt))

envp_wrong : (rest : Text) → OnlyWrong (envp_word rest)
unfolding envp_word
envp_wrong rest =
    then_wrong (or_wrong (without_last 93 rest)) _ (option_wrong (without_last 93 rest))
    (λ text. then_wrong (quoted text) _ (quoted_wrong text) (λ inner. then_wrong (or_wrong (spelled_word inner)) _ (option_wrong (spelled_word inner)) (λ name. tt)))

attr_wrong : (text : Text) → OnlyWrong (attr_word text)
unfolding attr_word
attr_wrong text =
    let named = or_rest (after (codes "exec.envp[") text) envp_word (Err LineKind.Condition) in
    let placed = or_rest (after (codes "exec.argv[") text) argv_word named in
    read_wrong (numeric_word text) (or_read (other_word text) placed)
    (read_wrong (other_word text) placed
    (rest_wrong (after (codes "exec.argv[") text) argv_word named argv_wrong (rest_wrong (after (codes "exec.envp[") text) envp_word (Err LineKind.Condition) envp_wrong refl)))

-- ---- right sides

name_wrong : (text : Text) → OnlyWrong (quoted_name text)
unfolding quoted_name
name_wrong text = then_wrong (quoted text) _ (quoted_wrong text) (λ inner. then_wrong (kinded LineKind.Condition (pattern_word inner)) _ (kinded_wrong (pattern_word inner)) (λ p. tt))

group_wrong : (text : Text) → OnlyWrong (name_or_group text)
unfolding name_or_group
group_wrong [] = refl
group_wrong (b ∷ text) =
    if_wrong (b == 64) _ (quoted_name (b ∷ text)) (then_wrong (kinded LineKind.Condition (group_word text)) _ (kinded_wrong (group_word text)) (λ group. tt)) (name_wrong (b ∷ text))

number_wrong : (read : Result NumberUnion LineKind) (text : Text) → OnlyWrong (or_numeric read text)
number_wrong (Ok number) text = tt
number_wrong (Err kind) text = then_wrong (or_wrong (numeric_word text)) _ (option_wrong (numeric_word text)) (λ attr. tt)

right_wrong : (left : Attr) (text : Text) → OnlyWrong (right_word left text)
unfolding right_word
right_wrong (Attr.Kind place) text = then_wrong (or_wrong (kind_word text)) _ (option_wrong (kind_word text)) (λ kind. tt)
right_wrong (Attr.Argv n) text = then_wrong (quoted_name text) _ (name_wrong text) (λ name. tt)
right_wrong (Attr.Envp word) text = if_wrong (texts_equal text (codes "NULL")) _ _ tt (then_wrong (quoted_name text) _ (name_wrong text) (λ name. tt))
right_wrong Attr.RealPath text = then_wrong (name_or_group text) _ (group_wrong text) (λ name. tt)
right_wrong Attr.Target text = then_wrong (name_or_group text) _ (group_wrong text) (λ name. tt)
right_wrong (Attr.Task field) text = number_wrong (number_word text) text
right_wrong Attr.Argc text = number_wrong (number_word text) text
right_wrong Attr.Envc text = number_wrong (number_word text) text
right_wrong (Attr.Stat place field) text = number_wrong (number_word text) text

-- ---- conditions

sides_wrong : (left : Text × Bool) (text : Text) → OnlyWrong (sides left text)
unfolding sides
sides_wrong left text = then_wrong (attr_word left.0) _ (attr_wrong left.0) (λ attr. then_wrong (right_word attr text) _ (right_wrong attr text) (λ right. tt))

clause_wrong : (place : Option ℕ) (word : Text) → OnlyWrong (clause_at place word)
clause_wrong None word = refl
clause_wrong (Some k) word = sides_wrong (left_side (take k word)) (drop (k + 1) word)

with_wrong : (log : Option Bool) (before : Cond) (word : Text) → OnlyWrong (with_word log before word)
unfolding clause_word
with_wrong (Some log) before word = by_log before.grant_log
  where
    by_log : (old : Option Bool) → OnlyWrong (logged old before.clauses log)
    by_log (Some other) = refl
    by_log None = tt
with_wrong None before word = then_wrong (clause_word word) _ (clause_wrong (position (λ b. b == 61) word) word) (λ c. tt)

is_wrong : (fault : LineFault) (read : Result Cond LineKind) → OnlyWrong read → Fails (line_cause fault) read → (fault ≡ LineFault.Kind LineKind.Condition) ⊎ (fault ≡ LineFault.NoMemory)
is_wrong LineFault.NoMemory read h e = inr refl
is_wrong (LineFault.Kind kind) read h e = inl (ap LineFault.Kind (subst OnlyWrong e h))

-- a word that can't be read is a wrong condition, unless memory ran out
pub wrong_word : (log : Option Bool) (before : Cond) (word : Text) (fault : LineFault) → Fails (line_cause fault) (with_word log before word) → (fault ≡ LineFault.Kind LineKind.Condition) ⊎ (fault ≡ LineFault.NoMemory)
wrong_word log before word fault e = is_wrong fault (with_word log before word) (with_wrong log before word) e
