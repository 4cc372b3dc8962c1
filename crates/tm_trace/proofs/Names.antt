-- Literal names: their patterns are right, their printed words are read again, and what is read is
-- one of bytes.
use Rattle.std.proofs.Common.{◌≡◌, ℕ, ◌+◌, ◌/◌, ◌%◌, ◌==◌, nat_lt, Bool, true, false, cond, ◌&&◌, ◌||◌, not, [], ◌∷◌, ◌++◌, Ok, Err, refl, sym, ap, subst, ◌∙◌}
use Rattle.std.specs.Bool.{beq}
use Rattle.std.specs.List.{list_any}
use Rattle.std.proofs.lemmas.Bool.{eqb-true, ltb-true}
use Rattle.std.proofs.lemmas.List.Folds.{list_any-append}
use Rattle.tm_word.specs.Prelude.{Pattern, Text, Word, are_bytes, begins_with_byte, is_empty, literal, literal_word, spell, spelled_pattern, spelling_of, ◌>>=◌}
use Rattle.tm_word.proofs.Literals.{literal-spelled, literal-name}
use Rattle.tm_line.specs.Grammar.{is_right}
use Rattle.tm_line.proofs.LiteralLaws.{literal_right}
use Rattle.tm_rules.specs.Types.{LineKind, NameUnion, name_value}
use Rattle.tm_rules.specs.Prelude.{is_literal, is_name, is_written}
use Rattle.tm_rules.proofs.EqualityLaws.{same_patterns}
use Rattle.tm_line.specs.Arguments.{group_word}
use Rattle.tm_line.specs.Printing.{name_spelling}
use Rattle.tm_line.specs.Written.{is_group, begins_name}
use Rattle.tm_line.specs.Written as lines
use Rattle.tm_line.proofs.Steps.{bind_ok, ok_is, both, all, not_true, to_not}
use Rattle.tm_line.proofs.GroupLaws.{group_again, group_found}
use Rattle.tm_word.proofs.Spelled.{below, below-at}
use Rattle.tm_entry.specs.NetLines.{has_equals, is_env}
use Rattle.tm_trace.specs.Requests.{literal_name, path_name, env_name}

-- ---- the first byte of a spelled word, and whether it has an `=`

-- bytes that stand for themselves in a word
pub front_of : (c b : ℕ) (rest : Text) → (c == 92) ≡ false → (nat_lt 32 c && nat_lt c 127) ≡ true → begins_with_byte c (spelling_of b ++ rest) ≡ (b == c)
front_of c b rest other_mark plain_c = by_form (b == 92) (nat_lt 32 b && nat_lt b 127) refl refl
  where
    other : (x y : ℕ) (s : Bool) → (x == y) ≡ s → (x ≡ y → s ≡ false) → s ≡ false
    other x y true e h = h (eqb-true x y e)
    other x y false e h = refl

    mark : (92 == c) ≡ false
    mark = other 92 c (92 == c) refl (λ e. ap (λ x. 92 == x) (sym e) ∙ subst (λ x. (x == 92) ≡ false) (sym e) other_mark)

    by_form : (back plain : Bool) → (b == 92) ≡ back → (nat_lt 32 b && nat_lt b 127) ≡ plain → begins_with_byte c (cond back (92 ∷ 92 ∷ []) (cond plain (b ∷ []) (92 ∷ (48 + b / 64) ∷ (48 + b / 8 % 8) ∷ (48 + b % 8) ∷ [])) ++ rest) ≡ (b == c)
    by_form true plain e p = ap (λ x. x == c) (sym (eqb-true b 92 e))
    by_form false true e p = refl
    by_form false false e p = mark ∙ sym (other b c (b == c) refl (λ f. absurd (let wrong : true ≡ false = sym plain_c ∙ ap (λ x. nat_lt 32 x && nat_lt x 127) (sym f) ∙ p in cc)))

equals_in : below 256 (λ b. beq (list_any (λ c. c == 61) (spelling_of b)) (b == 61)) ≡ true
unfolding below
equals_in = refl

beq_is : (a b : Bool) → beq a b ≡ true → a ≡ b
beq_is true true h = refl
beq_is true false h = absurd cc
beq_is false true h = absurd cc
beq_is false false h = refl

pub equals_spelled : (w : Word) → are_bytes w ≡ true → has_equals (spell w) ≡ list_any (λ b. b == 61) w
equals_spelled [] h = refl
equals_spelled (b ∷ w) h =
    let t = both (nat_lt b 256) (are_bytes w) h in
    let one : list_any (λ c. c == 61) (spelling_of b) ≡ (b == 61) = beq_is _ _ (below-at 256 (λ x. beq (list_any (λ c. c == 61) (spelling_of x)) (x == 61)) b equals_in (ltb-true _ _ t.0)) in
    list_any-append (λ c. c == 61) (spelling_of b) (spell w) ∙ rw (one, equals_spelled w t.1) refl

-- a spelled byte isn't nothing
pub is_some : (b : ℕ) (rest : Text) → is_empty (spelling_of b ++ rest) ≡ false
is_some b rest = by_form (b == 92) (nat_lt 32 b && nat_lt b 127)
  where
    by_form : (back plain : Bool) → is_empty (cond back (92 ∷ 92 ∷ []) (cond plain (b ∷ []) (92 ∷ (48 + b / 64) ∷ (48 + b / 8 % 8) ∷ (48 + b % 8) ∷ [])) ++ rest) ≡ false
    by_form true plain = refl
    by_form false true = refl
    by_form false false = refl

-- ---- what `is_written` says

-- it is the literal of a word of bytes, not empty
pub record IsLiteral (p : Pattern) : Type 0 where
  pub first : ℕ
  pub rest : Word
  pub is : p ≡ literal (first ∷ rest)
  pub bytes : are_bytes (first ∷ rest) ≡ true

literal_by : (p : Pattern) (w : Word) → p ≡ literal w → not (is_empty w) ≡ true → are_bytes w ≡ true → IsLiteral p
literal_by p [] e h k = absurd cc
literal_by p (b ∷ w) e h k = record { first = b; rest = w; is = e; bytes = k }

pub literal_is : (p : Pattern) → is_written p ≡ true → IsLiteral p
literal_is p h =
    let t = both (is_literal p && not (is_empty (literal_word p))) (are_bytes (literal_word p)) h in
    let s = both (is_literal p) (not (is_empty (literal_word p))) t.0 in
    literal_by p (literal_word p) (same_patterns.sound p (literal (literal_word p)) s.0) s.1 t.1

pub written_is : (b : ℕ) (w : Word) → are_bytes (b ∷ w) ≡ true → is_written (literal (b ∷ w)) ≡ true
written_is b w h = rw (literal-name (b ∷ w), same_patterns.full (literal (b ∷ w))) h

pub name_is : (b : ℕ) (w : Word) → are_bytes (b ∷ w) ≡ true → (b == 64) ≡ false → is_name (NameUnion.One (literal (b ∷ w))) ≡ true
name_is b w h k = all (is_written (literal (b ∷ w))) (not (begins_with_byte 64 (literal_word (literal (b ∷ w))))) (written_is b w h) (rw (literal-name (b ∷ w), k) refl)

-- the first byte of a name isn't `@`
pub not_at : (b : ℕ) (w : Word) → is_name (NameUnion.One (literal (b ∷ w))) ≡ true → (b == 64) ≡ false
not_at b w h =
    let t = both (is_written (literal (b ∷ w))) (not (begins_with_byte 64 (literal_word (literal (b ∷ w))))) h in
    ap (begins_with_byte 64) (sym (literal-name (b ∷ w))) ∙ not_true (begins_with_byte 64 (literal_word (literal (b ∷ w)))) t.1

-- ---- names

abbrev Named : NameUnion → Type 0
Named n = (b : ℕ) × (w : Word) × (n ≡ NameUnion.One (literal (b ∷ w))) × (are_bytes (b ∷ w) ≡ true) × ((b == 64) ≡ false)

pub named : (n : NameUnion) → is_name n ≡ true → Named n
named (NameUnion.One p) h =
    let t = both (is_written p) (not (begins_with_byte 64 (literal_word p))) h in
    let l = literal_is p t.0 in
    (l.first, l.rest, ap NameUnion.One l.is, l.bytes, not_at l.first l.rest (subst (λ q. is_name (NameUnion.One q) ≡ true) l.is h))
named (NameUnion.Group g) h = absurd cc

spelled_again : (b : ℕ) (w : Word) → are_bytes (b ∷ w) ≡ true → (b == 64) ≡ false → literal_name (spell (b ∷ w)) ≡ Ok (NameUnion.One (literal (b ∷ w)))
unfolding literal_name
spelled_again b w h k = rw (front_of 64 b (spell w) refl refl, k, group_again (b ∷ w) h) refl

pub name_again : (n : NameUnion) → is_name n ≡ true → literal_name (name_spelling n) ≡ Ok n
unfolding name_spelling
name_again n h =
    let t = named n h in
    subst (λ m. literal_name (name_spelling m) ≡ Ok m) (sym t.2) (ap literal_name (literal-spelled (t.0 ∷ t.1)) ∙ spelled_again t.0 t.1 t.3 t.4)

-- a name of a request is one of a line
pub name_line : (n : NameUnion) → is_name n ≡ true → lines.is_name n ≡ true
unfolding lines.is_name
name_line n h =
    let t = named n h in
    let front : begins_name (spell (t.0 ∷ t.1)) ≡ true = begins (spell (t.0 ∷ t.1)) (is_some t.0 (spell t.1)) (front_of 64 t.0 (spell t.1) refl refl ∙ t.4) in
    subst (λ m. lines.is_name m ≡ true) (sym t.2)
    (all (is_right (literal (t.0 ∷ t.1))) (begins_name (spelled_pattern (literal (t.0 ∷ t.1)))) (literal_right (t.0 ∷ t.1) t.3) (ap begins_name (literal-spelled (t.0 ∷ t.1)) ∙ front))
  where
    begins : (t : Text) → is_empty t ≡ false → begins_with_byte 64 t ≡ false → begins_name t ≡ true
    begins [] e f = absurd cc
    begins (c ∷ t) e f = to_not (c == 64) f

-- the path of an execute begins with `/`
abbrev pub is_at : ℕ → NameUnion → Bool
is_at perm n = not (perm == 0) || begins_with_byte 47 (name_value n)

front_is : (b : ℕ) (w : Word) → begins_with_byte 47 (literal_word (literal (b ∷ w))) ≡ (b == 47)
front_is b w = ap (begins_with_byte 47) (literal-name (b ∷ w))

path_by : (b : ℕ) (w : Word) (zero_ : Bool) → are_bytes (b ∷ w) ≡ true → (b == 64) ≡ false → (not zero_ || b == 47) ≡ true
    → cond (zero_ && not (begins_with_byte 47 (spell (b ∷ w)))) (Err LineKind.Name) (literal_name (spell (b ∷ w))) ≡ Ok (NameUnion.One (literal (b ∷ w)))
path_by b w false h k e = spelled_again b w h k
path_by b w true h k e = rw (front_of 47 b (spell w) refl refl, e) (spelled_again b w h k)

pub path_again : (perm : ℕ) (n : NameUnion) → is_name n ≡ true → is_at perm n ≡ true → path_name perm (name_spelling n) ≡ Ok n
unfolding path_name name_spelling
path_again perm n h k =
    let t = named n h in
    let at : (not (perm == 0) || t.0 == 47) ≡ true = ap (λ x. not (perm == 0) || x) (sym (front_is t.0 t.1)) ∙ ap (is_at perm) (sym t.2) ∙ k in
    subst (λ m. path_name perm (name_spelling m) ≡ Ok m) (sym t.2) (ap (path_name perm) (literal-spelled (t.0 ∷ t.1)) ∙ path_by t.0 t.1 (perm == 0) t.3 t.4 at)

-- ---- what is read

abbrev Spelled : Text → Word → Type 0
Spelled text w = (b : ℕ) × (rest : Word) × (w ≡ b ∷ rest) × (text ≡ spell (b ∷ rest)) × (are_bytes (b ∷ rest) ≡ true)

spelled_by : (text : Text) (w : Word) → text ≡ spell w → is_group w ≡ true → Spelled text w
spelled_by text [] e h = absurd cc
spelled_by text (b ∷ rest) e h = (b, rest, refl, e, h)

group_read : (text : Text) (w : Word) → group_word text ≡ Ok w → Spelled text w
group_read text w e = let g = group_found text w e in spelled_by text w g.0 g.1

read_by : (text : Text) (n : NameUnion) (at : Bool) → begins_with_byte 64 text ≡ at → cond at (Err LineKind.Name) (group_word text >>= λ word. Ok (NameUnion.One (literal word))) ≡ Ok n → is_name n ≡ true
read_by text n true f e = absurd cc
read_by text n false f e =
    let w = bind_ok (group_word text) (λ word. Ok (NameUnion.One (literal word))) n e in
    let s = group_read text w.0 w.1 in
    let mark : (s.0 == 64) ≡ false = sym (front_of 64 s.0 (spell s.1) refl refl) ∙ ap (begins_with_byte 64) (sym s.3) ∙ f in
    subst (λ m. is_name m ≡ true) (ap (λ v. NameUnion.One (literal v)) (sym s.2) ∙ ok_is (NameUnion.One (literal w.0)) n w.2) (name_is s.0 s.1 s.4 mark)

pub name_read : (text : Text) (n : NameUnion) → literal_name text ≡ Ok n → is_name n ≡ true
unfolding literal_name
name_read text n e = read_by text n (begins_with_byte 64 text) refl e

-- its front is that of its text
name_front : (text : Text) (n : NameUnion) (at : Bool) → cond at (Err LineKind.Name) (group_word text >>= λ word. Ok (NameUnion.One (literal word))) ≡ Ok n → begins_with_byte 47 (name_value n) ≡ begins_with_byte 47 text
name_front text n true e = absurd cc
name_front text n false e =
    let w = bind_ok (group_word text) (λ word. Ok (NameUnion.One (literal word))) n e in
    let s = group_read text w.0 w.1 in
    ap (λ m. begins_with_byte 47 (name_value m)) (sym (ap (λ v. NameUnion.One (literal v)) (sym s.2) ∙ ok_is (NameUnion.One (literal w.0)) n w.2)) ∙ front_is s.0 s.1 ∙ sym (front_of 47 s.0 (spell s.1) refl refl) ∙ ap (begins_with_byte 47) (sym s.3)

front_read : (text : Text) (n : NameUnion) → literal_name text ≡ Ok n → begins_with_byte 47 (name_value n) ≡ begins_with_byte 47 text
unfolding literal_name
front_read text n e = name_front text n (begins_with_byte 64 text) e

path_read_by : (text : Text) (n : NameUnion) (zero_ front : Bool) → begins_with_byte 47 text ≡ front → cond (zero_ && not front) (Err LineKind.Name) (literal_name text) ≡ Ok n → (is_name n ≡ true) × ((not zero_ || begins_with_byte 47 (name_value n)) ≡ true)
path_read_by text n false front f e = (name_read text n e, refl)
path_read_by text n true true f e = (name_read text n e, front_read text n e ∙ f)
path_read_by text n true false f e = absurd cc

pub path_read : (perm : ℕ) (text : Text) (n : NameUnion) → path_name perm text ≡ Ok n → (is_name n ≡ true) × (is_at perm n ≡ true)
unfolding path_name
path_read perm text n e = path_read_by text n (perm == 0) (begins_with_byte 47 text) refl e

-- ---- environment names

abbrev pub is_env_name : Pattern → Bool
is_env_name p = is_written p && not (list_any (λ b. b == 61) (literal_word p))

record EnvName (p : Pattern) : Type 0 where
  pub first : ℕ
  pub rest : Word
  pub is : p ≡ literal (first ∷ rest)
  pub bytes : are_bytes (first ∷ rest) ≡ true
  pub none : has_equals (spell (first ∷ rest)) ≡ false

env_is : (p : Pattern) → is_env_name p ≡ true → EnvName p
env_is p h =
    let t = both (is_written p) (not (list_any (λ b. b == 61) (literal_word p))) h in
    let l = literal_is p t.0 in
    let word : literal_word p ≡ l.first ∷ l.rest = ap literal_word l.is ∙ literal-name (l.first ∷ l.rest) in
    record {
      first = l.first;
      rest = l.rest;
      is = l.is;
      bytes = l.bytes;
      none = equals_spelled (l.first ∷ l.rest) l.bytes ∙ ap (list_any (λ b. b == 61)) (sym word) ∙ not_true (list_any (λ b. b == 61) (literal_word p)) t.1;
    }

pub env_again : (p : Pattern) → is_env_name p ≡ true → env_name (spelled_pattern p) ≡ Ok p
unfolding env_name
env_again p h =
    let e = env_is p h in
    let w : Word = e.first ∷ e.rest in
    subst (λ q. env_name (spelled_pattern q) ≡ Ok q) (sym e.is) (ap env_name (literal-spelled w) ∙ rw (e.none, group_again w e.bytes) refl)

-- it is one of a line
pub env_line : (p : Pattern) → is_env_name p ≡ true → (is_right p ≡ true) × (is_env (spelled_pattern p) ≡ true)
env_line p h =
    let e = env_is p h in
    let w : Word = e.first ∷ e.rest in (
      subst (λ q. is_right q ≡ true) (sym e.is) (literal_right w e.bytes),
      subst (λ q. is_env (spelled_pattern q) ≡ true) (sym e.is) (ap is_env (literal-spelled w) ∙ filled (spell w) (is_some e.first (spell e.rest)) e.none),
    )
  where
    filled : (t : Text) → is_empty t ≡ false → has_equals t ≡ false → is_env t ≡ true
    filled [] f g = absurd cc
    filled (c ∷ t) f g = to_not (has_equals (c ∷ t)) g

env_read_by : (text : Text) (p : Pattern) (has : Bool) → has_equals text ≡ has → cond has (Err LineKind.Name) (group_word text >>= λ word. Ok (literal word)) ≡ Ok p → is_env_name p ≡ true
env_read_by text p true f e = absurd cc
env_read_by text p false f e =
    let w = bind_ok (group_word text) (λ word. Ok (literal word)) p e in
    let s = group_read text w.0 w.1 in
    let word : Word = s.0 ∷ s.1 in
    let same : literal word ≡ p = ap literal (sym s.2) ∙ ok_is (literal w.0) p w.2 in
    let none : list_any (λ b. b == 61) word ≡ false = sym (equals_spelled word s.4) ∙ ap has_equals (sym s.3) ∙ f in
    subst (λ q. is_env_name q ≡ true) same (all (is_written (literal word)) (not (list_any (λ b. b == 61) (literal_word (literal word)))) (written_is s.0 s.1 s.4) (to_not _ (ap (list_any (λ b. b == 61)) (literal-name word) ∙ none)))

pub env_read : (text : Text) (p : Pattern) → env_name text ≡ Ok p → is_env_name p ≡ true
unfolding env_name
env_read text p e = env_read_by text p (has_equals text) refl e
