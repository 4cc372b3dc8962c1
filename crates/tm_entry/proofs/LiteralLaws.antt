-- Literal names, single numbers and single addresses of a request are those of a line.
use Rattle.std.proofs.Common.{◌≡◌, ℕ, ◌+◌, ◌^◌, ◌/◌, ◌%◌, ◌==◌, nat_lt, nat_le, Bool, true, false, cond, ◌&&◌, not, [], ◌∷◌, ◌++◌, refl, sym, ap, subst, ◌∙◌, arith}
use Rattle.std.specs.Bool.{beq}
use Rattle.std.specs.List.{list_any}
use Rattle.std.proofs.lemmas.Bool.{eqb-true, ltb-true, le-leb}
use Rattle.std.proofs.lemmas.List.Folds.{list_any-append}
use Rattle.tm_word.specs.Prelude.{Pattern, Text, Word, are_bytes, begins_with_byte, is_empty, literal, literal_word, spell, spelled_pattern, spelling_of}
use Rattle.tm_word.proofs.Literals.{literal-spelled, literal-name}
use Rattle.tm_rules.specs.Types.{Addr, AddrUnion, NameUnion, NumberUnion}
use Rattle.tm_types.specs.Addresses.{addr_le}
use Rattle.tm_file.specs.Grammar.{is_right}
use Rattle.tm_file.proofs.LiteralLaws.{literal_right}
use Rattle.tm_rules.specs.Prelude.{addrs_equal, is_addr, is_addr_value, is_literal, is_name, is_number, is_written, numbers_equal}
use Rattle.tm_rules.proofs.EqualityLaws.{same_patterns, same_number, same_addrs}
use Rattle.tm_file.specs.Written.{begins_name}
use Rattle.tm_file.specs.Written as lines
use Rattle.tm_file.proofs.Steps.{both, all, not_true, to_not}
use Rattle.tm_word.proofs.Spelled.{below, below-at}
use Rattle.tm_net.specs.NetLines.{has_equals, is_env}

-- the first byte of a spelled word, and whether it has an `=`

-- bytes that stand for themselves in a word
pub front_of : (c b : ℕ) (rest : Text) → (c == 92) ≡ false → (nat_lt 32 c && nat_lt c 127) ≡ true → begins_with_byte c (spelling_of b ++ rest) ≡ (b == c)
front_of c b rest other_mark plain_c = by_form (b == 92) (nat_lt 32 b && nat_lt b 127) refl refl
  where
    other : (x y : ℕ) (s : Bool) → (x == y) ≡ s → (x ≡ y → s ≡ false) → s ≡ false
    other x y true e h = h (eqb-true x y e)
    other x y false e h = refl

    mark : (92 == c) ≡ false
    mark = other 92 c (92 == c) refl (λ e. ap (λ x. 92 == x) (sym e) ∙ subst (λ x. (x == 92) ≡ false) (sym e) other_mark)

    by_form : (back plain : Bool) → (b == 92) ≡ back → (nat_lt 32 b && nat_lt b 127) ≡ plain → begins_with_byte c (cond back (92 ∷ 92 ∷ []) (cond plain (b ∷ []) (92 ∷ (48 + b / 64) ∷ (48 + b / 8 % 8) ∷ (48 + b % 8) ∷ [])) ++ rest) ≡ (b == c)
    by_form true plain e p = ap (λ x. x == c) (sym (eqb-true b 92 e))
    by_form false true e p = refl
    by_form false false e p = mark ∙ sym (other b c (b == c) refl (λ f. absurd (let wrong : true ≡ false = sym plain_c ∙ ap (λ x. nat_lt 32 x && nat_lt x 127) (sym f) ∙ p in cc)))

equals_in : below 256 (λ b. beq (list_any (λ c. c == 61) (spelling_of b)) (b == 61)) ≡ true
unfolding below
equals_in = refl

beq_is : (a b : Bool) → beq a b ≡ true → a ≡ b
beq_is true true h = refl
beq_is true false h = absurd cc
beq_is false true h = absurd cc
beq_is false false h = refl

pub equals_spelled : (w : Word) → are_bytes w ≡ true → has_equals (spell w) ≡ list_any (λ b. b == 61) w
equals_spelled [] h = refl
equals_spelled (b ∷ w) h =
    let t = both (nat_lt b 256) (are_bytes w) h in
    let one : list_any (λ c. c == 61) (spelling_of b) ≡ (b == 61) = beq_is _ _ (below-at 256 (λ x. beq (list_any (λ c. c == 61) (spelling_of x)) (x == 61)) b equals_in (ltb-true _ _ t.0)) in
    list_any-append (λ c. c == 61) (spelling_of b) (spell w) ∙ rw (one, equals_spelled w t.1) refl

-- a spelled byte isn't nothing
spelled-some : (b : ℕ) (rest : Text) → is_empty (spelling_of b ++ rest) ≡ false
spelled-some b rest = by_form (b == 92) (nat_lt 32 b && nat_lt b 127)
  where
    by_form : (back plain : Bool) → is_empty (cond back (92 ∷ 92 ∷ []) (cond plain (b ∷ []) (92 ∷ (48 + b / 64) ∷ (48 + b / 8 % 8) ∷ (48 + b % 8) ∷ [])) ++ rest) ≡ false
    by_form true plain = refl
    by_form false true = refl
    by_form false false = refl

-- what `is_written` says

-- it is the literal of a word of bytes, not empty
pub record IsLiteral (p : Pattern) : Type 0 where
  pub first : ℕ
  pub rest : Word
  pub is : p ≡ literal (first ∷ rest)
  pub bytes : are_bytes (first ∷ rest) ≡ true

literal_by : (p : Pattern) (w : Word) → p ≡ literal w → not (is_empty w) ≡ true → are_bytes w ≡ true → IsLiteral p
literal_by p [] e h k = absurd cc
literal_by p (b ∷ w) e h k = record { first = b; rest = w; is = e; bytes = k }

pub literal_is : (p : Pattern) → is_written p ≡ true → IsLiteral p
literal_is p h =
    let t = both (is_literal p && not (is_empty (literal_word p))) (are_bytes (literal_word p)) h in
    let s = both (is_literal p) (not (is_empty (literal_word p))) t.0 in
    literal_by p (literal_word p) (same_patterns.sound p (literal (literal_word p)) s.0) s.1 t.1

pub written_is : (b : ℕ) (w : Word) → are_bytes (b ∷ w) ≡ true → is_written (literal (b ∷ w)) ≡ true
written_is b w h = rw (literal-name (b ∷ w), same_patterns.full (literal (b ∷ w))) h

pub name_is : (b : ℕ) (w : Word) → are_bytes (b ∷ w) ≡ true → (b == 64) ≡ false → is_name (NameUnion.One (literal (b ∷ w))) ≡ true
name_is b w h k = all (is_written (literal (b ∷ w))) (not (begins_with_byte 64 (literal_word (literal (b ∷ w))))) (written_is b w h) (rw (literal-name (b ∷ w), k) refl)

-- the first byte of a name isn't `@`
pub not_at : (b : ℕ) (w : Word) → is_name (NameUnion.One (literal (b ∷ w))) ≡ true → (b == 64) ≡ false
not_at b w h =
    let t = both (is_written (literal (b ∷ w))) (not (begins_with_byte 64 (literal_word (literal (b ∷ w))))) h in
    ap (begins_with_byte 64) (sym (literal-name (b ∷ w))) ∙ not_true (begins_with_byte 64 (literal_word (literal (b ∷ w)))) t.1

-- names

abbrev Named : NameUnion → Type 0
Named n = (b : ℕ) × (w : Word) × (n ≡ NameUnion.One (literal (b ∷ w))) × (are_bytes (b ∷ w) ≡ true) × ((b == 64) ≡ false)

pub named : (n : NameUnion) → is_name n ≡ true → Named n
named (NameUnion.One p) h =
    let t = both (is_written p) (not (begins_with_byte 64 (literal_word p))) h in
    let l = literal_is p t.0 in
    (l.first, l.rest, ap NameUnion.One l.is, l.bytes, not_at l.first l.rest (subst (λ q. is_name (NameUnion.One q) ≡ true) l.is h))
named (NameUnion.Group g) h = absurd cc

-- a name of a request is one of a line
pub name_line : (n : NameUnion) → is_name n ≡ true → lines.is_name n ≡ true
unfolding lines.is_name
name_line n h =
    let t = named n h in
    let front : begins_name (spell (t.0 ∷ t.1)) ≡ true = begins (spell (t.0 ∷ t.1)) (spelled-some t.0 (spell t.1)) (front_of 64 t.0 (spell t.1) refl refl ∙ t.4) in
    subst (λ m. lines.is_name m ≡ true) (sym t.2)
    (all (is_right (literal (t.0 ∷ t.1))) (begins_name (spelled_pattern (literal (t.0 ∷ t.1)))) (literal_right (t.0 ∷ t.1) t.3) (ap begins_name (literal-spelled (t.0 ∷ t.1)) ∙ front))
  where
    begins : (t : Text) → is_empty t ≡ false → begins_with_byte 64 t ≡ false → begins_name t ≡ true
    begins [] e f = absurd cc
    begins (c ∷ t) e f = to_not (c == 64) f

-- environment names

abbrev pub is_env_name : Pattern → Bool
is_env_name p = is_written p && not (list_any (λ b. b == 61) (literal_word p))

record EnvName (p : Pattern) : Type 0 where
  pub first : ℕ
  pub rest : Word
  pub is : p ≡ literal (first ∷ rest)
  pub bytes : are_bytes (first ∷ rest) ≡ true
  pub none : has_equals (spell (first ∷ rest)) ≡ false

env_is : (p : Pattern) → is_env_name p ≡ true → EnvName p
env_is p h =
    let t = both (is_written p) (not (list_any (λ b. b == 61) (literal_word p))) h in
    let l = literal_is p t.0 in
    let word : literal_word p ≡ l.first ∷ l.rest = ap literal_word l.is ∙ literal-name (l.first ∷ l.rest) in
    record {
      first = l.first;
      rest = l.rest;
      is = l.is;
      bytes = l.bytes;
      none = equals_spelled (l.first ∷ l.rest) l.bytes ∙ ap (list_any (λ b. b == 61)) (sym word) ∙ not_true (list_any (λ b. b == 61) (literal_word p)) t.1;
    }

-- it is one of a line
pub env_line : (p : Pattern) → is_env_name p ≡ true → (is_right p ≡ true) × (is_env (spelled_pattern p) ≡ true)
env_line p h =
    let e = env_is p h in
    let w : Word = e.first ∷ e.rest in (
      subst (λ q. is_right q ≡ true) (sym e.is) (literal_right w e.bytes),
      subst (λ q. is_env (spelled_pattern q) ≡ true) (sym e.is) (ap is_env (literal-spelled w) ∙ filled (spell w) (spelled-some e.first (spell e.rest)) e.none),
    )
  where
    filled : (t : Text) → is_empty t ≡ false → has_equals t ≡ false → is_env t ≡ true
    filled [] f g = absurd cc
    filled (c ∷ t) f g = to_not (has_equals (c ∷ t)) g

-- Numbers and addresses

le_self : (n : ℕ) → nat_le n n ≡ true
le_self n = le-leb n n (omega arith)

-- a number of a request is one of a line
pub number_line : (n : NumberUnion) → is_number n ≡ true → lines.is_number n ≡ true
unfolding lines.is_number
number_line (NumberUnion.One r) h =
    let t = both (numbers_equal r.low r.high) (nat_lt r.low.value (2 ^ 64)) h in
    subst (λ high. (nat_lt r.low.value (2 ^ 64) && nat_lt high.value (2 ^ 64) && nat_le r.low.value high.value) ≡ true) (same_number.sound r.low r.high t.0) (rw (t.1, le_self r.low.value) refl)
number_line (NumberUnion.Group g) h = absurd cc

addr_fits : (a : Addr) → is_addr_value a ≡ true → lines.is_addr a ≡ true
addr_fits (Addr.V4 n) h = h
addr_fits (Addr.V6 n) h = h

order_same : (a : Addr) → addr_le a a ≡ true
order_same (Addr.V4 n) = le_self n
order_same (Addr.V6 n) = le_self n

-- an address of a request is one of a line
pub address_line : (n : AddrUnion) → is_addr n ≡ true → lines.is_address n ≡ true
unfolding lines.is_address
address_line (AddrUnion.One r) h =
    let t = both (addrs_equal r.low r.high) (is_addr_value r.low) h in
    subst (λ high. (lines.is_addr r.low && lines.is_addr high && addr_le r.low high) ≡ true) (same_addrs.sound r.low r.high t.0) (rw (addr_fits r.low t.1, order_same r.low) refl)
address_line (AddrUnion.Group g) h = absurd cc
