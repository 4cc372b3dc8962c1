-- The tests of equality decide it.
use Rattle.std.proofs.Common.{◌≡◌, ℕ, ◌+◌, ◌==◌, Bool, true, false, ◌&&◌, List, [], ◌∷◌, refl, sym, ap, ◌∙◌, subst, arith, eq-eqb}
use Rattle.std.specs.Prelude.{Option, Some, None, IsTrue, ◌↔◌}
use Rattle.std.specs.List.{slice_index_or}
use Rattle.std.specs.Bool.{beq}
use Rattle.std.proofs.lemmas.Bool.{eqb-true}
use Rattle.tm_types.specs.Words.{Text, Part}
use Rattle.tm_rules.specs.Types.{Addr, AddrRange, AddrUnion, Args, Attr, Base, Clause, Component, Cond, Element, Entry, FileKindWord, IdField, InetKind, NameUnion, Number, NumberUnion, Prefer, Range, Repeat, Right, StatField, StatPlace, UnixKind}
use Rattle.tm_rules.specs.Prelude.{addr_unions_equal, addrs_equal, args_equal, attrs_equal, base_place, clauses_equal, components_equal, conds_equal, element_place, field_place, id_place, inet_place, kind_place, names_equal, number_unions_equal, numbers_equal, options_equal, parts_equal, patterns_equal, prefers_equal, ranges_equal, repeat_place, rights_equal, same_line, stat_place, unix_place}
use Rattle.tm_types.specs.WordTexts.{lists_equal, texts_equal}

-- Tests joined by `&&`

pub both : (a b : Bool) → (a && b) ≡ true → (a ≡ true) × (b ≡ true)
both true b h = (refl, h)
both false b h = absurd cc

pub all : (a b : Bool) → a ≡ true → b ≡ true → (a && b) ≡ true
all true b p q = q
all false b p q = p

-- a test that holds of equal values alone, and of every value and itself
pub record Decides {A : Type 0} (test : A → A → Bool) : Type 0 where
  pub sound : (x y : A) → test x y ≡ true → x ≡ y
  pub full : (x : A) → test x x ≡ true

abbrev equal_numbers : ℕ → ℕ → Bool
equal_numbers x y = x == y

same_numbers : Decides equal_numbers
same_numbers = record { sound = eqb-true; full = λ x. eq-eqb x x refl }

same_flags : Decides beq
same_flags = record { sound = sound; full = full }
  where
    sound : (x y : Bool) → beq x y ≡ true → x ≡ y
    sound true true h = refl
    sound true false h = absurd cc
    sound false true h = absurd cc
    sound false false h = refl

    full : (x : Bool) → beq x x ≡ true
    full true = refl
    full false = refl

module _ {A : Type 0} (test : A → A → Bool) (each : Decides test) where
  lists-sound : (xs ys : List A) → lists_equal test xs ys ≡ true → xs ≡ ys
  lists-sound [] [] h = refl
  lists-sound [] (y ∷ ys) h = absurd cc
  lists-sound (x ∷ xs) [] h = absurd cc
  lists-sound (x ∷ xs) (y ∷ ys) h =
      let parts = both (test x y) (lists_equal test xs ys) h in
      let rest = lists-sound xs ys parts.1 in
      let first = each.sound x y parts.0 in
      ap (λ v. v ∷ xs) first ∙ ap (λ t. y ∷ t) rest

  lists-full : (xs : List A) → lists_equal test xs xs ≡ true
  lists-full [] = refl
  lists-full (x ∷ xs) = all (test x x) (lists_equal test xs xs) (each.full x) (lists-full xs)

  pub same_lists : Decides (lists_equal test)
  same_lists = record { sound = lists-sound; full = lists-full }

  options-sound : (x y : Option A) → options_equal test x y ≡ true → x ≡ y
  options-sound None None h = refl
  options-sound None (Some y) h = absurd cc
  options-sound (Some x) None h = absurd cc
  options-sound (Some x) (Some y) h = ap (λ v. Some v) (each.sound x y h)

  options-full : (x : Option A) → options_equal test x x ≡ true
  options-full None = refl
  options-full (Some x) = each.full x

  pub same_options : Decides (options_equal test)
  same_options = record { sound = options-sound; full = options-full }

pub same_texts : Decides texts_equal
same_texts = same_lists equal_numbers same_numbers

-- Cases without arguments: their places tell them apart

base_at : (x : Base) → slice_index_or (Base.Decimal ∷ Base.Octal ∷ Base.Hex ∷ []) (base_place x) Base.Decimal ≡ x
base_at Base.Decimal = refl
base_at Base.Octal = refl
base_at Base.Hex = refl

pub same_base : Decides (λ x y. base_place x == base_place y)
same_base = record {
  sound = λ x y h. sym (base_at x) ∙ ap (λ n. slice_index_or (Base.Decimal ∷ Base.Octal ∷ Base.Hex ∷ []) n Base.Decimal) (eqb-true (base_place x) (base_place y) h) ∙ base_at y;
  full = λ x. eq-eqb (base_place x) (base_place x) refl;
}

repeat_at : (x : Repeat) → slice_index_or (Repeat.Once ∷ Repeat.OneOrMore ∷ Repeat.ZeroOrMore ∷ []) (repeat_place x) Repeat.Once ≡ x
repeat_at Repeat.Once = refl
repeat_at Repeat.OneOrMore = refl
repeat_at Repeat.ZeroOrMore = refl

pub same_repeat : Decides (λ x y. repeat_place x == repeat_place y)
same_repeat = record {
  sound = λ x y h. sym (repeat_at x) ∙ ap (λ n. slice_index_or (Repeat.Once ∷ Repeat.OneOrMore ∷ Repeat.ZeroOrMore ∷ []) n Repeat.Once) (eqb-true (repeat_place x) (repeat_place y) h) ∙ repeat_at y;
  full = λ x. eq-eqb (repeat_place x) (repeat_place x) refl;
}

inet_at : (x : InetKind) → slice_index_or (InetKind.Stream ∷ InetKind.Dgram ∷ InetKind.Raw ∷ []) (inet_place x) InetKind.Stream ≡ x
inet_at InetKind.Stream = refl
inet_at InetKind.Dgram = refl
inet_at InetKind.Raw = refl

pub same_inet : Decides (λ x y. inet_place x == inet_place y)
same_inet = record {
  sound = λ x y h. sym (inet_at x) ∙ ap (λ n. slice_index_or (InetKind.Stream ∷ InetKind.Dgram ∷ InetKind.Raw ∷ []) n InetKind.Stream) (eqb-true (inet_place x) (inet_place y) h) ∙ inet_at y;
  full = λ x. eq-eqb (inet_place x) (inet_place x) refl;
}

unix_at : (x : UnixKind) → slice_index_or (UnixKind.Stream ∷ UnixKind.Dgram ∷ UnixKind.Seqpacket ∷ []) (unix_place x) UnixKind.Stream ≡ x
unix_at UnixKind.Stream = refl
unix_at UnixKind.Dgram = refl
unix_at UnixKind.Seqpacket = refl

pub same_unix : Decides (λ x y. unix_place x == unix_place y)
same_unix = record {
  sound = λ x y h. sym (unix_at x) ∙ ap (λ n. slice_index_or (UnixKind.Stream ∷ UnixKind.Dgram ∷ UnixKind.Seqpacket ∷ []) n UnixKind.Stream) (eqb-true (unix_place x) (unix_place y) h) ∙ unix_at y;
  full = λ x. eq-eqb (unix_place x) (unix_place x) refl;
}

id_at : (x : IdField) → slice_index_or (IdField.Uid ∷ IdField.Euid ∷ IdField.Suid ∷ IdField.Fsuid ∷ IdField.Gid ∷ IdField.Egid ∷ IdField.Sgid ∷ IdField.Fsgid ∷ IdField.Pid ∷ IdField.Ppid ∷ []) (id_place x) IdField.Uid ≡ x
id_at IdField.Uid = refl
id_at IdField.Euid = refl
id_at IdField.Suid = refl
id_at IdField.Fsuid = refl
id_at IdField.Gid = refl
id_at IdField.Egid = refl
id_at IdField.Sgid = refl
id_at IdField.Fsgid = refl
id_at IdField.Pid = refl
id_at IdField.Ppid = refl

pub same_id : Decides (λ x y. id_place x == id_place y)
same_id = record {
  sound = λ x y h. sym (id_at x) ∙ ap (λ n. slice_index_or (IdField.Uid ∷ IdField.Euid ∷ IdField.Suid ∷ IdField.Fsuid ∷ IdField.Gid ∷ IdField.Egid ∷ IdField.Sgid ∷ IdField.Fsgid ∷ IdField.Pid ∷ IdField.Ppid ∷ []) n IdField.Uid) (eqb-true (id_place x) (id_place y) h) ∙ id_at y;
  full = λ x. eq-eqb (id_place x) (id_place x) refl;
}

stat_at : (x : StatPlace) → slice_index_or (StatPlace.Path1 ∷ StatPlace.Path2 ∷ StatPlace.Path1Parent ∷ StatPlace.Path2Parent ∷ []) (stat_place x) StatPlace.Path1 ≡ x
stat_at StatPlace.Path1 = refl
stat_at StatPlace.Path2 = refl
stat_at StatPlace.Path1Parent = refl
stat_at StatPlace.Path2Parent = refl

pub same_stat : Decides (λ x y. stat_place x == stat_place y)
same_stat = record {
  sound = λ x y h. sym (stat_at x) ∙ ap (λ n. slice_index_or (StatPlace.Path1 ∷ StatPlace.Path2 ∷ StatPlace.Path1Parent ∷ StatPlace.Path2Parent ∷ []) n StatPlace.Path1) (eqb-true (stat_place x) (stat_place y) h) ∙ stat_at y;
  full = λ x. eq-eqb (stat_place x) (stat_place x) refl;
}

field_at : (x : StatField) → slice_index_or (StatField.Uid ∷ StatField.Gid ∷ StatField.Ino ∷ StatField.Perm ∷ StatField.Major ∷ StatField.Minor ∷ StatField.DevMajor ∷ StatField.DevMinor ∷ []) (field_place x) StatField.Uid ≡ x
field_at StatField.Uid = refl
field_at StatField.Gid = refl
field_at StatField.Ino = refl
field_at StatField.Perm = refl
field_at StatField.Major = refl
field_at StatField.Minor = refl
field_at StatField.DevMajor = refl
field_at StatField.DevMinor = refl

pub same_field : Decides (λ x y. field_place x == field_place y)
same_field = record {
  sound = λ x y h. sym (field_at x) ∙ ap (λ n. slice_index_or (StatField.Uid ∷ StatField.Gid ∷ StatField.Ino ∷ StatField.Perm ∷ StatField.Major ∷ StatField.Minor ∷ StatField.DevMajor ∷ StatField.DevMinor ∷ []) n StatField.Uid) (eqb-true (field_place x) (field_place y) h) ∙ field_at y;
  full = λ x. eq-eqb (field_place x) (field_place x) refl;
}

kind_at : (x : FileKindWord) → slice_index_or (FileKindWord.File ∷ FileKindWord.Directory ∷ FileKindWord.Symlink ∷ FileKindWord.Socket ∷ FileKindWord.Fifo ∷ FileKindWord.Char ∷ FileKindWord.Block ∷ []) (kind_place x) FileKindWord.File ≡ x
kind_at FileKindWord.File = refl
kind_at FileKindWord.Directory = refl
kind_at FileKindWord.Symlink = refl
kind_at FileKindWord.Socket = refl
kind_at FileKindWord.Fifo = refl
kind_at FileKindWord.Char = refl
kind_at FileKindWord.Block = refl

pub same_kind : Decides (λ x y. kind_place x == kind_place y)
same_kind = record {
  sound = λ x y h. sym (kind_at x) ∙ ap (λ n. slice_index_or (FileKindWord.File ∷ FileKindWord.Directory ∷ FileKindWord.Symlink ∷ FileKindWord.Socket ∷ FileKindWord.Fifo ∷ FileKindWord.Char ∷ FileKindWord.Block ∷ []) n FileKindWord.File) (eqb-true (kind_place x) (kind_place y) h) ∙ kind_at y;
  full = λ x. eq-eqb (kind_place x) (kind_place x) refl;
}

element-sound : (x y : Element) → (element_place x == element_place y) ≡ true → x ≡ y
element-sound Element.Star Element.Star h = refl
element-sound Element.Star Element.NoDot h = absurd cc
element-sound Element.Star Element.One h = absurd cc
element-sound Element.Star Element.Digits h = absurd cc
element-sound Element.Star Element.Digit h = absurd cc
element-sound Element.Star Element.Hexes h = absurd cc
element-sound Element.Star Element.Hex h = absurd cc
element-sound Element.Star Element.Letters h = absurd cc
element-sound Element.Star Element.Letter h = absurd cc
element-sound Element.Star (Element.Byte c) h = let e = eqb-true (element_place Element.Star) (9 + c) h in absurd (omega (arith, e))
element-sound Element.NoDot Element.Star h = absurd cc
element-sound Element.NoDot Element.NoDot h = refl
element-sound Element.NoDot Element.One h = absurd cc
element-sound Element.NoDot Element.Digits h = absurd cc
element-sound Element.NoDot Element.Digit h = absurd cc
element-sound Element.NoDot Element.Hexes h = absurd cc
element-sound Element.NoDot Element.Hex h = absurd cc
element-sound Element.NoDot Element.Letters h = absurd cc
element-sound Element.NoDot Element.Letter h = absurd cc
element-sound Element.NoDot (Element.Byte c) h = let e = eqb-true (element_place Element.NoDot) (9 + c) h in absurd (omega (arith, e))
element-sound Element.One Element.Star h = absurd cc
element-sound Element.One Element.NoDot h = absurd cc
element-sound Element.One Element.One h = refl
element-sound Element.One Element.Digits h = absurd cc
element-sound Element.One Element.Digit h = absurd cc
element-sound Element.One Element.Hexes h = absurd cc
element-sound Element.One Element.Hex h = absurd cc
element-sound Element.One Element.Letters h = absurd cc
element-sound Element.One Element.Letter h = absurd cc
element-sound Element.One (Element.Byte c) h = let e = eqb-true (element_place Element.One) (9 + c) h in absurd (omega (arith, e))
element-sound Element.Digits Element.Star h = absurd cc
element-sound Element.Digits Element.NoDot h = absurd cc
element-sound Element.Digits Element.One h = absurd cc
element-sound Element.Digits Element.Digits h = refl
element-sound Element.Digits Element.Digit h = absurd cc
element-sound Element.Digits Element.Hexes h = absurd cc
element-sound Element.Digits Element.Hex h = absurd cc
element-sound Element.Digits Element.Letters h = absurd cc
element-sound Element.Digits Element.Letter h = absurd cc
element-sound Element.Digits (Element.Byte c) h = let e = eqb-true (element_place Element.Digits) (9 + c) h in absurd (omega (arith, e))
element-sound Element.Digit Element.Star h = absurd cc
element-sound Element.Digit Element.NoDot h = absurd cc
element-sound Element.Digit Element.One h = absurd cc
element-sound Element.Digit Element.Digits h = absurd cc
element-sound Element.Digit Element.Digit h = refl
element-sound Element.Digit Element.Hexes h = absurd cc
element-sound Element.Digit Element.Hex h = absurd cc
element-sound Element.Digit Element.Letters h = absurd cc
element-sound Element.Digit Element.Letter h = absurd cc
element-sound Element.Digit (Element.Byte c) h = let e = eqb-true (element_place Element.Digit) (9 + c) h in absurd (omega (arith, e))
element-sound Element.Hexes Element.Star h = absurd cc
element-sound Element.Hexes Element.NoDot h = absurd cc
element-sound Element.Hexes Element.One h = absurd cc
element-sound Element.Hexes Element.Digits h = absurd cc
element-sound Element.Hexes Element.Digit h = absurd cc
element-sound Element.Hexes Element.Hexes h = refl
element-sound Element.Hexes Element.Hex h = absurd cc
element-sound Element.Hexes Element.Letters h = absurd cc
element-sound Element.Hexes Element.Letter h = absurd cc
element-sound Element.Hexes (Element.Byte c) h = let e = eqb-true (element_place Element.Hexes) (9 + c) h in absurd (omega (arith, e))
element-sound Element.Hex Element.Star h = absurd cc
element-sound Element.Hex Element.NoDot h = absurd cc
element-sound Element.Hex Element.One h = absurd cc
element-sound Element.Hex Element.Digits h = absurd cc
element-sound Element.Hex Element.Digit h = absurd cc
element-sound Element.Hex Element.Hexes h = absurd cc
element-sound Element.Hex Element.Hex h = refl
element-sound Element.Hex Element.Letters h = absurd cc
element-sound Element.Hex Element.Letter h = absurd cc
element-sound Element.Hex (Element.Byte c) h = let e = eqb-true (element_place Element.Hex) (9 + c) h in absurd (omega (arith, e))
element-sound Element.Letters Element.Star h = absurd cc
element-sound Element.Letters Element.NoDot h = absurd cc
element-sound Element.Letters Element.One h = absurd cc
element-sound Element.Letters Element.Digits h = absurd cc
element-sound Element.Letters Element.Digit h = absurd cc
element-sound Element.Letters Element.Hexes h = absurd cc
element-sound Element.Letters Element.Hex h = absurd cc
element-sound Element.Letters Element.Letters h = refl
element-sound Element.Letters Element.Letter h = absurd cc
element-sound Element.Letters (Element.Byte c) h = let e = eqb-true (element_place Element.Letters) (9 + c) h in absurd (omega (arith, e))
element-sound Element.Letter Element.Star h = absurd cc
element-sound Element.Letter Element.NoDot h = absurd cc
element-sound Element.Letter Element.One h = absurd cc
element-sound Element.Letter Element.Digits h = absurd cc
element-sound Element.Letter Element.Digit h = absurd cc
element-sound Element.Letter Element.Hexes h = absurd cc
element-sound Element.Letter Element.Hex h = absurd cc
element-sound Element.Letter Element.Letters h = absurd cc
element-sound Element.Letter Element.Letter h = refl
element-sound Element.Letter (Element.Byte c) h = let e = eqb-true (element_place Element.Letter) (9 + c) h in absurd (omega (arith, e))
element-sound (Element.Byte b) Element.Star h = let e = eqb-true (9 + b) (element_place Element.Star) h in absurd (omega (arith, e))
element-sound (Element.Byte b) Element.NoDot h = let e = eqb-true (9 + b) (element_place Element.NoDot) h in absurd (omega (arith, e))
element-sound (Element.Byte b) Element.One h = let e = eqb-true (9 + b) (element_place Element.One) h in absurd (omega (arith, e))
element-sound (Element.Byte b) Element.Digits h = let e = eqb-true (9 + b) (element_place Element.Digits) h in absurd (omega (arith, e))
element-sound (Element.Byte b) Element.Digit h = let e = eqb-true (9 + b) (element_place Element.Digit) h in absurd (omega (arith, e))
element-sound (Element.Byte b) Element.Hexes h = let e = eqb-true (9 + b) (element_place Element.Hexes) h in absurd (omega (arith, e))
element-sound (Element.Byte b) Element.Hex h = let e = eqb-true (9 + b) (element_place Element.Hex) h in absurd (omega (arith, e))
element-sound (Element.Byte b) Element.Letters h = let e = eqb-true (9 + b) (element_place Element.Letters) h in absurd (omega (arith, e))
element-sound (Element.Byte b) Element.Letter h = let e = eqb-true (9 + b) (element_place Element.Letter) h in absurd (omega (arith, e))
element-sound (Element.Byte b) (Element.Byte c) h = let e = eqb-true (9 + b) (9 + c) h in let same : b ≡ c = omega (arith, e) in ap Element.Byte same

same_elements : Decides (λ x y. element_place x == element_place y)
same_elements = record { sound = element-sound; full = λ x. eq-eqb (element_place x) (element_place x) refl }

-- Names, numbers, addresses

same_parts : Decides parts_equal
same_parts = same_lists (λ x y. element_place x == element_place y) same_elements

abbrev component : Repeat → Part → List Part → Component
component r f m = record { repeat = r; first = f; minus = m }

component_by : {r s : Repeat} {f g : Part} {m n : List Part} → r ≡ s → f ≡ g → m ≡ n → component r f m ≡ component s g n
component_by {r} {s} {f} {g} {m} {n} a b c = ap (λ v. component v f m) a ∙ ap (λ v. component s v m) b ∙ ap (λ v. component s g v) c

pub same_components : Decides components_equal
same_components = record {
  sound = λ x y h.
      let outer = both (repeat_place x.repeat == repeat_place y.repeat && parts_equal x.first y.first) (lists_equal parts_equal x.minus y.minus) h in
      let inner = both (repeat_place x.repeat == repeat_place y.repeat) (parts_equal x.first y.first) outer.0 in
      let r = same_repeat.sound x.repeat y.repeat inner.0 in
      let f = same_parts.sound x.first y.first inner.1 in
      let m = (same_lists parts_equal same_parts).sound x.minus y.minus outer.1 in
      component_by r f m;
  full = λ x. all (repeat_place x.repeat == repeat_place x.repeat && parts_equal x.first x.first) (lists_equal parts_equal x.minus x.minus) (all (repeat_place x.repeat == repeat_place x.repeat) (parts_equal x.first x.first) (same_repeat.full x.repeat) (same_parts.full x.first)) ((same_lists parts_equal same_parts).full x.minus);
}

pub same_patterns : Decides patterns_equal
same_patterns = same_lists components_equal same_components

abbrev number : ℕ → Base → Number
number v b = record { value = v; base = b }

number_by : {v w : ℕ} {a b : Base} → v ≡ w → a ≡ b → number v a ≡ number w b
number_by {v} {w} {a} {b} p q = ap (λ x. number x a) p ∙ ap (λ x. number w x) q

pub same_number : Decides numbers_equal
same_number = record {
  sound = λ x y h.
      let parts = both (x.value == y.value) (base_place x.base == base_place y.base) h in
      let v = eqb-true x.value y.value parts.0 in
      let b = same_base.sound x.base y.base parts.1 in
      number_by v b;
  full = λ x. all (x.value == x.value) (base_place x.base == base_place x.base) (eq-eqb x.value x.value refl) (same_base.full x.base);
}

abbrev range : Number → Number → Range
range l h = record { low = l; high = h }

range_by : {v w : Number} {a b : Number} → v ≡ w → a ≡ b → range v a ≡ range w b
range_by {v} {w} {a} {b} p q = ap (λ x. range x a) p ∙ ap (λ x. range w x) q

pub same_ranges : Decides ranges_equal
same_ranges = record {
  sound = λ x y h.
      let parts = both (numbers_equal x.low y.low) (numbers_equal x.high y.high) h in
      let l = same_number.sound x.low y.low parts.0 in
      let k = same_number.sound x.high y.high parts.1 in
      range_by l k;
  full = λ x. all (numbers_equal x.low x.low) (numbers_equal x.high x.high) (same_number.full x.low) (same_number.full x.high);
}

addrs-sound : (x y : Addr) → addrs_equal x y ≡ true → x ≡ y
addrs-sound (Addr.V4 x) (Addr.V4 y) h = ap Addr.V4 (eqb-true x y h)
addrs-sound (Addr.V4 x) (Addr.V6 y) h = absurd cc
addrs-sound (Addr.V6 x) (Addr.V4 y) h = absurd cc
addrs-sound (Addr.V6 x) (Addr.V6 y) h = ap Addr.V6 (eqb-true x y h)

addrs-full : (x : Addr) → addrs_equal x x ≡ true
addrs-full (Addr.V4 x) = eq-eqb x x refl
addrs-full (Addr.V6 x) = eq-eqb x x refl

pub same_addrs : Decides addrs_equal
same_addrs = record { sound = addrs-sound; full = addrs-full }

names-sound : (x y : NameUnion) → names_equal x y ≡ true → x ≡ y
names-sound (NameUnion.One a0) (NameUnion.One b0) h = let e0 = same_patterns.sound a0 b0 h in ap (λ v. NameUnion.One v) e0
names-sound (NameUnion.One a0) (NameUnion.Group b0) h = absurd cc
names-sound (NameUnion.Group a0) (NameUnion.One b0) h = absurd cc
names-sound (NameUnion.Group a0) (NameUnion.Group b0) h = let e0 = same_texts.sound a0 b0 h in ap (λ v. NameUnion.Group v) e0

names-full : (x : NameUnion) → names_equal x x ≡ true
names-full (NameUnion.One a0) = same_patterns.full a0
names-full (NameUnion.Group a0) = same_texts.full a0

pub same_names : Decides names_equal
same_names = record { sound = names-sound; full = names-full }

number_unions-sound : (x y : NumberUnion) → number_unions_equal x y ≡ true → x ≡ y
number_unions-sound (NumberUnion.One a0) (NumberUnion.One b0) h = let e0 = same_ranges.sound a0 b0 h in ap (λ v. NumberUnion.One v) e0
number_unions-sound (NumberUnion.One a0) (NumberUnion.Group b0) h = absurd cc
number_unions-sound (NumberUnion.Group a0) (NumberUnion.One b0) h = absurd cc
number_unions-sound (NumberUnion.Group a0) (NumberUnion.Group b0) h = let e0 = same_texts.sound a0 b0 h in ap (λ v. NumberUnion.Group v) e0

number_unions-full : (x : NumberUnion) → number_unions_equal x x ≡ true
number_unions-full (NumberUnion.One a0) = same_ranges.full a0
number_unions-full (NumberUnion.Group a0) = same_texts.full a0

pub same_number_unions : Decides number_unions_equal
same_number_unions = record { sound = number_unions-sound; full = number_unions-full }

abbrev addr_ranges_equal : AddrRange → AddrRange → Bool
addr_ranges_equal x y = addrs_equal x.low y.low && addrs_equal x.high y.high

abbrev addr_range : Addr → Addr → AddrRange
addr_range l h = record { low = l; high = h }

addr_range_by : {v w : Addr} {a b : Addr} → v ≡ w → a ≡ b → addr_range v a ≡ addr_range w b
addr_range_by {v} {w} {a} {b} p q = ap (λ x. addr_range x a) p ∙ ap (λ x. addr_range w x) q

pub same_addr_ranges : Decides addr_ranges_equal
same_addr_ranges = record {
  sound = λ x y h.
      let parts = both (addrs_equal x.low y.low) (addrs_equal x.high y.high) h in
      let l = same_addrs.sound x.low y.low parts.0 in
      let k = same_addrs.sound x.high y.high parts.1 in
      addr_range_by l k;
  full = λ x. all (addrs_equal x.low x.low) (addrs_equal x.high x.high) (same_addrs.full x.low) (same_addrs.full x.high);
}

addr_unions-sound : (x y : AddrUnion) → addr_unions_equal x y ≡ true → x ≡ y
addr_unions-sound (AddrUnion.One a0) (AddrUnion.One b0) h = let e0 = same_addr_ranges.sound a0 b0 h in ap (λ v. AddrUnion.One v) e0
addr_unions-sound (AddrUnion.One a0) (AddrUnion.Group b0) h = absurd cc
addr_unions-sound (AddrUnion.Group a0) (AddrUnion.One b0) h = absurd cc
addr_unions-sound (AddrUnion.Group a0) (AddrUnion.Group b0) h = let e0 = same_texts.sound a0 b0 h in ap (λ v. AddrUnion.Group v) e0

addr_unions-full : (x : AddrUnion) → addr_unions_equal x x ≡ true
addr_unions-full (AddrUnion.One a0) = same_addr_ranges.full a0
addr_unions-full (AddrUnion.Group a0) = same_texts.full a0

pub same_addr_unions : Decides addr_unions_equal
same_addr_unions = record { sound = addr_unions-sound; full = addr_unions-full }

prefers-sound : (x y : Prefer) → prefers_equal x y ≡ true → x ≡ y
prefers-sound Prefer.Keep Prefer.Keep h = refl
prefers-sound Prefer.Keep Prefer.Child h = absurd cc
prefers-sound Prefer.Keep Prefer.Initialize h = absurd cc
prefers-sound Prefer.Keep Prefer.Reset h = absurd cc
prefers-sound Prefer.Keep Prefer.Parent h = absurd cc
prefers-sound Prefer.Keep (Prefer.Path b0) h = absurd cc
prefers-sound Prefer.Keep (Prefer.Domain b0) h = absurd cc
prefers-sound Prefer.Child Prefer.Keep h = absurd cc
prefers-sound Prefer.Child Prefer.Child h = refl
prefers-sound Prefer.Child Prefer.Initialize h = absurd cc
prefers-sound Prefer.Child Prefer.Reset h = absurd cc
prefers-sound Prefer.Child Prefer.Parent h = absurd cc
prefers-sound Prefer.Child (Prefer.Path b0) h = absurd cc
prefers-sound Prefer.Child (Prefer.Domain b0) h = absurd cc
prefers-sound Prefer.Initialize Prefer.Keep h = absurd cc
prefers-sound Prefer.Initialize Prefer.Child h = absurd cc
prefers-sound Prefer.Initialize Prefer.Initialize h = refl
prefers-sound Prefer.Initialize Prefer.Reset h = absurd cc
prefers-sound Prefer.Initialize Prefer.Parent h = absurd cc
prefers-sound Prefer.Initialize (Prefer.Path b0) h = absurd cc
prefers-sound Prefer.Initialize (Prefer.Domain b0) h = absurd cc
prefers-sound Prefer.Reset Prefer.Keep h = absurd cc
prefers-sound Prefer.Reset Prefer.Child h = absurd cc
prefers-sound Prefer.Reset Prefer.Initialize h = absurd cc
prefers-sound Prefer.Reset Prefer.Reset h = refl
prefers-sound Prefer.Reset Prefer.Parent h = absurd cc
prefers-sound Prefer.Reset (Prefer.Path b0) h = absurd cc
prefers-sound Prefer.Reset (Prefer.Domain b0) h = absurd cc
prefers-sound Prefer.Parent Prefer.Keep h = absurd cc
prefers-sound Prefer.Parent Prefer.Child h = absurd cc
prefers-sound Prefer.Parent Prefer.Initialize h = absurd cc
prefers-sound Prefer.Parent Prefer.Reset h = absurd cc
prefers-sound Prefer.Parent Prefer.Parent h = refl
prefers-sound Prefer.Parent (Prefer.Path b0) h = absurd cc
prefers-sound Prefer.Parent (Prefer.Domain b0) h = absurd cc
prefers-sound (Prefer.Path a0) Prefer.Keep h = absurd cc
prefers-sound (Prefer.Path a0) Prefer.Child h = absurd cc
prefers-sound (Prefer.Path a0) Prefer.Initialize h = absurd cc
prefers-sound (Prefer.Path a0) Prefer.Reset h = absurd cc
prefers-sound (Prefer.Path a0) Prefer.Parent h = absurd cc
prefers-sound (Prefer.Path a0) (Prefer.Path b0) h = let e0 = same_texts.sound a0 b0 h in ap (λ v. Prefer.Path v) e0
prefers-sound (Prefer.Path a0) (Prefer.Domain b0) h = absurd cc
prefers-sound (Prefer.Domain a0) Prefer.Keep h = absurd cc
prefers-sound (Prefer.Domain a0) Prefer.Child h = absurd cc
prefers-sound (Prefer.Domain a0) Prefer.Initialize h = absurd cc
prefers-sound (Prefer.Domain a0) Prefer.Reset h = absurd cc
prefers-sound (Prefer.Domain a0) Prefer.Parent h = absurd cc
prefers-sound (Prefer.Domain a0) (Prefer.Path b0) h = absurd cc
prefers-sound (Prefer.Domain a0) (Prefer.Domain b0) h = let e0 = same_texts.sound a0 b0 h in ap (λ v. Prefer.Domain v) e0

prefers-full : (x : Prefer) → prefers_equal x x ≡ true
prefers-full Prefer.Keep = refl
prefers-full Prefer.Child = refl
prefers-full Prefer.Initialize = refl
prefers-full Prefer.Reset = refl
prefers-full Prefer.Parent = refl
prefers-full (Prefer.Path a0) = same_texts.full a0
prefers-full (Prefer.Domain a0) = same_texts.full a0

pub same_prefers : Decides prefers_equal
same_prefers = record { sound = prefers-sound; full = prefers-full }

args-sound : (x y : Args) → args_equal x y ≡ true → x ≡ y
args-sound (Args.Path a0) (Args.Path b0) h = let e0 = same_names.sound a0 b0 h in ap (λ v. Args.Path v) e0
args-sound (Args.Path a0) (Args.Execute b0 b1) h = absurd cc
args-sound (Args.Path a0) (Args.PathNumber b0 b1) h = absurd cc
args-sound (Args.Path a0) (Args.Device b0 b1 b2 b3) h = absurd cc
args-sound (Args.Path a0) (Args.Path2 b0 b1) h = absurd cc
args-sound (Args.Path a0) (Args.Mount b0 b1 b2 b3) h = absurd cc
args-sound (Args.Path a0) (Args.Inet b0 b1 b2) h = absurd cc
args-sound (Args.Path a0) (Args.Unix b0 b1) h = absurd cc
args-sound (Args.Path a0) (Args.Env b0) h = absurd cc
args-sound (Args.Path a0) (Args.Manual b0) h = absurd cc
args-sound (Args.Execute a0 a1) (Args.Path b0) h = absurd cc
args-sound (Args.Execute a0 a1) (Args.Execute b0 b1) h = let p1 = both ((names_equal a0 b0)) (prefers_equal a1 b1) h in let e0 = same_names.sound a0 b0 p1.0 in let e1 = same_prefers.sound a1 b1 p1.1 in ap (λ v. Args.Execute v a1) e0 ∙ ap (λ v. Args.Execute b0 v) e1
args-sound (Args.Execute a0 a1) (Args.PathNumber b0 b1) h = absurd cc
args-sound (Args.Execute a0 a1) (Args.Device b0 b1 b2 b3) h = absurd cc
args-sound (Args.Execute a0 a1) (Args.Path2 b0 b1) h = absurd cc
args-sound (Args.Execute a0 a1) (Args.Mount b0 b1 b2 b3) h = absurd cc
args-sound (Args.Execute a0 a1) (Args.Inet b0 b1 b2) h = absurd cc
args-sound (Args.Execute a0 a1) (Args.Unix b0 b1) h = absurd cc
args-sound (Args.Execute a0 a1) (Args.Env b0) h = absurd cc
args-sound (Args.Execute a0 a1) (Args.Manual b0) h = absurd cc
args-sound (Args.PathNumber a0 a1) (Args.Path b0) h = absurd cc
args-sound (Args.PathNumber a0 a1) (Args.Execute b0 b1) h = absurd cc
args-sound (Args.PathNumber a0 a1) (Args.PathNumber b0 b1) h = let p1 = both ((names_equal a0 b0)) (number_unions_equal a1 b1) h in let e0 = same_names.sound a0 b0 p1.0 in let e1 = same_number_unions.sound a1 b1 p1.1 in ap (λ v. Args.PathNumber v a1) e0 ∙ ap (λ v. Args.PathNumber b0 v) e1
args-sound (Args.PathNumber a0 a1) (Args.Device b0 b1 b2 b3) h = absurd cc
args-sound (Args.PathNumber a0 a1) (Args.Path2 b0 b1) h = absurd cc
args-sound (Args.PathNumber a0 a1) (Args.Mount b0 b1 b2 b3) h = absurd cc
args-sound (Args.PathNumber a0 a1) (Args.Inet b0 b1 b2) h = absurd cc
args-sound (Args.PathNumber a0 a1) (Args.Unix b0 b1) h = absurd cc
args-sound (Args.PathNumber a0 a1) (Args.Env b0) h = absurd cc
args-sound (Args.PathNumber a0 a1) (Args.Manual b0) h = absurd cc
args-sound (Args.Device a0 a1 a2 a3) (Args.Path b0) h = absurd cc
args-sound (Args.Device a0 a1 a2 a3) (Args.Execute b0 b1) h = absurd cc
args-sound (Args.Device a0 a1 a2 a3) (Args.PathNumber b0 b1) h = absurd cc
args-sound (Args.Device a0 a1 a2 a3) (Args.Device b0 b1 b2 b3) h = let p3 = both ((names_equal a0 b0) && (number_unions_equal a1 b1) && (number_unions_equal a2 b2)) (number_unions_equal a3 b3) h in let p2 = both ((names_equal a0 b0) && (number_unions_equal a1 b1)) (number_unions_equal a2 b2) p3.0 in let p1 = both ((names_equal a0 b0)) (number_unions_equal a1 b1) p2.0 in let e0 = same_names.sound a0 b0 p1.0 in let e1 = same_number_unions.sound a1 b1 p1.1 in let e2 = same_number_unions.sound a2 b2 p2.1 in let e3 = same_number_unions.sound a3 b3 p3.1 in ap (λ v. Args.Device v a1 a2 a3) e0 ∙ ap (λ v. Args.Device b0 v a2 a3) e1 ∙ ap (λ v. Args.Device b0 b1 v a3) e2 ∙ ap (λ v. Args.Device b0 b1 b2 v) e3
args-sound (Args.Device a0 a1 a2 a3) (Args.Path2 b0 b1) h = absurd cc
args-sound (Args.Device a0 a1 a2 a3) (Args.Mount b0 b1 b2 b3) h = absurd cc
args-sound (Args.Device a0 a1 a2 a3) (Args.Inet b0 b1 b2) h = absurd cc
args-sound (Args.Device a0 a1 a2 a3) (Args.Unix b0 b1) h = absurd cc
args-sound (Args.Device a0 a1 a2 a3) (Args.Env b0) h = absurd cc
args-sound (Args.Device a0 a1 a2 a3) (Args.Manual b0) h = absurd cc
args-sound (Args.Path2 a0 a1) (Args.Path b0) h = absurd cc
args-sound (Args.Path2 a0 a1) (Args.Execute b0 b1) h = absurd cc
args-sound (Args.Path2 a0 a1) (Args.PathNumber b0 b1) h = absurd cc
args-sound (Args.Path2 a0 a1) (Args.Device b0 b1 b2 b3) h = absurd cc
args-sound (Args.Path2 a0 a1) (Args.Path2 b0 b1) h = let p1 = both ((names_equal a0 b0)) (names_equal a1 b1) h in let e0 = same_names.sound a0 b0 p1.0 in let e1 = same_names.sound a1 b1 p1.1 in ap (λ v. Args.Path2 v a1) e0 ∙ ap (λ v. Args.Path2 b0 v) e1
args-sound (Args.Path2 a0 a1) (Args.Mount b0 b1 b2 b3) h = absurd cc
args-sound (Args.Path2 a0 a1) (Args.Inet b0 b1 b2) h = absurd cc
args-sound (Args.Path2 a0 a1) (Args.Unix b0 b1) h = absurd cc
args-sound (Args.Path2 a0 a1) (Args.Env b0) h = absurd cc
args-sound (Args.Path2 a0 a1) (Args.Manual b0) h = absurd cc
args-sound (Args.Mount a0 a1 a2 a3) (Args.Path b0) h = absurd cc
args-sound (Args.Mount a0 a1 a2 a3) (Args.Execute b0 b1) h = absurd cc
args-sound (Args.Mount a0 a1 a2 a3) (Args.PathNumber b0 b1) h = absurd cc
args-sound (Args.Mount a0 a1 a2 a3) (Args.Device b0 b1 b2 b3) h = absurd cc
args-sound (Args.Mount a0 a1 a2 a3) (Args.Path2 b0 b1) h = absurd cc
args-sound (Args.Mount a0 a1 a2 a3) (Args.Mount b0 b1 b2 b3) h = let p3 = both ((names_equal a0 b0) && (names_equal a1 b1) && (names_equal a2 b2)) (number_unions_equal a3 b3) h in let p2 = both ((names_equal a0 b0) && (names_equal a1 b1)) (names_equal a2 b2) p3.0 in let p1 = both ((names_equal a0 b0)) (names_equal a1 b1) p2.0 in let e0 = same_names.sound a0 b0 p1.0 in let e1 = same_names.sound a1 b1 p1.1 in let e2 = same_names.sound a2 b2 p2.1 in let e3 = same_number_unions.sound a3 b3 p3.1 in ap (λ v. Args.Mount v a1 a2 a3) e0 ∙ ap (λ v. Args.Mount b0 v a2 a3) e1 ∙ ap (λ v. Args.Mount b0 b1 v a3) e2 ∙ ap (λ v. Args.Mount b0 b1 b2 v) e3
args-sound (Args.Mount a0 a1 a2 a3) (Args.Inet b0 b1 b2) h = absurd cc
args-sound (Args.Mount a0 a1 a2 a3) (Args.Unix b0 b1) h = absurd cc
args-sound (Args.Mount a0 a1 a2 a3) (Args.Env b0) h = absurd cc
args-sound (Args.Mount a0 a1 a2 a3) (Args.Manual b0) h = absurd cc
args-sound (Args.Inet a0 a1 a2) (Args.Path b0) h = absurd cc
args-sound (Args.Inet a0 a1 a2) (Args.Execute b0 b1) h = absurd cc
args-sound (Args.Inet a0 a1 a2) (Args.PathNumber b0 b1) h = absurd cc
args-sound (Args.Inet a0 a1 a2) (Args.Device b0 b1 b2 b3) h = absurd cc
args-sound (Args.Inet a0 a1 a2) (Args.Path2 b0 b1) h = absurd cc
args-sound (Args.Inet a0 a1 a2) (Args.Mount b0 b1 b2 b3) h = absurd cc
args-sound (Args.Inet a0 a1 a2) (Args.Inet b0 b1 b2) h = let p2 = both ((inet_place a0 == inet_place b0) && (addr_unions_equal a1 b1)) (number_unions_equal a2 b2) h in let p1 = both ((inet_place a0 == inet_place b0)) (addr_unions_equal a1 b1) p2.0 in let e0 = same_inet.sound a0 b0 p1.0 in let e1 = same_addr_unions.sound a1 b1 p1.1 in let e2 = same_number_unions.sound a2 b2 p2.1 in ap (λ v. Args.Inet v a1 a2) e0 ∙ ap (λ v. Args.Inet b0 v a2) e1 ∙ ap (λ v. Args.Inet b0 b1 v) e2
args-sound (Args.Inet a0 a1 a2) (Args.Unix b0 b1) h = absurd cc
args-sound (Args.Inet a0 a1 a2) (Args.Env b0) h = absurd cc
args-sound (Args.Inet a0 a1 a2) (Args.Manual b0) h = absurd cc
args-sound (Args.Unix a0 a1) (Args.Path b0) h = absurd cc
args-sound (Args.Unix a0 a1) (Args.Execute b0 b1) h = absurd cc
args-sound (Args.Unix a0 a1) (Args.PathNumber b0 b1) h = absurd cc
args-sound (Args.Unix a0 a1) (Args.Device b0 b1 b2 b3) h = absurd cc
args-sound (Args.Unix a0 a1) (Args.Path2 b0 b1) h = absurd cc
args-sound (Args.Unix a0 a1) (Args.Mount b0 b1 b2 b3) h = absurd cc
args-sound (Args.Unix a0 a1) (Args.Inet b0 b1 b2) h = absurd cc
args-sound (Args.Unix a0 a1) (Args.Unix b0 b1) h = let p1 = both ((unix_place a0 == unix_place b0)) (names_equal a1 b1) h in let e0 = same_unix.sound a0 b0 p1.0 in let e1 = same_names.sound a1 b1 p1.1 in ap (λ v. Args.Unix v a1) e0 ∙ ap (λ v. Args.Unix b0 v) e1
args-sound (Args.Unix a0 a1) (Args.Env b0) h = absurd cc
args-sound (Args.Unix a0 a1) (Args.Manual b0) h = absurd cc
args-sound (Args.Env a0) (Args.Path b0) h = absurd cc
args-sound (Args.Env a0) (Args.Execute b0 b1) h = absurd cc
args-sound (Args.Env a0) (Args.PathNumber b0 b1) h = absurd cc
args-sound (Args.Env a0) (Args.Device b0 b1 b2 b3) h = absurd cc
args-sound (Args.Env a0) (Args.Path2 b0 b1) h = absurd cc
args-sound (Args.Env a0) (Args.Mount b0 b1 b2 b3) h = absurd cc
args-sound (Args.Env a0) (Args.Inet b0 b1 b2) h = absurd cc
args-sound (Args.Env a0) (Args.Unix b0 b1) h = absurd cc
args-sound (Args.Env a0) (Args.Env b0) h = let e0 = same_patterns.sound a0 b0 h in ap (λ v. Args.Env v) e0
args-sound (Args.Env a0) (Args.Manual b0) h = absurd cc
args-sound (Args.Manual a0) (Args.Path b0) h = absurd cc
args-sound (Args.Manual a0) (Args.Execute b0 b1) h = absurd cc
args-sound (Args.Manual a0) (Args.PathNumber b0 b1) h = absurd cc
args-sound (Args.Manual a0) (Args.Device b0 b1 b2 b3) h = absurd cc
args-sound (Args.Manual a0) (Args.Path2 b0 b1) h = absurd cc
args-sound (Args.Manual a0) (Args.Mount b0 b1 b2 b3) h = absurd cc
args-sound (Args.Manual a0) (Args.Inet b0 b1 b2) h = absurd cc
args-sound (Args.Manual a0) (Args.Unix b0 b1) h = absurd cc
args-sound (Args.Manual a0) (Args.Env b0) h = absurd cc
args-sound (Args.Manual a0) (Args.Manual b0) h = let e0 = same_texts.sound a0 b0 h in ap (λ v. Args.Manual v) e0

args-full : (x : Args) → args_equal x x ≡ true
args-full (Args.Path a0) = same_names.full a0
args-full (Args.Execute a0 a1) = all ((names_equal a0 a0)) (prefers_equal a1 a1) (same_names.full a0) (same_prefers.full a1)
args-full (Args.PathNumber a0 a1) = all ((names_equal a0 a0)) (number_unions_equal a1 a1) (same_names.full a0) (same_number_unions.full a1)
args-full (Args.Device a0 a1 a2 a3) = all ((names_equal a0 a0) && (number_unions_equal a1 a1) && (number_unions_equal a2 a2)) (number_unions_equal a3 a3) (all ((names_equal a0 a0) && (number_unions_equal a1 a1)) (number_unions_equal a2 a2) (all ((names_equal a0 a0)) (number_unions_equal a1 a1) (same_names.full a0) (same_number_unions.full a1)) (same_number_unions.full a2)) (same_number_unions.full a3)
args-full (Args.Path2 a0 a1) = all ((names_equal a0 a0)) (names_equal a1 a1) (same_names.full a0) (same_names.full a1)
args-full (Args.Mount a0 a1 a2 a3) = all ((names_equal a0 a0) && (names_equal a1 a1) && (names_equal a2 a2)) (number_unions_equal a3 a3) (all ((names_equal a0 a0) && (names_equal a1 a1)) (names_equal a2 a2) (all ((names_equal a0 a0)) (names_equal a1 a1) (same_names.full a0) (same_names.full a1)) (same_names.full a2)) (same_number_unions.full a3)
args-full (Args.Inet a0 a1 a2) = all ((inet_place a0 == inet_place a0) && (addr_unions_equal a1 a1)) (number_unions_equal a2 a2) (all ((inet_place a0 == inet_place a0)) (addr_unions_equal a1 a1) (same_inet.full a0) (same_addr_unions.full a1)) (same_number_unions.full a2)
args-full (Args.Unix a0 a1) = all ((unix_place a0 == unix_place a0)) (names_equal a1 a1) (same_unix.full a0) (same_names.full a1)
args-full (Args.Env a0) = same_patterns.full a0
args-full (Args.Manual a0) = same_texts.full a0

pub same_args : Decides args_equal
same_args = record { sound = args-sound; full = args-full }

attrs-sound : (x y : Attr) → attrs_equal x y ≡ true → x ≡ y
attrs-sound (Attr.Task a0) (Attr.Task b0) h = let e0 = same_id.sound a0 b0 h in ap (λ v. Attr.Task v) e0
attrs-sound (Attr.Task a0) Attr.Argc h = absurd cc
attrs-sound (Attr.Task a0) Attr.Envc h = absurd cc
attrs-sound (Attr.Task a0) (Attr.Stat b0 b1) h = absurd cc
attrs-sound (Attr.Task a0) (Attr.Kind b0) h = absurd cc
attrs-sound (Attr.Task a0) (Attr.Argv b0) h = absurd cc
attrs-sound (Attr.Task a0) (Attr.Envp b0) h = absurd cc
attrs-sound (Attr.Task a0) Attr.RealPath h = absurd cc
attrs-sound (Attr.Task a0) Attr.Target h = absurd cc
attrs-sound Attr.Argc (Attr.Task b0) h = absurd cc
attrs-sound Attr.Argc Attr.Argc h = refl
attrs-sound Attr.Argc Attr.Envc h = absurd cc
attrs-sound Attr.Argc (Attr.Stat b0 b1) h = absurd cc
attrs-sound Attr.Argc (Attr.Kind b0) h = absurd cc
attrs-sound Attr.Argc (Attr.Argv b0) h = absurd cc
attrs-sound Attr.Argc (Attr.Envp b0) h = absurd cc
attrs-sound Attr.Argc Attr.RealPath h = absurd cc
attrs-sound Attr.Argc Attr.Target h = absurd cc
attrs-sound Attr.Envc (Attr.Task b0) h = absurd cc
attrs-sound Attr.Envc Attr.Argc h = absurd cc
attrs-sound Attr.Envc Attr.Envc h = refl
attrs-sound Attr.Envc (Attr.Stat b0 b1) h = absurd cc
attrs-sound Attr.Envc (Attr.Kind b0) h = absurd cc
attrs-sound Attr.Envc (Attr.Argv b0) h = absurd cc
attrs-sound Attr.Envc (Attr.Envp b0) h = absurd cc
attrs-sound Attr.Envc Attr.RealPath h = absurd cc
attrs-sound Attr.Envc Attr.Target h = absurd cc
attrs-sound (Attr.Stat a0 a1) (Attr.Task b0) h = absurd cc
attrs-sound (Attr.Stat a0 a1) Attr.Argc h = absurd cc
attrs-sound (Attr.Stat a0 a1) Attr.Envc h = absurd cc
attrs-sound (Attr.Stat a0 a1) (Attr.Stat b0 b1) h = let p1 = both ((stat_place a0 == stat_place b0)) (field_place a1 == field_place b1) h in let e0 = same_stat.sound a0 b0 p1.0 in let e1 = same_field.sound a1 b1 p1.1 in ap (λ v. Attr.Stat v a1) e0 ∙ ap (λ v. Attr.Stat b0 v) e1
attrs-sound (Attr.Stat a0 a1) (Attr.Kind b0) h = absurd cc
attrs-sound (Attr.Stat a0 a1) (Attr.Argv b0) h = absurd cc
attrs-sound (Attr.Stat a0 a1) (Attr.Envp b0) h = absurd cc
attrs-sound (Attr.Stat a0 a1) Attr.RealPath h = absurd cc
attrs-sound (Attr.Stat a0 a1) Attr.Target h = absurd cc
attrs-sound (Attr.Kind a0) (Attr.Task b0) h = absurd cc
attrs-sound (Attr.Kind a0) Attr.Argc h = absurd cc
attrs-sound (Attr.Kind a0) Attr.Envc h = absurd cc
attrs-sound (Attr.Kind a0) (Attr.Stat b0 b1) h = absurd cc
attrs-sound (Attr.Kind a0) (Attr.Kind b0) h = let e0 = same_stat.sound a0 b0 h in ap (λ v. Attr.Kind v) e0
attrs-sound (Attr.Kind a0) (Attr.Argv b0) h = absurd cc
attrs-sound (Attr.Kind a0) (Attr.Envp b0) h = absurd cc
attrs-sound (Attr.Kind a0) Attr.RealPath h = absurd cc
attrs-sound (Attr.Kind a0) Attr.Target h = absurd cc
attrs-sound (Attr.Argv a0) (Attr.Task b0) h = absurd cc
attrs-sound (Attr.Argv a0) Attr.Argc h = absurd cc
attrs-sound (Attr.Argv a0) Attr.Envc h = absurd cc
attrs-sound (Attr.Argv a0) (Attr.Stat b0 b1) h = absurd cc
attrs-sound (Attr.Argv a0) (Attr.Kind b0) h = absurd cc
attrs-sound (Attr.Argv a0) (Attr.Argv b0) h = let e0 = same_numbers.sound a0 b0 h in ap (λ v. Attr.Argv v) e0
attrs-sound (Attr.Argv a0) (Attr.Envp b0) h = absurd cc
attrs-sound (Attr.Argv a0) Attr.RealPath h = absurd cc
attrs-sound (Attr.Argv a0) Attr.Target h = absurd cc
attrs-sound (Attr.Envp a0) (Attr.Task b0) h = absurd cc
attrs-sound (Attr.Envp a0) Attr.Argc h = absurd cc
attrs-sound (Attr.Envp a0) Attr.Envc h = absurd cc
attrs-sound (Attr.Envp a0) (Attr.Stat b0 b1) h = absurd cc
attrs-sound (Attr.Envp a0) (Attr.Kind b0) h = absurd cc
attrs-sound (Attr.Envp a0) (Attr.Argv b0) h = absurd cc
attrs-sound (Attr.Envp a0) (Attr.Envp b0) h = let e0 = same_texts.sound a0 b0 h in ap (λ v. Attr.Envp v) e0
attrs-sound (Attr.Envp a0) Attr.RealPath h = absurd cc
attrs-sound (Attr.Envp a0) Attr.Target h = absurd cc
attrs-sound Attr.RealPath (Attr.Task b0) h = absurd cc
attrs-sound Attr.RealPath Attr.Argc h = absurd cc
attrs-sound Attr.RealPath Attr.Envc h = absurd cc
attrs-sound Attr.RealPath (Attr.Stat b0 b1) h = absurd cc
attrs-sound Attr.RealPath (Attr.Kind b0) h = absurd cc
attrs-sound Attr.RealPath (Attr.Argv b0) h = absurd cc
attrs-sound Attr.RealPath (Attr.Envp b0) h = absurd cc
attrs-sound Attr.RealPath Attr.RealPath h = refl
attrs-sound Attr.RealPath Attr.Target h = absurd cc
attrs-sound Attr.Target (Attr.Task b0) h = absurd cc
attrs-sound Attr.Target Attr.Argc h = absurd cc
attrs-sound Attr.Target Attr.Envc h = absurd cc
attrs-sound Attr.Target (Attr.Stat b0 b1) h = absurd cc
attrs-sound Attr.Target (Attr.Kind b0) h = absurd cc
attrs-sound Attr.Target (Attr.Argv b0) h = absurd cc
attrs-sound Attr.Target (Attr.Envp b0) h = absurd cc
attrs-sound Attr.Target Attr.RealPath h = absurd cc
attrs-sound Attr.Target Attr.Target h = refl

attrs-full : (x : Attr) → attrs_equal x x ≡ true
attrs-full (Attr.Task a0) = same_id.full a0
attrs-full Attr.Argc = refl
attrs-full Attr.Envc = refl
attrs-full (Attr.Stat a0 a1) = all ((stat_place a0 == stat_place a0)) (field_place a1 == field_place a1) (same_stat.full a0) (same_field.full a1)
attrs-full (Attr.Kind a0) = same_stat.full a0
attrs-full (Attr.Argv a0) = same_numbers.full a0
attrs-full (Attr.Envp a0) = same_texts.full a0
attrs-full Attr.RealPath = refl
attrs-full Attr.Target = refl

pub same_attrs : Decides attrs_equal
same_attrs = record { sound = attrs-sound; full = attrs-full }

rights-sound : (x y : Right) → rights_equal x y ≡ true → x ≡ y
rights-sound (Right.Numbers a0) (Right.Numbers b0) h = let e0 = same_number_unions.sound a0 b0 h in ap (λ v. Right.Numbers v) e0
rights-sound (Right.Numbers a0) (Right.Attr b0) h = absurd cc
rights-sound (Right.Numbers a0) (Right.Kind b0) h = absurd cc
rights-sound (Right.Numbers a0) (Right.Name b0) h = absurd cc
rights-sound (Right.Numbers a0) Right.Null h = absurd cc
rights-sound (Right.Attr a0) (Right.Numbers b0) h = absurd cc
rights-sound (Right.Attr a0) (Right.Attr b0) h = let e0 = same_attrs.sound a0 b0 h in ap (λ v. Right.Attr v) e0
rights-sound (Right.Attr a0) (Right.Kind b0) h = absurd cc
rights-sound (Right.Attr a0) (Right.Name b0) h = absurd cc
rights-sound (Right.Attr a0) Right.Null h = absurd cc
rights-sound (Right.Kind a0) (Right.Numbers b0) h = absurd cc
rights-sound (Right.Kind a0) (Right.Attr b0) h = absurd cc
rights-sound (Right.Kind a0) (Right.Kind b0) h = let e0 = same_kind.sound a0 b0 h in ap (λ v. Right.Kind v) e0
rights-sound (Right.Kind a0) (Right.Name b0) h = absurd cc
rights-sound (Right.Kind a0) Right.Null h = absurd cc
rights-sound (Right.Name a0) (Right.Numbers b0) h = absurd cc
rights-sound (Right.Name a0) (Right.Attr b0) h = absurd cc
rights-sound (Right.Name a0) (Right.Kind b0) h = absurd cc
rights-sound (Right.Name a0) (Right.Name b0) h = let e0 = same_names.sound a0 b0 h in ap (λ v. Right.Name v) e0
rights-sound (Right.Name a0) Right.Null h = absurd cc
rights-sound Right.Null (Right.Numbers b0) h = absurd cc
rights-sound Right.Null (Right.Attr b0) h = absurd cc
rights-sound Right.Null (Right.Kind b0) h = absurd cc
rights-sound Right.Null (Right.Name b0) h = absurd cc
rights-sound Right.Null Right.Null h = refl

rights-full : (x : Right) → rights_equal x x ≡ true
rights-full (Right.Numbers a0) = same_number_unions.full a0
rights-full (Right.Attr a0) = same_attrs.full a0
rights-full (Right.Kind a0) = same_kind.full a0
rights-full (Right.Name a0) = same_names.full a0
rights-full Right.Null = refl

pub same_rights : Decides rights_equal
same_rights = record { sound = rights-sound; full = rights-full }

abbrev clause : Attr → Bool → Right → Clause
clause l e r = record { left = l; equal = e; right = r }

clause_by : {l m : Attr} {e f : Bool} {r s : Right} → l ≡ m → e ≡ f → r ≡ s → clause l e r ≡ clause m f s
clause_by {l} {m} {e} {f} {r} {s} a b c = ap (λ v. clause v e r) a ∙ ap (λ v. clause m v r) b ∙ ap (λ v. clause m f v) c

pub same_clauses : Decides clauses_equal
same_clauses = record {
  sound = λ x y h.
      let outer = both (attrs_equal x.left y.left && beq x.equal y.equal) (rights_equal x.right y.right) h in
      let inner = both (attrs_equal x.left y.left) (beq x.equal y.equal) outer.0 in
      let l = same_attrs.sound x.left y.left inner.0 in
      let e = same_flags.sound x.equal y.equal inner.1 in
      let r = same_rights.sound x.right y.right outer.1 in
      clause_by l e r;
  full = λ x. all (attrs_equal x.left x.left && beq x.equal x.equal) (rights_equal x.right x.right) (all (attrs_equal x.left x.left) (beq x.equal x.equal) (same_attrs.full x.left) (same_flags.full x.equal)) (same_rights.full x.right);
}

abbrev cond_of : List Clause → Option Bool → Cond
cond_of c g = record { clauses = c; grant_log = g }

cond_by : {c d : List Clause} {g h : Option Bool} → c ≡ d → g ≡ h → cond_of c g ≡ cond_of d h
cond_by {c} {d} {g} {h} p q = ap (λ v. cond_of v g) p ∙ ap (λ v. cond_of d v) q

pub same_conds : Decides conds_equal
same_conds = record {
  sound = λ x y h.
      let parts = both (lists_equal clauses_equal x.clauses y.clauses) (options_equal beq x.grant_log y.grant_log) h in
      let c = (same_lists clauses_equal same_clauses).sound x.clauses y.clauses parts.0 in
      let g = (same_options beq same_flags).sound x.grant_log y.grant_log parts.1 in
      cond_by c g;
  full = λ x. all (lists_equal clauses_equal x.clauses x.clauses) (options_equal beq x.grant_log x.grant_log) ((same_lists clauses_equal same_clauses).full x.clauses) ((same_options beq same_flags).full x.grant_log);
}

-- a Bool that is true exactly where two values are equal is the test
pub is_test : {A : Type 0} (test : A → A → Bool) → Decides test → (b : Bool) (x y : A) → IsTrue b ↔ (x ≡ y) → b ≡ test x y
is_test test decides true x y h = sym (subst (λ z. test x z ≡ true) (h.0 refl) (decides.full x))
is_test test decides false x y h = go (test x y) refl
  where
    go : (c : Bool) → test x y ≡ c → false ≡ test x y
    go false e = sym e
    go true e = let q : IsTrue false = h.1 (decides.sound x y e) in absurd cc

pub args_are_same : (r : Bool) (x y : Args) → IsTrue r ↔ (x ≡ y) → r ≡ args_equal x y
args_are_same r x y h = is_test args_equal same_args r x y h

pub conds_are_same : (r : Bool) (x y : Cond) → IsTrue r ↔ (x ≡ y) → r ≡ conds_equal x y
conds_are_same r x y h = is_test conds_equal same_conds r x y h

-- two lines share one entry exactly where arguments and conditions are equal
pub lines_are_same : (x y : Entry) → IsTrue (same_line x y) ↔ ((x.args ≡ y.args) × (x.cond ≡ y.cond))
lines_are_same x y = (sound, full)
  where
    sound : IsTrue (same_line x y) → (x.args ≡ y.args) × (x.cond ≡ y.cond)
    sound h = let parts = both (args_equal x.args y.args) (conds_equal x.cond y.cond) h in (same_args.sound x.args y.args parts.0, same_conds.sound x.cond y.cond parts.1)

    full : (x.args ≡ y.args) × (x.cond ≡ y.cond) → IsTrue (same_line x y)
    full h =
        all (args_equal x.args y.args) (conds_equal x.cond y.cond)
        (subst (λ z. args_equal x.args z ≡ true) h.0 (same_args.full x.args))
        (subst (λ z. conds_equal x.cond z ≡ true) h.1 (same_conds.full x.cond))
