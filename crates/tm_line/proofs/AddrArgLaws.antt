-- Address arguments: what is written is read again, and what is read can be written.
use Rattle.std.proofs.Common.{◌≡◌, ℕ, ◌+◌, ◌-◌, ◌*◌, ◌/◌, ◌%◌, ◌<◌, ◌≤◌, ◌^◌, ◌==◌, nat_le, Bool, true, false, cond, ◌&&◌, List, [], ◌∷◌, ◌++◌, length, take, drop, Option, Some, None, option_map, option_and_then, IfSome, Result, Ok, Err, inl, inr, refl, sym, ap, subst, ◌∙◌, arith}
use Rattle.std.proofs.lemmas.Bool.{eqb-true, ltb-true, lt-ltb, leb-true, le-leb}
use Rattle.std.specs.List.{list_any, position, slice_split}
use Rattle.std.specs.Str.Parse.{digits_value}
use Rattle.tm_word.specs.Prelude.{Text, begins_with_byte}
use Rattle.tm_addr.specs.Addr.{Addr}
use Rattle.tm_addr.specs.AddrRange.{AddrRange}
use Rattle.tm_addr.specs.Addresses.{addr_le}
use Rattle.tm_addr.specs.Numbers.{is_numeral}
use Rattle.tm_addr.proofs.NumberLaws.{plain_small, value_below}
use Rattle.tm_addr.specs.declared.reading.AddrFault.{AddrFault}
use Rattle.tm_addr.specs.Reading.{octet_of, quad_of, v4_at, v4_of, group_of, with_group, with_quad, with_last, last_of, groups_after, few, groups, side_of, gap_at, whole, around, v6_at, v6_of, found_as, addr_of, single, same_family, ends_of, range, range_at, range_of}
use Rattle.tm_addr.specs.Printing.{IsAddr, addr_spelling, addr_range_spelling, same_addr}
use Rattle.tm_addr.proofs.Bounds.{group_fits, raised_fits}
use Rattle.tm_addr.proofs.Groups.{small_group}
use Rattle.tm_addr.proofs.Free.{Free}
use Rattle.tm_addr.proofs.V4Laws.{v4_free}
use Rattle.tm_addr.proofs.V6Laws.{v6_free}
use Rattle.tm_addr.proofs.AddrLaws.{range_again}
use Rattle.tm_domain.specs.LineKind.{LineKind}
use Rattle.tm_domain.specs.AddrUnion.{AddrUnion}
use Rattle.tm_line.specs.Arguments.{addr_range_word, one_address, address_word, address_at}
use Rattle.tm_line.specs.Printing.{address_spelling}
use Rattle.tm_line.specs.Written.{is_addr, is_addr_range, is_address}
use Rattle.tm_line.proofs.Steps.{bind_ok, ok_is, kinded_ok, both}
use Rattle.tm_line.proofs.GroupLaws.{or_again, or_one, or_found}

-- ---- addresses that are read fit their family

some_is : (x y : ℕ) → Some x ≡ Some y → x ≡ y
some_is x y e = cc

then_some : {A : Type 0} (o : Option A) (f : A → Option ℕ) (n : ℕ) → option_and_then f o ≡ Some n → (x : A) × (o ≡ Some x) × (f x ≡ Some n)
then_some None f n e = absurd cc
then_some (Some x) f n e = (x, refl, e)

picked : (b : Bool) (x n : ℕ) → cond b (Some x) None ≡ Some n → (b ≡ true) × (x ≡ n)
picked true x n e = (refl, cc)
picked false x n e = absurd cc

octet_is : (piece : Text) (n : ℕ) → octet_of piece ≡ Some n → n < 256
octet_is piece n e = plain_small 256 n piece e

quad_small : (a b c d n : ℕ) → a < 256 → b < 256 → c < 256 → d < 256 → ((a * 256 + b) * 256 + c) * 256 + d ≡ n → n < 2 ^ 32
quad_small a b c d n ha hb hc hd e = omega (arith, ha, hb, hc, hd, e)

quad_is : (w x y z : Text) (n : ℕ) → quad_of w x y z ≡ Some n → n < 2 ^ 32
unfolding quad_of
quad_is w x y z n e =
    let a = then_some (octet_of w) _ n e in
    let b = then_some (octet_of x) _ n a.2 in
    let c = then_some (octet_of y) _ n b.2 in
    let d = then_some (octet_of z) _ n c.2 in
    quad_small a.0 b.0 c.0 d.0 n (octet_is w a.0 a.1) (octet_is x b.0 b.1) (octet_is y c.0 c.1) (octet_is z d.0 d.1) (some_is _ n d.2)

v4_pieces : (pieces : List Text) (n : ℕ) → v4_at pieces ≡ Some n → n < 2 ^ 32
v4_pieces [] n e = absurd cc
v4_pieces (a ∷ []) n e = absurd cc
v4_pieces (a ∷ b ∷ []) n e = absurd cc
v4_pieces (a ∷ b ∷ c ∷ []) n e = absurd cc
v4_pieces (a ∷ b ∷ c ∷ d ∷ []) n e = quad_is a b c d n e
v4_pieces (a ∷ b ∷ c ∷ d ∷ x ∷ rest) n e = absurd cc

v4_small : (text : Text) (n : ℕ) → v4_of text ≡ Some n → n < 2 ^ 32
unfolding v4_of
v4_small text n e = v4_pieces (slice_split (λ b. b == 46) text) n e

group_small : (piece : Text) (n : ℕ) → group_of piece ≡ Some n → n < 65536
unfolding group_of
group_small piece n e =
    let p = picked (nat_le (length piece) 4 && is_numeral 16 piece) (digits_value 16 piece) n e in
    let q = both (nat_le (length piece) 4) (is_numeral 16 piece) p.0 in
    subst (λ k. k < 65536) p.1 (small_group piece (leb-true _ _ q.0) (value_below 16 piece q.1))

-- what holds of the value that a step gives, if it gives one
some_then : {A B : Type 0} (o : Option A) (f : A → Option B) (P : B → Type 0) → ((x : A) → o ≡ Some x → IfSome (f x) P) → IfSome (option_and_then f o) P
some_then None f P h = tt
some_then (Some x) f P h = h x refl

quad_fits : (o : Option ℕ) (v n : ℕ) → v < 65536 ^ n → ((a : ℕ) → o ≡ Some a → a < 2 ^ 32) → IfSome (option_map (λ a. with_quad (groups v n) a) o) (λ g. g.value < 65536 ^ g.count)
quad_fits None v n h k = tt
quad_fits (Some a) v n h k =
    let low : a < 2 ^ 32 = k a refl in
    group_fits (v * 65536 + a / 65536) (a % 65536) (n + 1) (group_fits v (a / 65536) n h (omega (arith, low))) (omega arith)

last_by : (dotted : Bool) (piece : Text) (o : Option ℕ) (v n : ℕ) → v < 65536 ^ n → ((x : ℕ) → o ≡ Some x → x < 65536) → IfSome (with_last dotted (groups v n) piece o) (λ g. g.value < 65536 ^ g.count)
last_by dotted piece (Some x) v n h k = group_fits v x n h (k x refl)
last_by true piece None v n h k = quad_fits (v4_of piece) v n h (v4_small piece)
last_by false piece None v n h k = tt

after_fits : (dotted : Bool) (pieces : List Text) (v n : ℕ) → v < 65536 ^ n → IfSome (groups_after dotted (groups v n) pieces) (λ g. g.value < 65536 ^ g.count)
unfolding groups_after last_of
after_fits dotted [] v n h = h
after_fits dotted (piece ∷ []) v n h = last_by dotted piece (group_of piece) v n h (group_small piece)
after_fits dotted (piece ∷ next ∷ rest) v n h =
    some_then (group_of piece) (λ x. groups_after dotted (with_group (groups v n) x) (next ∷ rest)) (λ g. g.value < 65536 ^ g.count)
    (λ x e. after_fits dotted (next ∷ rest) (v * 65536 + x) (n + 1) (group_fits v x n h (group_small piece x e)))

some_mapped : {A : Type 0} (f : Option A → Option A) (o : Option A) (P Q : A → Type 0) → f None ≡ None → ((x : A) → P x → IfSome (f (Some x)) Q) → IfSome o P → IfSome (f o) Q
some_mapped f None P Q none one h = subst (λ r. IfSome r Q) (sym none) tt
some_mapped f (Some x) P Q none one h = one x h

few_fits : (v n : ℕ) → v < 65536 ^ n → IfSome (few (Some (groups v n))) (λ g. (g.value < 65536 ^ g.count) × (g.count ≤ 8))
few_fits v n h = by_count (nat_le n 8) refl
  where
    by_count : (b : Bool) → nat_le n 8 ≡ b → IfSome (cond b (Some (groups v n)) None) (λ g. (g.value < 65536 ^ g.count) × (g.count ≤ 8))
    by_count true e = (h, leb-true _ _ e)
    by_count false e = tt

side_fits : (dotted : Bool) (text : Text) → IfSome (side_of dotted text) (λ g. (g.value < 65536 ^ g.count) × (g.count ≤ 8))
unfolding side_of
side_fits dotted [] = (omega arith, omega arith)
side_fits dotted (b ∷ text) =
    some_mapped few (groups_after dotted (groups 0 0) (slice_split (λ c. c == 58) (b ∷ text))) (λ g. g.value < 65536 ^ g.count) (λ g. (g.value < 65536 ^ g.count) × (g.count ≤ 8)) refl (λ g h. few_fits g.value g.count h)
    (after_fits dotted (slice_split (λ c. c == 58) (b ∷ text)) 0 0 (omega arith))

value_at : (v n : ℕ) → v < 65536 ^ n → n ≡ 8 → v < 2 ^ 128
value_at v n h e = let at : 65536 ^ n ≡ 65536 ^ 8 = ap (λ i. 65536 ^ i) e in omega (arith, h, at)

whole_fits : (v n : ℕ) → v < 65536 ^ n → IfSome (whole (groups v n)) (λ a. a < 2 ^ 128)
whole_fits v n h = by_count (n == 8) refl
  where
    by_count : (b : Bool) → (n == 8) ≡ b → IfSome (cond b (Some v) None) (λ a. a < 2 ^ 128)
    by_count true e = value_at v n h (eqb-true _ _ e)
    by_count false e = tt

around_by : (v n w m : ℕ) → v < 65536 ^ n → w < 65536 ^ m → IfSome (around (groups v n) (groups w m)) (λ a. a < 2 ^ 128)
around_by v n w m h k = by_count (nat_le (n + m) 7) refl
  where
    by_count : (b : Bool) → nat_le (n + m) 7 ≡ b → IfSome (cond b (Some (v * 65536 ^ (8 - n) + w)) None) (λ a. a < 2 ^ 128)
    by_count true e = let le : n + m ≤ 7 = leb-true _ _ e in raised_fits v w n m h k (omega (arith, le))
    by_count false e = tt

-- what holds of the value that a step gave
some_at : {A : Type 0} (o : Option A) (P : A → Type 0) (x : A) → IfSome o P → o ≡ Some x → P x
some_at o P x h e = subst (λ r. IfSome r P) e h

v6_fits : (gap : Option ℕ) (text : Text) → IfSome (v6_at gap text) (λ a. a < 2 ^ 128)
v6_fits None text =
    some_then (side_of true text) whole (λ a. a < 2 ^ 128) (λ g e. whole_fits g.value g.count (some_at (side_of true text) (λ m. (m.value < 65536 ^ m.count) × (m.count ≤ 8)) g (side_fits true text) e).0)
v6_fits (Some k) text =
    some_then (side_of false (take k text)) (λ front. option_and_then (λ back. around front back) (side_of true (drop (k + 2) text))) (λ a. a < 2 ^ 128)
    (λ front e. some_then (side_of true (drop (k + 2) text)) (λ back. around front back) (λ a. a < 2 ^ 128)
    (λ back f. around_by front.value front.count back.value back.count
    (some_at (side_of false (take k text)) (λ m. (m.value < 65536 ^ m.count) × (m.count ≤ 8)) front (side_fits false (take k text)) e).0
    (some_at (side_of true (drop (k + 2) text)) (λ m. (m.value < 65536 ^ m.count) × (m.count ≤ 8)) back (side_fits true (drop (k + 2) text)) f).0))

v6_small : (text : Text) (n : ℕ) → v6_of text ≡ Some n → n < 2 ^ 128
unfolding v6_of
v6_small text n e = some_at (v6_of text) (λ a. a < 2 ^ 128) n (v6_fits (gap_at 0 text) text) e

abbrev addr_done : Addr → Result Addr AddrFault
addr_done a = Ok a

family_fits : (family : ℕ → Addr) (o : Option ℕ) (a : Addr) → ((n : ℕ) → o ≡ Some n → is_addr (family n) ≡ true) → found_as family o ≡ addr_done a → is_addr a ≡ true
family_fits family None a h e = absurd cc
family_fits family (Some n) a h e = let same : family n ≡ a = cc in subst (λ b. is_addr b ≡ true) same (h n refl)

addr_by : (colon : Bool) (text : Text) (a : Addr) → cond colon (found_as Addr.V6 (v6_of text)) (found_as Addr.V4 (v4_of text)) ≡ addr_done a → is_addr a ≡ true
addr_by true text a e = family_fits Addr.V6 (v6_of text) a (λ n h. lt-ltb _ _ (v6_small text n h)) e
addr_by false text a e = family_fits Addr.V4 (v4_of text) a (λ n h. lt-ltb _ _ (v4_small text n h)) e

pub addr_right : (text : Text) (a : Addr) → addr_of text ≡ addr_done a → is_addr a ≡ true
unfolding addr_of
addr_right text a e = addr_by (list_any (λ b. b == 58) text) text a e

-- ---- ranges that are read

abbrev range_done : AddrRange → Result AddrRange AddrFault
range_done r = Ok r

abbrev IsRight : Result Addr AddrFault → Type 0
IsRight (Ok a) = is_addr a ≡ true
IsRight (Err fault) = Unit {0}

right_from : (text : Text) (r : Result Addr AddrFault) → addr_of text ≡ r → IsRight r
right_from text (Ok a) e = addr_right text a e
right_from text (Err fault) e = tt

same_le : (a : Addr) → addr_le a a ≡ true
same_le (Addr.V4 n) = le-leb _ _ (omega arith)
same_le (Addr.V6 n) = le-leb _ _ (omega arith)

single_right : (a : Result Addr AddrFault) (r : AddrRange) → IsRight a → single a ≡ range_done r → is_addr_range r ≡ true
single_right (Ok a) r h e = let same : range a a ≡ r = cc in subst (λ q. is_addr_range q ≡ true) same (rw (h, same_le a) refl)
single_right (Err fault) r h e = absurd cc

both_right : (low high : Addr) (family order : Bool) (r : AddrRange) → is_addr low ≡ true → is_addr high ≡ true → addr_le low high ≡ order
    → cond family (cond order (Ok (range low high)) (Err AddrFault.Backwards)) (Err AddrFault.Mixed) ≡ range_done r → is_addr_range r ≡ true
both_right low high false order r h k le e = absurd cc
both_right low high true false r h k le e = absurd cc
both_right low high true true r h k le e = let same : range low high ≡ r = cc in subst (λ q. is_addr_range q ≡ true) same (rw (h, k, le) refl)

ends_right : (a b : Result Addr AddrFault) (r : AddrRange) → IsRight a → IsRight b → ends_of a b ≡ range_done r → is_addr_range r ≡ true
ends_right (Ok low) (Ok high) r h k e = both_right low high (same_family low high) (addr_le low high) r h k refl e
ends_right (Ok low) (Err fault) r h k e = absurd cc
ends_right (Err fault) b r h k e = absurd cc

range_by : (cut : Option ℕ) (text : Text) (r : AddrRange) → range_at cut text ≡ range_done r → is_addr_range r ≡ true
range_by None text r e = single_right (addr_of text) r (right_from text (addr_of text) refl) e
range_by (Some k) text r e =
    ends_right (addr_of (take k text)) (addr_of (drop (k + 1) text)) r (right_from (take k text) (addr_of (take k text)) refl) (right_from (drop (k + 1) text) (addr_of (drop (k + 1) text)) refl) e

range_right : (text : Text) (r : AddrRange) → range_of text ≡ range_done r → is_addr_range r ≡ true
unfolding range_of
range_right text r e = range_by (position (λ b. b == 45) text) text r e

pub range_read : (text : Text) (r : AddrRange) → addr_range_word text ≡ Ok r → is_addr_range r ≡ true
unfolding addr_range_word
range_read text r e = range_right text r (kinded_ok LineKind.Address (range_of text) r e)

-- ---- a range's text doesn't begin with `@`

free_front : (xs : Text) → Free 64 xs → begins_with_byte 64 xs ≡ false
free_front [] h = refl
free_front (x ∷ xs) h = h.0

free_before : (xs ys : Text) → Free 64 xs → begins_with_byte 64 ys ≡ false → begins_with_byte 64 (xs ++ ys) ≡ false
free_before [] ys h k = k
free_before (x ∷ xs) ys h k = h.0

fits : (a : Addr) → is_addr a ≡ true → IsAddr a
fits (Addr.V4 a) h = ltb-true _ _ h
fits (Addr.V6 a) h = ltb-true _ _ h

no_at : (a : Addr) → IsAddr a → Free 64 (addr_spelling a)
no_at (Addr.V4 a) h = v4_free 64 a (omega arith) refl h
no_at (Addr.V6 a) h = v6_free 64 a (omega arith) refl

front_by : (low high : Text) (t : Bool) → Free 64 low → begins_with_byte 64 (cond t low (low ++ 45 ∷ high)) ≡ false
front_by low high true h = free_front low h
front_by low high false h = free_before low (45 ∷ high) h refl

-- ---- arguments

pub record Ends (r : AddrRange) : Type 0 where
  pub low : IsAddr r.low
  pub high : IsAddr r.high
  pub ordered : addr_le r.low r.high ≡ true

pub ends : (r : AddrRange) → is_addr_range r ≡ true → Ends r
ends r h =
    let b = both (is_addr r.low && is_addr r.high) (addr_le r.low r.high) h in
    let a = both (is_addr r.low) (is_addr r.high) b.0 in
    record { low = fits r.low a.0; high = fits r.high a.1; ordered = b.1 }

pub range_written : (r : AddrRange) → is_addr_range r ≡ true → addr_range_word (addr_range_spelling r) ≡ Ok r
unfolding addr_range_word
range_written r h = let is = ends r h in rw (range_again r is.low is.high is.ordered) refl

pub address_again : (n : AddrUnion) → is_address n ≡ true → address_word (address_spelling n) ≡ Ok n
unfolding address_word address_spelling is_address
address_again (AddrUnion.One r) h =
    or_one AddrUnion.Group one_address (addr_range_spelling r) (front_by (addr_spelling r.low) (addr_spelling r.high) (same_addr r.low r.high) (no_at r.low (ends r h).low)) ∙ rw (range_written r h) refl
address_again (AddrUnion.Group g) h = or_again AddrUnion.Group one_address g h

pub address_read : (text : Text) (n : AddrUnion) → address_word text ≡ Ok n → is_address n ≡ true
unfolding address_word is_address
address_read text n e =
    elim (or_found AddrUnion.Group one_address text n e) [
      | inl x ↦ subst (λ m. is_address m ≡ true) x.3 x.1
      | inr x ↦ let r = bind_ok (addr_range_word text) (λ q. Ok (AddrUnion.One q)) n x.1 in subst (λ m. is_address m ≡ true) (ok_is (AddrUnion.One r.0) n r.2) (range_read text r.0 r.1)
    ]

pub address_at_again : (n : AddrUnion) (more : List Text) → is_address n ≡ true → address_at (address_spelling n ∷ more) ≡ Ok (n, more)
unfolding address_at
address_at_again n more h = rw (address_again n h) refl

pub address_at_read : (words : List Text) (x : AddrUnion × List Text) → address_at words ≡ Ok x → is_address x.0 ≡ true
unfolding address_at
address_at_read [] x e = absurd cc
address_at_read (word ∷ words) x e =
    let n = bind_ok (address_word word) (λ m. Ok (m, words)) x e in
    let made : AddrUnion × List Text = (n.0, words) in
    let same : made ≡ x = ok_is made x n.2 in
    subst (λ (y : AddrUnion × List Text). is_address y.0 ≡ true) same (address_read word n.0 n.1)
