-- Single numbers and single addresses: what is printed is read again, and what is read is in range.
use Rattle.std.proofs.Common.{◌≡◌, ◌^◌, nat_lt, nat_le, true, Ok, refl, sym, ap, subst, ◌∙◌, arith, eq-eqb}
use Rattle.std.proofs.lemmas.Bool.{ltb-true, lt-ltb, le-leb}
use Rattle.tm_word.specs.Prelude.{Text}
use Rattle.tm_rules.specs.Types.{Addr, AddrUnion, Base, LineKind, Number, NumberUnion}
use Rattle.tm_number.specs.Addresses.{addr_le}
use Rattle.tm_number.specs.Numbers.{number_spelling, same_base, range_spelling, number_of}
use Rattle.tm_number.specs.Numbers as numbers
use Rattle.tm_number.proofs.NumberLaws.{number_again, number_small}
use Rattle.tm_addr.specs.Printing.{IsAddr, addr_spelling, same_addr, addr_range_spelling}
use Rattle.tm_addr.specs.Reading.{addr_of}
use Rattle.tm_addr.specs.Reading as addresses
use Rattle.tm_addr.proofs.AddrLaws.{addr_again}
use Rattle.tm_rules.specs.Prelude.{addrs_equal, is_addr, is_addr_value, is_number, numbers_equal}
use Rattle.tm_rules.proofs.EqualityLaws.{same_number, same_addrs}
use Rattle.tm_line.specs.Arguments.{kinded}
use Rattle.tm_line.specs.Printing as print
use Rattle.tm_line.specs.Written as lines
use Rattle.tm_line.proofs.Steps.{bind_ok, ok_is, kinded_ok, both, all}
use Rattle.tm_trace.specs.Requests.{single_number, single_address}
use Rattle.tm_line.proofs.AddrArgLaws.{addr_right}

-- ---- numbers

base_same : (b : Base) → same_base b b ≡ true
base_same Base.Decimal = refl
base_same Base.Octal = refl
base_same Base.Hex = refl

pub one_number : (x : Number) → range_spelling (numbers.range x x) ≡ number_spelling x
one_number x = rw (eq-eqb x.value x.value refl, base_same x.base) refl

-- one number for both ends, below 2^64
abbrev IsOne : NumberUnion → Type 0
IsOne n = (x : Number) × (n ≡ NumberUnion.One (numbers.range x x)) × (nat_lt x.value (2 ^ 64) ≡ true)

one_is : (n : NumberUnion) → is_number n ≡ true → IsOne n
one_is (NumberUnion.One r) h =
    let t = both (numbers_equal r.low r.high) (nat_lt r.low.value (2 ^ 64)) h in
    let same : r.low ≡ r.high = same_number.sound r.low r.high t.0 in
    (r.low, ap (λ x. NumberUnion.One (numbers.range r.low x)) (sym same), t.1)
one_is (NumberUnion.Group g) h = absurd cc

pub number_written : (x : Number) → nat_lt x.value (2 ^ 64) ≡ true → is_number (NumberUnion.One (numbers.range x x)) ≡ true
number_written x h = all (numbers_equal x x) (nat_lt x.value (2 ^ 64)) (same_number.full x) h

pub single_again : (n : NumberUnion) → is_number n ≡ true → single_number (print.number_spelling n) ≡ Ok n
unfolding single_number print.number_spelling
single_again n h =
    let t = one_is n h in
    subst (λ m. single_number (print.number_spelling m) ≡ Ok m) (sym t.1) (ap single_number (one_number t.0) ∙ rw (number_again t.0.base t.0.value (ltb-true _ _ t.2)) refl)

pub single_read : (text : Text) (n : NumberUnion) → single_number text ≡ Ok n → is_number n ≡ true
unfolding single_number
single_read text n e =
    let x = bind_ok (kinded LineKind.Number (number_of text)) (λ x. Ok (NumberUnion.One (numbers.range x x))) n e in
    let low : nat_lt x.0.value (2 ^ 64) ≡ true = lt-ltb _ _ (number_small text x.0 (kinded_ok LineKind.Number (number_of text) x.0 x.1)) in
    subst (λ m. is_number m ≡ true) (ok_is (NumberUnion.One (numbers.range x.0 x.0)) n x.2) (number_written x.0 low)

-- a number of a request is one of a line
pub number_line : (n : NumberUnion) → is_number n ≡ true → lines.is_number n ≡ true
unfolding lines.is_number
number_line n h =
    let t = one_is n h in
    let order : nat_le t.0.value t.0.value ≡ true = le-leb _ _ (omega arith) in
    subst (λ m. lines.is_number m ≡ true) (sym t.1) (rw (t.2, order) refl)

-- ---- addresses

addr_same : (a : Addr) → same_addr a a ≡ true
addr_same (Addr.V4 a) = eq-eqb a a refl
addr_same (Addr.V6 a) = eq-eqb a a refl

one_addr : (a : Addr) → addr_range_spelling (addresses.range a a) ≡ addr_spelling a
one_addr a = rw (addr_same a) refl

fits : (a : Addr) → lines.is_addr a ≡ true → IsAddr a
fits (Addr.V4 a) h = ltb-true _ _ h
fits (Addr.V6 a) h = ltb-true _ _ h

-- the range of an address is that of its family, in a request as in a line
same_range : (a : Addr) → is_addr_value a ≡ lines.is_addr a
same_range (Addr.V4 a) = refl
same_range (Addr.V6 a) = refl

abbrev IsOneAddr : AddrUnion → Type 0
IsOneAddr n = (a : Addr) × (n ≡ AddrUnion.One (addresses.range a a)) × (lines.is_addr a ≡ true)

one_addr_is : (n : AddrUnion) → is_addr n ≡ true → IsOneAddr n
one_addr_is (AddrUnion.One r) h =
    let t = both (addrs_equal r.low r.high) (is_addr_value r.low) h in
    let same : r.low ≡ r.high = same_addrs.sound r.low r.high t.0 in
    (r.low, ap (λ x. AddrUnion.One (addresses.range r.low x)) (sym same), sym (same_range r.low) ∙ t.1)
one_addr_is (AddrUnion.Group g) h = absurd cc

pub address_again : (n : AddrUnion) → is_addr n ≡ true → single_address (print.address_spelling n) ≡ Ok n
unfolding single_address print.address_spelling
address_again n h =
    let t = one_addr_is n h in
    subst (λ m. single_address (print.address_spelling m) ≡ Ok m) (sym t.1) (ap single_address (one_addr t.0) ∙ rw (addr_again t.0 (fits t.0 t.2)) refl)

pub address_read : (text : Text) (n : AddrUnion) → single_address text ≡ Ok n → is_addr n ≡ true
unfolding single_address
address_read text n e =
    let a = bind_ok (kinded LineKind.Address (addr_of text)) (λ a. Ok (AddrUnion.One (addresses.range a a))) n e in
    let right : lines.is_addr a.0 ≡ true = addr_right text a.0 (kinded_ok LineKind.Address (addr_of text) a.0 a.1) in
    subst (λ m. is_addr m ≡ true) (ok_is (AddrUnion.One (addresses.range a.0 a.0)) n a.2) (all (addrs_equal a.0 a.0) (is_addr_value a.0) (same_addrs.full a.0) (same_range a.0 ∙ right))

order_same : (a : Addr) → addr_le a a ≡ true
order_same (Addr.V4 n) = le-leb _ _ (omega arith)
order_same (Addr.V6 n) = le-leb _ _ (omega arith)

-- an address of a request is one of a line
pub address_line : (n : AddrUnion) → is_addr n ≡ true → lines.is_address n ≡ true
unfolding lines.is_address
address_line n h =
    let t = one_addr_is n h in
    subst (λ m. lines.is_address m ≡ true) (sym t.1) (rw (t.2, order_same t.0) refl)
