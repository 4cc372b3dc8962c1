-- An address or a range of addresses that is written is read again.
use Rattle.std.proofs.Common.{◌≡◌, ◌+◌, ◌==◌, Bool, true, false, cond, ◌∷◌, ◌++◌, length, take, drop, Ok, refl, ap, ◌∙◌, arith}
use Rattle.std.specs.List.{list_any}
use Rattle.std.proofs.lemmas.Bool.{eqb-true}
use Rattle.std.proofs.lemmas.List.{take_at}
use Rattle.std.proofs.Math.Seq.{drop-append-add}
use Rattle.tm_number.specs.declared.Addr.{Addr}
use Rattle.tm_number.specs.declared.AddrRange.{AddrRange}
use Rattle.tm_number.specs.Addresses.{addr_le}
use Rattle.tm_addr.specs.Reading.{found_as, addr_of, single, same_family, ends_of, range, range_at, range_of}
use Rattle.tm_addr.specs.Printing.{v4_spelling, addr_spelling, same_addr, addr_range_spelling, IsAddr}
use Rattle.tm_addr.proofs.Free.{Free, none_free, place_none, place_at}
use Rattle.tm_addr.proofs.V4Laws.{v4_again, v4_free}
use Rattle.tm_addr.proofs.V6Laws.{v6_again, v6_free, v6_colon}

pub addr_again : (a : Addr) → IsAddr a → addr_of (addr_spelling a) ≡ Ok a
unfolding addr_of
addr_again (Addr.V4 a) h =
    let no : list_any (λ b. b == 58) (v4_spelling a) ≡ false = none_free 58 (v4_spelling a) (v4_free 58 a (omega arith) refl h) in
    rw no (ap (found_as Addr.V4) (v4_again a h))
addr_again (Addr.V6 a) h = rw (v6_colon a) (ap (found_as Addr.V6) (v6_again a h))

no_minus : (a : Addr) → IsAddr a → Free 45 (addr_spelling a)
no_minus (Addr.V4 a) h = v4_free 45 a (omega arith) refl h
no_minus (Addr.V6 a) h = v6_free 45 a (omega arith) refl

one_end : (a : Addr) → IsAddr a → range_of (addr_spelling a) ≡ Ok (range a a)
unfolding range_of
one_end a h = ap (λ o. range_at o (addr_spelling a)) (place_none 45 (addr_spelling a) (no_minus a h)) ∙ ap single (addr_again a h)

families : (low high : Addr) → addr_le low high ≡ true → same_family low high ≡ true
families (Addr.V4 low) (Addr.V4 high) h = refl
families (Addr.V6 low) (Addr.V6 high) h = refl
families (Addr.V4 low) (Addr.V6 high) h = absurd cc
families (Addr.V6 low) (Addr.V4 high) h = absurd cc

two_ends : (low high : Addr) → IsAddr low → IsAddr high → addr_le low high ≡ true → range_of (addr_spelling low ++ 45 ∷ addr_spelling high) ≡ Ok (range low high)
unfolding range_of
two_ends low high l h le =
    let ls = addr_spelling low in
    let hs = addr_spelling high in
    let front : take (length ls) (ls ++ 45 ∷ hs) ≡ ls = take_at ls (45 ∷ hs) (length ls) refl in
    let back : drop (length ls + 1) (ls ++ 45 ∷ hs) ≡ hs = drop-append-add ls (45 ∷ hs) 1 in
    ap (λ o. range_at o (ls ++ 45 ∷ hs)) (place_at 45 ls hs refl (no_minus low l))
    ∙ ap (λ xs. ends_of (addr_of xs) (addr_of (drop (length ls + 1) (ls ++ 45 ∷ hs)))) front
    ∙ ap (λ xs. ends_of (addr_of ls) (addr_of xs)) back
    ∙ rw (addr_again low l, addr_again high h, families low high le, le) refl

same_is : (low high : Addr) → same_addr low high ≡ true → low ≡ high
same_is (Addr.V4 low) (Addr.V4 high) e = ap Addr.V4 (eqb-true _ _ e)
same_is (Addr.V6 low) (Addr.V6 high) e = ap Addr.V6 (eqb-true _ _ e)
same_is (Addr.V4 low) (Addr.V6 high) e = absurd cc
same_is (Addr.V6 low) (Addr.V4 high) e = absurd cc

by_ends : (low high : Addr) (b : Bool) → same_addr low high ≡ b → IsAddr low → IsAddr high → addr_le low high ≡ true
    → range_of (cond b (addr_spelling low) (addr_spelling low ++ 45 ∷ addr_spelling high)) ≡ Ok (range low high)
by_ends low high true e l h le = one_end low l ∙ ap (λ (x : Addr). Ok (range low x)) (same_is low high e)
by_ends low high false e l h le = two_ends low high l h le

pub range_again : (r : AddrRange) → IsAddr r.low → IsAddr r.high → addr_le r.low r.high ≡ true → range_of (addr_range_spelling r) ≡ Ok r
range_again r l h le = by_ends r.low r.high (same_addr r.low r.high) refl l h le
