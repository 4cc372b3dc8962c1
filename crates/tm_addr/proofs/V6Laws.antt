-- An IPv6 address that is written is read again.
use Rattle.std.proofs.Common.{◌≡◌, ℕ, zero, suc, ◌+◌, ◌-◌, ◌*◌, ◌/◌, ◌%◌, ◌<◌, ◌≤◌, ◌^◌, ◌==◌, nat_lt, nat_le, Bool, true, false, cond, List, [], ◌∷◌, ◌++◌, length, take, drop, Some, None, refl, sym, ap, subst, ◌∙◌, arith, rules, add-one, append-nil, length-drop, length-take-le, eq-eqb}
use Rattle.std.specs.List.{list_any}
use Rattle.std.proofs.lemmas.Bool.{eqb-true, le-leb}
use Rattle.std.proofs.lemmas.Bool.Decides.{nat_tests}
use Rattle.std.proofs.lemmas.List.{take_at, take-append-drop}
use Rattle.std.proofs.Math.Seq.{drop-append-add, drop-nil}
use Rattle.std.proofs.Math.Nat.{mod-eq_of_lt, mod-lt, div-div-eq-div-mul, div-one, pow-suc}
use Rattle.std.proofs.lemmas.Nat.{pow-add, div-add-mod'}
use Rattle.tm_addr.specs.declared.reading.Groups.{Groups}
use Rattle.tm_addr.specs.declared.printing.Run.{Run}
use Rattle.tm_addr.specs.Reading.{◌>>=◌, groups, no_groups, with_group, side_of, gap_at, whole, around, v6_at, v6_of}
use Rattle.std.specs.Char.{digit_value}
use Rattle.tm_addr.specs.Printing.{group_at, group_spelling, groups_in, zeros, run, longer, longest, joined, v6_spelling}
use Rattle.tm_addr.proofs.GroupLaws.{Small, all_groups, side_again, count_all, gap_joined, joined_free}
use Rattle.tm_addr.proofs.Free.{Free, free_append, some_at}

-- ---- the groups of an address give it back

step : (a p : ℕ) → a / p ≡ a / (p * 65536) * 65536 + a / p % 65536
step a p = let nested : a / p / 65536 ≡ a / (p * 65536) = div-div-eq-div-mul a p 65536 in omega (arith, nested, div-add-mod' (a / p) 65536)

chain : (g7 g6 g5 g4 g3 g2 g1 g0 h7 h6 h5 h4 h3 h2 h1 h0 : ℕ) → g7 ≡ h7 → h6 ≡ h7 * 65536 + g6 → h5 ≡ h6 * 65536 + g5 → h4 ≡ h5 * 65536 + g4 → h3 ≡ h4 * 65536 + g3 → h2 ≡ h3 * 65536 + g2 → h1 ≡ h2 * 65536 + g1 → h0 ≡ h1 * 65536 + g0
    → (((((((((0 * 65536 + g7) * 65536 + g6) * 65536 + g5) * 65536 + g4) * 65536 + g3) * 65536 + g2) * 65536) + g1) * 65536 + g0) ≡ h0
chain g7 g6 g5 g4 g3 g2 g1 g0 h7 h6 h5 h4 h3 h2 h1 h0 e7 e6 e5 e4 e3 e2 e1 e0 = omega (arith, e7, e6, e5, e4, e3, e2, e1, e0)

pub groups_value : (a : ℕ) → a < 2 ^ 128 → (all_groups no_groups (groups_in a)).value ≡ a
unfolding groups_in
groups_value a h =
    let top : a / 65536 ^ 7 % 65536 ≡ a / 65536 ^ 7 = mod-eq_of_lt (omega (arith, h)) in
    chain (group_at a 7) (group_at a 6) (group_at a 5) (group_at a 4) (group_at a 3) (group_at a 2) (group_at a 1) (group_at a 0)
    (a / 65536 ^ 7) (a / 65536 ^ 6) (a / 65536 ^ 5) (a / 65536 ^ 4) (a / 65536 ^ 3) (a / 65536 ^ 2) (a / 65536 ^ 1) (a / 65536 ^ 0)
    top (step a (65536 ^ 6)) (step a (65536 ^ 5)) (step a (65536 ^ 4)) (step a (65536 ^ 3)) (step a (65536 ^ 2)) (step a (65536 ^ 1)) (step a (65536 ^ 0))
    ∙ div-one a

groups_small : (a : ℕ) → Small (groups_in a)
unfolding groups_in
groups_small a =
    let s = λ (n : ℕ). below n in
    (s 7, (s 6, (s 5, (s 4, (s 3, (s 2, (s 1, (s 0, tt))))))))
  where
    below : (n : ℕ) → a / 65536 ^ n % 65536 < 65536
    below n = mod-lt (a / 65536 ^ n) (omega arith)

groups_eight : (a : ℕ) → length (groups_in a) ≡ 8
unfolding groups_in
groups_eight a = refl

small_take : (n : ℕ) (gs : List ℕ) → Small gs → Small (take n gs)
small_take zero gs h = tt
small_take (suc n) [] h = tt
small_take (suc n) (g ∷ gs) h = (h.0, small_take n gs h.1)

small_drop : (n : ℕ) (gs : List ℕ) → Small gs → Small (drop n gs)
small_drop zero gs h = h
small_drop (suc n) [] h = tt
small_drop (suc n) (g ∷ gs) h = small_drop n gs h.1

-- ---- values of groups in a row

all_append : (before : Groups) (xs ys : List ℕ) → all_groups before (xs ++ ys) ≡ all_groups (all_groups before xs) ys
all_append before [] ys = refl
all_append before (x ∷ xs) ys = all_append (with_group before x) xs ys

spread : (v x p q w : ℕ) → q ≡ p * 65536 → (v * 65536 + x) * p + w ≡ v * q + ((0 * 65536 + x) * p + w)
spread v x p q w e = rw e (grind arith)

value_from : (v n : ℕ) (xs : List ℕ) → (all_groups (groups v n) xs).value ≡ v * 65536 ^ length xs + (all_groups no_groups xs).value
value_from v n [] = omega arith
value_from v n (x ∷ xs) =
    value_from (v * 65536 + x) (n + 1) xs
    ∙ spread v x (65536 ^ length xs) (65536 ^ suc (length xs)) (all_groups no_groups xs).value (pow-suc 65536 (length xs))
    ∙ ap (λ w. v * 65536 ^ suc (length xs) + w) (sym (value_from (0 * 65536 + x) (0 + 1) xs))

value_all : (before : Groups) (gs : List ℕ) → (all_groups before gs).value ≡ before.value * 65536 ^ length gs + (all_groups no_groups gs).value
value_all before gs = value_from before.value before.count gs

-- so many zero groups stand in front
zero_shift : (v g p q : ℕ) → g ≡ 0 → q ≡ p * 65536 → (v * 65536 + g) * p ≡ v * q
zero_shift v g p q z e = rw (z, e) (grind arith)

zero_groups : (before : Groups) (n : ℕ) (gs : List ℕ) → n ≤ zeros gs → (all_groups before (take n gs)).value ≡ before.value * 65536 ^ n
zero_groups before zero gs h = omega arith
zero_groups before (suc n) [] h = absurd (omega (arith, h))
zero_groups before (suc n) (g ∷ gs) h =
    let is = first_zero (g == 0) n h in
    zero_groups (with_group before g) n gs is.1 ∙ zero_shift before.value g (65536 ^ n) (65536 ^ suc n) (eqb-true _ _ is.0) (pow-suc 65536 n)
  where
    first_zero : (b : Bool) (m : ℕ) → suc m ≤ cond b (zeros gs + 1) 0 → (b ≡ true) × (m ≤ zeros gs)
    first_zero true m le = (refl, omega (arith, le))
    first_zero false m le = absurd (omega (arith, le))

zeros_within : (gs : List ℕ) → zeros gs ≤ length gs
zeros_within [] = omega arith
zeros_within (g ∷ gs) = bounded (g == 0) (zeros_within gs)
  where
    bounded : (b : Bool) → zeros gs ≤ length gs → cond b (zeros gs + 1) 0 ≤ suc (length gs)
    bounded true h = omega (arith, h)
    bounded false h = omega arith

-- ---- the run of zero groups is one

rest_of : (k : ℕ) (all : List ℕ) (x : ℕ) (rest : List ℕ) → x ∷ rest ≡ drop k all → rest ≡ drop (suc k) all
rest_of zero [] x rest e = absurd cc
rest_of zero (y ∷ all) x rest e = cc
rest_of (suc k) [] x rest e = absurd cc
rest_of (suc k) (y ∷ all) x rest e = rest_of k all x rest e

drop_twice : (p l : ℕ) (gs : List ℕ) → drop l (drop p gs) ≡ drop (p + l) gs
drop_twice zero l gs = ap (λ i. drop i gs) (omega arith)
drop_twice (suc p) l [] = drop-nil l ∙ sym (drop-nil (suc p + l))
drop_twice (suc p) l (g ∷ gs) = let e : suc (p + l) ≡ suc p + l = omega arith in drop_twice p l gs ∙ ap (λ i. drop i (g ∷ gs)) e

zero_run : (best : Run) (k : ℕ) (all xs : List ℕ) → xs ≡ drop k all → best.length ≤ zeros (drop best.place all) → (longest best k xs).length ≤ zeros (drop (longest best k xs).place all)
unfolding longest
zero_run best k all [] e h = h
zero_run best k all (x ∷ rest) e h = zero_run (longer best (run k (zeros (x ∷ rest)))) (k + 1) all rest (rw add-one (rest_of k all x rest e)) (kept (nat_lt best.length (zeros (x ∷ rest))))
  where
    kept : (b : Bool) → (cond b (run k (zeros (x ∷ rest))) best).length ≤ zeros (drop (cond b (run k (zeros (x ∷ rest))) best).place all)
    kept true = subst (λ ys. zeros (x ∷ rest) ≤ zeros ys) e (omega arith)
    kept false = h

-- the value of highest groups, of zeros after them, and of the lowest
around_value : (fs zs bs : List ℕ) (l : ℕ) → (all_groups (all_groups no_groups fs) zs).value ≡ (all_groups no_groups fs).value * 65536 ^ l → l + length bs ≡ 8 - length fs
    → (all_groups no_groups (fs ++ (zs ++ bs))).value ≡ (all_groups no_groups fs).value * 65536 ^ (8 - length fs) + (all_groups no_groups bs).value
around_value fs zs bs l z e =
    ap (λ (g : Groups). g.value) (all_append no_groups fs (zs ++ bs) ∙ all_append (all_groups no_groups fs) zs bs)
    ∙ value_all (all_groups (all_groups no_groups fs) zs) bs
    ∙ together (all_groups (all_groups no_groups fs) zs).value (all_groups no_groups fs).value (all_groups no_groups bs).value (65536 ^ l) (65536 ^ length bs) (65536 ^ (8 - length fs)) z (ap (λ i. 65536 ^ i) (sym e) ∙ pow-add 65536 l (length bs))
  where
    together : (m v w p q r : ℕ) → m ≡ v * p → r ≡ p * q → m * q + w ≡ v * r + w
    together m v w p q r a b = rw (a, b) (grind arith)

around_again : (front back : Groups) (a : ℕ) → front.count + back.count ≤ 7 → front.value * 65536 ^ (8 - front.count) + back.value ≡ a → around front back ≡ Some a
around_again front back a h e = let yes : nat_le (front.count + back.count) 7 ≡ true = le-leb _ _ h in rw yes (ap Some e)

read_around : (fs bs : List ℕ) (a : ℕ) → Small fs → Small bs → length fs + length bs ≤ 7 → (all_groups no_groups fs).value * 65536 ^ (8 - length fs) + (all_groups no_groups bs).value ≡ a
    → v6_of (joined fs ++ 58 ∷ 58 ∷ joined bs) ≡ Some a
unfolding v6_of
read_around fs bs a sf sb few e =
    let text = joined fs ++ 58 ∷ 58 ∷ joined bs in
    let gap : gap_at 0 text ≡ Some (length (joined fs)) = gap_joined 0 fs (58 ∷ 58 ∷ joined bs) sf ∙ ap Some (omega arith) in
    let front : take (length (joined fs)) text ≡ joined fs = take_at (joined fs) (58 ∷ 58 ∷ joined bs) (length (joined fs)) refl in
    let back : drop (length (joined fs) + 2) text ≡ joined bs = drop-append-add (joined fs) (58 ∷ 58 ∷ joined bs) 2 in
    let highest = side_again false fs sf (omega (arith, few)) in
    let lowest = side_again true bs sb (omega (arith, few)) in
    let cf = count_all no_groups fs in
    let cb = count_all no_groups bs in
    let same : 8 - (all_groups no_groups fs).count ≡ 8 - length fs = omega (arith, cf) in
    ap (λ o. v6_at o text) gap
    ∙ ap (λ xs. side_of false xs >>= λ f. side_of true (drop (length (joined fs) + 2) text) >>= λ b. around f b) front
    ∙ ap (λ xs. side_of false (joined fs) >>= λ f. side_of true xs >>= λ b. around f b) back
    ∙ ap (λ o. o >>= λ f. side_of true (joined bs) >>= λ b. around f b) highest
    ∙ ap (λ o. o >>= λ b. around (all_groups no_groups fs) b) lowest
    ∙ around_again (all_groups no_groups fs) (all_groups no_groups bs) a (omega (arith, cf, cb, few)) (ap (λ i. (all_groups no_groups fs).value * 65536 ^ i + (all_groups no_groups bs).value) same ∙ e)

whole_again : (found : Groups) (a : ℕ) → found.count ≡ 8 → found.value ≡ a → whole found ≡ Some a
whole_again found a h e = let yes : (found.count == 8) ≡ true = eq-eqb found.count 8 h in rw yes (ap Some e)

read_whole : (gs : List ℕ) (a : ℕ) → Small gs → length gs ≡ 8 → (all_groups no_groups gs).value ≡ a → v6_of (joined gs) ≡ Some a
unfolding v6_of
read_whole gs a s eight e =
    let gap : gap_at 0 (joined gs) ≡ None = ap (gap_at 0) (sym (append-nil (joined gs))) ∙ gap_joined 0 gs [] s in
    ap (λ o. v6_at o (joined gs)) gap
    ∙ ap (λ o. o >>= whole) (side_again true gs s (omega (arith, eight)))
    ∙ whole_again (all_groups no_groups gs) a (count_all no_groups gs ∙ omega (arith, eight)) e

parts : (p l : ℕ) (gs : List ℕ) → gs ≡ take p gs ++ (take l (drop p gs) ++ drop (p + l) gs)
parts p l gs =
    sym (take-append-drop p gs)
    ∙ ap (λ ys. take p gs ++ ys) (sym (take-append-drop l (drop p gs)) ∙ ap (λ ys. take l (drop p gs) ++ ys) (drop_twice p l gs))

shortened_again : (gs : List ℕ) (r : Run) (a : ℕ) (b : Bool) → nat_le 2 r.length ≡ b → Small gs → length gs ≡ 8 → r.length ≤ zeros (drop r.place gs) → (all_groups no_groups gs).value ≡ a
    → v6_of (cond b (joined (take r.place gs) ++ 58 ∷ 58 ∷ joined (drop (r.place + r.length) gs)) (joined gs)) ≡ Some a
shortened_again gs r a false t s eight z e = read_whole gs a s eight e
shortened_again gs r a true t s eight z e =
    let fs = take r.place gs in
    let bs = drop (r.place + r.length) gs in
    let long : 2 ≤ r.length = search (rules, nat_tests) in
    let within : r.length ≤ length gs - r.place = omega (arith, z, zeros_within (drop r.place gs), length-drop r.place gs) in
    let lf : length fs ≡ r.place = length-take-le r.place gs (omega (arith, within, long)) in
    let lb : length bs ≡ 8 - (r.place + r.length) = simp length-drop (omega (arith, eight)) in
    let value = around_value fs (take r.length (drop r.place gs)) bs r.length (zero_groups (all_groups no_groups fs) r.length (drop r.place gs) z) (omega (arith, lf, lb, within, long, eight)) in
    read_around fs bs a (small_take r.place gs s) (small_drop (r.place + r.length) gs s) (omega (arith, lf, lb, within, long, eight))
    (sym value ∙ ap (λ xs. (all_groups no_groups xs).value) (sym (parts r.place r.length gs)) ∙ e)

pub v6_again : (a : ℕ) → a < 2 ^ 128 → v6_of (v6_spelling a) ≡ Some a
unfolding v6_spelling
v6_again a h =
    let gs = groups_in a in
    let r = longest (run 0 0) 0 gs in
    shortened_again gs r a (nat_le 2 r.length) refl (groups_small a) (groups_eight a) (zero_run (run 0 0) 0 gs gs refl (omega arith)) (groups_value a h)

-- ---- its bytes

pub v6_free : (c a : ℕ) → 16 ≤ digit_value c → (58 == c) ≡ false → Free c (v6_spelling a)
unfolding v6_spelling
v6_free c a h k = by_run (nat_le 2 (longest (run 0 0) 0 (groups_in a)).length)
  where
    r : Run
    r = longest (run 0 0) 0 (groups_in a)

    by_run : (b : Bool) → Free c (cond b (joined (take r.place (groups_in a)) ++ 58 ∷ 58 ∷ joined (drop (r.place + r.length) (groups_in a))) (joined (groups_in a)))
    by_run true =
        free_append c (joined (take r.place (groups_in a))) (58 ∷ 58 ∷ joined (drop (r.place + r.length) (groups_in a)))
        (joined_free c (take r.place (groups_in a)) h k (small_take r.place (groups_in a) (groups_small a)))
        (k, (k, joined_free c (drop (r.place + r.length) (groups_in a)) h k (small_drop (r.place + r.length) (groups_in a) (groups_small a))))
    by_run false = joined_free c (groups_in a) h k (groups_small a)

two_groups : (g n : ℕ) (gs : List ℕ) → list_any (λ b. b == 58) (joined (g ∷ n ∷ gs)) ≡ true
two_groups g n gs = some_at 58 (group_spelling g) (joined (n ∷ gs)) refl

colon_by : (a : ℕ) (b : Bool) (fs bs : List ℕ) → list_any (λ x. x == 58) (cond b (joined fs ++ 58 ∷ 58 ∷ joined bs) (joined (groups_in a))) ≡ true
unfolding groups_in
colon_by a true fs bs = some_at 58 (joined fs) (58 ∷ joined bs) refl
colon_by a false fs bs = two_groups (group_at a 7) (group_at a 6) (group_at a 5 ∷ group_at a 4 ∷ group_at a 3 ∷ group_at a 2 ∷ group_at a 1 ∷ group_at a 0 ∷ [])

-- it has a colon
pub v6_colon : (a : ℕ) → list_any (λ b. b == 58) (v6_spelling a) ≡ true
unfolding v6_spelling
v6_colon a =
    let gs = groups_in a in
    let r = longest (run 0 0) 0 gs in
    colon_by a (nat_le 2 r.length) (take r.place gs) (drop (r.place + r.length) gs)
