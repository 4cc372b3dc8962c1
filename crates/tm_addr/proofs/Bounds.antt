-- Groups of an address fit it.
use Rattle.std.proofs.Common.{◌≡◌, ℕ, suc, ◌+◌, ◌-◌, ◌*◌, ◌<◌, ◌≤◌, ◌^◌, sym, ap, ◌∙◌, arith}
use Rattle.std.proofs.Math.Nat.{pow-le-pow_right, one-le-pow, mul-le-mul_right}
use Rattle.std.proofs.lemmas.Nat.{pow-add}
use Rattle.std.proofs.lemmas.Grind.{pow_more}

pub pow_at_most : (n m : ℕ) → n ≤ m → 65536 ^ n ≤ 65536 ^ m
pow_at_most n m h = pow-le-pow_right (omega arith) h

pub pow_small : (n : ℕ) → n ≤ 7 → 65536 ^ n < 2 ^ 128
pow_small n h = omega (arith, pow_at_most n 7 h)

pub pow_positive : (n : ℕ) → 1 ≤ 65536 ^ n
pow_positive n = one-le-pow n 65536 (omega arith)

-- one more group
pub group_fits : (v g n : ℕ) → v < 65536 ^ n → g < 65536 → v * 65536 + g < 65536 ^ (n + 1)
group_fits v g n h k = let more : 65536 ^ (n + 1) ≡ 65536 ^ n * 65536 = pow_more 65536 n in omega (arith, more, h, k)

pub room : (v g n : ℕ) → v < 65536 ^ n → g < 65536 → n < 8 → v * 65536 + g < 2 ^ 128
room v g n h k few = omega (arith, group_fits v g n h k, pow_at_most (n + 1) 8 (omega arith))

-- groups that stand highest, and others below them
pub raised_fits : (v w n m : ℕ) → v < 65536 ^ n → w < 65536 ^ m → n + m ≤ 8 → v * 65536 ^ (8 - n) + w < 2 ^ 128
raised_fits v w n m h k le =
    let all : 65536 ^ n * 65536 ^ (8 - n) ≡ 65536 ^ 8 = sym (pow-add 65536 n (8 - n)) ∙ eight n (8 - n) (omega arith) in
    let below : w < 65536 ^ (8 - n) = omega (arith, k, pow_at_most m (8 - n) (omega arith)) in
    together v w (65536 ^ n) (65536 ^ (8 - n)) h below all
  where
    eight : (a b : ℕ) → a + b ≡ 8 → 65536 ^ (a + b) ≡ 65536 ^ 8
    eight a b e = ap (λ i. 65536 ^ i) e

    together : (a b p q : ℕ) → a < p → b < q → p * q ≡ 65536 ^ 8 → a * q + b < 2 ^ 128
    together a b p q h k e =
        let up : suc a * q ≤ p * q = mul-le-mul_right q (omega (arith, h)) in
        let one : suc a * q ≡ a * q + q = grind arith in
        omega (arith, up, one, k, e)
