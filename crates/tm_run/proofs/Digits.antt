-- The digits of a number: the last one and those before it, and how many they are at most.
use Rattle.std.proofs.Common.{◌≡◌, ℕ, ◌+◌, ◌/◌, ◌<◌, ◌≤◌, ◌^◌, length, arith}
use Rattle.std.specs.Fmt.{decimal}
use Rattle.std.proofs.lemmas.Fmt.{length-decimal-le}

pub digits_of_8_bits : (n : ℕ) → n < 2 ^ 8 → length (decimal n) ≤ 3
digits_of_8_bits n h = length-decimal-le 3 n (omega arith) (omega arith) (omega arith)

pub digits_of_32_bits : (n : ℕ) → n < 2 ^ 32 → length (decimal n) ≤ 10
digits_of_32_bits n h = length-decimal-le 10 n (omega arith) (omega arith) (omega arith)

pub digits_of_64_bits : (n : ℕ) → n < 2 ^ 64 → length (decimal n) ≤ 20
digits_of_64_bits n h = length-decimal-le 20 n (omega arith) (omega arith) (omega arith)
