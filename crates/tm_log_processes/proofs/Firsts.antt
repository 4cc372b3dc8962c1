-- Counting numbers up to a bound.
use Rattle.std.proofs.Common.{◌≡◌, ℕ, zero, suc, ◌+◌, ◌-◌, ◌<◌, ◌==◌, Bool, true, false, if◌then◌else◌, refl, ap, sym, ◌∙◌, arith}
use Rattle.std.specs.Prelude.{Option, Some, None}
use Rattle.tm_log_processes.specs.Lists.{Listed, at, first_from, key_among}

-- one turn is done of those that are left
less_one : (k n : ℕ) → k < n → n - k ≡ suc (n - (k + 1))
less_one k n h = omega arith

-- the next number is the first one of those that are left
pub first_next : (test : ℕ → Bool) (k n : ℕ) → k < n → test k ≡ false → first_from test (k + 1) (n - (k + 1)) ≡ first_from test k (n - k)
first_next test k n h fails =
    let next : k + 1 ≡ suc k = omega arith in
    rw (less_one k n h, fails) (ap (λ m. first_from test m (n - (k + 1))) next)

pub first_here : (test : ℕ → Bool) (k n : ℕ) → k < n → test k ≡ true → first_from test k (n - k) ≡ Some k
first_here test k n h holds = rw (less_one k n h, holds) refl

pub turn_next : (list : Listed) (q pid k n : ℕ) → k < n → (at list q).origin.key == pid ≡ false
    → key_among list (at list q).origin.parent pid (n - (k + 1)) ≡ key_among list (Some q) pid (n - k)
turn_next list q pid k n h fails = rw (less_one k n h, fails) refl

pub turn_here : (list : Listed) (q pid k n : ℕ) → k < n → (at list q).origin.key == pid ≡ true → key_among list (Some q) pid (n - k) ≡ true
turn_here list q pid k n h holds = rw (less_one k n h, holds) refl

pub turn_none : (list : Listed) (pid k n : ℕ) → k < n → key_among list None pid (n - k) ≡ false
turn_none list pid k n h = rw (less_one k n h) refl
