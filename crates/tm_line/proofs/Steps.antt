-- Steps of reading that went well.
use Rattle.std.proofs.Common.{◌≡◌, Bool, true, false, cond, ◌&&◌, not, Result, Ok, Err, refl, ap}
use Rattle.tm_domain.specs.LineKind.{LineKind}
use Rattle.tm_word.specs.Prelude.{◌>>=◌}
use Rattle.tm_line.specs.Arguments.{kinded}

-- a step that went well has a value, and what comes after it went well
pub bind_ok : {A B : Type 0} (r : Result A LineKind) (f : A → Result B LineKind) (y : B) → (r >>= f) ≡ Ok y → (x : A) × (r ≡ Ok x) × (f x ≡ Ok y)
bind_ok (Ok x) f y e = (x, refl, e)
bind_ok (Err kind) f y e = absurd cc

abbrev pub done : {A : Type 0} → A → Result A LineKind
done x = Ok x

pub ok_is : {A : Type 0} (x y : A) → done x ≡ done y → x ≡ y
ok_is x y e = cc

-- the value was in its grammar
pub kinded_ok : {A F : Type 0} (kind : LineKind) (r : Result A F) (x : A) → kinded kind r ≡ Ok x → r ≡ Ok x
kinded_ok kind (Ok y) x e = ap Ok (ok_is y x e)
kinded_ok kind (Err fault) x e = absurd cc

-- the test passed
pub chosen : {A : Type 0} (b : Bool) (x y : A) (kind : LineKind) → cond b (Ok x) (Err kind) ≡ done y → (b ≡ true) × (x ≡ y)
chosen true x y kind e = (refl, cc)
chosen false x y kind e = absurd cc

pub both : (a b : Bool) → (a && b) ≡ true → (a ≡ true) × (b ≡ true)
both true b e = (refl, e)
both false b e = absurd cc

pub all : (a b : Bool) → a ≡ true → b ≡ true → (a && b) ≡ true
all true b h k = k
all false b h k = absurd cc

pub not_true : (b : Bool) → not b ≡ true → b ≡ false
not_true true e = absurd cc
not_true false e = refl

pub to_not : (b : Bool) → b ≡ false → not b ≡ true
to_not true e = absurd cc
to_not false e = refl
