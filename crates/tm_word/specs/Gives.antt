-- What a reader answers, and what reading gives.
use Rattle.std.specs.Prelude.{◌≡◌, Option, Some, None, Result, Ok, Err}

infixl 10 ◌>>=◌
-- the next step, unless one before it failed
abbrev pub ◌>>=◌ : {A B E : Type 0} → Result A E → (A → Result B E) → Result B E
(Ok x) >>= f = f x
(Err fault) >>= f = Err fault

-- a fault with a cause in what is read is the one that reading gives; want of memory has none there
abbrev pub Fails : {Y K : Type 0} → Option K → Result Y K → Type 0
Fails None read = Unit {0}
Fails (Some kind) read = read ≡ Err kind

-- what a call returned, seen by view, is what reading gives, unless memory ran out
abbrev pub Gives : {X Y E K : Type 0} → (E → Option K) → (X → Y) → Result X E → Result Y K → Type 0
Gives cause view (Ok x) read = read ≡ Ok (view x)
Gives cause view (Err fault) read = Fails (cause fault) read

-- the same of a call that takes no memory, which can't run out
abbrev pub FailsNow : {Y K : Type 0} → Option K → Result Y K → Type 0
FailsNow None read = ⊥
FailsNow (Some kind) read = read ≡ Err kind

-- what a call that takes no memory returned, seen by view, is what reading gives
abbrev pub GivesNow : {X Y E K : Type 0} → (E → Option K) → (X → Y) → Result X E → Result Y K → Type 0
GivesNow cause view (Ok x) read = read ≡ Ok (view x)
GivesNow cause view (Err fault) read = FailsNow (cause fault) read
