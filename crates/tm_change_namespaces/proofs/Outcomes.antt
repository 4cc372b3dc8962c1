-- What stands after a call that may run out of memory.
use Rattle.std.specs.Prelude.{Result, Ok, Err, OnOk, OnErr}

-- what follows from what stands where it is done
pub done_so : {X E : Type 0} {P Q : Type 0} (r : Result X E) → (P → Q) → OnOk r P → OnOk r Q
done_so (Ok x) h p = h p
done_so (Err e) h p = tt

-- what follows from what stands where memory ran out
pub kept_so : {X E : Type 0} {P Q : Type 0} (r : Result X E) → (P → Q) → OnErr r P → OnErr r Q
kept_so (Ok x) h p = tt
kept_so (Err e) h p = h p

-- what follows from both
pub either_so : {X E : Type 0} {P Q R : Type 0} (r : Result X E) → (P → R) → (Q → R) → OnOk r P → OnErr r Q → R
either_so (Ok x) h k p q = h p
either_so (Err e) h k p q = k q

-- what stands anyway
pub kept_anyway : {X E : Type 0} {P : Type 0} (r : Result X E) → P → OnErr r P
kept_anyway (Ok x) p = tt
kept_anyway (Err e) p = p
