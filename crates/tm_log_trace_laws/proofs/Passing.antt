-- What is read passes a test, step by step.
use Rattle.std.specs.Prelude.{Result, Ok, Err}
use Rattle.tm_word.specs.Prelude.{◌>>=◌}
use Rattle.tm_rules.specs.Types.{LineKind}
use Rattle.tm_log.specs.declared.faults.Reason.{Reason}
use Rattle.tm_log.specs.Reasons.{for_reason}

-- what is read, if anything, passes
abbrev pub OkIs : {A E : Type 0} → (A → Type 0) → Result A E → Type 0
OkIs P (Ok x) = P x
OkIs P (Err e) = Unit {0}

pub bound : {A B E : Type 0} (P : A → Type 0) (Q : B → Type 0) (r : Result A E) (f : A → Result B E) → OkIs P r → ((x : A) → P x → OkIs Q (f x)) → OkIs Q (r >>= f)
bound P Q (Ok x) f h onward = onward x h
bound P Q (Err e) f h onward = tt

-- whatever is read
pub anything : {A B E : Type 0} (Q : B → Type 0) (r : Result A E) (f : A → Result B E) → ((x : A) → OkIs Q (f x)) → OkIs Q (r >>= f)
anything Q (Ok x) f onward = onward x
anything Q (Err e) f onward = tt

pub reasoned : {A : Type 0} (P : A → Type 0) (reason : Reason) (r : Result A LineKind) → OkIs P r → OkIs P (for_reason reason r)
reasoned P reason (Ok x) h = h
reasoned P reason (Err e) h = tt
