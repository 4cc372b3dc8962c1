-- What is read has a property, step by step.
use Rattle.std.proofs.Common.{◌≡◌, Bool, true, false, List, [], ◌∷◌, Result, Ok, Err, refl, subst}
use Rattle.std.specs.Prelude.{if◌then◌else◌}
use Rattle.tm_word.specs.Prelude.{Text, ◌>>=◌}
use Rattle.tm_domain.specs.LineKind.{LineKind}
use Rattle.tm_line.specs.Lines.{word_at}

abbrev pub OkIs : {A : Type 0} → (A → Type 0) → Result A LineKind → Type 0
OkIs P (Ok x) = P x
OkIs P (Err kind) = Unit {0}

pub then_ok : {A B : Type 0} (P : A → Type 0) (Q : B → Type 0) (r : Result A LineKind) (f : A → Result B LineKind) → OkIs P r → ((x : A) → P x → OkIs Q (f x)) → OkIs Q (r >>= f)
then_ok P Q (Ok x) f h k = k x h
then_ok P Q (Err kind) f h k = tt

pub then_any : {A B : Type 0} (Q : B → Type 0) (r : Result A LineKind) (f : A → Result B LineKind) → ((x : A) → OkIs Q (f x)) → OkIs Q (r >>= f)
then_any Q (Ok x) f k = k x
then_any Q (Err kind) f k = tt

pub if_ok : {A : Type 0} (P : A → Type 0) (b : Bool) (x y : Result A LineKind) → OkIs P x → OkIs P y → OkIs P (if b then x else y)
if_ok P true x y h k = h
if_ok P false x y h k = k

pub each_ok : {A : Type 0} (P : A → Type 0) (r : Result A LineKind) → ((x : A) → r ≡ Ok x → P x) → OkIs P r
each_ok P (Ok x) k = k x refl
each_ok P (Err kind) k = tt

pub word_ok : {A : Type 0} (P : A → Type 0) (read : Text → Result A LineKind) (words : List Text) → ((word : Text) → OkIs P (read word)) → OkIs (λ (x : A × List Text). P x.0) (word_at read words)
word_ok P read [] k = tt
word_ok P read (word ∷ words) k = then_ok P (λ x. P x.0) (read word) _ (k word) (λ x h. h)

pub ok_of : {A : Type 0} (P : A → Type 0) (r : Result A LineKind) (x : A) → OkIs P r → r ≡ Ok x → P x
ok_of P r x h e = subst (OkIs P) e h
