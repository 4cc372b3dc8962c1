-- What is read keeps a property from step to step and from line to line.
use Rattle.std.proofs.Common.{◌≡◌, ℕ, ◌+◌, ◌<◌, Bool, true, false, List, [], ◌∷◌, ◌++◌, Option, Some, None, Result, Ok, Err, refl, sym, ◌∙◌}
use Rattle.std.specs.Prelude.{⊤, if◌then◌else◌}
use Rattle.std.specs.List.{list_all}
use Rattle.std.proofs.lemmas.List.Folds.{list_all-append}
use Rattle.tm_word.specs.Prelude.{Text, is_word, words_of, ◌>>=◌}
use Rattle.tm_rules.specs.Types.{ScriptKind}
use Rattle.tm_number.specs.Numbers.{plain_of}
use Rattle.tm_line.proofs.Steps.{both, all}
use Rattle.tm_number.proofs.NumberLaws.{plain_small}
use Rattle.tm_script.specs.Steps.{kinded, or_kind, word_at, number_at, ended}
use Rattle.tm_script.specs.Lines.{line_read, numbered, script_lines}
use Rattle.tm_word.proofs.WordLaws.{words_are}

-- ---- what is read, if it is read, has a property

abbrev pub OkIs : {A F : Type 0} → (A → Type 0) → Result A F → Type 0
OkIs P (Ok x) = P x
OkIs P (Err fault) = ⊤

pub then_ok : {A B E : Type 0} (P : A → Type 0) (Q : B → Type 0) (r : Result A E) (f : A → Result B E) → OkIs P r → ((x : A) → P x → OkIs Q (f x)) → OkIs Q (r >>= f)
then_ok P Q (Ok x) f h more = more x h
then_ok P Q (Err fault) f h more = tt

pub then_any : {A B E : Type 0} (Q : B → Type 0) (r : Result A E) (f : A → Result B E) → ((x : A) → OkIs Q (f x)) → OkIs Q (r >>= f)
then_any Q (Ok x) f more = more x
then_any Q (Err fault) f more = tt

pub if_ok : {A F : Type 0} (P : A → Type 0) (b : Bool) (r s : Result A F) → OkIs P r → OkIs P s → OkIs P (if b then r else s)
if_ok P true r s h k = h
if_ok P false r s h k = k

pub there_ok : {A : Type 0} (P : A → Type 0) (kind : ScriptKind) (o : Option A) → ((x : A) → o ≡ Some x → P x) → OkIs P (or_kind kind o)
there_ok P kind (Some x) h = h x refl
there_ok P kind None h = tt

pub kinded_ok : {A F : Type 0} (P : A → Type 0) (kind : ScriptKind) (r : Result A F) → ((x : A) → r ≡ Ok x → P x) → OkIs P (kinded kind r)
kinded_ok P kind (Ok x) h = h x refl
kinded_ok P kind (Err fault) h = tt

pub word_ok : {A : Type 0} (P : A → Type 0) (read : Text → Result A ScriptKind) (words : List Text) → ((word : Text) → OkIs P (read word)) → OkIs (λ (x : A × List Text). P x.0) (word_at read words)
word_ok P read [] h = tt
word_ok P read (word ∷ words) h = then_ok P (λ x. P x.0) (read word) _ (h word) (λ x k. k)

pub ended_ok : {A : Type 0} (P : A → Type 0) (x : A) (words : List Text) → P x → OkIs P (ended x words)
ended_ok P x [] h = h
ended_ok P x (word ∷ words) h = tt

abbrev pub Below : ℕ → ℕ × List Text → Type 0
Below limit x = x.0 < limit

pub number_ok : (limit : ℕ) (words : List Text) → OkIs (Below limit) (number_at limit words)
unfolding number_at
number_ok limit words =
    word_ok (λ n. n < limit) (λ word. or_kind ScriptKind.Number (plain_of limit word)) words (λ word. there_ok (λ n. n < limit) ScriptKind.Number (plain_of limit word) (λ n e. plain_small limit n word e))

-- ---- lines

pub numbered_ok : {A : Type 0} (P : A → Type 0) (number : ℕ) (r : Result A ScriptKind) → OkIs P r → OkIs P (numbered number r)
numbered_ok P number (Ok x) h = h
numbered_ok P number (Err kind) h = tt

pub map_ok : {A F : Type 0} (P Q : A → Type 0) (r : Result A F) → ((x : A) → P x → Q x) → OkIs P r → OkIs Q r
map_ok P Q (Ok x) f h = f x h
map_ok P Q (Err fault) f h = tt

-- each line of words keeps P
abbrev pub Keeps : {S : Type 0} → (S → Type 0) → (S → Text → List Text → Result S ScriptKind) → Type 0
Keeps P line = (so_far : _) (key : Text) (words : List Text) → list_all is_word (key ∷ words) ≡ true → P so_far → OkIs P (line so_far key words)

pub line_ok : {S : Type 0} (P : S → Type 0) (line : S → Text → List Text → Result S ScriptKind) → Keeps P line → (so_far : S) (words : List Text) → list_all is_word words ≡ true → P so_far → OkIs P (line_read line so_far words)
line_ok P line keeps so_far [] are h = h
line_ok P line keeps so_far (key ∷ words) are h = keeps so_far key words are h

pub lines_ok : {S : Type 0} (P : S → Type 0) (line : S → Text → List Text → Result S ScriptKind) → Keeps P line → (number : ℕ) (texts : List Text) (so_far : S) → P so_far → OkIs P (script_lines line number texts so_far)
unfolding script_lines
lines_ok P line keeps number [] so_far h = h
lines_ok P line keeps number (text ∷ texts) so_far h =
    then_ok P P (numbered number (line_read line so_far (words_of text))) (λ next. script_lines line (number + 1) texts next)
    (numbered_ok P number (line_read line so_far (words_of text)) (line_ok P line keeps so_far (words_of text) (words_are text) h))
    (λ next k. lines_ok P line keeps (number + 1) texts next k)

-- one more at the end passes too
pub all_more : {A : Type 0} (test : A → Bool) (xs : List A) (x : A) → list_all test xs ≡ true → test x ≡ true → list_all test (xs ++ x ∷ []) ≡ true
all_more test xs x h k = list_all-append test xs (x ∷ []) ∙ all (list_all test xs) (list_all test (x ∷ [])) h (all (test x) true k refl)

pub last_of : {A : Type 0} (test : A → Bool) (xs : List A) (x : A) → list_all test (xs ++ x ∷ []) ≡ true → (list_all test xs ≡ true) × (test x ≡ true)
last_of test xs x h =
    let parts = both (list_all test xs) (list_all test (x ∷ [])) (sym (list_all-append test xs (x ∷ [])) ∙ h) in
    (parts.0, (both (test x) true parts.1).0)
