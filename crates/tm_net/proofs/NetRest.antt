-- What a network, environment or task line leaves is the end of the words.
use Rattle.std.proofs.Common.{◌≡◌, ℕ, ◌-◌, Bool, true, false, cond, ◌&&◌, ◌||◌, List, [], ◌∷◌, length, drop, Option, Some, None, Ok, Err, refl, subst}
use Rattle.std.specs.Prelude.{codes}
use Rattle.tm_word.specs.Prelude.{Text, begins, texts_equal, ◌>>=◌}
use Rattle.tm_rules.specs.Types.{Args, Perms}
use Rattle.tm_line.specs.declared.permissions.Row.{Row}
use Rattle.tm_line.specs.Lines.{is_last, keyword_kind, keyword_at, word_at}
use Rattle.tm_line.specs.Permissions.{perms_of}
use Rattle.tm_line.specs.Arguments.{name_at, number_at, address_at}
use Rattle.tm_line.specs.Domains.{domain_at}
use Rattle.tm_line.proofs.Steps.{bind_ok, ok_is}
use Rattle.tm_line.proofs.RestLaws.{Rest, rest_more, rest_then, rest_is, word_rest, name_rest, number_rest, address_rest, domain_rest, keyword_rest}
use Rattle.tm_net.specs.NetLines.{inet_kind, starts_inet, unix_kind, starts_unix, inet_permissions, unix_permissions, kind_or, kind_at, perms_at, perms, inet_line, unix_line, network_line, env_word, misc_line, task_line, starts_net, net_line}

abbrev Line : Type 0
Line = List Text

abbrev Whole : Type 0
Whole = Args × Perms × Line

kind_part : {A : Type 0} (o : Option A) (unfinished : Bool) (word : Text) (words : Line) (x : A × Line) → kind_or o unfinished words ≡ Ok x → Rest (word ∷ words) x.1
kind_part None unfinished word words x e = absurd cc
kind_part {A} (Some kind) unfinished word words x e =
    let made : A × Line = (kind, words) in
    subst (λ (y : A × Line). Rest (word ∷ words) y.1) {x = made} (ok_is made x e) (word ∷ [], refl)

kind_rest : {A : Type 0} (kind : Text → Option A) (starts : Text → Bool) (words : Line) (x : A × Line) → kind_at kind starts words ≡ Ok x → Rest words x.1
kind_rest kind starts [] x e = absurd cc
kind_rest kind starts (word ∷ words) x e = kind_part (kind word) (is_last words && starts word) word words x e

list_rest : (row : Row) (words : Line) (x : ℕ × Line) → perms_at row words ≡ Ok x → Rest words x.1
unfolding perms_at
list_rest row [] x e = absurd cc
list_rest row (word ∷ words) x e =
    let b = bind_ok (perms_of row word (is_last words)) (λ bits. Ok (bits, words)) x e in
    let made : ℕ × Line = (b.0, words) in
    subst (λ (y : ℕ × Line). Rest (word ∷ words) y.1) {x = made} (ok_is made x b.2) (word ∷ [], refl)

inet_rest : (words : Line) (x : Whole) → inet_line words ≡ Ok x → Rest words x.2
unfolding inet_line
inet_rest words x e =
    let a = bind_ok (kind_at inet_kind starts_inet words) (λ kind. perms_at (inet_permissions kind.0) kind.1 >>= λ bits. address_at bits.1 >>= λ address. number_at address.1 >>= λ port. Ok (Args.Inet kind.0 address.0 port.0, perms bits.0, port.1)) x e in
    let b = bind_ok (perms_at (inet_permissions a.0.0) a.0.1) (λ bits. address_at bits.1 >>= λ address. number_at address.1 >>= λ port. Ok (Args.Inet a.0.0 address.0 port.0, perms bits.0, port.1)) x a.2 in
    let c = bind_ok (address_at b.0.1) (λ address. number_at address.1 >>= λ port. Ok (Args.Inet a.0.0 address.0 port.0, perms b.0.0, port.1)) x b.2 in
    let d = bind_ok (number_at c.0.1) (λ port. Ok (Args.Inet a.0.0 c.0.0 port.0, perms b.0.0, port.1)) x c.2 in
    let made : Whole = (Args.Inet a.0.0 c.0.0 d.0.0, perms b.0.0, d.0.1) in
    let two : Rest words b.0.1 = rest_then words a.0.1 b.0.1 (kind_rest inet_kind starts_inet words a.0 a.1) (list_rest (inet_permissions a.0.0) a.0.1 b.0 b.1) in
    let three : Rest words c.0.1 = rest_then words b.0.1 c.0.1 two (address_rest b.0.1 c.0 c.1) in
    subst (λ (y : Whole). Rest words y.2) {x = made} (ok_is made x d.2) (rest_then words c.0.1 d.0.1 three (number_rest c.0.1 d.0 d.1))

unix_rest : (words : Line) (x : Whole) → unix_line words ≡ Ok x → Rest words x.2
unfolding unix_line
unix_rest words x e =
    let a = bind_ok (kind_at unix_kind starts_unix words) (λ kind. perms_at (unix_permissions kind.0) kind.1 >>= λ bits. name_at bits.1 >>= λ name. Ok (Args.Unix kind.0 name.0, perms bits.0, name.1)) x e in
    let b = bind_ok (perms_at (unix_permissions a.0.0) a.0.1) (λ bits. name_at bits.1 >>= λ name. Ok (Args.Unix a.0.0 name.0, perms bits.0, name.1)) x a.2 in
    let c = bind_ok (name_at b.0.1) (λ name. Ok (Args.Unix a.0.0 name.0, perms b.0.0, name.1)) x b.2 in
    let made : Whole = (Args.Unix a.0.0 c.0.0, perms b.0.0, c.0.1) in
    let two : Rest words b.0.1 = rest_then words a.0.1 b.0.1 (kind_rest unix_kind starts_unix words a.0 a.1) (list_rest (unix_permissions a.0.0) a.0.1 b.0 b.1) in
    subst (λ (y : Whole). Rest words y.2) {x = made} (ok_is made x c.2) (rest_then words b.0.1 c.0.1 two (name_rest b.0.1 c.0 c.1))

network_rest : (words : Line) (x : Whole) → network_line words ≡ Ok x → Rest words x.2
unfolding network_line
network_rest [] x e = absurd cc
network_rest (word ∷ words) x e = rest_more word words x.2 (by_words (texts_equal word (codes "inet")) (texts_equal word (codes "unix")) e)
  where
    by_words : (s t : Bool) → cond s (inet_line words) (cond t (unix_line words) (Err (keyword_kind (is_last words && (begins word (codes "inet") || begins word (codes "unix")))))) ≡ Ok x → Rest words x.2
    by_words true t f = inet_rest words x f
    by_words false true f = unix_rest words x f
    by_words false false f = absurd cc

misc_rest : (words : Line) (x : Whole) → misc_line words ≡ Ok x → Rest words x.2
unfolding misc_line
misc_rest words x e =
    let a = bind_ok (keyword_at (codes "env") words) (λ rest. word_at env_word rest >>= λ name. Ok (Args.Env name.0, perms 1, name.1)) x e in
    let b = bind_ok (word_at env_word a.0) (λ name. Ok (Args.Env name.0, perms 1, name.1)) x a.2 in
    let made : Whole = (Args.Env b.0.0, perms 1, b.0.1) in
    subst (λ (y : Whole). Rest words y.2) {x = made} (ok_is made x b.2) (rest_then words a.0 b.0.1 (keyword_rest (codes "env") words a.0 a.1) (word_rest env_word a.0 b.0 b.1))

task_rest : (words : Line) (x : Whole) → task_line words ≡ Ok x → Rest words x.2
unfolding task_line
task_rest words x e =
    let a = bind_ok (keyword_at (codes "manual_domain_transition") words) (λ rest. domain_at rest >>= λ domain. Ok (Args.Manual domain.0, perms 1, domain.1)) x e in
    let b = bind_ok (domain_at a.0) (λ domain. Ok (Args.Manual domain.0, perms 1, domain.1)) x a.2 in
    let made : Whole = (Args.Manual b.0.0, perms 1, b.0.1) in
    subst (λ (y : Whole). Rest words y.2) {x = made} (ok_is made x b.2) (rest_then words a.0 b.0.1 (keyword_rest (codes "manual_domain_transition") words a.0 a.1) (domain_rest a.0 b.0 b.1))

whole_rest : (words : Line) (x : Whole) → net_line words ≡ Ok x → Rest words x.2
unfolding net_line
whole_rest [] x e = absurd cc
whole_rest (word ∷ words) x e = rest_more word words x.2 (by_words (texts_equal word (codes "network")) (texts_equal word (codes "misc")) (texts_equal word (codes "task")) e)
  where
    by_words : (s t u : Bool) → cond s (network_line words) (cond t (misc_line words) (cond u (task_line words) (Err (keyword_kind (is_last words && starts_net word))))) ≡ Ok x → Rest words x.2
    by_words true t u f = network_rest words x f
    by_words false true u f = misc_rest words x f
    by_words false false true f = task_rest words x f
    by_words false false false f = absurd cc

pub net_rest : (words rest : Line) (a : Args) (p : Perms) → net_line words ≡ Ok (a, p, rest) → rest ≡ drop (length words - length rest) words
net_rest words rest a p e = rest_is words rest (whole_rest words (a, p, rest) e)
