-- The lines of network, environment and task: what is written is read again, and what is read can
-- be written.
use Rattle.std.proofs.Common.{◌≡◌, ℕ, ◌==◌, Bool, true, false, cond, ◌&&◌, ◌||◌, List, [], ◌∷◌, ◌++◌, Ok, Err, refl, sym, subst}
use Rattle.std.specs.Prelude.{codes}
use Rattle.std.proofs.lemmas.Bool.{eqb-true}
use Rattle.tm_word.specs.Prelude.{Pattern, Text, begins, spelled_pattern, texts_equal, ◌>>=◌}
use Rattle.tm_union.specs.Grammar.{is_right}
use Rattle.tm_rules.specs.Types.{AddrUnion, Args, InetKind, LineKind, NameUnion, NumberUnion, Perms, UnixKind}
use Rattle.tm_rules.specs.Prelude.{DomainName, is_domain_name}
use Rattle.tm_line.specs.Names.{is_path}
use Rattle.tm_line.specs.declared.permissions.Row.{Row}
use Rattle.tm_line.specs.Lines.{is_last, keyword_kind, keyword_at, word_at}
use Rattle.tm_line.specs.Permissions.{perms_of, perms_spelling}
use Rattle.tm_line.specs.Arguments.{pattern_word, name_at, number_at, address_at}
use Rattle.tm_line.specs.Domains.{domain_at}
use Rattle.tm_line.specs.DomainWords.{ends_domain}
use Rattle.tm_line.specs.Printing.{name_spelling, number_spelling, address_spelling}
use Rattle.tm_line.specs.Written.{is_name, is_number, is_address, is_set}
use Rattle.tm_line.proofs.Steps.{bind_ok, ok_is, both, all, not_true, to_not}
use Rattle.tm_line.proofs.NameArgLaws.{pattern_again, pattern_read, name_at_again, name_at_read}
use Rattle.tm_line.proofs.NumberArgLaws.{number_at_again, number_at_read}
use Rattle.tm_line.proofs.AddrArgLaws.{address_at_again, address_at_read}
use Rattle.tm_line.proofs.PermLaws.{perms_again, perms_read}
use Rattle.tm_line.proofs.DomainLaws.{domain_again, at_right}
use Rattle.tm_net.specs.NetLines.{inet_kind, starts_inet, unix_kind, starts_unix, inet_permissions, unix_permissions, kind_at, perms_at, perms, inet_line, unix_line, network_line, has_equals, env_word, is_env, misc_line, task_line, starts_net, net_line, inet_word, unix_word, net_words, is_net}

abbrev Line : Type 0
Line = List Text

abbrev Again : Args → ℕ → Line → Type 0
Again a bits more = net_line (net_words a bits ++ more) ≡ Ok (a, perms bits, more)

-- ---- what is written is read again

kind_again : (kind : InetKind) (words : Line) → kind_at inet_kind starts_inet (inet_word kind ∷ words) ≡ Ok (kind, words)
kind_again InetKind.Stream words = refl
kind_again InetKind.Dgram words = refl
kind_again InetKind.Raw words = refl

local_again : (kind : UnixKind) (words : Line) → kind_at unix_kind starts_unix (unix_word kind ∷ words) ≡ Ok (kind, words)
local_again UnixKind.Stream words = refl
local_again UnixKind.Dgram words = refl
local_again UnixKind.Seqpacket words = refl

list_again : (row : Row) (bits : ℕ) (words : Line) → is_set row bits ≡ true → perms_at row (perms_spelling row bits ∷ words) ≡ Ok (bits, words)
unfolding perms_at
list_again row bits words h = rw (perms_again row bits (is_last words) h) refl

inet_again : (kind : InetKind) (address : AddrUnion) (port : NumberUnion) (bits : ℕ) (more : Line) → is_set (inet_permissions kind) bits ≡ true → is_address address ≡ true → is_number port ≡ true → Again (Args.Inet kind address port) bits more
unfolding net_words net_line network_line inet_line
inet_again kind address port bits more set h i =
    let ports : Line = number_spelling port ∷ more in
    let addresses : Line = address_spelling address ∷ ports in
    rw (kind_again kind (perms_spelling (inet_permissions kind) bits ∷ addresses), list_again (inet_permissions kind) bits addresses set, address_at_again address ports h, number_at_again port more i) refl

unix_again : (kind : UnixKind) (n : NameUnion) (bits : ℕ) (more : Line) → is_set (unix_permissions kind) bits ≡ true → is_name n ≡ true → Again (Args.Unix kind n) bits more
unfolding net_words net_line network_line unix_line
unix_again kind n bits more set h =
    let last : Line = name_spelling n ∷ more in
    rw (local_again kind (perms_spelling (unix_permissions kind) bits ∷ last), list_again (unix_permissions kind) bits last set, name_at_again n more h) refl

env_text : (text : Text) (p : Pattern) (more : Line) → is_env text ≡ true → pattern_word text ≡ Ok p → word_at env_word (text ∷ more) ≡ Ok (p, more)
unfolding env_word
env_text [] p more h e = absurd cc
env_text (b ∷ text) p more h e = let no : has_equals (b ∷ text) ≡ false = not_true (has_equals (b ∷ text)) h in rw (no, e) refl

env_again : (p : Pattern) (more : Line) → is_right p ≡ true → is_env (spelled_pattern p) ≡ true → Again (Args.Env p) 1 more
unfolding net_words net_line misc_line
env_again p more h k = rw (env_text (spelled_pattern p) p more k (pattern_again p h)) refl

manual_again : (domain : DomainName) (more : Line) → is_domain_name is_path domain ≡ true → ends_domain more ≡ true → Again (Args.Manual domain) 1 more
unfolding net_words net_line task_line
manual_again domain more h k = rw (domain_again domain more h k) refl

pub net_again : (a : Args) (bits : ℕ) (more : Line) → is_net a bits ≡ true → ends_domain more ≡ true → net_line (net_words a bits ++ more) ≡ Ok (a, perms bits, more)
unfolding is_net
net_again (Args.Inet kind address port) bits more h k =
    let c = both (is_set (inet_permissions kind) bits && is_address address) (is_number port) h in
    let b = both (is_set (inet_permissions kind) bits) (is_address address) c.0 in
    inet_again kind address port bits more b.0 b.1 c.1
net_again (Args.Unix kind n) bits more h k = let b = both (is_set (unix_permissions kind) bits) (is_name n) h in unix_again kind n bits more b.0 b.1
net_again (Args.Env p) bits more h k =
    let c = both (bits == 1 && is_right p) (is_env (spelled_pattern p)) h in
    let b = both (bits == 1) (is_right p) c.0 in
    subst (λ i. Again (Args.Env p) i more) (sym (eqb-true bits 1 b.0)) (env_again p more b.1 c.1)
net_again (Args.Manual domain) bits more h k =
    let b = both (bits == 1) (is_domain_name is_path domain) h in
    subst (λ i. Again (Args.Manual domain) i more) (sym (eqb-true bits 1 b.0)) (manual_again domain more b.1 k)
net_again (Args.Path n) bits more h k = absurd cc
net_again (Args.Execute n p) bits more h k = absurd cc
net_again (Args.PathNumber n i) bits more h k = absurd cc
net_again (Args.Device n mode major minor) bits more h k = absurd cc
net_again (Args.Path2 first second) bits more h k = absurd cc
net_again (Args.Mount device dir type flags) bits more h k = absurd cc

-- ---- what is read can be written

abbrev Whole : Type 0
Whole = Args × Perms × Line

abbrev Right : Whole → Type 0
Right x = is_net x.0 x.1.bits ≡ true

list_read : (row : Row) (words : Line) (x : ℕ × Line) → perms_at row words ≡ Ok x → is_set row x.0 ≡ true
unfolding perms_at
list_read row [] x e = absurd cc
list_read row (word ∷ words) x e =
    let b = bind_ok (perms_of row word (is_last words)) (λ bits. Ok (bits, words)) x e in
    let made : ℕ × Line = (b.0, words) in
    subst (λ (y : ℕ × Line). is_set row y.0 ≡ true) {x = made} (ok_is made x b.2) (perms_read row word (is_last words) b.0 b.1)

inet_right : (words : Line) (x : Whole) → inet_line words ≡ Ok x → Right x
unfolding inet_line is_net
inet_right words x e =
    let a = bind_ok (kind_at inet_kind starts_inet words) (λ kind. perms_at (inet_permissions kind.0) kind.1 >>= λ bits. address_at bits.1 >>= λ address. number_at address.1 >>= λ port. Ok (Args.Inet kind.0 address.0 port.0, perms bits.0, port.1)) x e in
    let b = bind_ok (perms_at (inet_permissions a.0.0) a.0.1) (λ bits. address_at bits.1 >>= λ address. number_at address.1 >>= λ port. Ok (Args.Inet a.0.0 address.0 port.0, perms bits.0, port.1)) x a.2 in
    let c = bind_ok (address_at b.0.1) (λ address. number_at address.1 >>= λ port. Ok (Args.Inet a.0.0 address.0 port.0, perms b.0.0, port.1)) x b.2 in
    let d = bind_ok (number_at c.0.1) (λ port. Ok (Args.Inet a.0.0 c.0.0 port.0, perms b.0.0, port.1)) x c.2 in
    let made : Whole = (Args.Inet a.0.0 c.0.0 d.0.0, perms b.0.0, d.0.1) in
    subst Right {x = made} (ok_is made x d.2)
    (all (is_set (inet_permissions a.0.0) b.0.0 && is_address c.0.0) (is_number d.0.0)
    (all (is_set (inet_permissions a.0.0) b.0.0) (is_address c.0.0) (list_read (inet_permissions a.0.0) a.0.1 b.0 b.1) (address_at_read b.0.1 c.0 c.1)) (number_at_read c.0.1 d.0 d.1))

unix_right : (words : Line) (x : Whole) → unix_line words ≡ Ok x → Right x
unfolding unix_line is_net
unix_right words x e =
    let a = bind_ok (kind_at unix_kind starts_unix words) (λ kind. perms_at (unix_permissions kind.0) kind.1 >>= λ bits. name_at bits.1 >>= λ name. Ok (Args.Unix kind.0 name.0, perms bits.0, name.1)) x e in
    let b = bind_ok (perms_at (unix_permissions a.0.0) a.0.1) (λ bits. name_at bits.1 >>= λ name. Ok (Args.Unix a.0.0 name.0, perms bits.0, name.1)) x a.2 in
    let c = bind_ok (name_at b.0.1) (λ name. Ok (Args.Unix a.0.0 name.0, perms b.0.0, name.1)) x b.2 in
    let made : Whole = (Args.Unix a.0.0 c.0.0, perms b.0.0, c.0.1) in
    subst Right {x = made} (ok_is made x c.2) (all (is_set (unix_permissions a.0.0) b.0.0) (is_name c.0.0) (list_read (unix_permissions a.0.0) a.0.1 b.0 b.1) (name_at_read b.0.1 c.0 c.1))

network_right : (words : Line) (x : Whole) → network_line words ≡ Ok x → Right x
unfolding network_line
network_right [] x e = absurd cc
network_right (word ∷ words) x e = by_words (texts_equal word (codes "inet")) (texts_equal word (codes "unix")) e
  where
    by_words : (s t : Bool) → cond s (inet_line words) (cond t (unix_line words) (Err (keyword_kind (is_last words && (begins word (codes "inet") || begins word (codes "unix")))))) ≡ Ok x → Right x
    by_words true t f = inet_right words x f
    by_words false true f = unix_right words x f
    by_words false false f = absurd cc

abbrev Env : Pattern → Type 0
Env p = (is_right p ≡ true) × (is_env (spelled_pattern p) ≡ true)

env_by : (b : ℕ) (word : Text) (p : Pattern) (t : Bool) → has_equals (b ∷ word) ≡ t → cond t (Err LineKind.Name) (pattern_word (b ∷ word)) ≡ Ok p → Env p
env_by b word p true h e = absurd cc
env_by b word p false h e = let is = pattern_read (b ∷ word) p e in (is.1, subst (λ t. is_env t ≡ true) is.0 (to_not (has_equals (b ∷ word)) h))

env_found : (word : Text) (p : Pattern) → env_word word ≡ Ok p → Env p
unfolding env_word
env_found [] p e = absurd cc
env_found (b ∷ word) p e = env_by b word p (has_equals (b ∷ word)) refl e

env_read : (words : Line) (x : Pattern × Line) → word_at env_word words ≡ Ok x → Env x.0
unfolding env_word
env_read [] x e = absurd cc
env_read (word ∷ words) x e =
    let b = bind_ok (env_word word) (λ p. Ok (p, words)) x e in
    let made : Pattern × Line = (b.0, words) in
    subst (λ (y : Pattern × Line). Env y.0) {x = made} (ok_is made x b.2) (env_found word b.0 b.1)

misc_right : (words : Line) (x : Whole) → misc_line words ≡ Ok x → Right x
unfolding misc_line is_net
misc_right words x e =
    let a = bind_ok (keyword_at (codes "env") words) (λ rest. word_at env_word rest >>= λ name. Ok (Args.Env name.0, perms 1, name.1)) x e in
    let b = bind_ok (word_at env_word a.0) (λ name. Ok (Args.Env name.0, perms 1, name.1)) x a.2 in
    let made : Whole = (Args.Env b.0.0, perms 1, b.0.1) in
    let is = env_read a.0 b.0 b.1 in
    subst Right {x = made} (ok_is made x b.2) (all (is_right b.0.0) (is_env (spelled_pattern b.0.0)) is.0 is.1)

task_right : (words : Line) (x : Whole) → task_line words ≡ Ok x → Right x
unfolding task_line is_net
task_right words x e =
    let a = bind_ok (keyword_at (codes "manual_domain_transition") words) (λ rest. domain_at rest >>= λ domain. Ok (Args.Manual domain.0, perms 1, domain.1)) x e in
    let b = bind_ok (domain_at a.0) (λ domain. Ok (Args.Manual domain.0, perms 1, domain.1)) x a.2 in
    let made : Whole = (Args.Manual b.0.0, perms 1, b.0.1) in
    subst Right {x = made} (ok_is made x b.2) (at_right a.0 b.0 b.1)

pub net_right : (words : Line) (x : Whole) → net_line words ≡ Ok x → is_net x.0 x.1.bits ≡ true
unfolding net_line
net_right [] x e = absurd cc
net_right (word ∷ words) x e = by_words (texts_equal word (codes "network")) (texts_equal word (codes "misc")) (texts_equal word (codes "task")) e
  where
    by_words : (s t u : Bool) → cond s (network_line words) (cond t (misc_line words) (cond u (task_line words) (Err (keyword_kind (is_last words && starts_net word))))) ≡ Ok x → Right x
    by_words true t u f = network_right words x f
    by_words false true u f = misc_right words x f
    by_words false false true f = task_right words x f
    by_words false false false f = absurd cc

-- what is read is written in its normal form, which is read again
pub net_normal : (words more : Line) (a : Args) (p : Perms) (rest : Line) → net_line words ≡ Ok (a, p, rest) → ends_domain more ≡ true → net_line (net_words a p.bits ++ more) ≡ Ok (a, p, more)
net_normal words more a p rest e h = net_again a p.bits more (net_right words (a, p, rest) e) h
