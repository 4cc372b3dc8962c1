-- The printed words of a network, environment or task line are words, and are found again in the
-- line that joins them.
use Rattle.std.proofs.Common.{◌≡◌, ℕ, ◌==◌, true, ◌&&◌, List, [], ◌∷◌, refl}
use Rattle.std.specs.Prelude.{codes}
use Rattle.std.specs.List.{list_all}
use Rattle.tm_word.specs.Prelude.{Text, is_solid, is_word, joined, spelled_pattern, words_of}
use Rattle.tm_union.specs.Grammar.{is_right}
use Rattle.tm_rules.specs.Types.{Args, InetKind, UnixKind}
use Rattle.tm_rules.specs.Prelude.{is_domain_name}
use Rattle.tm_line.specs.Names.{is_path}
use Rattle.tm_line.specs.Permissions.{perms_spelling}
use Rattle.tm_line.specs.Printing.{name_spelling, number_spelling, address_spelling}
use Rattle.tm_line.specs.Written.{is_name, is_number, is_address, is_set}
use Rattle.tm_line.specs.DomainWords.{domain_parts}
use Rattle.tm_line.proofs.Steps.{both, all}
use Rattle.tm_line.proofs.WholeLaws.{words_again, word_from, pattern_solid, name_is, number_is, address_is, perms_is, parts_are}
use Rattle.tm_net.specs.NetLines.{inet_permissions, unix_permissions, inet_word, unix_word, is_env, net_words, is_net}

abbrev Are : List Text → Type 0
Are words = list_all is_word words ≡ true

more : (word : Text) (words : List Text) → is_word word ≡ true → Are words → Are (word ∷ words)
more word words h k = all (is_word word) (list_all is_word words) h k

inet_kind_is : (kind : InetKind) → is_word (inet_word kind) ≡ true
inet_kind_is InetKind.Stream = refl
inet_kind_is InetKind.Dgram = refl
inet_kind_is InetKind.Raw = refl

unix_kind_is : (kind : UnixKind) → is_word (unix_word kind) ≡ true
unix_kind_is UnixKind.Stream = refl
unix_kind_is UnixKind.Dgram = refl
unix_kind_is UnixKind.Seqpacket = refl

env_is : (text : Text) → is_env text ≡ true → is_solid text ≡ true → is_word text ≡ true
env_is [] h k = absurd cc
env_is (b ∷ text) h k = word_from b text k

pub net_are : (a : Args) (bits : ℕ) → is_net a bits ≡ true → list_all is_word (net_words a bits) ≡ true
unfolding is_net net_words
net_are (Args.Inet kind address port) bits h =
    let c = both (is_set (inet_permissions kind) bits && is_address address) (is_number port) h in
    let b = both (is_set (inet_permissions kind) bits) (is_address address) c.0 in
    let last : Are (address_spelling address ∷ number_spelling port ∷ []) = more (address_spelling address) (number_spelling port ∷ []) (address_is address b.1) (more (number_spelling port) [] (number_is port c.1) refl) in
    let list : Are (perms_spelling (inet_permissions kind) bits ∷ address_spelling address ∷ number_spelling port ∷ []) = more (perms_spelling (inet_permissions kind) bits) (address_spelling address ∷ number_spelling port ∷ []) (perms_is (inet_permissions kind) bits b.0) last in
    let rest : Are (inet_word kind ∷ perms_spelling (inet_permissions kind) bits ∷ address_spelling address ∷ number_spelling port ∷ []) = more (inet_word kind) (perms_spelling (inet_permissions kind) bits ∷ address_spelling address ∷ number_spelling port ∷ []) (inet_kind_is kind) list in
    more (codes "network") (codes "inet" ∷ inet_word kind ∷ perms_spelling (inet_permissions kind) bits ∷ address_spelling address ∷ number_spelling port ∷ []) refl
    (more (codes "inet") (inet_word kind ∷ perms_spelling (inet_permissions kind) bits ∷ address_spelling address ∷ number_spelling port ∷ []) refl rest)
net_are (Args.Unix kind n) bits h =
    let b = both (is_set (unix_permissions kind) bits) (is_name n) h in
    let list : Are (perms_spelling (unix_permissions kind) bits ∷ name_spelling n ∷ []) = more (perms_spelling (unix_permissions kind) bits) (name_spelling n ∷ []) (perms_is (unix_permissions kind) bits b.0) (more (name_spelling n) [] (name_is n b.1) refl) in
    let rest : Are (unix_word kind ∷ perms_spelling (unix_permissions kind) bits ∷ name_spelling n ∷ []) = more (unix_word kind) (perms_spelling (unix_permissions kind) bits ∷ name_spelling n ∷ []) (unix_kind_is kind) list in
    more (codes "network") (codes "unix" ∷ unix_word kind ∷ perms_spelling (unix_permissions kind) bits ∷ name_spelling n ∷ []) refl (more (codes "unix") (unix_word kind ∷ perms_spelling (unix_permissions kind) bits ∷ name_spelling n ∷ []) refl rest)
net_are (Args.Env p) bits h =
    let c = both (bits == 1 && is_right p) (is_env (spelled_pattern p)) h in
    let b = both (bits == 1) (is_right p) c.0 in
    more (codes "misc") (codes "env" ∷ spelled_pattern p ∷ []) refl (more (codes "env") (spelled_pattern p ∷ []) refl (more (spelled_pattern p) [] (env_is (spelled_pattern p) c.1 (pattern_solid p b.1)) refl))
net_are (Args.Manual domain) bits h =
    let b = both (bits == 1) (is_domain_name is_path domain) h in
    more (codes "task") (codes "manual_domain_transition" ∷ domain_parts domain) refl (more (codes "manual_domain_transition") (domain_parts domain) refl (parts_are domain b.1))
net_are (Args.Path n) bits h = absurd cc
net_are (Args.Execute n p) bits h = absurd cc
net_are (Args.PathNumber n i) bits h = absurd cc
net_are (Args.Device n mode major minor) bits h = absurd cc
net_are (Args.Path2 first second) bits h = absurd cc
net_are (Args.Mount device dir type flags) bits h = absurd cc

pub net_text : (a : Args) (bits : ℕ) → is_net a bits ≡ true → words_of (joined (net_words a bits)) ≡ net_words a bits
net_text a bits h = words_again (net_words a bits) (net_are a bits h)
