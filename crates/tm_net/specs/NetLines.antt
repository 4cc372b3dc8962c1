-- The lines of network, environment and task: what reading gives, and the words that are printed.
use Rattle.std.specs.Prelude.{◌≡◌, ◌++◌, true, map, ℕ, ◌-◌, ◌==◌, ◌&&◌, ◌||◌, not, if◌then◌else◌, Bool, false, List, [], ◌∷◌, length, codes, Option, Some, None, Result, Ok, Err}
use Rattle.std.specs.List.{list_any}
use Rattle.tm_word.specs.Prelude.{Pattern, Text, begins, begins_row, of_word, row_of, spelled_pattern, texts_equal, ◌>>=◌}
use Rattle.tm_union.specs.Grammar.{is_right}
use Rattle.tm_rules.specs.Types.{Args, InetKind, LineKind, Perms, UnixKind}
use Rattle.tm_rules.specs.Prelude.{is_domain_name}
use Rattle.tm_line.specs.Names.{is_path}
use Rattle.tm_line.specs.declared.permissions.Row.{Row}
use Rattle.tm_line.specs.Lines.{is_last, keyword_kind, keyword_at, word_at}
use Rattle.tm_line.specs.Permissions.{perms_of, perms_spelling}
use Rattle.tm_line.specs.Arguments.{pattern_word, name_at, number_at, address_at}
use Rattle.tm_line.specs.Domains.{domain_at}
use Rattle.tm_line.specs.DomainWords.{domain_parts, ends_domain}
use Rattle.tm_line.specs.Printing.{name_spelling, number_spelling, address_spelling}
use Rattle.tm_line.specs.Written.{is_name, is_number, is_address, is_set}

-- the kinds of internet sockets, and their words
abbrev pub inet_word : InetKind → Text
inet_word InetKind.Stream = codes "stream"
inet_word InetKind.Dgram = codes "dgram"
inet_word InetKind.Raw = codes "raw"

abbrev pub inets : List InetKind
inets = InetKind.Stream ∷ InetKind.Dgram ∷ InetKind.Raw ∷ []

abbrev pub inet_kind : Text → Option InetKind
inet_kind word = of_word inet_word inets word

-- a front of one of them
abbrev pub starts_inet : Text → Bool
starts_inet word = begins_row (map (row_of inet_word) inets) word

-- the kinds of local sockets, and their words
abbrev pub unix_word : UnixKind → Text
unix_word UnixKind.Stream = codes "stream"
unix_word UnixKind.Dgram = codes "dgram"
unix_word UnixKind.Seqpacket = codes "seqpacket"

abbrev pub unixes : List UnixKind
unixes = UnixKind.Stream ∷ UnixKind.Dgram ∷ UnixKind.Seqpacket ∷ []

abbrev pub unix_kind : Text → Option UnixKind
unix_kind word = of_word unix_word unixes word

-- a front of one of them
abbrev pub starts_unix : Text → Bool
starts_unix word = begins_row (map (row_of unix_word) unixes) word

-- sockets with connections listen and connect, the others send
abbrev pub inet_permissions : InetKind → Row
inet_permissions InetKind.Stream = Row.Listening
inet_permissions InetKind.Dgram = Row.Sending
inet_permissions InetKind.Raw = Row.Sending

abbrev pub unix_permissions : UnixKind → Row
unix_permissions UnixKind.Stream = Row.Listening
unix_permissions UnixKind.Dgram = Row.Sending
unix_permissions UnixKind.Seqpacket = Row.Listening

-- one of some words as it stands in front, and the words after it; an unfinished one as the last
-- word is a missing word
abbrev pub kind_or : {A : Type 0} → Option A → Bool → List Text → Result (A × List Text) LineKind
kind_or (Some kind) unfinished words = Ok (kind, words)
kind_or None unfinished words = Err (keyword_kind unfinished)

abbrev pub kind_at : {A : Type 0} → (Text → Option A) → (Text → Bool) → List Text
    → Result (A × List Text) LineKind
kind_at kind starts [] = Err LineKind.Arity
kind_at kind starts (word ∷ words) = kind_or (kind word) (is_last words && starts word) words

-- the permissions of a row, and the words after them
unfoldable pub perms_at : Row → List Text → Result (ℕ × List Text) LineKind
perms_at row [] = Err LineKind.Arity
perms_at row (word ∷ words) = perms_of row word (is_last words) >>= λ bits. Ok (bits, words)

abbrev pub perms : ℕ → Perms
perms bits = record { bits = bits }

-- `inet KIND PERMISSIONS ADDRESS NUMBER`, past the first word
unfoldable pub inet_line : List Text → Result (Args × Perms × List Text) LineKind
inet_line words = do
  kind ← kind_at inet_kind starts_inet words
  bits ← perms_at (inet_permissions kind.0) kind.1
  address ← address_at bits.1
  port ← number_at address.1
  Ok (Args.Inet kind.0 address.0 port.0, perms bits.0, port.1)

-- `unix KIND PERMISSIONS NAME`, past the first word
unfoldable pub unix_line : List Text → Result (Args × Perms × List Text) LineKind
unix_line words = do
  kind ← kind_at unix_kind starts_unix words
  bits ← perms_at (unix_permissions kind.0) kind.1
  name ← name_at bits.1
  Ok (Args.Unix kind.0 name.0, perms bits.0, name.1)

-- what stands after `network`
unfoldable pub network_line : List Text → Result (Args × Perms × List Text) LineKind
network_line [] = Err LineKind.Arity
network_line (word ∷ words) =
    if texts_equal word (codes "inet") then inet_line words else
    (if texts_equal word (codes "unix") then unix_line words
    else Err (keyword_kind (is_last words && (begins word (codes "inet")
    || begins word (codes "unix")))))

-- an `=` stands in a text
abbrev pub has_equals : Text → Bool
has_equals text = list_any (λ b. b == 61) text

-- the name of an environment variable is a pattern, not empty and without `=`; it may begin with
-- `@`
unfoldable pub env_word : Text → Result Pattern LineKind
env_word [] = Err LineKind.Name
env_word (b ∷ word) = if has_equals (b ∷ word) then Err LineKind.Name else pattern_word (b ∷ word)

-- a text that can stand there
abbrev pub is_env : Text → Bool
is_env [] = false
is_env (b ∷ word) = not (has_equals (b ∷ word))

-- `env NAME`, which stands after `misc`
unfoldable pub misc_line : List Text → Result (Args × Perms × List Text) LineKind
misc_line words = do
  rest ← keyword_at (codes "env") words
  name ← word_at env_word rest
  Ok (Args.Env name.0, perms 1, name.1)

-- `manual_domain_transition DOMAIN`, which stands after `task`
unfoldable pub task_line : List Text → Result (Args × Perms × List Text) LineKind
task_line words = do
  rest ← keyword_at (codes "manual_domain_transition") words
  domain ← domain_at rest
  Ok (Args.Manual domain.0, perms 1, domain.1)

-- a front of a leading word
abbrev pub starts_net : Text → Bool
starts_net word =
    begins word (codes "network") || begins word (codes "misc") || begins word (codes "task")

-- a line of network, environment or task: its arguments, its permissions, and the words after them
unfoldable pub net_line : List Text → Result (Args × Perms × List Text) LineKind
net_line [] = Err LineKind.Arity
net_line (word ∷ words) =
    if texts_equal word (codes "network") then network_line words else
    (if texts_equal word (codes "misc") then misc_line words else
    (if texts_equal word (codes "task") then task_line words
    else Err (keyword_kind (is_last words && starts_net word))))

-- how many words were taken, in place of those that are left
abbrev pub counted : ℕ → Result (Args × Perms × List Text) LineKind
    → Result (Args × Perms × ℕ) LineKind
counted n read = read >>= λ x. Ok (x.0, x.1, n - length x.2)

-- the words of a line; there is none for the arguments of a file
unfoldable pub net_words : Args → ℕ → List Text
net_words (Args.Inet kind address port) bits =
    codes "network" ∷ codes "inet" ∷ inet_word kind ∷ perms_spelling (inet_permissions kind) bits
    ∷ address_spelling address ∷ number_spelling port ∷ []
net_words (Args.Unix kind name) bits =
    codes "network" ∷ codes "unix" ∷ unix_word kind ∷ perms_spelling (unix_permissions kind) bits
    ∷ name_spelling name ∷ []
net_words (Args.Env pattern_) bits = codes "misc" ∷ codes "env" ∷ spelled_pattern pattern_ ∷ []
net_words (Args.Manual domain) bits =
    codes "task" ∷ codes "manual_domain_transition" ∷ domain_parts domain
net_words (Args.Path name) bits = []
net_words (Args.Execute name prefer) bits = []
net_words (Args.PathNumber name number) bits = []
net_words (Args.Device name mode major minor) bits = []
net_words (Args.Path2 first second) bits = []
net_words (Args.Mount device dir type flags) bits = []

-- the arguments and permissions that a line can write
unfoldable pub is_net : Args → ℕ → Bool
is_net (Args.Inet kind address port) bits =
    is_set (inet_permissions kind) bits && is_address address && is_number port
is_net (Args.Unix kind name) bits = is_set (unix_permissions kind) bits && is_name name
is_net (Args.Env pattern_) bits =
    bits == 1 && is_right pattern_ && is_env (spelled_pattern pattern_)
is_net (Args.Manual domain) bits = bits == 1 && is_domain_name is_path domain
is_net (Args.Path name) bits = false
is_net (Args.Execute name prefer) bits = false
is_net (Args.PathNumber name number) bits = false
is_net (Args.Device name mode major minor) bits = false
is_net (Args.Path2 first second) bits = false
is_net (Args.Mount device dir type flags) bits = false

-- from their printed words arguments and permissions are read again, whatever conditions follow
abbrev pub IsReadAgain : Args → Perms → Type 0
IsReadAgain a p =
    (more : List Text) → ends_domain more ≡ true
    → net_line (net_words a p.bits ++ more) ≡ Ok (a, p, more)
