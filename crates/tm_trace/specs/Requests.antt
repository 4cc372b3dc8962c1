-- The requests of a trace: an ACL line with one permission, literal names, single numbers and a
-- single address. A wrong word is never an unfinished one.
use Rattle.std.specs.Prelude.{ℕ, ◌==◌, ◌&&◌, not, if◌then◌else◌, List, [], ◌∷◌, codes, Option, Some, None, Result, Ok, Err}
use Rattle.std.specs.List.{position}
use Rattle.tm_word.specs.Prelude.{Pattern, Text, begins_with_byte, literal, texts_equal, ◌>>=◌}
use Rattle.tm_number.specs.Numbers.{number_of}
use Rattle.tm_number.specs.Numbers as numbers
use Rattle.tm_addr.specs.Reading.{addr_of}
use Rattle.tm_addr.specs.Reading as addresses
use Rattle.tm_rules.specs.Types.{AddrUnion, Args, LineKind, NameUnion, NumberUnion}
use Rattle.tm_line.specs.declared.permissions.Row.{Row}
use Rattle.tm_line.specs.Lines.{word_at}
use Rattle.tm_line.specs.Permissions.{names}
use Rattle.tm_line.specs.Arguments.{kinded, group_word}
use Rattle.tm_line.specs.Domains.{domain_at}
use Rattle.tm_entry.specs.FileLines.{row_of}
use Rattle.tm_entry.specs.NetLines.{inet_kind, unix_kind, inet_permissions, unix_permissions, has_equals}

-- Words

-- what is there, or else the word is wrong
abbrev pub or_keyword : {A : Type 0} → Option A → Result A LineKind
or_keyword (Some x) = Ok x
or_keyword None = Err LineKind.Keyword

-- the first word as one of some words, and the words after it
abbrev pub one_of : {A : Type 0} → (Text → Option A) → List Text → Result (A × List Text) LineKind
one_of found words = word_at (λ word. or_keyword (found word)) words

-- the words after this one
abbrev pub only_at : Text → List Text → Result (List Text) LineKind
only_at keyword [] = Err LineKind.Arity
only_at keyword (word ∷ words) = if texts_equal word keyword then Ok words else Err LineKind.Keyword

-- the place of a permission in its row, from 0
unfoldable pub place_in : Row → Text → Option ℕ
place_in acl_row word = position (λ name. texts_equal word name) (names acl_row)

-- Arguments

-- a literal name: a spelled word, not empty, without `@` in front
unfoldable pub literal_name : Text → Result NameUnion LineKind
literal_name text =
    if begins_with_byte 64 text then Err LineKind.Name
    else (group_word text >>= λ word. Ok (NameUnion.One (literal word)))

-- that of a single path; the path of an execute begins with `/`
unfoldable pub path_name : ℕ → Text → Result NameUnion LineKind
path_name perm text =
    if perm == 0 && not (begins_with_byte 47 text) then Err LineKind.Name else literal_name text

-- a single number
unfoldable pub single_number : Text → Result NumberUnion LineKind
single_number text =
    kinded LineKind.Number (number_of text) >>= λ n. Ok (NumberUnion.One (numbers.range n n))

-- a single address
unfoldable pub single_address : Text → Result AddrUnion LineKind
single_address text =
    kinded LineKind.Address (addr_of text) >>= λ a. Ok (AddrUnion.One (addresses.range a a))

-- the name of an environment variable: a spelled word, not empty, without `=`; it may begin with
-- `@`
unfoldable pub env_name : Text → Result Pattern LineKind
env_name text =
    if has_equals text then Err LineKind.Name else (group_word text >>= λ word. Ok (literal word))

-- Rows

-- the arguments of a row of files, by the place of the permission
unfoldable pub args_at : Row → ℕ → List Text → Result (Args × List Text) LineKind
args_at Row.Path perm words = do
  name ← word_at (path_name perm) words
  Ok (Args.Path name.0, name.1)
args_at Row.PathNumber perm words = do
  name ← word_at literal_name words
  number ← word_at single_number name.1
  Ok (Args.PathNumber name.0 number.0, number.1)
args_at Row.Device perm words = do
  name ← word_at literal_name words
  mode ← word_at single_number name.1
  major ← word_at single_number mode.1
  minor ← word_at single_number major.1
  Ok (Args.Device name.0 mode.0 major.0 minor.0, minor.1)
args_at Row.Pair perm words = do
  first ← word_at literal_name words
  second ← word_at literal_name first.1
  Ok (Args.Path2 first.0 second.0, second.1)
args_at Row.Listening perm words = Err LineKind.Keyword
args_at Row.Sending perm words = Err LineKind.Keyword

-- the arguments of `mount`
unfoldable pub mount_at : List Text → Result (Args × List Text) LineKind
mount_at words = do
  device ← word_at literal_name words
  dir ← word_at literal_name device.1
  type ← word_at literal_name dir.1
  flags ← word_at single_number type.1
  Ok (Args.Mount device.0 dir.0 type.0 flags.0, flags.1)

-- the arguments, the place of the permission, and the words that are left
abbrev pub with_perm : ℕ → Result (Args × List Text) LineKind
    → Result (Args × ℕ × List Text) LineKind
with_perm perm read = read >>= λ x. Ok (x.0, perm, x.1)

-- the permission's place in its row, and the arguments of the row
abbrev pub row_request : Option Row → Text → List Text → Result (Args × ℕ × List Text) LineKind
row_request None word words = Err LineKind.Keyword
row_request (Some acl_row) word words =
    or_keyword (place_in acl_row word) >>= λ perm. with_perm perm (args_at acl_row perm words)

-- a single path with this name, and the words after it
abbrev pub named_path : ℕ → Text → List Text → Result (Args × ℕ × List Text) LineKind
named_path perm name words = path_name perm name >>= λ x. Ok (Args.Path x, perm, words)

-- what stands after `file`: the permission tells the row
unfoldable pub file_request : List Text → Result (Args × ℕ × List Text) LineKind
file_request [] = Err LineKind.Arity
file_request (word ∷ words) =
    if texts_equal word (codes "mount") then with_perm 0 (mount_at words)
    else row_request (row_of word) word words

-- `inet KIND PERMISSION ADDRESS NUMBER`, past the first word
unfoldable pub inet_request : List Text → Result (Args × ℕ × List Text) LineKind
inet_request words = do
  kind ← one_of inet_kind words
  perm ← one_of (place_in (inet_permissions kind.0)) kind.1
  address ← word_at single_address perm.1
  port ← word_at single_number address.1
  Ok (Args.Inet kind.0 address.0 port.0, perm.0, port.1)

-- `unix KIND PERMISSION NAME`, past the first word
unfoldable pub unix_request : List Text → Result (Args × ℕ × List Text) LineKind
unix_request words = do
  kind ← one_of unix_kind words
  perm ← one_of (place_in (unix_permissions kind.0)) kind.1
  name ← word_at literal_name perm.1
  Ok (Args.Unix kind.0 name.0, perm.0, name.1)

-- what stands after `network`
unfoldable pub network_request : List Text → Result (Args × ℕ × List Text) LineKind
network_request [] = Err LineKind.Arity
network_request (word ∷ words) =
    if texts_equal word (codes "inet") then inet_request words else
    (if texts_equal word (codes "unix") then unix_request words else Err LineKind.Keyword)

-- `env NAME`, which stands after `misc`
unfoldable pub misc_request : List Text → Result (Args × ℕ × List Text) LineKind
misc_request words = do
  rest ← only_at (codes "env") words
  name ← word_at env_name rest
  Ok (Args.Env name.0, 0, name.1)

-- `manual_domain_transition DOMAIN`, which stands after `task`
unfoldable pub task_request : List Text → Result (Args × ℕ × List Text) LineKind
task_request words = do
  rest ← only_at (codes "manual_domain_transition") words
  domain ← domain_at rest
  Ok (Args.Manual domain.0, 0, domain.1)

-- a request: its arguments, the place of its permission, and the words after them
unfoldable pub request_line : List Text → Result (Args × ℕ × List Text) LineKind
request_line [] = Err LineKind.Arity
request_line (word ∷ words) =
    if texts_equal word (codes "file") then file_request words else
    (if texts_equal word (codes "network") then network_request words else
    (if texts_equal word (codes "misc") then misc_request words else
    (if texts_equal word (codes "task") then task_request words else Err LineKind.Keyword)))
