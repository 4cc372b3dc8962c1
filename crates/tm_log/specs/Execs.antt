-- What a header tells of an execute.
use Rattle.std.specs.Prelude.{ℕ, ◌+◌, ◌==◌, ◌||◌, Bool, not, if◌then◌else◌, List, [], ◌∷◌, ◌++◌, length, take, drop, codes, Option, Some, None, Result, Ok, Err}
use Rattle.std.specs.List.{position}
use Rattle.tm_word.specs.Prelude.{Text, Word, texts_equal, ◌>>=◌}
use Rattle.tm_rules.specs.Types.{LineKind}
use Rattle.tm_trace.specs.Requests.{only_at}
use Rattle.tm_trace.specs.Attributes.{has_name}
use Rattle.tm_log.specs.declared.exec.Exec.{Exec}
use Rattle.tm_log.specs.Steps.{quoted_word, quoted_at, id_at}
use Rattle.tm_log.specs.Blocks.{block_at}

-- words in double quotes to the end of the list, after those that were read; before the end `...`
-- may stand
unfoldable pub list_at : List Word → List Text → Result (List Word × List Text) LineKind
list_at list [] = Err LineKind.Arity
list_at list (word ∷ words) =
    if texts_equal word (codes "}") then Ok (list, words) else
    (if texts_equal word (codes "...")
    then (only_at (codes "}") words >>= λ rest. Ok (list, rest))
    else (quoted_word word >>= λ read. list_at (list ++ read ∷ []) words))

-- the head of an environment: one word, or two where the kernel couldn't read the list
unfoldable pub environment_at : List Text → Result (List Text) LineKind
environment_at [] = Err LineKind.Arity
environment_at (word ∷ words) =
    if texts_equal word (codes "envp[]={") then Ok words else
    (if texts_equal word (codes "envp[]=") then only_at (codes "{") words
    else Err LineKind.Keyword)

-- how many arguments and environment words there are
unfoldable pub counts_at : List Text → Result ((ℕ × ℕ) × List Text) LineKind
counts_at words = do
  argc ← id_at (codes "argc=") words
  envc ← id_at (codes "envc=") argc.1
  Ok ((argc.0, envc.0), envc.1)

-- the arguments and the environment words, to the end of the block
unfoldable pub lists_at : List Text → Result ((List Word × List Word) × List Text) LineKind
lists_at words = do
  head ← only_at (codes "argv[]={") words
  argv ← list_at [] head
  next ← environment_at argv.1
  envp ← list_at [] next
  rest ← only_at (codes "}") envp.1
  Ok ((argv.0, envp.0), rest)

-- an execute, to the end of its block
unfoldable pub exec_at : List Text → Result (Exec × List Text) LineKind
exec_at words = do
  real_path ← quoted_at (codes "realpath=") words
  counts ← counts_at real_path.1
  lists ← lists_at counts.1
  Ok (
    record {
      real_path = real_path.0;
      argc = counts.0.0;
      envc = counts.0.1;
      argv = lists.0.0;
      envp = lists.0.1;
    },
    lists.1,
  )

unfoldable pub exec_block : List Text → Result (Option Exec × List Text) LineKind
exec_block words = block_at exec_at (codes "exec={") words

-- the kernel left arguments or environment words out
abbrev pub is_cut : Exec → Bool
is_cut exec = not (length exec.argv == exec.argc) || not (length exec.envp == exec.envc)

-- the name and the value of a word, cut at its first `=`
abbrev pub cut_to : Text → Option ℕ → Option (Word × Word)
cut_to word None = None
cut_to word (Some place) = Some (take place word, drop (place + 1) word)

unfoldable pub split : Word → Option (Word × Word)
split word = cut_to word (position (λ b. b == 61) word)

-- one word more, unless it has no `=` or its name is there
unfoldable pub with_pair : List (Word × Word) → Option (Word × Word) → List (Word × Word)
with_pair envp None = envp
with_pair envp (Some pair) = if has_name pair.0 envp then envp else envp ++ pair ∷ []

-- the environment of words, after what was read: of each name the first counts
abbrev pub environment_of : List (Word × Word) → List Word → List (Word × Word)
environment_of envp [] = envp
environment_of envp (word ∷ words) = environment_of (with_pair envp (split word)) words
