-- Pids and ids.
use Rattle.std.specs.Prelude.{ℕ, ◌^◌, ◌==◌, if◌then◌else◌, List, Result, Ok, Err}
use Rattle.tm_word.specs.Prelude.{Text, ◌>>=◌}
use Rattle.tm_rules.specs.Types.{Ids, LineKind}
use Rattle.tm_line.specs.Lines.{ended, word_at}
use Rattle.tm_line.specs.Arguments.{plain_word}

-- a pid isn't 0
abbrev pub not_zero : ℕ → Result ℕ LineKind
not_zero n = if n == 0 then Err LineKind.Number else Ok n

-- a pid is a plain number from 1 to 2^32 - 1
unfoldable pub pid_word : Text → Result ℕ LineKind
pid_word text = plain_word (2 ^ 32) text >>= not_zero

-- an id is a plain number below 2^32
unfoldable pub id_at : List Text → Result (ℕ × List Text) LineKind
id_at words = word_at (plain_word (2 ^ 32)) words

-- the ids in their written order
abbrev pub eight_ids : ℕ → ℕ → ℕ → ℕ → ℕ → ℕ → ℕ → ℕ → Ids
eight_ids uid euid suid fsuid gid egid sgid fsgid =
    record {
      uid = uid;
      euid = euid;
      suid = suid;
      fsuid = fsuid;
      gid = gid;
      egid = egid;
      sgid = sgid;
      fsgid = fsgid;
    }

-- eight ids, and no word after them
unfoldable pub ids_to_end : List Text → Result Ids LineKind
ids_to_end words = do
  uid ← id_at words
  euid ← id_at uid.1
  suid ← id_at euid.1
  fsuid ← id_at suid.1
  gid ← id_at fsuid.1
  egid ← id_at gid.1
  sgid ← id_at egid.1
  fsgid ← id_at sgid.1
  ended (eight_ids uid.0 euid.0 suid.0 fsuid.0 gid.0 egid.0 sgid.0 fsgid.0) fsgid.1
