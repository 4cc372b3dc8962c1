-- The words of conditions, read and written: the attributes, and the types of files.
use Rattle.std.specs.Prelude.{ℕ, ◌-◌, ◌^◌, ◌==◌, nat_lt, ◌&&◌, Bool, if◌then◌else◌, List, [], ◌∷◌, ◌++◌, length, get_or, take, codes, Option, Some, None, option_map, option_and_then, Result, Ok, Err}
use Rattle.std.specs.Option.{option_or}
use Rattle.std.specs.Fmt.{decimal}
use Rattle.tm_word.specs.Prelude.{Text, after, named, of_word, spell, spelled_word, ◌>>=◌}
use Rattle.tm_number.specs.Numbers.{plain_of}
use Rattle.tm_rules.specs.Types.{Attr, FileKindWord, IdField, LineKind, StatField, StatPlace}
use Rattle.tm_line.specs.Lines.{or_kind}

-- Pieces of a word

-- what is there, or else the condition is wrong
abbrev pub or_wrong : {A : Type 0} → Option A → Result A LineKind
or_wrong found = or_kind LineKind.Condition found

-- the text without its last byte, where that is this one
abbrev pub ends_in : ℕ → Text → Bool
ends_in byte text = nat_lt 0 (length text) && get_or text (length text - 1) 0 == byte

unfoldable pub without_last : ℕ → Text → Option Text
without_last byte text = if ends_in byte text then Some (take (length text - 1) text) else None

-- what stands between two double quotes, the first byte and the last one
abbrev pub quoted : Text → Result Text LineKind
quoted [] = Err LineKind.Condition
quoted (b ∷ text) = if b == 34 then or_wrong (without_last 34 text) else Err LineKind.Condition

-- Words of one table

-- the ids of a process
abbrev pub id_text : IdField → Text
id_text IdField.Uid = codes "uid"
id_text IdField.Euid = codes "euid"
id_text IdField.Suid = codes "suid"
id_text IdField.Fsuid = codes "fsuid"
id_text IdField.Gid = codes "gid"
id_text IdField.Egid = codes "egid"
id_text IdField.Sgid = codes "sgid"
id_text IdField.Fsgid = codes "fsgid"
id_text IdField.Pid = codes "pid"
id_text IdField.Ppid = codes "ppid"

abbrev pub ids : List IdField
ids =
    IdField.Uid ∷ IdField.Euid ∷ IdField.Suid ∷ IdField.Fsuid ∷ IdField.Gid ∷ IdField.Egid
    ∷ IdField.Sgid ∷ IdField.Fsgid ∷ IdField.Pid ∷ IdField.Ppid ∷ []

unfoldable pub id_word : Text → Option IdField
id_word text = of_word id_text ids text

-- the numbers of a file
abbrev pub field_text : StatField → Text
field_text StatField.Uid = codes "uid"
field_text StatField.Gid = codes "gid"
field_text StatField.Ino = codes "ino"
field_text StatField.Perm = codes "perm"
field_text StatField.Major = codes "major"
field_text StatField.Minor = codes "minor"
field_text StatField.DevMajor = codes "dev_major"
field_text StatField.DevMinor = codes "dev_minor"

abbrev pub fields : List StatField
fields =
    StatField.Uid ∷ StatField.Gid ∷ StatField.Ino ∷ StatField.Perm ∷ StatField.Major
    ∷ StatField.Minor ∷ StatField.DevMajor ∷ StatField.DevMinor ∷ []

unfoldable pub field_word : Text → Option StatField
field_word text = of_word field_text fields text

-- those of the folder that a file is in
abbrev pub parent_fields : List StatField
parent_fields = StatField.Uid ∷ StatField.Gid ∷ StatField.Ino ∷ StatField.Perm ∷ []

unfoldable pub parent_word : Text → Option StatField
parent_word text = of_word field_text parent_fields text

-- the types of files
abbrev pub kind_text : FileKindWord → Text
kind_text FileKindWord.File = codes "file"
kind_text FileKindWord.Directory = codes "directory"
kind_text FileKindWord.Symlink = codes "symlink"
kind_text FileKindWord.Socket = codes "socket"
kind_text FileKindWord.Fifo = codes "fifo"
kind_text FileKindWord.Char = codes "char"
kind_text FileKindWord.Block = codes "block"

abbrev pub file_kinds : List FileKindWord
file_kinds =
    FileKindWord.File ∷ FileKindWord.Directory ∷ FileKindWord.Symlink ∷ FileKindWord.Socket
    ∷ FileKindWord.Fifo ∷ FileKindWord.Char ∷ FileKindWord.Block ∷ []

unfoldable pub kind_word : Text → Option FileKindWord
kind_word text = of_word kind_text file_kinds text

-- Attributes

-- what stands in front of a file's attributes
abbrev pub place_text : StatPlace → Text
place_text StatPlace.Path1 = codes "path1."
place_text StatPlace.Path2 = codes "path2."
place_text StatPlace.Path1Parent = codes "path1.parent."
place_text StatPlace.Path2Parent = codes "path2.parent."

-- how an attribute is written
unfoldable pub attr_text : Attr → Text
attr_text (Attr.Task field) = codes "task." ++ id_text field
attr_text Attr.Argc = codes "exec.argc"
attr_text Attr.Envc = codes "exec.envc"
attr_text (Attr.Stat place field) = place_text place ++ field_text field
attr_text (Attr.Kind place) = place_text place ++ codes "type"
attr_text (Attr.Argv n) = codes "exec.argv[" ++ decimal n ++ 93 ∷ []
attr_text (Attr.Envp name) = codes "exec.envp[" ++ 34 ∷ spell name ++ 34 ∷ 93 ∷ []
attr_text Attr.RealPath = codes "exec.realpath"
attr_text Attr.Target = codes "symlink.target"

-- an id of the process
abbrev pub task_at : Text → Option Attr
task_at text =
    option_and_then (λ rest. option_map Attr.Task (id_word rest)) (after (codes "task.") text)

-- a number of a file, or of the folder that it is in
abbrev pub field_at : StatPlace → Text → Option StatField
field_at StatPlace.Path1 text = field_word text
field_at StatPlace.Path2 text = field_word text
field_at StatPlace.Path1Parent text = parent_word text
field_at StatPlace.Path2Parent text = parent_word text

abbrev pub stat_at : StatPlace → Text → Option Attr
stat_at place text =
    option_and_then (λ rest. option_map (Attr.Stat place) (field_at place rest))
    (after (place_text place) text)

-- how many arguments and environment names there are
abbrev pub count_table : List (Text × Attr)
count_table = (codes "exec.argc", Attr.Argc) ∷ (codes "exec.envc", Attr.Envc) ∷ []

-- a numeric attribute
unfoldable pub numeric_word : Text → Option Attr
numeric_word text =
    option_or (task_at text) (option_or (named count_table text)
    (option_or (stat_at StatPlace.Path1 text)
    (option_or (stat_at StatPlace.Path2 text)
    (option_or (stat_at StatPlace.Path1Parent text) (stat_at StatPlace.Path2Parent text)))))

-- the attributes without a number that are one word each
abbrev pub other_table : List (Text × Attr)
other_table =
    (codes "path1.type", Attr.Kind StatPlace.Path1)
    ∷ (codes "path2.type", Attr.Kind StatPlace.Path2) ∷ (codes "exec.realpath", Attr.RealPath)
    ∷ (codes "symlink.target", Attr.Target) ∷ []

unfoldable pub other_word : Text → Option Attr
other_word text = named other_table text

-- an argument by its place, a plain number below 2^32 before the closing bracket
unfoldable pub argv_word : Text → Result Attr LineKind
argv_word rest = do
  digits ← or_wrong (without_last 93 rest)
  n ← or_wrong (plain_of (2 ^ 32) digits)
  Ok (Attr.Argv n)

-- an environment name, a spelled word in double quotes before the closing bracket
unfoldable pub envp_word : Text → Result Attr LineKind
envp_word rest = do
  text ← or_wrong (without_last 93 rest)
  inner ← quoted text
  name ← or_wrong (spelled_word inner)
  Ok (Attr.Envp name)

-- what is there, or what the other gives
abbrev pub or_read : {A : Type 0} → Option A → Result A LineKind → Result A LineKind
or_read (Some x) other = Ok x
or_read None other = other

-- what the rest of the text gives, or what the other gives
abbrev pub or_rest : Option Text → (Text → Result Attr LineKind) → Result Attr LineKind
    → Result Attr LineKind
or_rest (Some rest) read other = read rest
or_rest None read other = other

-- a left word
unfoldable pub attr_word : Text → Result Attr LineKind
attr_word text =
    or_read (numeric_word text) (or_read (other_word text)
    (or_rest (after (codes "exec.argv[") text) argv_word
    (or_rest (after (codes "exec.envp[") text) envp_word (Err LineKind.Condition))))
