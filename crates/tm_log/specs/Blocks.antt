-- The blocks of a header that tell of files and folders.
use Rattle.std.specs.Prelude.{ℕ, ◌^◌, if◌then◌else◌, List, [], ◌∷◌, ◌++◌, codes, Option, Some, None, Result, Ok, Err}
use Rattle.tm_word.specs.Prelude.{Text, after, texts_equal, ◌>>=◌}
use Rattle.tm_rules.specs.Types.{Base, FileKindWord, LineKind, Number, Stat, StatField, StatPlace}
use Rattle.tm_number.specs.declared.text.NumberFault.{NumberFault}
use Rattle.tm_number.specs.Numbers.{number_of}
use Rattle.tm_line.specs.Lines.{word_at}
use Rattle.tm_cond.specs.Attributes.{kind_word}
use Rattle.tm_trace.specs.Requests.{only_at}
use Rattle.tm_log.specs.declared.blocks.Owner.{Owner}
use Rattle.tm_log.specs.declared.blocks.Device.{Device}
use Rattle.tm_log.specs.declared.blocks.FileNumbers.{FileNumbers}
use Rattle.tm_log.specs.declared.blocks.FolderNumbers.{FolderNumbers}
use Rattle.tm_log.specs.declared.blocks.Found.{Found}
use Rattle.tm_log.specs.Steps.{stands, after_front, number_at}

-- below 2^64
abbrev pub long_at : Text → List Text → Result (ℕ × List Text) LineKind
long_at front words = number_at front (2 ^ 64) words

-- the value of an octal number
abbrev pub octal_of : Base → ℕ → Result ℕ LineKind
octal_of Base.Octal value = Ok value
octal_of _ value = Err LineKind.Number

abbrev pub octal_in : Result Number NumberFault → Result ℕ LineKind
octal_in (Ok n) = octal_of n.base n.value
octal_in (Err fault) = Err LineKind.Number

unfoldable pub perm_text : Text → Result ℕ LineKind
perm_text text = octal_in (number_of text)

abbrev pub perm_at : List Text → Result (ℕ × List Text) LineKind
perm_at words = word_at (λ word. after_front perm_text (after (codes "perm=") word)) words

-- a known type
abbrev pub known_type : Option FileKindWord → Result (Option FileKindWord) LineKind
known_type (Some kind) = Ok (Some kind)
known_type None = Err LineKind.Keyword

-- `unknown` is no type
unfoldable pub type_text : Text → Result (Option FileKindWord) LineKind
type_text text = if texts_equal text (codes "unknown") then Ok None else known_type (kind_word text)

abbrev pub type_at : List Text → Result (Option FileKindWord × List Text) LineKind
type_at words = word_at (λ word. after_front type_text (after (codes "type=") word)) words

-- the numbers of a device, in fields with these names
unfoldable pub numbers_at : Text → Text → List Text → Result (Device × List Text) LineKind
numbers_at front front_of_minor words = do
  major ← long_at front words
  minor ← long_at front_of_minor major.1
  Ok (record { major = major.0; minor = minor.0 }, minor.1)

-- the numbers of a device, unless the block ends here
unfoldable pub device_at : List Text → Result (Option Device × List Text) LineKind
device_at words = if stands (codes "}") words then Ok (None, words) else (do
  device ← numbers_at (codes "dev_major=") (codes "dev_minor=") words
  Ok (Some device.0, device.1))

unfoldable pub owner_at : List Text → Result (Owner × List Text) LineKind
owner_at words = do
  uid ← long_at (codes "uid=") words
  gid ← long_at (codes "gid=") uid.1
  ino ← long_at (codes "ino=") gid.1
  Ok (record { uid = uid.0; gid = gid.0; ino = ino.0 }, ino.1)

-- a file, to the end of its block
unfoldable pub file_at : List Text → Result (FileNumbers × List Text) LineKind
file_at words = do
  owner ← owner_at words
  home ← numbers_at (codes "major=") (codes "minor=") owner.1
  perm ← perm_at home.1
  kind ← type_at perm.1
  device ← device_at kind.1
  rest ← only_at (codes "}") device.1
  Ok (
    record {
      owner = owner.0;
      home = home.0;
      perm = perm.0;
      kind = kind.0;
      device = device.0;
    },
    rest,
  )

-- a folder, to the end of its block
unfoldable pub folder_at : List Text → Result (FolderNumbers × List Text) LineKind
folder_at words = do
  owner ← owner_at words
  perm ← perm_at owner.1
  rest ← only_at (codes "}") perm.1
  Ok (record { owner = owner.0; perm = perm.0 }, rest)

-- a block, where its first word stands next
abbrev pub block_at : {A : Type 0} → (List Text → Result (A × List Text) LineKind) → Text
    → List Text → Result (Option A × List Text) LineKind
block_at read front [] = Ok (None, [])
block_at read front (word ∷ words) =
    if texts_equal word front then (read words >>= λ x. Ok (Some x.0, x.1))
    else Ok (None, word ∷ words)

unfoldable pub file_block : Text → List Text → Result (Option FileNumbers × List Text) LineKind
file_block front words = block_at file_at front words

unfoldable pub folder_block : Text → List Text → Result (Option FolderNumbers × List Text) LineKind
folder_block front words = block_at folder_at front words

-- those of a file and of its folder
unfoldable pub found_at : Text → Text → List Text → Result (Found × List Text) LineKind
found_at file folder words = do
  file_ ← file_block file words
  folder_ ← folder_block folder file_.1
  Ok (record { file = file_.0; folder = folder_.0 }, folder_.1)

-- As attributes of a request, in printed order

abbrev pub owner_stats : StatPlace → Owner → ℕ → List Stat
owner_stats place owner perm =
    Stat.Number place StatField.Uid owner.uid ∷ Stat.Number place StatField.Gid owner.gid
    ∷ Stat.Number place StatField.Ino owner.ino ∷ Stat.Number place StatField.Perm perm ∷ []

abbrev pub device_stats : StatPlace → Option Device → List Stat
device_stats place None = []
device_stats place (Some device) =
    Stat.Number place StatField.DevMajor device.major
    ∷ Stat.Number place StatField.DevMinor device.minor ∷ []

abbrev pub kind_stats : StatPlace → Option FileKindWord → List Stat
kind_stats place None = []
kind_stats place (Some kind) = Stat.Kind place kind ∷ []

abbrev pub file_stats : StatPlace → Option FileNumbers → List Stat
file_stats place None = []
file_stats place (Some file) =
    owner_stats place file.owner file.perm ++ kind_stats place file.kind
    ++ Stat.Number place StatField.Major file.home.major ∷ []
    ++ Stat.Number place StatField.Minor file.home.minor ∷ []
    ++ device_stats place file.device

abbrev pub folder_stats : StatPlace → Option FolderNumbers → List Stat
folder_stats place None = []
folder_stats place (Some folder) = owner_stats place folder.owner folder.perm

abbrev pub found_stats : StatPlace → StatPlace → Found → List Stat
found_stats file folder found = file_stats file found.file ++ folder_stats folder found.folder
