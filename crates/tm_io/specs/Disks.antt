-- What a disk tells of the files that it opens and replaces.
use Rattle.std.specs.Prelude.{◌≡◌, ◌≢◌, ℕ, List, [], ⊤, Option, Some, None}
use Rattle.std.specs.declared.io.ErrorKind.{ErrorKind}
use Rattle.tm_io.specs.declared.names.FileName.{FileName}
use Rattle.tm_io.specs.declared.answers.Fetched.{Fetched}
use Rattle.tm_io.specs.Files.{FileState, Files, changed}

-- what an opened file has to be read is what is told of it; of a file that is told, it is told too
abbrev pub TellsOf : Option (List ℕ) → FileState → Type 0
TellsOf None state = state ≡ FileState.Untold
TellsOf (Some bytes) FileState.Untold = ⊤
TellsOf (Some bytes) FileState.Missing = ⊥
TellsOf (Some bytes) (FileState.Holds held) = held ≡ bytes

-- a draft is begun empty; where what it holds isn't told, no file is told
abbrev pub IsBegun : Option (List ℕ) → Files → Type 0
IsBegun None files = (name : FileName) → files name ≡ FileState.Untold
IsBegun (Some bytes) files = bytes ≡ []

-- a file holds what its draft held, and the others are as they were; where what the draft held
-- isn't told, no file is told
abbrev pub Replaces : FileName → Option (List ℕ) → Files → Files → Type 0
Replaces stored None old new = (name : FileName) → (old name ≡ FileState.Untold) × (new name ≡ FileState.Untold)
Replaces stored (Some bytes) old new = (name : FileName) → new name ≡ changed stored bytes name (old name)

-- how a fetch ends whose file can't be opened
abbrev pub NotOpened : ErrorKind → Fetched → Type 0
NotOpened kind Fetched.Done = ⊥
NotOpened kind Fetched.Absent = kind ≡ ErrorKind.NotFound
NotOpened kind Fetched.TooLong = ⊥
NotOpened kind Fetched.Failed = (kind ≢ ErrorKind.NotFound) × (kind ≢ ErrorKind.OutOfMemory)
NotOpened kind Fetched.NoMemory = kind ≡ ErrorKind.OutOfMemory
