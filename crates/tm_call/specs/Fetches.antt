-- What the fetches of a command give, and where they stop.
use Rattle.std.specs.Prelude.{◌≡◌, ℕ, Bool, false, IsTrue, List, [], ◌∷◌, map, take, ⊤, Option, Some, None, slice_get, length, nat_lt, if◌then◌else◌}
use Rattle.tm_io.specs.declared.names.FileName.{FileName}
use Rattle.tm_io.specs.Names.{same_name}
use Rattle.tm_io.specs.Files.{FileState, Files, MayGive, MayLack, MayExceed}
use Rattle.tm_call.specs.declared.status.Status.{Status}
use Rattle.tm_call.specs.declared.fetches.Want.{Want}

-- a file that a command reads, and whether it has to be there
abbrev pub want : FileName → Bool → Want
want name needed = record { name = name; needed = needed }

-- names with their bytes
abbrev pub Texts : Type 0
Texts = List (FileName × List ℕ)

-- the bytes of a name, none where it doesn't stand there
abbrev pub content : Texts → FileName → List ℕ
content [] name = []
content (text ∷ texts) name = if same_name text.0 name then text.1 else content texts name

-- what is read of a file: its bytes, or nothing where it is missing and not needed
pub data Given (want : Want) (state : FileState) (text : List ℕ) : Type 0 where
  Held : MayGive state text → Given want state text
  Left_out : want.needed ≡ false → MayLack state → text ≡ [] → Given want state text

-- what is read of the files, in order
abbrev pub AllGiven : Files → List Want → Texts → Type 0
AllGiven files [] [] = ⊤
AllGiven files [] (text ∷ texts) = ⊥
AllGiven files (want ∷ wants) [] = ⊥
AllGiven files (want ∷ wants) (text ∷ texts) = (text.0 ≡ want.name) × Given want (files want.name) text.1 × AllGiven files wants texts

-- why a fetch ends the call: a counted fault, a needed file that isn't there, or a file that is too
-- long
abbrev pub FetchCause : Want → FileState → Type 0 → Status → Type 0
FetchCause want state rose (Status.ReadFault name) = (name ≡ want.name) × rose
FetchCause want state rose (Status.Absent name) = (name ≡ want.name) × IsTrue want.needed × MayLack state
FetchCause want state rose (Status.TooLong name) = (name ≡ want.name) × MayExceed state
FetchCause want state rose Status.OutOfMemory = ⊤
FetchCause want state rose _ = ⊥

-- the first fetch that gives nothing decides; those before it gave their files
pub record FetchStops (files : Files) (wants : List Want) (rose : Type 0) (status : Status) : Type 0 where
  pub place : ℕ
  pub want : Want
  pub stands : slice_get wants place ≡ Some want
  pub texts : Texts
  pub before : AllGiven files (take place wants) texts
  pub cause : FetchCause want (files want.name) rose status

-- whether a file is told
abbrev pub IsTold : FileState → Type 0
IsTold FileState.Untold = ⊥
IsTold FileState.Missing = ⊤
IsTold (FileState.Holds bytes) = ⊤

-- every file is told
abbrev pub TellsAll : Files → Type 0
TellsAll files = (name : FileName) → IsTold (files name)

-- what a told file counts as: its bytes, nothing where it is missing
abbrev pub told : FileState → List ℕ
told FileState.Untold = []
told FileState.Missing = []
told (FileState.Holds bytes) = bytes

-- what the told files hold
abbrev pub told_texts : List Want → Files → Texts
told_texts wants files = map (λ want. (want.name, told (files want.name))) wants

-- the first of two, if it is there
abbrev pub or_else : Option Status → Option Status → Option Status
or_else None next = next
or_else (Some status) next = Some status

-- the status with which the fetch of a told file ends the call, if it does
abbrev pub unread : Want → FileState → Option Status
unread want FileState.Untold = None
unread want FileState.Missing = if want.needed then Some (Status.Absent want.name) else None
unread want (FileState.Holds bytes) = if nat_lt 16777216 (length bytes) then Some (Status.TooLong want.name) else None

-- the same for the first of several files
abbrev pub first_unread : List Want → Files → Option Status
first_unread [] files = None
first_unread (want ∷ wants) files = or_else (unread want (files want.name)) (first_unread wants files)
