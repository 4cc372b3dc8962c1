-- Which files a call fetches and stores, and in which order, where the shelf tells its calls.
use Rattle.std.specs.Prelude.{◌≡◌, List, [], ◌∷◌, ◌++◌, map, Option}
use Rattle.tm_io.specs.declared.names.FileName.{FileName}
use Rattle.tm_io.specs.Notes.{Noted}
use Rattle.tm_call.specs.declared.status.Status.{Status}
use Rattle.tm_call.specs.declared.status.OutName.{OutName}
use Rattle.tm_call.specs.declared.fetches.Want.{Want}

-- what a shelf tells of its fetches, or of its stores: the names, in the order of the calls
abbrev pub Names : Type 0
Names = Option (List FileName)

-- the files of these wants, in order
abbrev pub wanted : List Want → List FileName
wanted wants = map (λ (want : Want). want.name) wants

-- the calls for the first of these files were made, in their order, each once
pub record FirstCalls (files : List FileName) (old new : Names) : Type 0 where
  pub made : List FileName
  pub left : List FileName
  pub all : files ≡ made ++ left
  pub noted : Noted made old new

-- the call for this file was the last one: those for the files before it were made, in their order,
-- each once, and none after it
pub record LastCall (files : List FileName) (name : FileName) (old new : Names) : Type 0 where
  pub before : List FileName
  pub after : List FileName
  pub all : files ≡ before ++ name ∷ after
  pub noted : Noted (before ++ name ∷ []) old new

-- the fetches by the status: a fetch that decides is the last one, and everything else is decided
-- after all of them
abbrev pub FetchesOf : List FileName → Status → Names → Names → Type 0
FetchesOf files (Status.ReadFault name) old new = LastCall files name old new
FetchesOf files (Status.Absent name) old new = LastCall files name old new
FetchesOf files (Status.TooLong name) old new = LastCall files name old new
FetchesOf files Status.OutOfMemory old new = FirstCalls files old new
FetchesOf files _ old new = Noted files old new

-- the stores by the status: a store that fails is the last one, standard output comes after all of
-- them, and every other fault before them
abbrev pub StoresOf : List FileName → Status → Names → Names → Type 0
StoresOf files Status.Done old new = Noted files old new
StoresOf files (Status.WriteFault (OutName.File name)) old new = LastCall files name old new
StoresOf files (Status.WriteFault OutName.StandardOutput) old new = Noted files old new
StoresOf files Status.OutOfMemory old new = FirstCalls files old new
StoresOf files _ old new = Noted [] old new
