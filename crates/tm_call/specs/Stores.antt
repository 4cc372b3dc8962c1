-- What stores leave, all of them or the first ones.
use Rattle.std.specs.Prelude.{◌≡◌, ℕ, Bool, true, false, List, [], ◌∷◌, map, take, Some, slice_get, if◌then◌else◌}
use Rattle.tm_io.specs.declared.names.FileName.{FileName}
use Rattle.tm_io.specs.Names.{same_name}
use Rattle.tm_io.specs.Files.{FileState, Files, changed}
use Rattle.tm_call.specs.declared.status.Status.{Status}
use Rattle.tm_call.specs.declared.status.OutName.{OutName}
use Rattle.tm_call.specs.Fetches.{Texts}

-- a file's state after these stores
abbrev pub stored : Texts → FileName → FileState → FileState
stored [] name state = state
stored (store ∷ stores) name state = stored stores name (changed store.0 store.1 name state)

-- these stores were made, and nothing else has changed
abbrev pub Leaves : Texts → Files → Files → Type 0
Leaves stores old new = (name : FileName) → new name ≡ stored stores name (old name)

-- a fault at a store: those before it were made, and nothing else has changed
pub record IsStopped (stores : Texts) (old new : Files) (name : FileName) : Type 0 where
  pub made : ℕ
  pub bytes : List ℕ
  pub at : slice_get stores made ≡ Some (name, bytes)
  pub files : Leaves (take made stores) old new

-- how stores stop
abbrev pub StoreStops : Texts → Files → Files → Type 0 → Status → Type 0
StoreStops stores old new rose (Status.WriteFault (OutName.File name)) = IsStopped stores old new name × rose
StoreStops stores old new rose Status.OutOfMemory = (made : ℕ) × Leaves (take made stores) old new
StoreStops stores old new rose _ = ⊥

-- the files that are stored
abbrev pub names_of : Texts → List FileName
names_of stores = map (λ store. store.0) stores

-- the name stands in the list
abbrev pub is_named : List FileName → FileName → Bool
is_named [] name = false
is_named (other ∷ names) name = if same_name other name then true else is_named names name
