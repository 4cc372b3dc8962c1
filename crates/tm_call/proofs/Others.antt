-- Files that aren't stored.
use Rattle.std.proofs.Common.{zero, suc, ◌≡◌, ◌∙◌, ℕ, ◌∷◌, [], List, Bool, true, false, Some, ap, refl, take, if◌then◌else◌, slice_get, ◌==◌, ◌+◌, eq-eqb}
use Rattle.tm_io.specs.declared.names.FileName.{FileName}
use Rattle.tm_io.specs.Names.{same_name}
use Rattle.tm_io.specs.Files.{FileState, Files, changed}
use Rattle.tm_call.specs.Fetches.{Texts}
use Rattle.tm_call.specs.Stores.{stored, Leaves, names_of, is_named}

-- a store of another file
pub changed-other : (other : FileName) (bytes : List ℕ) (name : FileName) (state : FileState) → same_name other name ≡ false → changed other bytes name state ≡ state
changed-other other bytes name FileState.Untold e = refl
changed-other other bytes name FileState.Missing e = rw e refl
changed-other other bytes name (FileState.Holds held) e = rw e refl

-- a name that isn't in a list differs from each of its names
pub not-first : (same : Bool) (others : Bool) → (if same then true else others) ≡ false → same ≡ false
not-first true others e = e
not-first false others e = refl

pub not-later : (same : Bool) (others : Bool) → (if same then true else others) ≡ false → others ≡ false
not-later true others e = cc
not-later false others e = e

-- stores of other files, all or the first ones
pub stored-other : (stores : Texts) (name : FileName) (state : FileState) → is_named (names_of stores) name ≡ false → stored stores name state ≡ state
stored-other [] name state e = refl
stored-other (s ∷ stores) name state e =
    rw (changed-other s.0 s.1 name state (not-first (same_name s.0 name) (is_named (names_of stores) name) e)) (stored-other stores name state (not-later (same_name s.0 name) (is_named (names_of stores) name) e))

pub stored-other-first : (stores : Texts) (made : ℕ) (name : FileName) (state : FileState) → is_named (names_of stores) name ≡ false → stored (take made stores) name state ≡ state
stored-other-first [] zero name state e = refl
stored-other-first [] (suc made) name state e = refl
stored-other-first (s ∷ stores) zero name state e = refl
stored-other-first (s ∷ stores) (suc made) name state e =
    ap (stored (take made stores) name) (changed-other s.0 s.1 name state (not-first (same_name s.0 name) (is_named (names_of stores) name) e)) ∙ stored-other-first stores made name state (not-later (same_name s.0 name) (is_named (names_of stores) name) e)

-- a store of the list has a name of the list
pub named-at : (stores : Texts) (made : ℕ) (name : FileName) (bytes : List ℕ) → same_name name name ≡ true → slice_get stores made ≡ Some (name, bytes) → is_named (names_of stores) name ≡ true
named-at [] made name bytes self e = cc
named-at (s ∷ stores) zero name bytes self e =
    let is : s ≡ (name, bytes) = cc in
    rw (is, self) refl
named-at (s ∷ stores) (suc made) name bytes self e = at (same_name s.0 name) (named-at stores made name bytes self e)
  where
    at : (b : Bool) → is_named (names_of stores) name ≡ true → (if b then true else is_named (names_of stores) name) ≡ true
    at true h = refl
    at false h = h

pub leaves-other : (stores : Texts) (old new : Files) (name : FileName) → Leaves stores old new → is_named (names_of stores) name ≡ false → new name ≡ old name
leaves-other stores old new name leaves e = leaves name ∙ stored-other stores name (old name) e

pub first-other : (stores : Texts) (made : ℕ) (old new : Files) (name : FileName) → Leaves (take made stores) old new → is_named (names_of stores) name ≡ false → new name ≡ old name
first-other stores made old new name leaves e = leaves name ∙ stored-other-first stores made name (old name) e

same-number : (n : ℕ) → (n == n) ≡ true
same-number n = eq-eqb n n refl

-- a name is the same as itself
pub self-same : (name : FileName) → same_name name name ≡ true
self-same FileName.Profile = refl
self-same FileName.ExceptionPolicy = refl
self-same FileName.DomainPolicy = refl
self-same FileName.Manager = refl
self-same FileName.Trace = refl
self-same FileName.Edits = refl
self-same FileName.Answers = refl
self-same FileName.Schedule = refl
self-same FileName.Run = refl
self-same FileName.Audit = refl
self-same FileName.ProfileNew = refl
self-same FileName.ExceptionPolicyNew = refl
self-same FileName.DomainPolicyNew = refl
self-same FileName.ManagerNew = refl
self-same FileName.Run2 = refl
self-same FileName.Audit2 = refl
self-same FileName.Sorter = refl
self-same (FileName.AuditPart number) = same-number (17 + number)
