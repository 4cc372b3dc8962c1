-- What is read of a reader to its end, where the reader tells what it has.
use Rattle.std.specs.Prelude.{◌≡◌, ℕ, ◌≤◌, ◌<◌, List, ◌++◌, length, ⊤, Option, IfSome}
use Rattle.tm_io.specs.declared.answers.Fetched.{Fetched}

-- what reading to the end says of what was to be read and of what was: done has read all of it,
-- which isn't too much; too long is too much
abbrev pub ReadsAll : Option (List ℕ) → Fetched → List ℕ → Type 0
ReadsAll left Fetched.Done read = IfSome left (λ bytes. (bytes ≡ read) × (length bytes ≤ 16777216))
ReadsAll left Fetched.Absent read = ⊥
ReadsAll left Fetched.TooLong read = IfSome left (λ bytes. 16777216 < length bytes)
ReadsAll left Fetched.Failed read = ⊤
ReadsAll left Fetched.NoMemory read = IfSome left (λ bytes. length bytes ≤ 16777216)

-- what a fetch from a reader appends: at done what was read, else nothing
abbrev pub ReadGives : Option (List ℕ) → Fetched → List ℕ → List ℕ → Type 0
ReadGives left Fetched.Done old new = (read : List ℕ) × (new ≡ old ++ read) × ReadsAll left Fetched.Done read
ReadGives left Fetched.Absent old new = (new ≡ old) × ReadsAll left Fetched.Absent old
ReadGives left Fetched.TooLong old new = (new ≡ old) × ReadsAll left Fetched.TooLong old
ReadGives left Fetched.Failed old new = (new ≡ old) × ReadsAll left Fetched.Failed old
ReadGives left Fetched.NoMemory old new = (new ≡ old) × ReadsAll left Fetched.NoMemory old
