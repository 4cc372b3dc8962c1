-- Lists that are made one by one, of small cases.
use Rattle.std.proofs.Common.{◌≡◌, ℕ, ◌==◌, Bool, [], ◌∷◌, refl}
use Rattle.std.specs.Prelude.{None, ◌&&◌, codes}
use Rattle.tm_word.specs.Prelude.{Text, literal}
use Rattle.tm_rules.specs.Types.{Args, Entry, NameUnion}
use Rattle.tm_rules.specs.Prelude.{adding, deleting}
use Rattle.std.specs.List.{IsDistinct}
use Rattle.tm_policy_laws.proofs.ListLaws.{joining_all, adding_all, putting_all}

abbrev same : ℕ → ℕ → Bool
same x y = x == y

-- a member that is there stays where it is
joined : joining_all same (3 ∷ []) (1 ∷ 3 ∷ 2 ∷ 1 ∷ []) ≡ 3 ∷ 1 ∷ 2 ∷ []
joined = refl

-- The test has to be even: by this one 1 is the same as 2, but 2 isn't the same as 1.
abbrev uneven : ℕ → ℕ → Bool
uneven x y = x == 1 && y == 2

uneven_once : IsDistinct uneven (2 ∷ 1 ∷ [])
unfolding IsDistinct
uneven_once = ((refl, tt), (tt, tt))

uneven_joined : joining_all uneven [] (2 ∷ 1 ∷ []) ≡ 2 ∷ []
uneven_joined = refl

-- pairs by rising keys, the last value of each
put : putting_all {A = ℕ} [] ((3, 0) ∷ (1, 1) ∷ (3, 2) ∷ []) ≡ (1, 1) ∷ (3, 2) ∷ []
put = refl

-- `file` with these permissions and this name
abbrev file : ℕ → Text → Entry
file bits name = record { args = Args.Path (NameUnion.One (literal name)); perms = record { bits = bits }; cond = record { clauses = []; grant_log = None } }

-- `file read /a`, `file read /b`, `file write /a`: the third goes into the first
added : adding_all [] (file 2 (codes "/a") ∷ file 2 (codes "/b") ∷ file 4 (codes "/a") ∷ []) ≡ file 6 (codes "/a") ∷ file 2 (codes "/b") ∷ []
unfolding adding literal
added = refl

-- `delete file read/execute /a` leaves `file write /a`; a second line that takes it out leaves no
-- entry
deleted : deleting (file 3 (codes "/a")) (file 6 (codes "/a") ∷ file 2 (codes "/b") ∷ []) ≡ file 4 (codes "/a") ∷ file 2 (codes "/b") ∷ []
unfolding deleting literal
deleted = refl

gone : deleting (file 4 (codes "/a")) (file 4 (codes "/a") ∷ file 2 (codes "/b") ∷ []) ≡ file 2 (codes "/b") ∷ []
unfolding deleting literal
gone = refl
