-- A change of the first element that a test finds, or of a new one; and the entries that lines
-- enter and leave.
use Rattle.std.proofs.Common.{◌≡◌, ℕ, suc, ◌+◌, ◌<◌, subst, get_or, arith, length, Bool, true, false, eq-eqb, List, [], ◌∷◌, ◌++◌, refl, sym, ap, ◌∙◌}
use Rattle.std.proofs.lemmas.Bool.{ne_eqb}
use Rattle.std.proofs.lemmas.List.{get_or_default}
use Rattle.std.specs.Prelude.{Some, None, if◌then◌else◌, ◌==◌, slice_set, bit_or}
use Rattle.std.specs.List.{position_from, remove}
use Rattle.tm_rules.specs.Types.{Entry}
use Rattle.tm_rules.specs.Prelude.{adding, deleting, same_line, unless_empty, without_permissions}

-- the first element that passes is changed, or a new one goes last
abbrev changing : {A : Type 0} → (A → Bool) → (A → A) → A → List A → List A
changing test change new [] = new ∷ []
changing test change new (x ∷ xs) = if test x then change x ∷ xs else x ∷ changing test change new xs

-- where none passes the new one goes last
changing-none : {A : Type 0} (test : A → Bool) (change : A → A) (new : A) (i : ℕ) (xs : List A) → position_from test i xs ≡ None → changing test change new xs ≡ xs ++ new ∷ []
changing-none test change new i [] e = refl
changing-none test change new i (x ∷ xs) e = go (changing-none test change new (i + 1) xs) (test x) refl e
  where
    go : (position_from test (i + 1) xs ≡ None → changing test change new xs ≡ xs ++ new ∷ []) → (b : Bool) → test x ≡ b → (if b then Some i else position_from test (i + 1) xs) ≡ None
        → (if b then change x ∷ xs else x ∷ changing test change new xs) ≡ x ∷ xs ++ new ∷ []
    go ih true h e = absurd cc
    go ih false h e = ap (λ t. x ∷ t) (ih e)

-- where one passes it is changed in its place
changing-some : {A : Type 0} (test : A → Bool) (change : A → A) (new : A) (i : ℕ) (xs : List A) (k : ℕ) (d : A) → position_from test i xs ≡ Some k
    → (j : ℕ) × (k ≡ i + j) × (changing test change new xs ≡ slice_set xs j (change (get_or xs j d)))
changing-some test change new i [] k d e = absurd cc
changing-some test change new i (x ∷ xs) k d e = go (changing-some test change new (i + 1) xs k d) (test x) refl e
  where
    go : (position_from test (i + 1) xs ≡ Some k → (j : ℕ) × (k ≡ i + 1 + j) × (changing test change new xs ≡ slice_set xs j (change (get_or xs j d)))) → (b : Bool) → test x ≡ b
        → (if b then Some i else position_from test (i + 1) xs) ≡ Some k → (j : ℕ) × (k ≡ i + j) × ((if b then change x ∷ xs else x ∷ changing test change new xs) ≡ slice_set (x ∷ xs) j (change (get_or (x ∷ xs) j d)))
    go ih true h e = let same : i ≡ k = cc in (0, omega (arith, same), refl)
    go ih false h e =
        let found = ih e in
        let place : k ≡ i + 1 + found.0 = found.1 in
        let next : k ≡ i + suc found.0 = omega (arith, place) in
        (suc found.0, next, ap (λ t. x ∷ t) found.2)

-- the same from the front
changing-there : {A : Type 0} (test : A → Bool) (change : A → A) (new : A) (xs : List A) (k : ℕ) (d : A) → position_from test 0 xs ≡ Some k → changing test change new xs ≡ slice_set xs k (change (get_or xs k d))
changing-there test change new xs k d e =
    let found = changing-some test change new 0 xs k d e in
    let place : k ≡ 0 + found.0 = found.1 in
    let same : found.0 ≡ k = omega (arith, place) in
    subst (λ j. changing test change new xs ≡ slice_set xs j (change (get_or xs j d))) same found.2

-- the first element that passes stands in the list
within-from : {A : Type 0} (test : A → Bool) (i : ℕ) (xs : List A) (k : ℕ) → position_from test i xs ≡ Some k → k < i + length xs
within-from test i [] k e = absurd cc
within-from test i (x ∷ xs) k e = go (within-from test (i + 1) xs k) (test x) refl e
  where
    go : (position_from test (i + 1) xs ≡ Some k → k < i + 1 + length xs) → (b : Bool) → test x ≡ b → (if b then Some i else position_from test (i + 1) xs) ≡ Some k → k < i + suc (length xs)
    go ih true h e = let same : i ≡ k = cc in omega (arith, same)
    go ih false h e = let less = ih e in omega (arith, less)

-- the entry that a line shares is there
pub place_within : (line : Entry) (entries : List Entry) (k : ℕ) → position_from (λ (entry : Entry). same_line entry line) 0 entries ≡ Some k → k < length entries
place_within line entries k e = let less = within-from (λ (entry : Entry). same_line entry line) 0 entries k e in omega (arith, less)

-- an entry with the permissions of a line too
abbrev pub joined_entry : Entry → Entry → Entry
joined_entry line entry = record entry { perms = record { bits = bit_or entry.perms.bits line.perms.bits } }

adding-changing : (line : Entry) (entries : List Entry) → adding line entries ≡ changing (λ entry. same_line entry line) (joined_entry line) line entries
unfolding adding
adding-changing line [] = refl
adding-changing line (e ∷ es) = ap (λ t. if same_line e line then joined_entry line e ∷ es else e ∷ t) (adding-changing line es)

-- a line that shares no entry goes last
pub adding_last : (line : Entry) (entries : List Entry) → position_from (λ (entry : Entry). same_line entry line) 0 entries ≡ None → adding line entries ≡ entries ++ line ∷ []
adding_last line entries e = adding-changing line entries ∙ changing-none (λ entry. same_line entry line) (joined_entry line) line 0 entries e

-- a line joins the entry that it shares
adding-there : (line : Entry) (entries : List Entry) (k : ℕ) (d : Entry) → position_from (λ (entry : Entry). same_line entry line) 0 entries ≡ Some k → adding line entries ≡ slice_set entries k (joined_entry line (get_or entries k d))
adding-there line entries k d e = adding-changing line entries ∙ changing-there (λ entry. same_line entry line) (joined_entry line) line entries k d e

-- the same of the entry that stands there
pub adding_at : (line : Entry) (entries : List Entry) (k : ℕ) (e : Entry) → position_from (λ (entry : Entry). same_line entry line) 0 entries ≡ Some k → e ≡ get_or entries k e → slice_set entries k (joined_entry line e) ≡ adding line entries
adding_at line entries k e found is = ap (λ t. slice_set entries k (joined_entry line t)) is ∙ sym (adding-there line entries k e found)

-- an entry without the permissions of a line
abbrev pub taken_entry : Entry → Entry → Entry
taken_entry line entry = record entry { perms = record { bits = without_permissions entry.perms.bits line.perms.bits } }

-- where nothing is left the entry goes away, else it stays with what is left
abbrev taking : Entry → Entry → List Entry → List Entry
taking line entry entries = unless_empty (taken_entry line entry) entries

-- a line that shares no entry takes nothing out
deleting-none : (line : Entry) (i : ℕ) (entries : List Entry) → position_from (λ (entry : Entry). same_line entry line) i entries ≡ None → deleting line entries ≡ entries
unfolding deleting
deleting-none line i [] e = refl
deleting-none line i (x ∷ xs) e = go (deleting-none line (i + 1) xs) (same_line x line) refl e
  where
    go : (position_from (λ (entry : Entry). same_line entry line) (i + 1) xs ≡ None → deleting line xs ≡ xs) → (b : Bool) → same_line x line ≡ b
        → (if b then Some i else position_from (λ (entry : Entry). same_line entry line) (i + 1) xs) ≡ None
        → (if b then taking line x xs else x ∷ deleting line xs) ≡ x ∷ xs
    go ih true h e = absurd cc
    go ih false h e = ap (λ t. x ∷ t) (ih e)

pub deleting_none : (line : Entry) (entries : List Entry) → position_from (λ (entry : Entry). same_line entry line) 0 entries ≡ None → deleting line entries ≡ entries
deleting_none line entries e = deleting-none line 0 entries e

-- the entry at a place is taken out where it has nothing left, and else is there without the
-- permissions of the line
abbrev taken_at : Entry → List Entry → ℕ → Entry → List Entry
taken_at line entries k d =
    if without_permissions (get_or entries k d).perms.bits line.perms.bits == 0 then remove entries k else slice_set entries k (taken_entry line (get_or entries k d))

taken-next : (line x : Entry) (xs : List Entry) (j : ℕ) (d : Entry) → x ∷ taken_at line xs j d ≡ taken_at line (x ∷ xs) (suc j) d
taken-next line x xs j d = go (without_permissions (get_or xs j d).perms.bits line.perms.bits == 0)
  where
    go : (b : Bool) → x ∷ (if b then remove xs j else slice_set xs j (taken_entry line (get_or xs j d))) ≡ (if b then x ∷ remove xs j else x ∷ slice_set xs j (taken_entry line (get_or xs j d)))
    go true = refl
    go false = refl

deleting-some : (line : Entry) (i : ℕ) (entries : List Entry) (k : ℕ) (d : Entry) → position_from (λ (entry : Entry). same_line entry line) i entries ≡ Some k
    → (j : ℕ) × (k ≡ i + j) × (deleting line entries ≡ taken_at line entries j d)
unfolding deleting
deleting-some line i [] k d e = absurd cc
deleting-some line i (x ∷ xs) k d e = go (deleting-some line (i + 1) xs k d) (same_line x line) refl e
  where
    go : (position_from (λ (entry : Entry). same_line entry line) (i + 1) xs ≡ Some k → (j : ℕ) × (k ≡ i + 1 + j) × (deleting line xs ≡ taken_at line xs j d)) → (b : Bool) → same_line x line ≡ b
        → (if b then Some i else position_from (λ (entry : Entry). same_line entry line) (i + 1) xs) ≡ Some k
        → (j : ℕ) × (k ≡ i + j) × ((if b then taking line x xs else x ∷ deleting line xs) ≡ taken_at line (x ∷ xs) j d)
    go ih true h e = let same : i ≡ k = cc in (0, omega (arith, same), refl)
    go ih false h e =
        let found = ih e in
        let place : k ≡ i + 1 + found.0 = found.1 in
        let next : k ≡ i + suc found.0 = omega (arith, place) in
        (suc found.0, next, ap (λ t. x ∷ t) found.2 ∙ taken-next line x xs found.0 d)

deleting-there : (line : Entry) (entries : List Entry) (k : ℕ) (d : Entry) → position_from (λ (entry : Entry). same_line entry line) 0 entries ≡ Some k → deleting line entries ≡ taken_at line entries k d
deleting-there line entries k d e =
    let found = deleting-some line 0 entries k d e in
    let place : k ≡ 0 + found.0 = found.1 in
    let same : found.0 ≡ k = omega (arith, place) in
    subst (λ j. deleting line entries ≡ taken_at line entries j d) same found.2

if-true : {A : Type 0} (b : Bool) (x y : A) → b ≡ true → (if b then x else y) ≡ x
if-true b x y e = rw e refl

if-false : {A : Type 0} (b : Bool) (x y : A) → b ≡ false → (if b then x else y) ≡ y
if-false b x y e = rw e refl

-- an entry that has nothing left goes away
pub deleting_out : (line : Entry) (entries : List Entry) (k : ℕ) (e : Entry) → position_from (λ (entry : Entry). same_line entry line) 0 entries ≡ Some k → e ≡ get_or entries k e
    → without_permissions e.perms.bits line.perms.bits ≡ 0 → remove entries k ≡ deleting line entries
deleting_out line entries k e found is empty =
    let none : without_permissions (get_or entries k e).perms.bits line.perms.bits ≡ 0 = subst (λ (t : Entry). without_permissions t.perms.bits line.perms.bits ≡ 0) is empty in
    let here : (without_permissions (get_or entries k e).perms.bits line.perms.bits == 0) ≡ true = eq-eqb _ _ none in
    sym (deleting-there line entries k e found ∙ if-true (without_permissions (get_or entries k e).perms.bits line.perms.bits == 0) (remove entries k) (slice_set entries k (taken_entry line (get_or entries k e))) here)

-- an entry with these permissions
abbrev pub left_entry : Entry → ℕ → Entry
left_entry entry bits = record entry { perms = record { bits = bits } }

deleting-at : (line : Entry) (entries : List Entry) (k : ℕ) (e : Entry) → position_from (λ (entry : Entry). same_line entry line) 0 entries ≡ Some k → e ≡ get_or entries k e
    → (without_permissions e.perms.bits line.perms.bits ≡ 0 → ⊥) → slice_set entries k (taken_entry line e) ≡ deleting line entries
deleting-at line entries k e found is some =
    let left : without_permissions (get_or entries k e).perms.bits line.perms.bits ≡ 0 → ⊥ = subst (λ (t : Entry). without_permissions t.perms.bits line.perms.bits ≡ 0 → ⊥) is some in
    let here : (without_permissions (get_or entries k e).perms.bits line.perms.bits == 0) ≡ false = ne_eqb _ _ left in
    ap (λ (t : Entry). slice_set entries k (taken_entry line t)) is
    ∙ sym (deleting-there line entries k e found ∙ if-false (without_permissions (get_or entries k e).perms.bits line.perms.bits == 0) (remove entries k) (slice_set entries k (taken_entry line (get_or entries k e))) here)

-- and one that has some left stays with them
pub deleting_at : (line : Entry) (entries : List Entry) (k : ℕ) (d e : Entry) → position_from (λ (entry : Entry). same_line entry line) 0 entries ≡ Some k → k < length entries → d ≡ get_or entries k d → e ≡ get_or entries k e
    → (without_permissions d.perms.bits line.perms.bits ≡ 0 → ⊥) → slice_set entries k (left_entry e (without_permissions d.perms.bits line.perms.bits)) ≡ deleting line entries
deleting_at line entries k d e found less read is some =
    let same : d ≡ e = read ∙ get_or_default entries k d e less ∙ sym is in
    let left : without_permissions e.perms.bits line.perms.bits ≡ 0 → ⊥ = subst (λ (t : Entry). without_permissions t.perms.bits line.perms.bits ≡ 0 → ⊥) same some in
    ap (λ (t : Entry). slice_set entries k (left_entry e (without_permissions t.perms.bits line.perms.bits))) same ∙ deleting-at line entries k e found is left
