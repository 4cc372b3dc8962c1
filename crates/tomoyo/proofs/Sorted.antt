-- What a sort that is done has stored: the parts that are there, each once, and no other.
use Rattle.std.proofs.Common.{◌≡◌, ◌∙◌, ℕ, ◌+◌, ◌<◌, ◌≤◌, ◌==◌, Bool, true, false, List, [], ◌∷◌, map, refl, sym, ap, arith, if◌then◌else◌}
use Rattle.std.specs.List.{AllByRecursion, filter}
use Rattle.std.proofs.lemmas.Bool.Decides.{nat_tests}
use Rattle.std.proofs.lemmas.Bool.{eqb-true}
use Rattle.tm_word.specs.Prelude.{Text}
use Rattle.tm_io.specs.declared.names.FileName.{FileName}
use Rattle.tm_io.specs.Names.{same_name}
use Rattle.tm_io.specs.Files.{FileState, Files, changed}
use Rattle.tm_sort.specs.declared.parts.Part.{Part}
use Rattle.tm_call.specs.Fetches.{IsTold, TellsAll}
use Rattle.tm_call.specs.Stores.{stored, Leaves, names_of, is_named}
use Rattle.tm_call.proofs.Others.{changed-other, stored-other, self-same}
use Rattle.tomoyo.specs.Sort.{part_store}

-- each number is above those before it
abbrev pub Rising : ℕ → List ℕ → Type 0
Rising low [] = Unit {0}
Rising low (n ∷ ns) = (low ≤ n) × Rising (n + 1) ns

lower : (low high : ℕ) (ns : List ℕ) → low ≤ high → Rising high ns → Rising low ns
lower low high [] le h = tt
lower low high (n ∷ ns) le h = (omega (arith, h.0), h.1)

-- what is left of rising numbers rises
pub filter-rising : (p : ℕ → Bool) (low : ℕ) (ns : List ℕ) → Rising low ns → Rising low (filter p ns)
filter-rising p low [] h = tt
filter-rising p low (n ∷ ns) h = go (p n) (filter-rising p (n + 1) ns h.1)
  where
    go : (b : Bool) → Rising (n + 1) (filter p ns) → Rising low (if b then n ∷ filter p ns else filter p ns)
    go true rest = (h.0, rest)
    go false rest = lower low (n + 1) (filter p ns) (omega (arith, h.0)) rest

-- numbers that differ name different files
apart : (a b : ℕ) → a < b → same_name (FileName.AuditPart a) (FileName.AuditPart b) ≡ false
apart a b lt = differ (17 + a) (17 + b) (omega arith)
  where
    differ : (x y : ℕ) → x < y → (x == y) ≡ false
    differ x y h = grind (arith, nat_tests)

apart-back : (a b : ℕ) → b < a → same_name (FileName.AuditPart a) (FileName.AuditPart b) ≡ false
apart-back a b lt = differ (17 + a) (17 + b) (omega arith)
  where
    differ : (x y : ℕ) → y < x → (x == y) ≡ false
    differ x y h = grind (arith, nat_tests)

-- a file below all of these parts isn't one of theirs
below : (part : ℕ → Part) (n : ℕ) (ns : List ℕ) → ((m : ℕ) → (part m).number ≡ m) → Rising (n + 1) ns → is_named (names_of (map part_store (map part ns))) (FileName.AuditPart n) ≡ false
below part n [] is h = refl
below part n (m ∷ ns) is h =
    let first : same_name (FileName.AuditPart (part m).number) (FileName.AuditPart n) ≡ false = rw (is m) (apart-back m n (omega (arith, h.0))) in
    rw first (below part n ns is (lower (n + 1) (m + 1) ns (omega (arith, h.0)) h.1))

-- a told file that is stored holds its bytes
pub changed-self : (name : FileName) (bytes : List ℕ) (state : FileState) → IsTold state → same_name name name ≡ true → changed name bytes name state ≡ FileState.Holds bytes
changed-self name bytes FileState.Untold is e = absurd is
changed-self name bytes FileState.Missing is e = rw e refl
changed-self name bytes (FileState.Holds held) is e = rw e refl

holds : (n : ℕ) (bytes : Text) (state : FileState) → IsTold state → changed (FileName.AuditPart n) bytes (FileName.AuditPart n) state ≡ FileState.Holds bytes
holds n bytes state told = changed-self (FileName.AuditPart n) bytes state told (self-same (FileName.AuditPart n))

-- a first store of a part below the others
over : (part : ℕ → Part) (n : ℕ) (ms ns : List ℕ) (files : Files) → ((m : ℕ) → (part m).number ≡ m) → Rising (n + 1) ms
    → AllByRecursion (λ m. stored (map part_store (map part ns)) (FileName.AuditPart m) (files (FileName.AuditPart m)) ≡ FileState.Holds (part m).text) ms
    → AllByRecursion (λ m. stored (map part_store (map part (n ∷ ns))) (FileName.AuditPart m) (files (FileName.AuditPart m)) ≡ FileState.Holds (part m).text) ms
over part n [] ns files is h all = tt
over part n (m ∷ ms) ns files is h all =
    let other : same_name (FileName.AuditPart (part n).number) (FileName.AuditPart m) ≡ false = rw (is n) (apart n m (omega (arith, h.0))) in (
      ap (stored (map part_store (map part ns)) (FileName.AuditPart m)) (changed-other (FileName.AuditPart (part n).number) (part n).text (FileName.AuditPart m) (files (FileName.AuditPart m)) other) ∙ all.0,
      over part n ms ns files is (lower (n + 1) (m + 1) ms (omega (arith, h.0)) h.1) all.1,
    )

-- told files that are stored as parts with rising numbers hold the parts
parts-hold : (part : ℕ → Part) (low : ℕ) (ns : List ℕ) (files : Files) → ((m : ℕ) → (part m).number ≡ m) → TellsAll files → Rising low ns
    → AllByRecursion (λ m. stored (map part_store (map part ns)) (FileName.AuditPart m) (files (FileName.AuditPart m)) ≡ FileState.Holds (part m).text) ns
parts-hold part low [] files is tells h = tt
parts-hold part low (n ∷ ns) files is tells h =
    let rest : stored (map part_store (map part ns)) (FileName.AuditPart n) (changed (FileName.AuditPart n) (part n).text (FileName.AuditPart n) (files (FileName.AuditPart n))) ≡ FileState.Holds (part n).text =
    stored-other (map part_store (map part ns)) (FileName.AuditPart n) _ (below part n ns is h.1) ∙ holds n (part n).text (files (FileName.AuditPart n)) (tells (FileName.AuditPart n)) in (
      ap (λ (k : ℕ). stored (map part_store (map part ns)) (FileName.AuditPart n) (changed (FileName.AuditPart k) (part n).text (FileName.AuditPart n) (files (FileName.AuditPart n)))) (is n) ∙ rest,
      over part n ns ns files is h.1 (parts-hold part (n + 1) ns files is tells h.1),
    )

-- the same of the parts themselves, under their numbers
named-so : (part : ℕ → Part) (ns : List ℕ) (new : Files) → ((m : ℕ) → (part m).number ≡ m) → AllByRecursion (λ m. new (FileName.AuditPart m) ≡ FileState.Holds (part m).text) ns
    → AllByRecursion (λ (p : Part). new (FileName.AuditPart p.number) ≡ FileState.Holds p.text) (map part ns)
named-so part [] new is h = tt
named-so part (n ∷ ns) new is h = (ap (λ (k : ℕ). new (FileName.AuditPart k)) (is n) ∙ h.0, named-so part ns new is h.1)

moved : (part : ℕ → Part) (all ns : List ℕ) (old new : Files) → Leaves (map part_store (map part all)) old new
    → AllByRecursion (λ m. stored (map part_store (map part all)) (FileName.AuditPart m) (old (FileName.AuditPart m)) ≡ FileState.Holds (part m).text) ns
    → AllByRecursion (λ m. new (FileName.AuditPart m) ≡ FileState.Holds (part m).text) ns
moved part all [] old new leaves h = tt
moved part all (n ∷ ns) old new leaves h = (leaves (FileName.AuditPart n) ∙ h.0, moved part all ns old new leaves h.1)

pub all-stored : (part : ℕ → Part) (ns : List ℕ) (old new : Files) → ((m : ℕ) → (part m).number ≡ m) → TellsAll old → Rising 0 ns → Leaves (map part_store (map part ns)) old new
    → AllByRecursion (λ (p : Part). new (FileName.AuditPart p.number) ≡ FileState.Holds p.text) (map part ns)
all-stored part ns old new is tells h leaves = named-so part ns new is (moved part ns ns old new leaves (parts-hold part 0 ns old is tells h))

-- a part that isn't among these isn't stored
pub not-stored : (part : ℕ → Part) (p : ℕ → Bool) (n : ℕ) (ns : List ℕ) → ((m : ℕ) → (part m).number ≡ m) → p n ≡ false → is_named (names_of (map part_store (map part (filter p ns)))) (FileName.AuditPart n) ≡ false
not-stored part p n [] is e = refl
not-stored part p n (m ∷ ns) is e = go (p m) refl (not-stored part p n ns is e)
  where
    clash : p m ≡ true → (m == n) ≡ true → ⊥
    clash h same = let equal : m ≡ n = eqb-true m n same in let both : p n ≡ true = ap p (sym equal) ∙ h in cc

    different : p m ≡ true → (b : Bool) → (m == n) ≡ b → same_name (FileName.AuditPart m) (FileName.AuditPart n) ≡ false
    different h true same = absurd (clash h same)
    different h false differs = later m n differs
      where
        later : (x y : ℕ) → (x == y) ≡ false → ((17 + x) == (17 + y)) ≡ false
        later x y h = grind (arith, nat_tests)

    go : (b : Bool) → p m ≡ b → is_named (names_of (map part_store (map part (filter p ns)))) (FileName.AuditPart n) ≡ false
        → is_named (names_of (map part_store (map part (if b then m ∷ filter p ns else filter p ns)))) (FileName.AuditPart n) ≡ false
    go true h rest =
        let first : same_name (FileName.AuditPart (part m).number) (FileName.AuditPart n) ≡ false = rw (is m) (different h (m == n) refl) in
        rw first rest
    go false h rest = rest
