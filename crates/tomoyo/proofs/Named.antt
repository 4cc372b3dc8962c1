-- The files that a command's outcomes store, by their names.
use Rattle.std.proofs.Common.{◌≡◌, ℕ, ◌⊎◌, inl, inr, Bool, true, false, map, List, [], ◌∷◌, ◌++◌, refl, sym, ap, ◌∙◌, subst, if◌then◌else◌}
use Rattle.std.specs.Prelude.{Option, Some, None}
use Rattle.std.specs.List.{filter}
use Rattle.tm_sort.specs.declared.record.Record.{Record}
use Rattle.tm_sort.specs.declared.rules.Rule.{Rule}
use Rattle.tm_sort.specs.Parts.{part_numbers, is_part, part_of, named_numbers, parts_of}
use Rattle.tm_io.specs.declared.names.FileName.{FileName}
use Rattle.tm_io.specs.Names.{same_name}
use Rattle.tm_call.specs.declared.status.Status.{Status}
use Rattle.tm_call.specs.declared.carry.Outcome.{Outcome}
use Rattle.tomoyo.specs.declared.learn.RerunTexts.{RerunTexts}
use Rattle.tomoyo.specs.declared.learn.Learned.{Learned}
use Rattle.tomoyo.specs.declared.sort.Sorting.{Sorting}
use Rattle.tomoyo.specs.Sort.{part_store, sort_outcome}
use Rattle.tm_call.specs.declared.words.Command.{Command}
use Rattle.tm_call.specs.declared.status.OutName.{OutName}
use Rattle.tm_call.specs.declared.fetches.Want.{Want}
use Rattle.tm_io.specs.Files.{Files}
use Rattle.tm_io.specs.Notes.{Noted}
use Rattle.tm_call.specs.Fetches.{Texts, AllGiven, FetchStops}
use Rattle.tm_call.specs.Stores.{names_of, is_named}
use Rattle.tm_call.specs.Calls.{Names, StoresOf}
use Rattle.tomoyo.specs.Call.{run_files, rerun_files, wants_of, stored_by, step_stores, rerun_stores, learn_stores, Refuses, Allows, StoresOutcome, StoresBy}
use Rattle.tomoyo.proofs.Refusals.{refusal-kind}

-- the names of the stores of a run and of its rerun, or of the run alone where the rerun is left
-- out
abbrev pub AreWithRerun : List FileName → Type 0
AreWithRerun names = (names ≡ run_files ++ rerun_files) ⊎ (names ≡ run_files)

-- the names of an outcome's stores
abbrev pub AreStored : Command → List FileName → Type 0
AreStored Command.Print names = names ≡ stored_by Command.Print
AreStored Command.Verify names = names ≡ stored_by Command.Verify
AreStored (Command.Gen seed size) names = names ≡ stored_by (Command.Gen seed size)
AreStored Command.Sort names = (rules : List Rule) × (names ≡ map FileName.AuditPart (named_numbers rules))
AreStored (Command.Play how false) names = names ≡ run_files
AreStored (Command.Play how true) names = AreWithRerun names

learned-names : (learned : Learned) (rerun : Option RerunTexts) → learned.rerun ≡ rerun → AreWithRerun (names_of (learn_stores learned))
learned-names learned None e = inr (ap (λ (r : Option RerunTexts). names_of (step_stores learned.played ++ rerun_stores r)) e)
learned-names learned (Some rerun) e = inl (ap (λ (r : Option RerunTexts). names_of (step_stores learned.played ++ rerun_stores r)) e)

-- the names of parts are those of their numbers
part-names : (rules : List Rule) (records : List Record) (numbers : List ℕ) → names_of (map part_store (map (part_of rules records) numbers)) ≡ map FileName.AuditPart numbers
part-names rules records [] = refl
part-names rules records (n ∷ numbers) = ap (λ (names : List FileName). FileName.AuditPart n ∷ names) (part-names rules records numbers)

sorted-names : (sorting : Sorting) → names_of (sort_outcome sorting).stores ≡ map FileName.AuditPart (named_numbers sorting.rules)
unfolding parts_of
sorted-names sorting = part-names sorting.rules sorting.records (named_numbers sorting.rules)

-- an outcome stores the command's files
pub names-allowed : (command : Command) (texts : Texts) (outcome : Outcome) → Allows command texts outcome → AreStored command (names_of outcome.stores)
names-allowed (Command.Play how false) texts outcome allowed = ap (λ (o : Outcome). names_of o.stores) allowed.1.2
names-allowed Command.Print texts outcome allowed = ap (λ (o : Outcome). names_of o.stores) allowed.1.2
names-allowed Command.Verify texts outcome allowed = ap (λ (o : Outcome). names_of o.stores) allowed.1.4
names-allowed (Command.Gen seed size) texts outcome allowed = ap (λ (o : Outcome). names_of o.stores) allowed.1.2
names-allowed Command.Sort texts outcome allowed = (allowed.1.0.rules, ap (λ (o : Outcome). names_of o.stores) allowed.1.2 ∙ sorted-names allowed.1.0)
names-allowed (Command.Play how true) texts outcome allowed = subst (λ (o : Outcome). AreWithRerun (names_of o.stores)) (sym allowed.1.2) (learned-names allowed.1.0 allowed.1.0.rerun refl)

-- Names of the first files among all

by-test : (b p q : Bool) → (p ≡ true → q ≡ true) → (if b then true else p) ≡ true → (if b then true else q) ≡ true
by-test true p q h e = refl
by-test false p q h e = h e

by-none : (b p q : Bool) → (q ≡ false → p ≡ false) → (if b then true else q) ≡ false → (if b then true else p) ≡ false
by-none true p q h e = e
by-none false p q h e = h e

front-named : (names more : List FileName) (name : FileName) → is_named names name ≡ true → is_named (names ++ more) name ≡ true
front-named [] more name e = absurd cc
front-named (other ∷ names) more name e = by-test (same_name other name) (is_named names name) (is_named (names ++ more) name) (front-named names more name) e

front-unnamed : (names more : List FileName) (name : FileName) → is_named (names ++ more) name ≡ false → is_named names name ≡ false
front-unnamed [] more name e = refl
front-unnamed (other ∷ names) more name e = by-none (same_name other name) (is_named names name) (is_named (names ++ more) name) (front-unnamed names more name) e

-- Names of some parts among all

by-rest : (b q : Bool) → q ≡ true → (if b then true else q) ≡ true
by-rest true q h = refl
by-rest false q h = h

-- a part more, which may be left out
part-more : (n : ℕ) (some all : List ℕ) (name : FileName) → (is_named (map FileName.AuditPart some) name ≡ true → is_named (map FileName.AuditPart all) name ≡ true) → (b : Bool)
    → is_named (map FileName.AuditPart (if b then n ∷ some else some)) name ≡ true → is_named (map FileName.AuditPart (n ∷ all)) name ≡ true
part-more n some all name rest true h = by-test (same_name (FileName.AuditPart n) name) (is_named (map FileName.AuditPart some) name) (is_named (map FileName.AuditPart all) name) rest h
part-more n some all name rest false h = by-rest (same_name (FileName.AuditPart n) name) (is_named (map FileName.AuditPart all) name) (rest h)

part-named : (p : ℕ → Bool) (numbers : List ℕ) (name : FileName) → is_named (map FileName.AuditPart (filter p numbers)) name ≡ true → is_named (map FileName.AuditPart numbers) name ≡ true
part-named p [] name e = e
part-named p (n ∷ numbers) name e = part-more n (filter p numbers) numbers name (λ h. part-named p numbers name h) (p n) e

part-unnamed : (p : ℕ → Bool) (numbers : List ℕ) (name : FileName) → is_named (map FileName.AuditPart numbers) name ≡ false → is_named (map FileName.AuditPart (filter p numbers)) name ≡ false
part-unnamed p numbers name e = go (is_named (map FileName.AuditPart (filter p numbers)) name) refl
  where
    go : (b : Bool) → is_named (map FileName.AuditPart (filter p numbers)) name ≡ b → b ≡ false
    go false h = refl
    go true h = sym (part-named p numbers name h) ∙ e

-- the same of a run with its rerun
with-rerun-named : (names : List FileName) (name : FileName) → AreWithRerun names → is_named names name ≡ true → is_named (run_files ++ rerun_files) name ≡ true
with-rerun-named names name (inl is) e = ap (λ (ns : List FileName). is_named ns name) (sym is) ∙ e
with-rerun-named names name (inr is) e = front-named run_files rerun_files name (ap (λ (ns : List FileName). is_named ns name) (sym is) ∙ e)

with-rerun-unnamed : (names : List FileName) (name : FileName) → AreWithRerun names → is_named (run_files ++ rerun_files) name ≡ false → is_named names name ≡ false
with-rerun-unnamed names name (inl is) e = ap (λ (ns : List FileName). is_named ns name) is ∙ e
with-rerun-unnamed names name (inr is) e = ap (λ (ns : List FileName). is_named ns name) is ∙ front-unnamed run_files rerun_files name e

-- a name of the stores is one of the command's files
pub named-by : (command : Command) (names : List FileName) (name : FileName) → AreStored command names → is_named names name ≡ true → is_named (stored_by command) name ≡ true
named-by (Command.Play how false) names name is e = ap (λ (ns : List FileName). is_named ns name) (sym is) ∙ e
named-by Command.Print names name is e = ap (λ (ns : List FileName). is_named ns name) (sym is) ∙ e
named-by Command.Verify names name is e = ap (λ (ns : List FileName). is_named ns name) (sym is) ∙ e
named-by (Command.Gen seed size) names name is e = ap (λ (ns : List FileName). is_named ns name) (sym is) ∙ e
named-by Command.Sort names name (rules, is) e = part-named (is_part rules) part_numbers name (ap (λ (ns : List FileName). is_named ns name) (sym is) ∙ e)
named-by (Command.Play how true) names name is e = with-rerun-named names name is e

-- and one that is none of these isn't stored
pub unnamed-by : (command : Command) (names : List FileName) (name : FileName) → AreStored command names → is_named (stored_by command) name ≡ false → is_named names name ≡ false
unnamed-by (Command.Play how false) names name is e = ap (λ (ns : List FileName). is_named ns name) is ∙ e
unnamed-by Command.Print names name is e = ap (λ (ns : List FileName). is_named ns name) is ∙ e
unnamed-by Command.Verify names name is e = ap (λ (ns : List FileName). is_named ns name) is ∙ e
unnamed-by (Command.Gen seed size) names name is e = ap (λ (ns : List FileName). is_named ns name) is ∙ e
unnamed-by Command.Sort names name (rules, is) e = ap (λ (ns : List FileName). is_named ns name) is ∙ part-unnamed (is_part rules) part_numbers name e
unnamed-by (Command.Play how true) names name is e = with-rerun-unnamed names name is e

-- Calls

-- the stores of an outcome that is allowed are those of the command
pub stores-made : (command : Command) (files : Files) (texts : Texts) (outcome : Outcome) (status : Status) (a b : Names) → AllGiven files (wants_of command) texts → Allows command texts outcome → StoresOf (names_of outcome.stores) status a b → StoresBy command files status a b
stores-made command files texts outcome status a b given allowed h = go status h
  where
    made : (s : Status) → StoresOf (names_of outcome.stores) s a b → StoresOutcome command files s a b
    made s stores = record { texts = texts; given = given; outcome = outcome; allowed = allowed; stores = stores }

    go : (s : Status) → StoresOf (names_of outcome.stores) s a b → StoresBy command files s a b
    go Status.Done stores = made Status.Done stores
    go (Status.BadWords place) stores = stores
    go (Status.ReadFault name) stores = stores
    go (Status.Absent name) stores = stores
    go (Status.TooLong name) stores = stores
    go (Status.BadPolicy file line reply) stores = stores
    go (Status.UndefinedProfile domain) stores = stores
    go (Status.BadTrace line kind) stores = stores
    go (Status.BadScript name line kind) stores = stores
    go (Status.TooMany what) stores = stores
    go (Status.BadRules line kind) stores = stores
    go (Status.BadAudit line) stores = stores
    go (Status.BadRun line) stores = stores
    go (Status.WriteFault name) stores = made (Status.WriteFault name) stores
    go Status.OutOfMemory stores = inr (made Status.OutOfMemory stores)

-- a call that ends before its stores has none, whichever status it may have then
stores-none : (command : Command) (files : Files) (status : Status) (a b : Names) → ¬ (status ≡ Status.Done) → ((name : OutName) → ¬ (status ≡ Status.WriteFault name)) → Noted [] a b → StoresBy command files status a b
stores-none command files Status.Done a b done write none = absurd (done refl)
stores-none command files (Status.BadWords place) a b done write none = none
stores-none command files (Status.ReadFault name) a b done write none = none
stores-none command files (Status.Absent name) a b done write none = none
stores-none command files (Status.TooLong name) a b done write none = none
stores-none command files (Status.BadPolicy file line reply) a b done write none = none
stores-none command files (Status.UndefinedProfile domain) a b done write none = none
stores-none command files (Status.BadTrace line kind) a b done write none = none
stores-none command files (Status.BadScript name line kind) a b done write none = none
stores-none command files (Status.TooMany what) a b done write none = none
stores-none command files (Status.BadRules line kind) a b done write none = none
stores-none command files (Status.BadAudit line) a b done write none = none
stores-none command files (Status.BadRun line) a b done write none = none
stores-none command files (Status.WriteFault name) a b done write none = absurd (write name refl)
stores-none command files Status.OutOfMemory a b done write none = inl none

-- where a fetch ends the call
pub stores-not-fetched : (command : Command) (files : Files) (wants : List Want) (rose : Type 0) (status : Status) (a b : Names) → FetchStops files wants rose status → Noted [] a b → StoresBy command files status a b
stores-not-fetched command files wants rose status a b stops none =
    stores-none command files status a b (λ is. (subst (FetchStops files wants rose) is stops).cause) (λ name is. (subst (FetchStops files wants rose) is stops).cause) none

-- where what was read is refused
pub stores-refused : (command : Command) (files : Files) (texts : Texts) (status : Status) (a b : Names) → Refuses command texts status → Noted [] a b → StoresBy command files status a b
stores-refused command files texts status a b refused none =
    stores-none command files status a b
    (λ is. refusal-kind command texts Status.Done (subst (Refuses command texts) is refused))
    (λ name is. refusal-kind command texts (Status.WriteFault name) (subst (Refuses command texts) is refused))
    none
