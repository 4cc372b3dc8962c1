-- What the lines of a trace that is being made tell of records and warnings.
use Rattle.std.proofs.Common.{◌≡◌, ℕ, zero, suc, ◌+◌, ◌<◌, ◌≤◌, nat_le, Bool, true, false, if◌then◌else◌, ◌⊎◌, inl, inr, List, [], ◌∷◌, ◌++◌, length, map, min, refl, sym, ap, ◌∙◌, arith, append_assoc, append-nil, length-append}
use Rattle.std.specs.Prelude.{Option, Some, None, slice_get, slice_set}
use Rattle.std.specs.List.{AllByRecursion, flat_map}
use Rattle.std.proofs.lemmas.List.{map-append}
use Rattle.std.proofs.lemmas.Grind.{flat_map-append}
use Rattle.std.proofs.lemmas.Bool.{le-leb}
use Rattle.std.proofs.lemmas.Bool.Decides.{leb_tells}
use Rattle.tm_rules.specs.Types.{Item, Tree}
use Rattle.tm_rules.specs.Prelude.{DomainName, pid_of_line}
use Rattle.tm_log.specs.declared.log.Used.{Used}
use Rattle.tm_log_processes.specs.declared.forest.TraceLine.{TraceLine}
use Rattle.tm_log_processes.specs.Forests.{Grown, new_line, with_child, added, forked_before, planted, new_tree, sum_of}
use Rattle.tm_log_trace.specs.declared.notes.Note.{Note}
use Rattle.tm_log_trace.specs.declared.notes.Warning.{Warning}
use Rattle.tm_log_trace_laws.specs.History.{Happening}
use Rattle.tm_log_trace_laws.specs.Told.{record_in, IsOf, IsNamed, supposed_in, manual_in, manuals_in, renamed, number_from, number_told, notes_up_to, number_at}
use Rattle.tm_log_trace_laws.proofs.Lists.{map-set, map-get, All-set, All-both, All-later, All-get}
use Rattle.tm_log_trace_laws.proofs.Walks.{fork_line}

-- a line with the domain of its process and the record that it is of
pub record Marked : Type 0 where
  pub line : TraceLine
  pub domain : DomainName
  pub used : Option Used

abbrev pub mark : ℕ → Item → DomainName → Option Used → Marked
mark tree item domain used = record { line = new_line tree item; domain = domain; used = used }

abbrev pub line_of : Marked → Happening
line_of m = record { tree = m.line.tree; item = m.line.item; domain = m.domain; used = m.used }

abbrev pub forks_of : Marked → List ℕ → List Happening
forks_of m [] = []
forks_of m (child ∷ children) = fork_line m.line.tree (pid_of_line m.line.item) child m.domain ∷ forks_of m children

abbrev pub happenings : Marked → List Happening
happenings m = forks_of m m.line.children ++ line_of m ∷ []

abbrev pub history : List Marked → List Happening
history [] = []
history (m ∷ ms) = happenings m ++ history ms

abbrev pub bearing : Marked → ℕ → Marked
bearing m child = record m { line = with_child m.line child }

pub history-append : (xs ys : List Marked) → history (xs ++ ys) ≡ history xs ++ history ys
history-append [] ys = refl
history-append (x ∷ xs) ys = rw (history-append xs ys) (sym (append_assoc (happenings x) (history xs) (history ys)))

-- a record has a lesser number
abbrev pub IsPast : ℕ → Option Used → Type 0
IsPast now None = Unit {0}
IsPast now (Some used) = used.source.number < now

-- Warnings

le-true : (a b : ℕ) → a ≤ b → nat_le a b ≡ true
le-true a b le = le-leb a b le

le-false : (a b : ℕ) → b < a → nat_le a b ≡ false
le-false a b lt = by (leb_tells a b)
  where
    by : ((nat_le a b ≡ true) × (a ≤ b)) ⊎ ((nat_le a b ≡ false) × (b < a)) → nat_le a b ≡ false
    by (inl is) = (let le : a ≤ b = is.1 in absurd (omega arith))
    by (inr e) = e.0

number-append : (key n : ℕ) (xs ys : List Note) → number_from key n (xs ++ ys) ≡ number_from key (number_from key n xs) ys
number-append key n [] ys = refl
number-append key n (x ∷ xs) ys = number-append key (renamed key n x.warning) xs ys

up-to-append : (n : ℕ) (xs ys : List Note) → notes_up_to n (xs ++ ys) ≡ notes_up_to n xs ++ notes_up_to n ys
up-to-append n [] ys = refl
up-to-append n (x ∷ xs) ys = by (nat_le x.source.number n) (up-to-append n xs ys)
  where
    by : (b : Bool) → notes_up_to n (xs ++ ys) ≡ notes_up_to n xs ++ notes_up_to n ys → (if b then x ∷ notes_up_to n (xs ++ ys) else notes_up_to n (xs ++ ys)) ≡ (if b then x ∷ notes_up_to n xs else notes_up_to n xs) ++ notes_up_to n ys
    by true more = ap (λ t. x ∷ t) more
    by false more = more

-- all are up to a record that none is after
pub up-to-all : (n : ℕ) (notes : List Note) → AllByRecursion (λ (note : Note). note.source.number ≤ n) notes → notes_up_to n notes ≡ notes
up-to-all n [] all = refl
up-to-all n (x ∷ xs) all = rw (le-true x.source.number n all.0) (ap (λ t. x ∷ t) (up-to-all n xs all.1))

-- a warning that renames no process tells no key another one
abbrev pub IsPlain : Warning → Type 0
IsPlain warning = (key pid : ℕ) → renamed key pid warning ≡ pid

pub number-plain : (key : ℕ) (notes : List Note) (note : Note) → IsPlain note.warning → number_told key (notes ++ note ∷ []) ≡ number_told key notes
number-plain key notes note plain = number-append key key notes (note ∷ []) ∙ plain key (number_told key notes)

pub number-more : (key : ℕ) (notes : List Note) (note : Note) → number_told key (notes ++ note ∷ []) ≡ renamed key (number_told key notes) note.warning
number-more key notes note = number-append key key notes (note ∷ [])

-- the same is told of a record before
named-same : (warnings later : List Note) (used : Option Used) (pid : ℕ) → ((one : Used) → used ≡ Some one → (key : ℕ) → number_at later one key ≡ number_at warnings one key) → IsNamed warnings used pid → IsNamed later used pid
named-same warnings later None pid same h = tt
named-same warnings later (Some used) pid same (inl e) = inl (e ∙ sym (same used refl used.«record».process.pid))
named-same warnings later (Some used) pid same (inr e) = inr (e ∙ sym (same used refl used.«record».global_pid))

at-plain : (notes : List Note) (note : Note) (one : Used) (key : ℕ) → IsPlain note.warning → number_at (notes ++ note ∷ []) one key ≡ number_at notes one key
at-plain notes note one key plain = ap (number_told key) (up-to-append one.source.number notes (note ∷ [])) ∙ by (nat_le note.source.number one.source.number)
  where
    by : (b : Bool) → number_told key (notes_up_to one.source.number notes ++ (if b then note ∷ [] else [])) ≡ number_at notes one key
    by true = number-plain key (notes_up_to one.source.number notes) note plain
    by false = ap (number_told key) (append-nil (notes_up_to one.source.number notes))

at-later : (notes : List Note) (note : Note) (one : Used) (key : ℕ) → one.source.number < note.source.number → number_at (notes ++ note ∷ []) one key ≡ number_at notes one key
at-later notes note one key later =
    ap (number_told key) (up-to-append one.source.number notes (note ∷ []))
    ∙ rw (le-false note.source.number one.source.number later) (ap (number_told key) (append-nil (notes_up_to one.source.number notes)))

named-plain : (notes : List Note) (note : Note) (marked : List Marked) → IsPlain note.warning → AllByRecursion (λ (m : Marked). IsNamed notes m.used (pid_of_line m.line.item)) marked → AllByRecursion (λ (m : Marked). IsNamed (notes ++ note ∷ []) m.used (pid_of_line m.line.item)) marked
named-plain notes note marked plain all =
    All-later (λ (m : Marked). IsNamed notes m.used (pid_of_line m.line.item)) (λ (m : Marked). IsNamed (notes ++ note ∷ []) m.used (pid_of_line m.line.item)) marked
    (λ m h. named-same notes (notes ++ note ∷ []) m.used (pid_of_line m.line.item) (λ one e key. at-plain notes note one key plain) h) all

named-later : (notes : List Note) (note : Note) (marked : List Marked) → AllByRecursion (λ (m : Marked). IsPast note.source.number m.used) marked → AllByRecursion (λ (m : Marked). IsNamed notes m.used (pid_of_line m.line.item)) marked → AllByRecursion (λ (m : Marked). IsNamed (notes ++ note ∷ []) m.used (pid_of_line m.line.item)) marked
named-later notes note [] past all = tt
named-later notes note (m ∷ ms) past all = (
  named-same notes (notes ++ note ∷ []) m.used (pid_of_line m.line.item) (λ one e key. at-later notes note one key (rw e at past.0)) all.0,
  named-later notes note ms past.1 all.1,
)

-- every line tells what it is to tell
pub record Told (recs : List Used) (now : ℕ) (forest : Grown) (warnings : List Note) (marked : List Marked) : Type 0 where
  pub lines : forest.lines ≡ map (λ (m : Marked). m.line) marked
  pub records : flat_map (λ (m : Marked). record_in m.used) marked ≡ recs
  pub each : AllByRecursion (λ (m : Marked). IsOf m.used (line_of m)) marked
  pub named : AllByRecursion (λ (m : Marked). IsNamed warnings m.used (pid_of_line m.line.item)) marked
  pub past : AllByRecursion (λ (m : Marked). IsPast now m.used) marked
  pub notes : AllByRecursion (λ (note : Note). note.source.number ≤ now) warnings
  pub manuals : flat_map (λ (m : Marked). supposed_in m.used m.line.item) marked ≡ manuals_in warnings
  pub within : AllByRecursion (λ (m : Marked). m.line.tree < length forest.trees) marked
  pub bare : AllByRecursion (λ (tree : Tree). tree.records ≡ []) forest.trees
  pub many : min (length recs) 200000 ≤ forest.records

flat-push : {A B : Type 0} (f : A → List B) (xs : List A) (y : A) → flat_map f (xs ++ y ∷ []) ≡ flat_map f xs ++ f y
flat-push f xs y = flat_map-append f xs (y ∷ []) ∙ ap (λ t. flat_map f xs ++ t) (append-nil (f y))

flat-set : {A B : Type 0} (f : A → List B) (xs : List A) (k : ℕ) (x y : A) → slice_get xs k ≡ Some x → f y ≡ f x → flat_map f (slice_set xs k y) ≡ flat_map f xs
flat-set f [] k x y at e = absurd cc
flat-set f (z ∷ xs) zero x y at e = (let same : z ≡ x = cc in ap (λ t. t ++ flat_map f xs) (e ∙ ap f (sym same)))
flat-set f (z ∷ xs) (suc k) x y at e = ap (λ t. f z ++ t) (flat-set f xs k x y at e)

one-record : (used : Option Used) → length (record_in used) ≤ 1
one-record None = omega arith
one-record (Some used) = omega arith

one-more : (recs : List Used) (used : Option Used) (records : ℕ) → min (length recs) 200000 ≤ records → min (length (recs ++ record_in used)) 200000 ≤ sum_of records 1
one-more recs used records h =
    let sum : length (recs ++ record_in used) ≡ length recs + length (record_in used) = length-append recs (record_in used) in
    let one : length (record_in used) ≤ 1 = one-record used in
    few (length recs) (length (record_in used)) (length (recs ++ record_in used)) records sum one h
  where
    few : (a b c r : ℕ) → c ≡ a + b → b ≤ 1 → min a 200000 ≤ r → min c 200000 ≤ sum_of r 1
    few a b c r sum one h = omega arith

no-less : (n r : ℕ) → min n 200000 ≤ r → min n 200000 ≤ sum_of r 1
no-less n r h = omega arith

pub past-later : (now later : ℕ) (used : Option Used) → now ≤ later → IsPast now used → IsPast later used
past-later now later None le h = tt
past-later now later (Some used) le h = omega arith

-- a later record is taken
pub told-later : (recs : List Used) (now later : ℕ) (forest : Grown) (warnings : List Note) (marked : List Marked) → now ≤ later → Told recs now forest warnings marked → Told recs later forest warnings marked
told-later recs now later forest warnings marked le h =
    record {
      lines = h.lines;
      records = h.records;
      each = h.each;
      named = h.named;
      past = All-later (λ (m : Marked). IsPast now m.used) (λ (m : Marked). IsPast later m.used) marked (λ m p. past-later now later m.used le p) h.past;
      notes = All-later (λ (note : Note). note.source.number ≤ now) (λ (note : Note). note.source.number ≤ later) warnings (λ note low. omega (arith, low, le)) h.notes;
      manuals = h.manuals;
      within = h.within;
      bare = h.bare;
      many = h.many;
    }

-- a line of no record, after warnings that rename no process
pub told-push : (recs : List Used) (now : ℕ) (forest : Grown) (warnings later : List Note) (marked : List Marked) (tree : ℕ) (item : Item) (size : ℕ) (domain : DomainName) → Told recs now forest warnings marked → tree < length forest.trees → manuals_in later ≡ manuals_in warnings ++ supposed_in None item → AllByRecursion (λ (m : Marked). IsNamed later m.used (pid_of_line m.line.item)) marked → AllByRecursion (λ (note : Note). note.source.number ≤ now) later → Told recs now (added forest tree item size) later (marked ++ mark tree item domain None ∷ [])
unfolding added
told-push recs now forest warnings later marked tree item size domain h within manuals named notes =
    let m : Marked = mark tree item domain None in
    record {
      lines = rw (map-append (λ (m : Marked). m.line) marked (m ∷ [])) (ap (λ t. t ++ new_line tree item ∷ []) h.lines);
      records = flat-push (λ (m : Marked). record_in m.used) marked m ∙ append-nil (flat_map (λ (m : Marked). record_in m.used) marked) ∙ h.records;
      each = All-both (λ (m : Marked). IsOf m.used (line_of m)) marked (m ∷ []) h.each (tt, tt);
      named = All-both (λ (m : Marked). IsNamed later m.used (pid_of_line m.line.item)) marked (m ∷ []) named (tt, tt);
      past = All-both (λ (m : Marked). IsPast now m.used) marked (m ∷ []) h.past (tt, tt);
      notes = notes;
      manuals = flat-push (λ (m : Marked). supposed_in m.used m.line.item) marked m ∙ ap (λ t. t ++ supposed_in None item) h.manuals ∙ sym manuals;
      within = All-both (λ (m : Marked). m.line.tree < length forest.trees) marked (m ∷ []) h.within (within, tt);
      bare = h.bare;
      many = no-less (length recs) forest.records h.many;
    }

-- no `do`
pub told-push-none : (recs : List Used) (now : ℕ) (forest : Grown) (warnings : List Note) (marked : List Marked) (tree : ℕ) (item : Item) (size : ℕ) (domain : DomainName) → Told recs now forest warnings marked → tree < length forest.trees → supposed_in None item ≡ [] → Told recs now (added forest tree item size) warnings (marked ++ mark tree item domain None ∷ [])
told-push-none recs now forest warnings marked tree item size domain h within none =
    told-push recs now forest warnings warnings marked tree item size domain h within (rw none (sym (append-nil (manuals_in warnings)))) h.named h.notes

-- a manual transition and its warning
pub told-manual : (recs : List Used) (now : ℕ) (forest : Grown) (warnings : List Note) (marked : List Marked) (tree : ℕ) (item : Item) (size : ℕ) (domain : DomainName) (note : Note) → Told recs now forest warnings marked → tree < length forest.trees → manual_in note.warning ≡ supposed_in None item → IsPlain note.warning → note.source.number ≤ now → Told recs now (added forest tree item size) (warnings ++ note ∷ []) (marked ++ mark tree item domain None ∷ [])
told-manual recs now forest warnings marked tree item size domain note h within is plain low =
    told-push recs now forest warnings (warnings ++ note ∷ []) marked tree item size domain h within
    (flat-push (λ (note : Note). manual_in note.warning) warnings note ∙ ap (λ t. manuals_in warnings ++ t) is)
    (named-plain warnings note marked plain h.named)
    (All-both (λ (note : Note). note.source.number ≤ now) warnings (note ∷ []) h.notes (low, tt))

-- the line of a record, which is the latest
pub told-asked : (recs : List Used) (forest : Grown) (warnings : List Note) (marked : List Marked) (tree : ℕ) (item : Item) (size : ℕ) (domain : DomainName) (used : Used) → Told recs used.source.number forest warnings marked → tree < length forest.trees → IsOf (Some used) (line_of (mark tree item domain (Some used))) → (pid_of_line item ≡ number_told used.«record».process.pid warnings) ⊎ (pid_of_line item ≡ number_told used.«record».global_pid warnings) → Told (recs ++ used ∷ []) (suc used.source.number) (added forest tree item size) warnings (marked ++ mark tree item domain (Some used) ∷ [])
unfolding added
told-asked recs forest warnings marked tree item size domain used h within is key =
    let m : Marked = mark tree item domain (Some used) in
    let now : ℕ = used.source.number in
    record {
      lines = rw (map-append (λ (m : Marked). m.line) marked (m ∷ [])) (ap (λ t. t ++ new_line tree item ∷ []) h.lines);
      records = flat-push (λ (m : Marked). record_in m.used) marked m ∙ ap (λ t. t ++ used ∷ []) h.records;
      each = All-both (λ (m : Marked). IsOf m.used (line_of m)) marked (m ∷ []) h.each (is, tt);
      named = All-both (λ (m : Marked). IsNamed warnings m.used (pid_of_line m.line.item)) marked (m ∷ []) h.named (rw (sym (up-to-all now warnings h.notes)) at key, tt);
      past = All-both (λ (m : Marked). IsPast (suc now) m.used) marked (m ∷ []) (All-later (λ (m : Marked). IsPast now m.used) (λ (m : Marked). IsPast (suc now) m.used) marked (λ m p. past-later now (suc now) m.used (omega arith) p) h.past) (omega arith, tt);
      notes = All-later (λ (note : Note). note.source.number ≤ now) (λ (note : Note). note.source.number ≤ suc now) warnings (λ note le. omega (arith, le)) h.notes;
      manuals = flat-push (λ (m : Marked). supposed_in m.used m.line.item) marked m ∙ append-nil (flat_map (λ (m : Marked). supposed_in m.used m.line.item) marked) ∙ h.manuals;
      within = All-both (λ (m : Marked). m.line.tree < length forest.trees) marked (m ∷ []) h.within (within, tt);
      bare = h.bare;
      many = one-more recs (Some used) forest.records h.many;
    }

-- a child before a line
pub told-before : (recs : List Used) (now : ℕ) (forest : Grown) (warnings : List Note) (marked : List Marked) (k child : ℕ) (m : Marked) → Told recs now forest warnings marked → slice_get marked k ≡ Some m → Told recs now (forked_before forest k child) warnings (slice_set marked k (bearing m child))
unfolding forked_before
told-before recs now forest warnings marked k child m h at =
    let there : slice_get forest.lines k ≡ Some m.line = rw h.lines (map-get (λ (m : Marked). m.line) marked k m at) in
    rw there (
    record {
      lines = rw (map-set (λ (m : Marked). m.line) marked k (bearing m child)) (ap (λ ls. slice_set ls k (with_child m.line child)) h.lines);
      records = flat-set (λ (m : Marked). record_in m.used) marked k m (bearing m child) at refl ∙ h.records;
      each = All-set (λ (m : Marked). IsOf m.used (line_of m)) marked k (bearing m child) h.each (All-get (λ (m : Marked). IsOf m.used (line_of m)) marked k m h.each at);
      named = All-set (λ (m : Marked). IsNamed warnings m.used (pid_of_line m.line.item)) marked k (bearing m child) h.named (All-get (λ (m : Marked). IsNamed warnings m.used (pid_of_line m.line.item)) marked k m h.named at);
      past = All-set (λ (m : Marked). IsPast now m.used) marked k (bearing m child) h.past (All-get (λ (m : Marked). IsPast now m.used) marked k m h.past at);
      notes = h.notes;
      manuals = flat-set (λ (m : Marked). supposed_in m.used m.line.item) marked k m (bearing m child) at refl ∙ h.manuals;
      within = All-set (λ (m : Marked). m.line.tree < length forest.trees) marked k (bearing m child) h.within (All-get (λ (m : Marked). m.line.tree < length forest.trees) marked k m h.within at);
      bare = h.bare;
      many = no-less (length recs) forest.records h.many;
    }
    )

-- a tree more
pub told-planted : (recs : List Used) (now : ℕ) (forest : Grown) (warnings : List Note) (marked : List Marked) (start : DomainName) (pid : ℕ) → Told recs now forest warnings marked → Told recs now (planted forest start pid).0 warnings marked
unfolding planted
told-planted recs now forest warnings marked start pid h =
    let longer : length (forest.trees ++ new_tree start pid ∷ []) ≡ length forest.trees + 1 = length-append forest.trees (new_tree start pid ∷ []) in
    record {
      lines = h.lines;
      records = h.records;
      each = h.each;
      named = h.named;
      past = h.past;
      notes = h.notes;
      manuals = h.manuals;
      within = All-later (λ (m : Marked). m.line.tree < length forest.trees) (λ (m : Marked). m.line.tree < length (forest.trees ++ new_tree start pid ∷ [])) marked (λ m lt. rw longer (omega (arith, lt))) h.within;
      bare = All-both (λ (tree : Tree). tree.records ≡ []) forest.trees (new_tree start pid ∷ []) h.bare (refl, tt);
      many = h.many;
    }

-- a warning that is of no manual transition
warned-with : (recs : List Used) (now : ℕ) (forest : Grown) (warnings : List Note) (marked : List Marked) (note : Note) → manual_in note.warning ≡ [] → note.source.number ≤ now → AllByRecursion (λ (m : Marked). IsNamed (warnings ++ note ∷ []) m.used (pid_of_line m.line.item)) marked → Told recs now forest warnings marked → Told recs now forest (warnings ++ note ∷ []) marked
warned-with recs now forest warnings marked note none low named h =
    record {
      lines = h.lines;
      records = h.records;
      each = h.each;
      named = named;
      past = h.past;
      notes = All-both (λ (note : Note). note.source.number ≤ now) warnings (note ∷ []) h.notes (low, tt);
      manuals = h.manuals ∙ sym (flat-push (λ (note : Note). manual_in note.warning) warnings note ∙ rw none (append-nil (manuals_in warnings)));
      within = h.within;
      bare = h.bare;
      many = h.many;
    }

pub told-warned : (recs : List Used) (now : ℕ) (forest : Grown) (warnings : List Note) (marked : List Marked) (note : Note) → manual_in note.warning ≡ [] → note.source.number ≤ now → IsPlain note.warning → Told recs now forest warnings marked → Told recs now forest (warnings ++ note ∷ []) marked
told-warned recs now forest warnings marked note none low plain h = warned-with recs now forest warnings marked note none low (named-plain warnings note marked plain h.named) h

-- one that renames a process, at the latest record
pub told-renamed : (recs : List Used) (forest : Grown) (warnings : List Note) (marked : List Marked) (note : Note) → manual_in note.warning ≡ [] → Told recs note.source.number forest warnings marked → Told recs note.source.number forest (warnings ++ note ∷ []) marked
told-renamed recs forest warnings marked note none h =
    warned-with recs note.source.number forest warnings marked note none (omega arith) (named-later warnings note marked h.past h.named) h
