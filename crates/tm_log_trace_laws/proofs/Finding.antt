-- The process of a record is found or made, and what its keys mean is told.
use Rattle.std.proofs.Common.{◌≡◌, ℕ, ◌+◌, ◌<◌, ◌≤◌, ◌==◌, ◌&&◌, ◌||◌, not, Bool, true, false, if◌then◌else◌, List, [], refl, sym, ap, ◌∙◌, subst, arith, ◌⊎◌, inl, inr}
use Rattle.std.specs.Prelude.{Option, Some, None, slice_get, slice_set}
use Rattle.std.specs.Ordering.{nat_cmp}
use Rattle.std.specs.BTreeMap.{insert_entry}
use Rattle.std.proofs.lemmas.Bool.{eq-eqb, ne_eqb, eqb-true, eqb-false}
use Rattle.tm_rules.specs.Prelude.{DomainName}
use Rattle.tm_log.specs.declared.log.Used.{Used}
use Rattle.tm_log.specs.declared.record.Record.{Record}
use Rattle.tm_log_processes.specs.declared.process.Origin.{Origin}
use Rattle.tm_log_processes.specs.declared.process.Process.{Process}
use Rattle.tm_log_processes.specs.Lists.{Listed, at, with_process, with_domain, fits, comes_from}
use Rattle.tm_log_trace.specs.declared.notes.Note.{Note}
use Rattle.tm_log_trace.specs.declared.notes.Warning.{Warning}
use Rattle.tm_log_trace.specs.Making.{Making, warned, process_with, next_number, with_invented, staying, put, gone_manually, start_of, unknown_parent, parent_by, parent_of, child, origin_of, child_of, has_no_parent, made_as, made, moved_on, settled, handed, again, differs, known_with, known, process_by, process_of, told_of}
use Rattle.tm_log_trace_laws.specs.Told.{manual_in, number_told}
use Rattle.tm_log_trace_laws.proofs.Lists.{get-in, get-set-same}
use Rattle.tm_log_trace_laws.proofs.Listing.{There, at-is, fitting, writer-there}
use Rattle.tm_log_trace_laws.proofs.Told.{IsPlain, number-more}
use Rattle.tm_log_trace_laws.proofs.Going.{Less, walk-settles, walk-same, taken-number}
use Rattle.tm_log_trace_laws.proofs.Keys.{Table, key_in, insert-other, insert-same, IsFree, free-before, free-after, free-invented}
use Rattle.tm_log_trace_laws.proofs.Sound.{Sounds, Here, Keeps, keeps-refl, keeps-put, Kept, kept-trans, Found, Born, sound-fewer, sound-warned, kept-warned, sound-renamed, put-found, gone-found, child-found}

-- Keys, but for some, mean the processes that warnings tell
pub record Named (But : ℕ → Type 0) (table : Table) (list : Listed) (warnings : List Note) : Type 0 where
  pub known : (key p : ℕ) → (But key → ⊥) → key_in table key ≡ Some p → (process : Process) × (slice_get list.processes p ≡ Some process) × (process.origin.key ≡ key) × (process.origin.number ≡ number_told key warnings)
  pub unknown : (key : ℕ) → (But key → ⊥) → key ≤ 4194304 → key_in table key ≡ None → number_told key warnings ≡ key

abbrev pub NoKey : ℕ → Type 0
NoKey n = ⊥

abbrev pub OneKey : ℕ → ℕ → Type 0
OneKey key n = n ≡ key

abbrev pub OrKey : (ℕ → Type 0) → ℕ → ℕ → Type 0
OrKey But key n = But n ⊎ (n ≡ key)

named-fewer : (But More : ℕ → Type 0) (table : Table) (list : Listed) (warnings : List Note) → ((n : ℕ) → But n → More n) → Named But table list warnings → Named More table list warnings
named-fewer But More table list warnings more h =
    record { known = λ key p ne e. h.known key p (λ b. ne (more key b)) e; unknown = λ key ne low e. h.unknown key (λ b. ne (more key b)) low e }

pub named-kept : (But : ℕ → Type 0) (table now : Table) (list later : Listed) (warnings notes : List Note) → now ≡ table → Keeps list later → ((key : ℕ) → number_told key notes ≡ number_told key warnings) → Named But table list warnings → Named But now later notes
named-kept But table now list later warnings notes same keeps told h =
    record {
      known = λ key p ne e.
          let was = h.known key p ne (ap (λ t. key_in t key) (sym same) ∙ e) in
          let new = keeps.each p was.0 was.1 in
          (new.0, new.1, new.2 ∙ was.2, new.3 ∙ was.3 ∙ sym (told key));
      unknown = λ key ne low e. told key ∙ h.unknown key ne low (ap (λ t. key_in t key) (sym same) ∙ e);
    }

named-entry : (But : ℕ → Type 0) (table : Table) (list : Listed) (warnings : List Note) (key p : ℕ) (process : Process) → Named (OrKey But key) table list warnings → slice_get list.processes p ≡ Some process → process.origin.key ≡ key → process.origin.number ≡ number_told key warnings → Named But (insert_entry nat_cmp table key p) list warnings
named-entry But table list warnings key p process h there mine number =
    record {
      known = λ k q ne e. known-by k q ne e (k == key) refl;
      unknown = λ k ne low e. unknown-by k ne low e (k == key) refl;
    }
  where
    later : Table
    later = insert_entry nat_cmp table key p

    apart : (k : ℕ) → (But k → ⊥) → (k ≡ key → ⊥) → OrKey But key k → ⊥
    apart k ne other (inl b) = ne b
    apart k ne other (inr e) = other e

    known-by : (k q : ℕ) → (But k → ⊥) → key_in later k ≡ Some q → (b : Bool) → (k == key) ≡ b → (process : Process) × (slice_get list.processes q ≡ Some process) × (process.origin.key ≡ k) × (process.origin.number ≡ number_told k warnings)
    known-by k q ne e true same =
        let is : k ≡ key = eqb-true k key same in
        let found : key_in later key ≡ Some q = rw is at e in
        let entered : key_in later key ≡ Some p = insert-same table key p in
        let place : p ≡ q = cc in
        (process, rw (sym place) there, mine ∙ sym is, number ∙ ap (λ n. number_told n warnings) (sym is))
    known-by k q ne e false other =
        let ke = eqb-false k key other in
        h.known k q (apart k ne ke) (sym (insert-other table key p k ke) ∙ e)

    unknown-by : (k : ℕ) → (But k → ⊥) → k ≤ 4194304 → key_in later k ≡ None → (b : Bool) → (k == key) ≡ b → number_told k warnings ≡ k
    unknown-by k ne low e true same =
        let is : k ≡ key = eqb-true k key same in
        let found : key_in later key ≡ None = rw is at e in
        let entered : key_in later key ≡ Some p = insert-same table key p in
        absurd cc
    unknown-by k ne low e false other =
        let ke = eqb-false k key other in
        h.unknown k (apart k ne ke) low (sym (insert-other table key p k ke) ∙ e)

free-back : (table : Table) (invented key p n : ℕ) → IsFree (insert_entry nat_cmp table key p) invented n → key ≤ 4194304 → IsFree table invented n
free-back table invented key p n f low = (free-before table invented key p n f low).0

-- The parent

pub record Parented (recs : List Used) (But : ℕ → Type 0) (invented ppid : ℕ) (s made : Making) : Type 0 where
  pub sound : Sounds recs (IsFree made.table invented) made
  pub names : Named But made.table made.list made.warnings
  pub later : (n : ℕ) → (n ≡ ppid → ⊥) → IsFree s.table invented n → IsFree made.table invented n
  pub same_invented : made.invented ≡ s.invented
  pub source : made.source ≡ s.source
  pub same : (key : ℕ) → number_told key made.warnings ≡ number_told key s.warnings

pub parent-found : (recs : List Used) (But : ℕ → Type 0) (invented : ℕ) (s : Making) (key : ℕ) (one : Record) → Sounds recs (IsFree s.table invented) s → Named But s.table s.list s.warnings → (But one.process.ppid → ⊥) → one.process.ppid ≤ 4194304 → Parented recs But invented one.process.ppid s (parent_of s (told_of key one)).0
unfolding parent_of
parent-found recs But invented s key one h names ne low = by (process_with s one.process.ppid) refl
  where
    ppid : ℕ
    ppid = one.process.ppid

    starting : Making
    starting = warned s (Warning.Parent ppid (start_of s (told_of key one)))

    by : (o : Option ℕ) → process_with s ppid ≡ o → Parented recs But invented ppid s (parent_by o s (told_of key one)).0
    by (Some q) e = record { sound = h; names = names; later = λ n other f. f; same_invented = refl; source = refl; same = λ key. refl }
    by None e =
        let b = put-found recs (IsFree s.table invented) starting (unknown_parent ppid) (start_of s (told_of key one)) (sound-warned recs (IsFree s.table invented) s (Warning.Parent ppid (start_of s (told_of key one))) refl (λ key pid. refl) h) (inl (low, e)) in
        let parent : Making = (put starting (unknown_parent ppid) (start_of s (told_of key one))).0 in
        let q : ℕ = (put starting (unknown_parent ppid) (start_of s (told_of key one))).1 in
        let kept : Kept s parent = kept-trans s starting parent (kept-warned s (Warning.Parent ppid (start_of s (told_of key one))) (λ key pid. refl)) b.found.kept in
        let mine : Process = b.found.here.process in
        let number : mine.origin.number ≡ number_told ppid parent.warnings = ap (λ (o : Origin). o.number) b.is ∙ sym (names.unknown ppid ne low e) ∙ sym (kept.same ppid) in
        record {
          sound = sound-fewer recs (Less (IsFree s.table invented) ppid) (IsFree (insert_entry nat_cmp parent.table ppid q) invented) parent
              (λ n f. let was = free-before parent.table invented ppid q n f low in (subst (λ t. IsFree t invented n) kept.table was.0, was.1)) b.found.sound;
          names = named-entry But parent.table parent.list parent.warnings ppid q mine
              (named-fewer But (OrKey But ppid) parent.table parent.list parent.warnings (λ n x. inl x) (named-kept But s.table parent.table s.list parent.list s.warnings parent.warnings kept.table kept.keeps kept.same names))
              b.found.here.there.place (ap (λ (o : Origin). o.key) b.is) number;
          later = λ n other f. free-after parent.table invented ppid q n other (subst (λ t. IsFree t invented n) (sym kept.table) f);
          same_invented = kept.invented;
          source = kept.source;
          same = kept.same;
        }

-- A process that wasn't there

-- its key doesn't mean it yet
pub record Entered (recs : List Used) (invented number key : ℕ) (s made : Making) (p : ℕ) (domain : DomainName) : Type 0 where
  pub sound : Sounds recs (Less (IsFree made.table invented) number) made
  pub here : Here made.list p domain
  pub mine : here.process.origin.key ≡ key
  pub is : here.process.origin.number ≡ number
  pub names : Named (OneKey key) made.table made.list made.warnings
  pub same_invented : made.invented ≡ s.invented
  pub source : made.source ≡ s.source
  pub same : (k : ℕ) → number_told k made.warnings ≡ number_told k s.warnings

last-false : (a b : Bool) → (a || b) ≡ false → b ≡ false
last-false true b e = absurd cc
last-false false b e = e

pub entered-as : (recs : List Used) (invented : ℕ) (s : Making) (number : ℕ) (key : ℕ) (one : Record) → Sounds recs (IsFree s.table invented) s → Named (OneKey key) s.table s.list s.warnings → IsFree s.table invented number → ((one.process.ppid ≡ key → ⊥) → number ≡ one.process.ppid → ⊥) → one.process.ppid ≤ 4194304 → Entered recs invented number key s (made_as s number (told_of key one)).0 (made_as s number (told_of key one)).1 one.domain
unfolding made_as
entered-as recs invented s number key one h names fresh apart low = by (has_no_parent (told_of key one)) refl
  where
    as-by : Bool → Making × ℕ
    as-by b = if b then put s (origin_of number (told_of key one) None) one.domain else child_of (parent_of s (told_of key one)) number (told_of key one)

    by : (b : Bool) → has_no_parent (told_of key one) ≡ b → Entered recs invented number key s (as-by b).0 (as-by b).1 one.domain
    by true e =
        let b = put-found recs (IsFree s.table invented) s (origin_of number (told_of key one) None) one.domain h fresh in
        let last : Making = (put s (origin_of number (told_of key one) None) one.domain).0 in
        record {
          sound = subst (λ t. Sounds recs (Less (IsFree t invented) number) last) (sym b.found.kept.table) b.found.sound;
          here = b.found.here;
          mine = ap (λ (o : Origin). o.key) b.is;
          is = ap (λ (o : Origin). o.number) b.is;
          names = named-kept (OneKey key) s.table last.table s.list last.list s.warnings last.warnings b.found.kept.table b.found.kept.keeps b.found.kept.same names;
          same_invented = b.found.kept.invented;
          source = b.found.kept.source;
          same = b.found.kept.same;
        }
    by false e =
        let other : one.process.ppid ≡ key → ⊥ = eqb-false one.process.ppid key (last-false (not (key == one.process.pid) || one.process.ppid == 0) (one.process.ppid == key) e) in
        let parent = parent-found recs (OneKey key) invented s key one h names other low in
        let mid : Making = (parent_of s (told_of key one)).0 in
        let q : ℕ = (parent_of s (told_of key one)).1 in
        let b = child-found recs (IsFree mid.table invented) mid q (origin_of number (told_of key one) (Some q)) one.domain parent.sound (parent.later number (apart other) fresh) in
        let last : Making = (child mid q (origin_of number (told_of key one) (Some q)) one.domain).0 in
        record {
          sound = subst (λ t. Sounds recs (Less (IsFree t invented) number) last) (sym b.found.kept.table) b.found.sound;
          here = b.found.here;
          mine = ap (λ (o : Origin). o.key) b.is;
          is = ap (λ (o : Origin). o.number) b.is;
          names = named-kept (OneKey key) mid.table last.table mid.list last.list mid.warnings last.warnings b.found.kept.table b.found.kept.keeps b.found.kept.same parent.names;
          same_invented = b.found.kept.invented ∙ parent.same_invented;
          source = b.found.kept.source ∙ parent.source;
          same = λ k. b.found.kept.same k ∙ parent.same k;
        }

-- The process of a record, which its key means from now on

pub record Taken (recs : List Used) (key : ℕ) (s made : Making) (p : ℕ) (domain : DomainName) : Type 0 where
  pub sound : Sounds recs (IsFree made.table made.invented) made
  pub here : Here made.list p domain
  pub names : Named NoKey made.table made.list made.warnings
  pub number : here.process.origin.number ≡ number_told key made.warnings
  pub source : made.source ≡ s.source
  pub low : s.invented ≤ made.invented
  pub high : made.invented ≤ s.invented + 1

-- its number was there before: none is invented
pub made-taken : (recs : List Used) (invented : ℕ) (s : Making) (number : ℕ) (key : ℕ) (one : Record) → Sounds recs (IsFree s.table invented) s → Named (OneKey key) s.table s.list s.warnings → number_told key s.warnings ≡ number → IsFree s.table invented number → ((one.process.ppid ≡ key → ⊥) → number ≡ one.process.ppid → ⊥) → one.process.ppid ≤ 4194304 → ((t : Table) (p n : ℕ) → IsFree (insert_entry nat_cmp t key p) s.invented n → Less (IsFree t invented) number n) → Taken recs key s (made s number (told_of key one)).0 (made s number (told_of key one)).1 one.domain × ((made s number (told_of key one)).0.invented ≡ s.invented)
unfolding made
made-taken recs invented s number key one h names means fresh apart low fewer =
    let e = entered-as recs invented s number key one h names fresh apart low in
    let last : Making = (made_as s number (told_of key one)).0 in
    let p : ℕ = (made_as s number (told_of key one)).1 in (
      record {
        sound = sound-fewer recs (Less (IsFree last.table invented) number) (IsFree (insert_entry nat_cmp last.table key p) last.invented) last
            (λ n f. fewer last.table p n (subst (λ i. IsFree (insert_entry nat_cmp last.table key p) i n) e.same_invented f)) e.sound;
        here = e.here;
        names = named-entry NoKey last.table last.list last.warnings key p e.here.process
            (named-fewer (OneKey key) (OrKey NoKey key) last.table last.list last.warnings (λ n x. inr x) e.names)
            e.here.there.place e.mine (e.is ∙ sym means ∙ sym (e.same key));
        number = e.is ∙ sym means ∙ sym (e.same key);
        source = e.source;
        low = rw e.same_invented (omega arith);
        high = rw e.same_invented (omega arith);
      },
      e.same_invented,
    )

-- where its key means it already
pub record Standing (recs : List Used) (s : Making) (key p : ℕ) : Type 0 where
  pub sound : Sounds recs (IsFree s.table s.invented) s
  pub names : Named NoKey s.table s.list s.warnings
  pub means : key_in s.table key ≡ Some p
  pub low : 4194304 ≤ s.invented
  pub high : s.invented < 4294967295

-- that process
pub record Meant (s : Making) (key p : ℕ) : Type 0 where
  pub process : Process
  pub own : DomainName
  pub there : There s.list p process own
  pub mine : process.origin.key ≡ key
  pub number : process.origin.number ≡ number_told key s.warnings

meant : (recs : List Used) (s : Making) (key p : ℕ) → Standing recs s key p → Meant s key p
meant recs s key p h =
    let found = h.names.known key p (λ x. x) h.means in
    let inside : (own : DomainName) × (slice_get s.list.domains p ≡ Some own) = get-in s.list.processes s.list.domains p found.0 h.sound.walk.listing.lengths found.1 in
    record { process = found.0; own = inside.0; there = record { place = found.1; inside = inside.1 }; mine = found.2; number = found.3 }

-- the number of a process that is there
number-here : (table : Table) (list : Listed) (warnings : List Note) (key p : ℕ) (domain : DomainName) (h : Here list p domain) → Named NoKey table list warnings → key_in table key ≡ Some p → h.process.origin.number ≡ number_told key warnings
number-here table list warnings key p domain h names means =
    let found = names.known key p (λ x. x) means in
    let place : slice_get list.processes p ≡ Some h.process = h.there.place in
    let also : slice_get list.processes p ≡ Some found.0 = found.1 in
    let same : h.process ≡ found.0 = cc in
    ap (λ (process : Process). process.origin.number) same ∙ found.3

-- all was kept, and the key still means it
found-taken : (recs : List Used) (s done : Making) (key p : ℕ) (domain : DomainName) → Standing recs s key p → Found recs (IsFree s.table s.invented) s done p domain → Taken recs key s done p domain
found-taken recs s done key p domain h f =
    let names : Named NoKey done.table done.list done.warnings = named-kept NoKey s.table done.table s.list done.list s.warnings done.warnings f.kept.table f.kept.keeps f.kept.same h.names in
    record {
      sound = subst (λ i. Sounds recs (IsFree done.table i) done) (sym f.kept.invented) (subst (λ t. Sounds recs (IsFree t s.invented) done) (sym f.kept.table) f.sound);
      here = f.here;
      names = names;
      number = number-here done.table done.list done.warnings key p domain f.here names (ap (λ t. key_in t key) f.kept.table ∙ h.means);
      source = f.kept.source;
      low = rw f.kept.invented (omega arith);
      high = rw f.kept.invented (omega arith);
    }

next-is : (n : ℕ) → n < 4294967295 → next_number n ≡ n + 1
next-is n lt = omega arith

-- another one goes on for it
moved-taken : (recs : List Used) (s : Making) (p : ℕ) (key : ℕ) (one : Record) → Standing recs s key p → key ≤ 4194304 → Taken recs key s (moved_on s p (told_of key one)).0 (moved_on s p (told_of key one)).1 one.domain
unfolding moved_on
moved-taken recs s p key one h key-low =
    record {
      sound = sound-fewer recs (Less (IsFree s.table s.invented) next) (IsFree (insert_entry nat_cmp last.table key q) last.invented) last fewer b.found.sound;
      here = b.found.here;
      names = named-entry NoKey last.table last.list last.warnings key q b.found.here.process
          (named-fewer (OneKey key) (OrKey NoKey key) last.table last.list last.warnings (λ n x. inr x) (named-kept (OneKey key) s.table last.table s.list last.list mid.warnings last.warnings b.found.kept.table b.found.kept.keeps b.found.kept.same mid-names))
          b.found.here.there.place (ap (λ (o : Origin). o.key) b.is ∙ ap (λ (process : Process). process.origin.key) is ∙ m.mine) number;
      number = number;
      source = b.found.kept.source;
      low = rw (b.found.kept.invented, next_is) (omega arith);
      high = rw (b.found.kept.invented, next_is) (omega arith);
    }
  where
    m : Meant s key p
    m = meant recs s key p h

    is : at s.list p ≡ m.process
    is = at-is s.list p m.process m.there.place

    next : ℕ
    next = next_number s.invented

    next_is : next_number s.invented ≡ s.invented + 1
    next_is = next-is s.invented h.high

    warning : Warning
    warning = Warning.Move (at s.list p).origin.number one.domain next (at s.list p).was_refused

    mid : Making
    mid = warned (with_invented s) warning

    origin : Origin
    origin = record (at s.list p).origin { number = next }

    last : Making
    last = (put mid origin one.domain).0

    q : ℕ
    q = (put mid origin one.domain).1

    past : (4194304 < next) × (s.invented < next)
    past = (let l = h.low in let e = next_is in (omega (arith, e), omega (arith, e)))

    b : Born recs (Less (IsFree s.table s.invented) next) mid last q origin one.domain
    b = put-found recs (IsFree s.table s.invented) mid origin one.domain (sound-renamed recs (IsFree s.table s.invented) s warning refl h.sound) (inr past)

    renames : (k : ℕ) → number_told k mid.warnings ≡ (if m.process.origin.number == number_told k s.warnings then next else number_told k s.warnings)
    renames k = number-more k s.warnings (record { source = s.source; warning = warning }) ∙ rw is refl

    fewer : (n : ℕ) → IsFree (insert_entry nat_cmp last.table key q) last.invented n → Less (IsFree s.table s.invented) next n
    fewer n f =
        let invented : last.invented ≡ next = b.found.kept.invented in
        let was : IsFree (insert_entry nat_cmp s.table key q) next n = subst (λ i. IsFree (insert_entry nat_cmp s.table key q) i n) invented (subst (λ t. IsFree (insert_entry nat_cmp t key q) last.invented n) b.found.kept.table f) in
        let few : IsFree (insert_entry nat_cmp s.table key q) s.invented n × (n ≡ next → ⊥) = free-invented (insert_entry nat_cmp s.table key q) s.invented next n past.1 past.0 was in
        (free-back s.table s.invented key q n few.0 key-low, few.1)

    number : b.found.here.process.origin.number ≡ number_told key last.warnings
    number = ap (λ (o : Origin). o.number) b.is ∙ sym (b.found.kept.same key ∙ renames key ∙ rw (eq-eqb m.process.origin.number (number_told key s.warnings) m.number) refl)

    others : (k : ℕ) → (m.process.origin.number ≡ number_told k s.warnings → ⊥) → number_told k mid.warnings ≡ number_told k s.warnings
    others k ne = renames k ∙ rw (ne_eqb m.process.origin.number (number_told k s.warnings) ne) refl

    mid-names : Named (OneKey key) s.table s.list mid.warnings
    mid-names = record {
      known = λ k r ne e.
          let was = h.names.known k r (λ x. x) e in
          let apart : m.process.origin.number ≡ number_told k s.warnings → ⊥ = λ x. ne (other-key k r was.0 was.1 was.2 (x ∙ sym was.3)) in
          (was.0, was.1, was.2, was.3 ∙ sym (others k apart));
      unknown = λ k ne low e.
          let was : number_told k s.warnings ≡ k = h.names.unknown k (λ x. x) low e in
          let apart : m.process.origin.number ≡ number_told k s.warnings → ⊥ = λ x. taken-number (IsFree s.table s.invented) s.forest.trees s.list h.sound.marked p m.process m.own k h.sound.walk m.there (inl (low, e)) (x ∙ was) in
          others k apart ∙ was;
    }
      where
        other-key : (k r : ℕ) (process : Process) → slice_get s.list.processes r ≡ Some process → process.origin.key ≡ k → m.process.origin.number ≡ process.origin.number → k ≡ key
        other-key k r process there mine number =
            let place : p ≡ r = h.sound.walk.listing.distinct p r m.process process m.there.place there number in
            let at-p : slice_get s.list.processes p ≡ Some process = rw place there in
            let here : slice_get s.list.processes p ≡ Some m.process = m.there.place in
            let same : m.process ≡ process = cc in
            sym mine ∙ ap (λ (process : Process). process.origin.key) (sym same) ∙ m.mine

-- it is in the domain, goes there, or another one goes on for it
settled-taken : (recs : List Used) (s : Making) (p : ℕ) (key : ℕ) (one : Record) → Standing recs s key p → key ≤ 4194304 → Taken recs key s (settled s p (told_of key one)).0 (settled s p (told_of key one)).1 one.domain
unfolding settled
settled-taken recs s p key one h key-low = by (fits s.list p one.domain) refl
  where
    F : ℕ → Type 0
    F = IsFree s.table s.invented

    later-by : Bool → Making × ℕ
    later-by b = if b then (gone_manually s p one.domain, p) else moved_on s p (told_of key one)

    settled-by : Bool → Making × ℕ
    settled-by b = if b then (record s { list = staying s.list p one.domain }, p) else later-by (at s.list p).is_writer

    writes : (b : Bool) → (at s.list p).is_writer ≡ b → Taken recs key s (later-by b).0 (later-by b).1 one.domain
    writes true e =
        let who = writer-there s.list p h.sound.walk.listing.lengths e in
        found-taken recs s (gone_manually s p one.domain) key p one.domain h (gone-found recs F s p who.0 who.1 one.domain h.sound who.2)
    writes false e = moved-taken recs s p key one h key-low

    by : (b : Bool) → fits s.list p one.domain ≡ b → Taken recs key s (settled-by b).0 (settled-by b).1 one.domain
    by true e =
        let fit = fitting s.list p one.domain h.sound.walk.listing.lengths e in
        let old : Process = fit.process in
        let new : Process = record old { is_open = false } in
        let done : Making = record s { list = with_domain (with_process s.list p new) p one.domain } in
        let f : Found recs F s done p one.domain = record {
          sound = record {
            marked = h.sound.marked;
            told = h.sound.told;
            walk = walk-settles F s.forest.trees s.list h.sound.marked p old new fit.own one.domain h.sound.walk fit.there fit.goes refl refl refl;
            left = h.sound.left;
          };
          here = record {
            process = new;
            there = record { place = get-set-same s.list.processes p new old fit.there.place; inside = get-set-same s.list.domains p one.domain fit.own fit.there.inside };
            closed = refl;
          };
          kept = record {
            table = refl;
            invented = refl;
            source = refl;
            keeps = keeps-put s.list p old new (slice_set s.list.domains p one.domain) fit.there.place refl refl;
            same = λ key. refl;
          };
        } in
        rw fit.there.place (found-taken recs s done key p one.domain h f)
    by false e = writes (at s.list p).is_writer refl

-- its parent is another one
handed-standing : (recs : List Used) (s : Making) (key p ppid : ℕ) → Standing recs s key p → Standing recs (handed s p ppid) key p
handed-standing recs s key p ppid h =
    let m = meant recs s key p h in
    let old : Process = m.process in
    let new : Process = record old { origin = record old.origin { ppid = Some ppid } } in
    let done : Making = record s { list = with_process s.list p new } in
    let after : Standing recs done key p = record {
      sound = record {
        marked = h.sound.marked;
        told = h.sound.told;
        walk = walk-same (IsFree s.table s.invented) s.forest.trees s.list h.sound.marked p old new m.own h.sound.walk m.there refl refl refl;
        left = h.sound.left;
      };
      names = named-kept NoKey s.table s.table s.list done.list s.warnings s.warnings refl (keeps-put s.list p old new s.list.domains m.there.place refl refl) (λ key. refl) h.names;
      means = h.means;
      low = h.low;
      high = h.high;
    } in
    rw m.there.place after

warned-standing : (recs : List Used) (s : Making) (key p : ℕ) (warning : Warning) → manual_in warning ≡ [] → IsPlain warning → Standing recs s key p → Standing recs (warned s warning) key p
warned-standing recs s key p warning none plain h =
    record {
      sound = sound-warned recs (IsFree s.table s.invented) s warning none plain h.sound;
      names = named-kept NoKey s.table s.table s.list s.list s.warnings (warned s warning).warnings refl (keeps-refl s.list) (kept-warned s warning plain).same h.names;
      means = h.means;
      low = h.low;
      high = h.high;
    }

-- its key is another one's from now on
again-taken : (recs : List Used) (s : Making) (p : ℕ) (key : ℕ) (one : Record) → Standing recs s key p → key ≤ 4194304 → one.process.ppid ≤ 4194304 → Taken recs key s (again s (told_of key one)).0 (again s (told_of key one)).1 one.domain
unfolding again
again-taken recs s p key one h key-low low =
    record {
      sound = t.0.sound;
      here = t.0.here;
      names = t.0.names;
      number = t.0.number;
      source = t.0.source;
      low = rw (t.1, next_is) (omega arith);
      high = rw (t.1, next_is) (omega arith);
    }
  where
    next : ℕ
    next = next_number s.invented

    next_is : next_number s.invented ≡ s.invented + 1
    next_is = next-is s.invented h.high

    warning : Warning
    warning = Warning.Again key next

    mid : Making
    mid = warned (with_invented s) warning

    done : Making
    done = (made mid next (told_of key one)).0

    past : (4194304 < next) × (s.invented < next)
    past = (let l = h.low in let e = next_is in (omega (arith, e), omega (arith, e)))

    renames : (k : ℕ) → number_told k mid.warnings ≡ (if key == k then next else number_told k s.warnings)
    renames k = number-more k s.warnings (record { source = s.source; warning = warning })

    others : (k : ℕ) → (k ≡ key → ⊥) → number_told k mid.warnings ≡ number_told k s.warnings
    others k ne = renames k ∙ rw (ne_eqb key k (λ e. ne (sym e))) refl

    mid-names : Named (OneKey key) s.table s.list mid.warnings
    mid-names = record {
      known = λ k r ne e. (let was = h.names.known k r (λ x. x) e in (was.0, was.1, was.2, was.3 ∙ sym (others k ne)));
      unknown = λ k ne low e. others k ne ∙ h.names.unknown k (λ x. x) low e;
    }

    fewer : (table : Table) (q n : ℕ) → IsFree (insert_entry nat_cmp table key q) next n → Less (IsFree table s.invented) next n
    fewer table q n f =
        let few : IsFree (insert_entry nat_cmp table key q) s.invented n × (n ≡ next → ⊥) = free-invented (insert_entry nat_cmp table key q) s.invented next n past.1 past.0 f in
        (free-back table s.invented key q n few.0 key-low, few.1)

    t : Taken recs key mid done (made mid next (told_of key one)).1 one.domain × (done.invented ≡ next)
    t = made-taken recs s.invented mid next key one (sound-renamed recs (IsFree s.table s.invented) s warning refl h.sound) mid-names
        (renames key ∙ rw (eq-eqb key key refl) refl) (inr past) (λ other e. (let a : 4194304 < next = past.0 in absurd (omega arith))) low fewer

-- a process that the key means
known-taken : (recs : List Used) (s : Making) (p : ℕ) (key : ℕ) (one : Record) → Standing recs s key p → key ≤ 4194304 → one.process.ppid ≤ 4194304 → Taken recs key s (known s p (told_of key one)).0 (known s p (told_of key one)).1 one.domain
unfolding known
known-taken recs s p key one h key-low low = by (not (key == one.global_pid))
  where
    ppid : ℕ
    ppid = one.process.ppid

    -- after a step that keeps the number of those that were invented
    later : (mid made : Making) (q : ℕ) → mid.invented ≡ s.invented → mid.source ≡ s.source → Taken recs key mid made q one.domain → Taken recs key s made q one.domain
    later mid made q invented source t =
        record {
          sound = t.sound;
          here = t.here;
          names = t.names;
          number = t.number;
          source = t.source ∙ source;
          low = rw invented at t.low;
          high = rw invented at t.high;
        }

    warning : Warning
    warning = Warning.Handed (at s.list p).origin.number ppid

    orphan : Making
    orphan = warned s warning

    over-by : Bool → Making × ℕ
    over-by b = if b then again s (told_of key one) else settled (handed orphan p ppid) p (told_of key one)

    over : (b : Bool) → Taken recs key s (over-by b).0 (over-by b).1 one.domain
    over true = again-taken recs s p key one h key-low low
    over false =
        later (handed orphan p ppid) (settled (handed orphan p ppid) p (told_of key one)).0 (settled (handed orphan p ppid) p (told_of key one)).1 refl refl
        (settled-taken recs (handed orphan p ppid) p key one (handed-standing recs orphan key p ppid (warned-standing recs s key p warning refl (λ key pid. refl) h)) key-low)

    with-by : Bool → Making × ℕ
    with-by b = if b then settled (handed s p ppid) p (told_of key one) else over-by (not (ppid == 1) && not (comes_from s.list p ppid))

    parted : (b : Bool) → Taken recs key s (with-by b).0 (with-by b).1 one.domain
    parted true =
        later (handed s p ppid) (settled (handed s p ppid) p (told_of key one)).0 (settled (handed s p ppid) p (told_of key one)).1 refl refl
        (settled-taken recs (handed s p ppid) p key one (handed-standing recs s key p ppid h) key-low)
    parted false = over (not (ppid == 1) && not (comes_from s.list p ppid))

    known-by : Bool → Making × ℕ
    known-by b = if b then settled s p (told_of key one) else known_with s p (told_of key one) ppid

    by : (b : Bool) → Taken recs key s (known-by b).0 (known-by b).1 one.domain
    by true = settled-taken recs s p key one h key-low
    by false = parted (not (differs (at s.list p).origin.ppid ppid))

-- the process of a record
pub process-taken : (recs : List Used) (s : Making) (key : ℕ) (one : Record) → Sounds recs (IsFree s.table s.invented) s → Named NoKey s.table s.list s.warnings → 4194304 ≤ s.invented → s.invented < 4294967295 → key ≤ 4194304 → one.process.ppid ≤ 4194304 → Taken recs key s (process_of s (told_of key one)).0 (process_of s (told_of key one)).1 one.domain
unfolding process_of
process-taken recs s key one h names bound room key-low low = by (process_with s key) refl
  where
    warning : Warning
    warning = Warning.Thread one.global_pid one.process.pid key

    fresh : (mid : Making) → mid.table ≡ s.table → mid.invented ≡ s.invented → mid.source ≡ s.source → Sounds recs (IsFree s.table s.invented) mid → Named NoKey s.table mid.list mid.warnings → key_in s.table key ≡ None → Taken recs key s (made mid key (told_of key one)).0 (made mid key (told_of key one)).1 one.domain
    fresh mid table invented source sound names e =
        let t = made-taken recs s.invented mid key key one (subst (λ t. Sounds recs (IsFree t s.invented) mid) (sym table) sound)
        (named-fewer NoKey (OneKey key) mid.table mid.list mid.warnings (λ n x. absurd x) (subst (λ t. Named NoKey t mid.list mid.warnings) (sym table) names))
        (names.unknown key (λ x. x) key-low e) (inl (key-low, ap (λ t. key_in t key) table ∙ e)) (λ other same. other (sym same)) low
        (λ table_ q n f. free-before table_ s.invented key q n (subst (λ i. IsFree (insert_entry nat_cmp table_ key q) i n) invented f) key-low) in
        record {
          sound = t.0.sound;
          here = t.0.here;
          names = t.0.names;
          number = t.0.number;
          source = t.0.source ∙ source;
          low = rw (t.1, invented) (omega arith);
          high = rw (t.1, invented) (omega arith);
        }

    threads : (b : Bool) → key_in s.table key ≡ None → Taken recs key s (made (if b then s else warned s warning) key (told_of key one)).0 (made (if b then s else warned s warning) key (told_of key one)).1 one.domain
    threads true e = fresh s refl refl refl h names e
    threads false e =
        fresh (warned s warning) refl refl refl (sound-warned recs (IsFree s.table s.invented) s warning refl (λ key pid. refl) h)
        (named-kept NoKey s.table s.table s.list s.list s.warnings (warned s warning).warnings refl (keeps-refl s.list) (kept-warned s warning (λ key pid. refl)).same names) e

    by : (o : Option ℕ) → process_with s key ≡ o → Taken recs key s (process_by o s (told_of key one)).0 (process_by o s (told_of key one)).1 one.domain
    by None e = threads (key == one.process.pid) e
    by (Some p) e = known-taken recs s p key one (record { sound = h; names = names; means = e; low = bound; high = room }) key-low low
