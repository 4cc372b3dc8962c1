-- A record is taken: its process is found, and its line comes last.
use Rattle.std.proofs.Common.{◌≡◌, ℕ, suc, ◌+◌, ◌<◌, ◌≤◌, ◌==◌, ◌&&◌, ◌||◌, not, Bool, true, false, true≢false, if◌then◌else◌, List, [], ◌∷◌, ◌++◌, length, min, refl, sym, ap, ◌∙◌, subst, arith, length-append, ◌⊎◌, inl, inr}
use Rattle.std.specs.Prelude.{Option, Some, None, slice_get, nat_le}
use Rattle.std.proofs.lemmas.Bool.{leb-true}
use Rattle.std.proofs.lemmas.List.{length-map}
use Rattle.tm_rules.specs.Types.{Item}
use Rattle.tm_rules.specs.Prelude.{DomainName, is_execute}
use Rattle.tm_log.specs.declared.log.Source.{Source}
use Rattle.tm_log.specs.declared.log.Used.{Used}
use Rattle.tm_log.specs.declared.record.Record.{Record}
use Rattle.tm_log_processes.specs.declared.process.Place.{Place}
use Rattle.tm_log_processes.specs.declared.process.Process.{Process}
use Rattle.tm_log_processes.specs.Processes.{same_ids}
use Rattle.tm_log_processes.specs.Places.{Left, with_place}
use Rattle.tm_log_processes.specs.Forests.{Grown, added, has_room, sum_of}
use Rattle.tm_log_processes.specs.Lists.{with_process, fits}
use Rattle.tm_log_trace.specs.declared.notes.Note.{Note}
use Rattle.tm_log_trace.specs.declared.notes.Warning.{Warning}
use Rattle.tm_log_trace.specs.Making.{Making, process_with, process_of, key_by, key_of, with_ids, executed, writes_own_domain, asked, warned_of_cut, told_of, at_source, taken}
use Rattle.tm_log_trace_laws.specs.Told.{HasPids, number_told}
use Rattle.tm_log_trace_laws.proofs.Lists.{get-set-same, get-last, set-same}
use Rattle.tm_log_trace_laws.proofs.Listing.{There}
use Rattle.tm_log_trace_laws.proofs.Told.{Marked, mark, told-push-none, told-asked, told-warned, told-later, number-plain}
use Rattle.tm_log_trace_laws.proofs.Going.{tree-there, walk-line-kept}
use Rattle.tm_log_trace_laws.proofs.Keys.{IsFree}
use Rattle.tm_log_trace_laws.proofs.Sound.{PlaceOk, LeftOk, left-push, left-more, Sound, Sounds, Here, keeps-refl, keeps-put}
use Rattle.tm_log_trace_laws.proofs.Finding.{Named, NoKey, named-kept, Taken, process-taken}

-- between records: the next one has at least this number
pub record Going (recs : List Used) (next : ℕ) (s : Making) : Type 0 where
  pub sound : Sound recs (IsFree s.table s.invented) next s.forest s.list s.places s.warnings
  pub names : Named NoKey s.table s.list s.warnings
  pub low : 4194304 ≤ s.invented
  pub high : s.invented ≤ 4194304 + length recs

-- its process is there, and has this number
pub record Ready (recs : List Used) (number : ℕ) (s : Making) (p : ℕ) (domain : DomainName) : Type 0 where
  pub sound : Sounds recs (IsFree s.table s.invented) s
  pub here : Here s.list p domain
  pub names : Named NoKey s.table s.list s.warnings
  pub number_is : here.process.origin.number ≡ number

-- Ids

pub record Counted (recs : List Used) (number : ℕ) (s made : Making) (p : ℕ) (domain : DomainName) : Type 0 where
  pub ready : Ready recs number made p domain
  pub same_invented : made.invented ≡ s.invented
  pub source : made.source ≡ s.source
  pub same_warnings : made.warnings ≡ s.warnings

ids-ready : (recs : List Used) (number : ℕ) (s : Making) (p key : ℕ) (one : Record) → Ready recs number s p one.domain → Counted recs number s (with_ids s p (told_of key one)) p one.domain
unfolding with_ids added
ids-ready recs number s p key one h =
    let old : Process = h.here.process in
    let new : Process = record old { ids = one.process.ids } in
    let item : Item = Item.Ids old.origin.number one.process.ids in
    let within : old.tree < length s.forest.trees = tree-there (IsFree s.table s.invented) s.forest.trees s.list h.sound.marked p old one.domain h.sound.walk h.here.there in
    let changed : Making = record s { forest = added s.forest old.tree item 0; list = with_process s.list p new } in
    let done : Counted recs number s changed p one.domain = record {
      ready = record {
        sound = record {
          marked = h.sound.marked ++ mark old.tree item one.domain None ∷ [];
          told = told-push-none recs s.source.number s.forest s.warnings h.sound.marked old.tree item 0 one.domain h.sound.told within refl;
          walk = walk-line-kept (IsFree s.table s.invented) s.forest.trees s.list h.sound.marked p old new one.domain item None h.sound.walk h.here.there refl (λ st t. refl) refl refl
              (refl, inl refl, λ open_. absurd (true≢false (sym open_ ∙ h.here.closed)));
          left = left-push s.places h.sound.marked (mark old.tree item one.domain None ∷ []) h.sound.left;
        };
        here = record {
          process = new;
          there = record { place = get-set-same s.list.processes p new old h.here.there.place; inside = h.here.there.inside };
          closed = h.here.closed;
        };
        names = named-kept NoKey s.table s.table s.list changed.list s.warnings s.warnings refl (keeps-put s.list p old new s.list.domains h.here.there.place refl refl) (λ key. refl) h.names;
        number_is = h.number_is;
      };
      same_invented = refl;
      source = refl;
      same_warnings = refl;
    } in
    let kept : Counted recs number s s p one.domain = record { ready = h; same_invented = refl; source = refl; same_warnings = refl } in
    rw h.here.there.place (by (same_ids old.ids one.process.ids) changed kept done)
  where
    by : (b : Bool) (changed : Making) → Counted recs number s s p one.domain → Counted recs number s changed p one.domain → Counted recs number s (if b then s else changed) p one.domain
    by true changed kept done = kept
    by false changed kept done = done

-- The request

-- the record's line is there
pub record Asked (recs : List Used) (next : ℕ) (s made : Making) : Type 0 where
  pub sound : Sound recs (IsFree made.table made.invented) next made.forest made.list made.places made.warnings
  pub names : Named NoKey made.table made.list made.warnings
  pub same_invented : made.invented ≡ s.invented
  pub source : made.source ≡ s.source

-- a record's execute that wasn't refused is the last move of its process
abbrev pub after_execute : Process → Bool → ℕ → Process
after_execute old refused place =
    record old { last_execute = Some place; was_refused = refused; is_open = old.is_open || not refused; is_writer = old.is_writer && refused }

module _ (recs : List Used) (s : Making) (p : ℕ) (used : Used) (h : Ready recs (number_told used.«record».process.pid s.warnings) s p used.«record».domain ⊎ Ready recs (number_told used.«record».global_pid s.warnings) s p used.«record».domain) (source : s.source ≡ used.source) where
  abbrev F : ℕ → Type 0
  F = IsFree s.table s.invented

  abbrev one : Record
  one = used.«record»

  sound : Sounds recs F s
  sound = of h
    where
      of : Ready recs (number_told one.process.pid s.warnings) s p one.domain ⊎ Ready recs (number_told one.global_pid s.warnings) s p one.domain → Sounds recs F s
      of (inl r) = r.sound
      of (inr r) = r.sound

  names : Named NoKey s.table s.list s.warnings
  names = of h
    where
      of : Ready recs (number_told one.process.pid s.warnings) s p one.domain ⊎ Ready recs (number_told one.global_pid s.warnings) s p one.domain → Named NoKey s.table s.list s.warnings
      of (inl r) = r.names
      of (inr r) = r.names

  found : (here : Here s.list p one.domain) × ((here.process.origin.number ≡ number_told one.process.pid s.warnings) ⊎ (here.process.origin.number ≡ number_told one.global_pid s.warnings))
  found = of h
    where
      of : Ready recs (number_told one.process.pid s.warnings) s p one.domain ⊎ Ready recs (number_told one.global_pid s.warnings) s p one.domain → (here : Here s.list p one.domain) × ((here.process.origin.number ≡ number_told one.process.pid s.warnings) ⊎ (here.process.origin.number ≡ number_told one.global_pid s.warnings))
      of (inl r) = (r.here, inl r.number_is)
      of (inr r) = (r.here, inr r.number_is)

  abbrev old : Process
  old = found.0.process

  there : There s.list p old one.domain
  there = found.0.there

  abbrev item : Item
  item = Item.Do old.origin.number one.request

  abbrev line : Marked
  line = mark old.tree item one.domain (Some used)

  marked : List Marked
  marked = sound.marked ++ line ∷ []

  now-sound : Sound recs F used.source.number s.forest s.list s.places s.warnings
  now-sound = subst (λ (x : Source). Sound recs F x.number s.forest s.list s.places s.warnings) source sound

  -- with this process after it
  sound-after : (size : ℕ) (new : Process) (places : Left) → new.origin.number ≡ old.origin.number → new.tree ≡ old.tree → (new.is_open ≡ true → (is_execute one.request && not one.refused) ≡ true) → LeftOk places (now-sound.marked ++ line ∷ []) → Sound (recs ++ used ∷ []) F (suc used.source.number) (added s.forest old.tree item size) (with_process s.list p new) places s.warnings
  unfolding added
  sound-after size new places number tree open_ left =
      record {
        marked = now-sound.marked ++ line ∷ [];
        told = told-asked recs s.forest s.warnings now-sound.marked old.tree item size one.domain used now-sound.told
            (tree-there F s.forest.trees s.list now-sound.marked p old one.domain now-sound.walk there) (refl, refl) found.1;
        walk = walk-line-kept F s.forest.trees s.list now-sound.marked p old new one.domain item (Some used) now-sound.walk there refl (λ st t. refl) number tree
            (sym tree, inl refl, λ e. (refl, open_ e));
        left = left;
      }

  left-after : LeftOk s.places (now-sound.marked ++ line ∷ [])
  left-after = left-push s.places now-sound.marked (line ∷ []) now-sound.left

  abbrev place : Place
  place = record { line = length s.forest.lines; tree = old.tree; ids = old.ids }

  left-executed : LeftOk (with_place s.places place one.domain) (now-sound.marked ++ line ∷ [])
  left-executed = left-more s.places (now-sound.marked ++ line ∷ []) place one.domain ok left-after
    where
      lines : length s.forest.lines ≡ length now-sound.marked
      lines = ap length now-sound.told.lines ∙ length-map now-sound.marked (λ (m : Marked). m.line)

      ok : PlaceOk (now-sound.marked ++ line ∷ []) place one.domain
      ok = record {
        m = line;
        there = subst (λ n. slice_get (now-sound.marked ++ line ∷ []) n ≡ Some line) (sym lines) (get-last now-sound.marked line);
        quiet = λ st t. refl;
        tree = refl;
        inside = refl;
      }

  names-after : (new : Process) → new.origin.key ≡ old.origin.key → new.origin.number ≡ old.origin.number → Named NoKey s.table (with_process s.list p new) s.warnings
  names-after new key number = named-kept NoKey s.table s.table s.list (with_process s.list p new) s.warnings s.warnings refl (keeps-put s.list p old new s.list.domains there.place key number) (λ key. refl) names

  or-false : (a b : Bool) → a ≡ false → (a || b) ≡ true → b ≡ true
  or-false true b no_ e = absurd cc
  or-false false b no_ e = e

  pub asked-done : (size key : ℕ) → Asked (recs ++ used ∷ []) (suc used.source.number) s (asked s p (told_of key one) one.request size one.refused)
  unfolding asked executed
  asked-done size key = rw there.place (by (is_execute one.request) refl)
    where
      moved : Process
      moved = after_execute old one.refused (length s.places.places)

      wrote : Process
      wrote = record old { is_writer = true }

      forest : Grown
      forest = added s.forest old.tree item size

      executed-so : Making
      executed-so = record s { forest = forest; places = with_place s.places place one.domain; list = with_process s.list p moved }

      written : Making
      written = record s { forest = forest; list = with_process s.list p wrote }

      plain : Making
      plain = record s { forest = forest }

      never : {X : Type 0} → old.is_open ≡ true → X
      never open_ = absurd (true≢false (sym open_ ∙ found.0.closed))

      as-plain : Asked (recs ++ used ∷ []) (suc used.source.number) s plain
      as-plain = record {
        sound = subst (λ (ps : List Process). Sound (recs ++ used ∷ []) F (suc used.source.number) forest (record s.list { processes = ps }) s.places s.warnings) (set-same s.list.processes p old there.place)
            (sound-after size old s.places refl refl (λ e. never e) left-after);
        names = names;
        same_invented = refl;
        source = refl;
      }

      writes : (b : Bool) → Asked (recs ++ used ∷ []) (suc used.source.number) s (if b then written else plain)
      writes true = record { sound = sound-after size wrote s.places refl refl (λ e. never e) left-after; names = names-after wrote refl refl; same_invented = refl; source = refl }
      writes false = as-plain

      by : (b : Bool) → is_execute one.request ≡ b → Asked (recs ++ used ∷ []) (suc used.source.number) s (if b then executed-so else (if writes_own_domain one.request && not one.refused then written else plain))
      by true e = record {
        sound = sound-after size moved (with_place s.places place one.domain) refl refl (λ open_. rw e (or-false old.is_open (not one.refused) found.0.closed open_)) left-executed;
        names = names-after moved refl refl;
        same_invented = refl;
        source = refl;
      }
      by false e = writes (writes_own_domain one.request && not one.refused)

-- The whole

key-is : (s : Making) (one : Record) → (key_of s one ≡ one.process.pid) ⊎ (key_of s one ≡ one.global_pid)
unfolding key_of
key-is s one = whole (one.process.pid == one.global_pid)
  where
    fitting : (p : ℕ) (b : Bool) → ((if b then one.process.pid else one.global_pid) ≡ one.process.pid) ⊎ ((if b then one.process.pid else one.global_pid) ≡ one.global_pid)
    fitting p true = inl refl
    fitting p false = inr refl

    by : (o : Option ℕ) → (key_by o s one ≡ one.process.pid) ⊎ (key_by o s one ≡ one.global_pid)
    by None = inr refl
    by (Some p) = fitting p (fits s.list p one.domain)

    whole : (b : Bool) → ((if b then one.process.pid else key_by (process_with s one.process.pid) s one) ≡ one.process.pid) ⊎ ((if b then one.process.pid else key_by (process_with s one.process.pid) s one) ≡ one.global_pid)
    whole true = inl refl
    whole false = by (process_with s one.process.pid)

cut-going : (recs : List Used) (next : ℕ) (mid made : Making) (cut : Bool) → Asked recs next mid made → made.source.number ≤ next → 4194304 ≤ made.invented → made.invented ≤ 4194304 + length recs → Going recs next (warned_of_cut made cut)
cut-going recs next mid made true h now low high =
    let note : Note = record { source = made.source; warning = Warning.Arguments } in
    record {
      sound = record {
        marked = h.sound.marked;
        told = told-warned recs next made.forest made.warnings h.sound.marked note refl now (λ key pid. refl) h.sound.told;
        walk = h.sound.walk;
        left = h.sound.left;
      };
      names = named-kept NoKey made.table made.table made.list made.list made.warnings (made.warnings ++ note ∷ []) refl (keeps-refl made.list) (λ key. number-plain key made.warnings note (λ k pid. refl)) h.names;
      low = low;
      high = high;
    }
cut-going recs next mid made false h now low high = record { sound = h.sound; names = h.names; low = low; high = high }

first-part : (a b c : Bool) → (a && b && c) ≡ true → a ≡ true
first-part true b c e = refl
first-part false b c e = absurd cc

-- a record that has room
pub taken-going : (recs : List Used) (next : ℕ) (s : Making) (used : Used) → Going recs next s → HasPids used → next ≤ used.source.number → has_room s.forest used.size ≡ true → Going (recs ++ used ∷ []) (suc used.source.number) (taken s used)
unfolding taken
taken-going recs next s used h pids later room =
    cut-going (recs ++ used ∷ []) (suc used.source.number) counted_ last one.cut done
    (let e : last.source ≡ used.source = done.source ∙ source in rw e (omega arith))
    (let a = t.low in let b = h.low in let e : last.invented ≡ found.invented = done.same_invented ∙ c.same_invented in rw e (omega (arith, a, b)))
    (let a = t.high in let b = h.high in let e : last.invented ≡ found.invented = done.same_invented ∙ c.same_invented in let l : length (recs ++ used ∷ []) ≡ length recs + 1 = length-append recs (used ∷ []) in rw (e, l) (omega (arith, a, b)))
  where
    one : Record
    one = used.«record»

    start : Making
    start = at_source s used.source

    key : ℕ
    key = key_of start one

    found : Making
    found = (process_of start (told_of key one)).0

    p : ℕ
    p = (process_of start (told_of key one)).1

    counted_ : Making
    counted_ = with_ids found p (told_of key one)

    last : Making
    last = asked counted_ p (told_of key one) one.request used.size one.refused

    few : s.forest.records ≤ 199995
    few = leb-true s.forest.records 199995 (first-part (nat_le s.forest.records 199995) (nat_le (length s.forest.trees) 4094) (nat_le (sum_of s.forest.bytes used.size) 16768216) room)

    bound : s.invented < 4294967295
    bound = (let many : min (length recs) 200000 ≤ s.forest.records = h.sound.told.many in let a = h.high in let b = few in omega (arith, many, a, b))

    key-low : key ≤ 4194304
    key-low = by (key-is start one)
      where
        by : (key ≡ one.process.pid) ⊎ (key ≡ one.global_pid) → key ≤ 4194304
        by (inl e) = (let low = pids.1 in rw e low)
        by (inr e) = (let low = pids.0 in rw e low)

    sound : Sounds recs (IsFree s.table s.invented) start
    sound = record {
      marked = h.sound.marked;
      told = told-later recs next used.source.number s.forest s.warnings h.sound.marked later h.sound.told;
      walk = h.sound.walk;
      left = h.sound.left;
    }

    t : Taken recs key start found p one.domain
    t = process-taken recs start key one sound h.names h.low bound key-low pids.2

    c : Counted recs (number_told key found.warnings) found counted_ p one.domain
    c = ids-ready recs (number_told key found.warnings) found p key one (record { sound = t.sound; here = t.here; names = t.names; number_is = t.number })

    source : counted_.source ≡ used.source
    source = c.source ∙ t.source

    ready : Ready recs (number_told one.process.pid counted_.warnings) counted_ p one.domain ⊎ Ready recs (number_told one.global_pid counted_.warnings) counted_ p one.domain
    ready = by (key-is start one)
      where
        means : (k : ℕ) → key ≡ k → number_told key found.warnings ≡ number_told k counted_.warnings
        means k e = ap (λ n. number_told n found.warnings) e ∙ ap (number_told k) (sym c.same_warnings)

        by : (key ≡ one.process.pid) ⊎ (key ≡ one.global_pid) → Ready recs (number_told one.process.pid counted_.warnings) counted_ p one.domain ⊎ Ready recs (number_told one.global_pid counted_.warnings) counted_ p one.domain
        by (inl e) = inl (subst (λ n. Ready recs n counted_ p one.domain) (means one.process.pid e) c.ready)
        by (inr e) = inr (subst (λ n. Ready recs n counted_ p one.domain) (means one.global_pid e) c.ready)

    done : Asked (recs ++ used ∷ []) (suc used.source.number) counted_ last
    done = asked-done recs counted_ p used ready source used.size key
