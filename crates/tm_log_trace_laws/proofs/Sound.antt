-- What is kept while a trace is made: its small steps.
use Rattle.std.proofs.Common.{◌≡◌, ℕ, zero, suc, ◌<◌, ◌==◌, ◌||◌, Bool, true, false, true≢false, if◌then◌else◌, List, [], ◌∷◌, ◌++◌, length, refl, sym, ap, ◌∙◌, subst, arith, ◌⊎◌, inl, inr}
use Rattle.std.specs.Prelude.{Option, Some, None, slice_get, slice_set, codes}
use Rattle.std.proofs.lemmas.Bool.{eqb-true, eqb-false}
use Rattle.std.proofs.lemmas.Option.{slice_get-get_or}
use Rattle.std.proofs.lemmas.List.Quantifiers.{position-Some}
use Rattle.tm_word.specs.Prelude.{texts_equal}
use Rattle.tm_word.proofs.TextLaws.{texts_sound}
use Rattle.tm_rules.specs.Types.{Item}
use Rattle.tm_rules.specs.Prelude.{DomainName, no_ids}
use Rattle.tm_log.specs.declared.log.Used.{Used}
use Rattle.tm_log_processes.specs.declared.forest.TraceLine.{TraceLine}
use Rattle.tm_log_processes.specs.declared.process.Origin.{Origin}
use Rattle.tm_log_processes.specs.declared.process.Place.{Place}
use Rattle.tm_log_processes.specs.declared.process.Process.{Process}
use Rattle.tm_log_processes.specs.Processes.{born}
use Rattle.tm_log_processes.specs.Forests.{Grown, added, forked_before, forked_if, planted, sum_of}
use Rattle.tm_log_processes.specs.Lists.{Listed, at, with_process, with_domain, entered, is_settled, settled_in, moved, is_named}
use Rattle.tm_log_processes.specs.Places.{Left, with_place, first_in}
use Rattle.tm_log_trace.specs.declared.notes.Note.{Note}
use Rattle.tm_log_trace.specs.declared.notes.Warning.{Warning}
use Rattle.tm_log_trace.specs.Making.{Making, warned, entering, forked, forked_at, tree_planted, place_at, first_left, put_before, put_by, put, manual_request, gone_manually, left_if, left_by, child_last, child}
use Rattle.tm_log_trace_laws.specs.History.{Stand, Stands, with_child}
use Rattle.tm_log_trace_laws.specs.Told.{manual_in, number_told}
use Rattle.tm_log_trace_laws.proofs.Lists.{All-get, get-set-other, get-set-same, get-front, get-last, get-push, length-set}
use Rattle.tm_log_trace_laws.proofs.Listing.{There, Fitting, fitting-first, fitting-child, writer-there}
use Rattle.tm_log_trace_laws.proofs.Told.{Marked, mark, bearing, IsPlain, number-plain, Told, told-push-none, told-manual, told-before, told-planted, told-warned, told-renamed}
use Rattle.tm_log_trace_laws.proofs.Going.{Less, Walk, walk-fewer, tree-there, walk-line, walk-forks, walk-forks-before, walk-planted}

-- Places of executes

-- a place is that of a line of a process in that domain
pub record PlaceOk (marked : List Marked) (place : Place) (domain : DomainName) : Type 0 where
  pub m : Marked
  pub there : slice_get marked place.line ≡ Some m
  pub quiet : (st : Stand) (t : Stands) → with_child m.line.item st t ≡ t
  pub tree : m.line.tree ≡ place.tree
  pub inside : m.domain ≡ domain

pub record LeftOk (places : Left) (marked : List Marked) : Type 0 where
  pub lengths : length places.places ≡ length places.domains
  pub placed : (i : ℕ) (place : Place) (domain : DomainName) → slice_get places.places i ≡ Some place → slice_get places.domains i ≡ Some domain → PlaceOk marked place domain

pub left-push : (places : Left) (marked more : List Marked) → LeftOk places marked → LeftOk places (marked ++ more)
left-push places marked more h =
    record {
      lengths = h.lengths;
      placed = λ i place domain a b.
          let ok = h.placed i place domain a b in
          record { m = ok.m; there = get-front marked more place.line ok.m ok.there; quiet = ok.quiet; tree = ok.tree; inside = ok.inside };
    }

pub left-bearing : (places : Left) (marked : List Marked) (k child : ℕ) (m : Marked) → slice_get marked k ≡ Some m → LeftOk places marked → LeftOk places (slice_set marked k (bearing m child))
left-bearing places marked k child m there h =
    record { lengths = h.lengths; placed = λ i place domain a b. by place domain (h.placed i place domain a b) (place.line == k) refl }
  where
    by : (place : Place) (domain : DomainName) → PlaceOk marked place domain → (b : Bool) → (place.line == k) ≡ b → PlaceOk (slice_set marked k (bearing m child)) place domain
    by place domain ok true e =
        let same : place.line ≡ k = eqb-true place.line k e in
        let found : slice_get marked k ≡ Some ok.m = rw same at ok.there in
        let is : ok.m ≡ m = cc in
        record {
          m = bearing m child;
          there = rw same (get-set-same marked k (bearing m child) m there);
          quiet = rw is at ok.quiet;
          tree = rw is at ok.tree;
          inside = rw is at ok.inside;
        }
    by place domain ok false e =
        record { m = ok.m; there = get-set-other marked k place.line (bearing m child) (eqb-false place.line k e) ∙ ok.there; quiet = ok.quiet; tree = ok.tree; inside = ok.inside }

pub left-more : (places : Left) (marked : List Marked) (place : Place) (domain : DomainName) → PlaceOk marked place domain → LeftOk places marked → LeftOk (with_place places place domain) marked
left-more places marked place domain ok h =
    record {
      lengths = longer places.places places.domains h.lengths;
      placed = λ i one inside a b. by i one inside (get-push places.places place i one a) (get-push places.domains domain i inside b);
    }
  where
    longer : (xs : List Place) (ys : List DomainName) → length xs ≡ length ys → length (xs ++ place ∷ []) ≡ length (ys ++ domain ∷ [])
    longer [] [] e = refl
    longer [] (y ∷ ys) e = absurd (omega arith)
    longer (x ∷ xs) [] e = absurd (omega arith)
    longer (x ∷ xs) (y ∷ ys) e = ap suc (longer xs ys (omega arith))

    past : {A : Type 0} (xs : List A) (i : ℕ) (x : A) → slice_get xs i ≡ Some x → i ≡ length xs → ⊥
    past [] i x at e = absurd cc
    past (y ∷ xs) zero x at e = omega arith
    past (y ∷ xs) (suc i) x at e = past xs i x at (omega arith)

    by : (i : ℕ) (one : Place) (inside : DomainName) → (slice_get places.places i ≡ Some one) ⊎ ((i ≡ length places.places) × (one ≡ place)) → (slice_get places.domains i ≡ Some inside) ⊎ ((i ≡ length places.domains) × (inside ≡ domain)) → PlaceOk marked one inside
    by i one inside (inl a) (inl b) = h.placed i one inside a b
    by i one inside (inl a) (inr b) = absurd (past places.places i one a (b.0 ∙ sym h.lengths))
    by i one inside (inr a) (inl b) = absurd (past places.domains i inside b (a.0 ∙ h.lengths))
    by i one inside (inr a) (inr b) = rw (a.1, b.1) ok

-- a place that is found is one of a line in the domain
pub first-left-ok : (places : Left) (marked : List Marked) (domain : DomainName) (place : Place) → LeftOk places marked → first_left places domain ≡ Some place → PlaceOk marked place domain
first-left-ok places marked domain place h e = by (first_in places domain) refl e
  where
    by : (o : Option ℕ) → first_in places domain ≡ o → place_at places o ≡ Some place → PlaceOk marked place domain
    by None is e = absurd cc
    by (Some i) is e =
        let found = position-Some (λ name. texts_equal name domain) places.domains i [] is in
        let own = slice_get-get_or places.domains i [] found.0 in
        let same = texts_sound _ domain found.1 in
        rw same at (h.placed i place _ e own)

pub left-by-ok : (places : Left) (marked : List Marked) (o : Option ℕ) (domain : DomainName) (place : Place) → LeftOk places marked → left_if places o domain ≡ Some place → PlaceOk marked place domain
left-by-ok places marked None domain place h e = absurd cc
left-by-ok places marked (Some i) domain place h e = by (slice_get places.domains i) refl e
  where
    inner : (own : DomainName) → slice_get places.domains i ≡ Some own → (b : Bool) → texts_equal own domain ≡ b → (if b then slice_get places.places i else None) ≡ Some place → PlaceOk marked place domain
    inner own is true same e = rw (texts_sound own domain same) at (h.placed i place own e is)
    inner own is false same e = absurd cc

    by : (o : Option DomainName) → slice_get places.domains i ≡ o → (if is_named o domain then slice_get places.places i else None) ≡ Some place → PlaceOk marked place domain
    by None is e = absurd cc
    by (Some own) is e = inner own is (texts_equal own domain) refl e

-- All that is kept

pub record Sound (recs : List Used) (F : ℕ → Type 0) (now : ℕ) (forest : Grown) (list : Listed) (places : Left) (warnings : List Note) : Type 0 where
  pub marked : List Marked
  pub told : Told recs now forest warnings marked
  pub walk : Walk F forest.trees list marked
  pub left : LeftOk places marked

abbrev pub Sounds : List Used → (ℕ → Type 0) → Making → Type 0
Sounds recs F s = Sound recs F s.source.number s.forest s.list s.places s.warnings

-- a process is in this domain, and its last move was no execute
pub record Here (list : Listed) (p : ℕ) (domain : DomainName) : Type 0 where
  pub process : Process
  pub there : There list p process domain
  pub closed : process.is_open ≡ false

-- processes keep their keys and numbers
pub record Keeps (list later : Listed) : Type 0 where
  pub each : (p : ℕ) (process : Process) → slice_get list.processes p ≡ Some process → (new : Process) × (slice_get later.processes p ≡ Some new) × (new.origin.key ≡ process.origin.key) × (new.origin.number ≡ process.origin.number)

pub keeps-trans : (list later last : Listed) → Keeps list later → Keeps later last → Keeps list last
keeps-trans list later last a b =
    record {
      each = λ p process e.
          let x = a.each p process e in
          let y = b.each p x.0 x.1 in
          (y.0, y.1, y.2 ∙ x.2, y.3 ∙ x.3);
    }

pub keeps-refl : (list : Listed) → Keeps list list
keeps-refl list = record { each = λ p process e. (process, e, refl, refl) }

pub keeps-put : (list : Listed) (p : ℕ) (old new : Process) (domains : List DomainName) → slice_get list.processes p ≡ Some old → new.origin.key ≡ old.origin.key → new.origin.number ≡ old.origin.number → Keeps list (record { processes = slice_set list.processes p new; domains = domains })
keeps-put list p old new domains there key number = record { each = λ q process e. by q process e (q == p) refl }
  where
    by : (q : ℕ) (process : Process) → slice_get list.processes q ≡ Some process → (b : Bool) → (q == p) ≡ b → (made : Process) × (slice_get (slice_set list.processes p new) q ≡ Some made) × (made.origin.key ≡ process.origin.key) × (made.origin.number ≡ process.origin.number)
    by q process e true same =
        let is : q ≡ p = eqb-true q p same in
        let at-p : slice_get list.processes p ≡ Some process = rw is at e in
        let was : old ≡ process = cc in
        (new, rw is (get-set-same list.processes p new old there), rw was at key, rw was at number)
    by q process e false other = (process, get-set-other list.processes p q new (eqb-false q p other) ∙ e, refl, refl)

pub keeps-entered : (list : Listed) (new : Process) (domain : DomainName) → Keeps list (entered list new domain).0
keeps-entered list new domain = record { each = λ p process e. (process, get-front list.processes (new ∷ []) p process e, refl, refl) }

-- what is left as it was: keys, numbers, and what keys mean
pub record Kept (s made : Making) : Type 0 where
  pub table : made.table ≡ s.table
  pub invented : made.invented ≡ s.invented
  pub source : made.source ≡ s.source
  pub keeps : Keeps s.list made.list
  pub same : (key : ℕ) → number_told key made.warnings ≡ number_told key s.warnings

pub kept-trans : (s made last : Making) → Kept s made → Kept made last → Kept s last
kept-trans s made last a b =
    record {
      table = b.table ∙ a.table;
      invented = b.invented ∙ a.invented;
      source = b.source ∙ a.source;
      keeps = keeps-trans s.list made.list last.list a.keeps b.keeps;
      same = λ key. b.same key ∙ a.same key;
    }

-- all is kept, and that process is there
pub record Found (recs : List Used) (F : ℕ → Type 0) (s made : Making) (p : ℕ) (domain : DomainName) : Type 0 where
  pub sound : Sounds recs F made
  pub here : Here made.list p domain
  pub kept : Kept s made

-- and it is a new one of this origin
pub record Born (recs : List Used) (F : ℕ → Type 0) (s made : Making) (p : ℕ) (origin : Origin) (domain : DomainName) : Type 0 where
  pub found : Found recs F s made p domain
  pub is : found.here.process.origin ≡ origin

pub sound-fewer : (recs : List Used) (F G : ℕ → Type 0) (s : Making) → ((n : ℕ) → G n → F n) → Sounds recs F s → Sounds recs G s
sound-fewer recs F G s fewer h = record { marked = h.marked; told = h.told; walk = walk-fewer F G s.forest.trees s.list h.marked fewer h.walk; left = h.left }

pub sound-warned : (recs : List Used) (F : ℕ → Type 0) (s : Making) (warning : Warning) → manual_in warning ≡ [] → IsPlain warning → Sounds recs F s → Sounds recs F (warned s warning)
sound-warned recs F s warning none plain h =
    record { marked = h.marked; told = told-warned recs s.source.number s.forest s.warnings h.marked (record { source = s.source; warning = warning }) none (omega arith) plain h.told; walk = h.walk; left = h.left }

pub kept-warned : (s : Making) (warning : Warning) → IsPlain warning → Kept s (warned s warning)
kept-warned s warning plain =
    record {
      table = refl;
      invented = refl;
      source = refl;
      keeps = keeps-refl s.list;
      same = λ key. number-plain key s.warnings (record { source = s.source; warning = warning }) plain;
    }

pub sound-renamed : (recs : List Used) (F : ℕ → Type 0) (s : Making) (warning : Warning) → manual_in warning ≡ [] → Sounds recs F s → Sounds recs F (warned s warning)
sound-renamed recs F s warning none h =
    record { marked = h.marked; told = told-renamed recs s.forest s.warnings h.marked (record { source = s.source; warning = warning }) none h.told; walk = h.walk; left = h.left }

-- the last process of a list
pub entered-here : (list : Listed) (new : Process) (domain : DomainName) → length list.processes ≡ length list.domains → new.is_open ≡ false → Here (entered list new domain).0 (length list.processes) domain
entered-here list new domain lengths closed =
    record {
      process = new;
      there = record {
        place = get-last list.processes new;
        inside = subst (λ n. slice_get (list.domains ++ domain ∷ []) n ≡ Some domain) (sym lengths) (get-last list.domains domain);
      };
      closed = closed;
    }

-- Processes that are made

pub forked-found : (recs : List Used) (F : ℕ → Type 0) (s : Making) (p : ℕ) (origin : Origin) (domain : DomainName) → Sounds recs F s → Fitting s.list p domain → F origin.number → Born recs (Less F origin.number) s (forked s p origin domain).0 (forked s p origin domain).1 origin domain
unfolding forked added entered-here
forked-found recs F s p origin domain h fit fresh =
    let old : Process = fit.process in
    let parent : Process = record old { is_open = false } in
    let new : Process = born origin old.tree old.ids in
    let within : old.tree < length s.forest.trees = tree-there F s.forest.trees s.list h.marked p old fit.own h.walk fit.there in
    let walk = walk-forks F s.forest.trees s.list h.marked p old parent new fit.own domain h.walk fit.there fit.goes fresh refl refl refl refl refl in
    let staying_ : Listed = with_domain (with_process s.list p parent) p domain in
    rw fit.there.place (
    record {
      found = record {
        sound = record {
          marked = h.marked ++ mark old.tree (Item.Fork old.origin.number origin.number) domain None ∷ [];
          told = told-push-none recs s.source.number s.forest s.warnings h.marked old.tree (Item.Fork old.origin.number origin.number) 0 domain h.told within refl;
          walk = walk;
          left = left-push s.places h.marked (mark old.tree (Item.Fork old.origin.number origin.number) domain None ∷ []) h.left;
        };
        here = entered-here staying_ new domain (same-lengths s.list p parent domain h.walk.listing.lengths) refl;
        kept = record {
          table = refl;
          invented = refl;
          source = refl;
          keeps = keeps-trans s.list staying_ (entered staying_ new domain).0 (keeps-put s.list p old parent (slice_set s.list.domains p domain) fit.there.place refl refl) (keeps-entered staying_ new domain);
          same = λ key. refl;
        };
      };
      is = refl;
    }
    )
  where
    same-lengths : (list : Listed) (p : ℕ) (new : Process) (domain : DomainName) → length list.processes ≡ length list.domains → length (slice_set list.processes p new) ≡ length (slice_set list.domains p domain)
    same-lengths list p new domain e = length-set list.processes p new ∙ e ∙ sym (length-set list.domains p domain)

trees-before : (forest : Grown) (k child : ℕ) → (forked_before forest k child).trees ≡ forest.trees
unfolding forked_before
trees-before forest k child = by (slice_get forest.lines k)
  where
    by : (o : Option TraceLine) → (forked_if o forest k child).trees ≡ forest.trees
    by None = refl
    by (Some line) = refl

pub forked-at-found : (recs : List Used) (F : ℕ → Type 0) (s : Making) (place : Place) (origin : Origin) (domain : DomainName) → (h : Sounds recs F s) → PlaceOk h.marked place domain → F origin.number → Born recs (Less F origin.number) s (forked_at s place origin domain).0 (forked_at s place origin domain).1 origin domain
unfolding forked_at entered-here
forked-at-found recs F s place origin domain h ok fresh =
    let new : Process = born origin place.tree place.ids in
    let later : List Marked = slice_set h.marked place.line (bearing ok.m origin.number) in
    let within : ok.m.line.tree < length s.forest.trees = All-get (λ (m : Marked). m.line.tree < length s.forest.trees) h.marked place.line ok.m h.told.within ok.there in
    let walk : Walk (Less F origin.number) s.forest.trees (entered s.list new ok.m.domain).0 later = walk-forks-before F s.forest.trees s.list h.marked place.line ok.m new h.walk ok.there ok.quiet fresh (sym ok.tree) refl within in
    record {
      found = record {
        sound = record {
          marked = later;
          told = told-before recs s.source.number s.forest s.warnings h.marked place.line origin.number ok.m h.told ok.there;
          walk = subst (λ ts. Walk (Less F origin.number) ts (entered s.list new domain).0 later) (sym (trees-before s.forest place.line origin.number))
              (subst (λ d. Walk (Less F origin.number) s.forest.trees (entered s.list new d).0 later) ok.inside walk);
          left = left-bearing s.places h.marked place.line origin.number ok.m ok.there h.left;
        };
        here = entered-here s.list new domain h.walk.listing.lengths refl;
        kept = record { table = refl; invented = refl; source = refl; keeps = keeps-entered s.list new domain; same = λ key. refl };
      };
      is = refl;
    }

pub planted-found : (recs : List Used) (F : ℕ → Type 0) (s : Making) (origin : Origin) (domain : DomainName) → Sounds recs F s → F origin.number → Born recs (Less F origin.number) s (tree_planted s origin domain).0 (tree_planted s origin domain).1 origin domain
unfolding tree_planted planted entered-here
planted-found recs F s origin domain h fresh = by (texts_equal domain (codes "<kernel>"))
  where
    start : Making
    start = record s { forest = (planted s.forest domain origin.number).0 }

    new : Process
    new = born origin (length s.forest.trees) no_ids

    sound : Sound recs (Less F origin.number) s.source.number start.forest (entered s.list new domain).0 s.places s.warnings
    sound = record {
      marked = h.marked;
      told = told-planted recs s.source.number s.forest s.warnings h.marked domain origin.number h.told;
      walk = walk-planted F s.forest.trees s.list h.marked new domain h.walk fresh refl refl;
      left = h.left;
    }

    entering-if : Bool → Making
    entering-if b = if b then start else warned start (Warning.Tree origin.number domain)

    by : (b : Bool) → Born recs (Less F origin.number) s (entering (entering-if b) new domain).0 (entering (entering-if b) new domain).1 origin domain
    by true = record {
      found = record {
        sound = sound;
        here = entered-here s.list new domain h.walk.listing.lengths refl;
        kept = record { table = refl; invented = refl; source = refl; keeps = keeps-entered s.list new domain; same = λ key. refl };
      };
      is = refl;
    }
    by false = record {
      found = record {
        sound = record {
          marked = sound.marked;
          told = told-warned recs s.source.number start.forest s.warnings sound.marked (record { source = s.source; warning = Warning.Tree origin.number domain }) refl (omega arith) (λ key pid. refl) sound.told;
          walk = sound.walk;
          left = sound.left;
        };
        here = entered-here s.list new domain h.walk.listing.lengths refl;
        kept = record {
          table = refl;
          invented = refl;
          source = refl;
          keeps = keeps-entered s.list new domain;
          same = λ key. number-plain key s.warnings (record { source = s.source; warning = Warning.Tree origin.number domain }) (λ key pid. refl);
        };
      };
      is = refl;
    }

pub put-found : (recs : List Used) (F : ℕ → Type 0) (s : Making) (origin : Origin) (domain : DomainName) → Sounds recs F s → F origin.number → Born recs (Less F origin.number) s (put s origin domain).0 (put s origin domain).1 origin domain
unfolding put
put-found recs F s origin domain h fresh = by (settled_in s.list domain) refl
  where
    before : (o : Option Place) → first_left s.places domain ≡ o → Born recs (Less F origin.number) s (put_before o s origin domain).0 (put_before o s origin domain).1 origin domain
    before None e = planted-found recs F s origin domain h fresh
    before (Some place) e = forked-at-found recs F s place origin domain h (first-left-ok s.places h.marked domain place h.left e) fresh

    by : (o : Option ℕ) → settled_in s.list domain ≡ o → Born recs (Less F origin.number) s (put_by o s origin domain).0 (put_by o s origin domain).1 origin domain
    by None e = before (first_left s.places domain) refl
    by (Some p) e = forked-found recs F s p origin domain h (fitting-first s.list p domain h.walk.listing.lengths e) fresh

-- A manual transition

pub gone-found : (recs : List Used) (F : ℕ → Type 0) (s : Making) (p : ℕ) (old : Process) (own domain : DomainName) → Sounds recs F s → There s.list p old own → Found recs F s (gone_manually s p domain) p domain
unfolding gone_manually added
gone-found recs F s p old own domain h there =
    let new : Process = record old { is_open = false; is_writer = false } in
    let item : Item = Item.Do old.origin.number (manual_request domain) in
    let within : old.tree < length s.forest.trees = tree-there F s.forest.trees s.list h.marked p old own h.walk there in
    let note : Note = record { source = s.source; warning = Warning.Manual old.origin.number domain } in
    rw there.place (
    record {
      sound = record {
        marked = h.marked ++ mark old.tree item own None ∷ [];
        told = told-manual recs s.source.number s.forest s.warnings h.marked old.tree item (sum_of (length domain) 30) own note h.told within refl (λ key pid. refl) (omega arith);
        walk = walk-line F s.forest.trees s.list h.marked p old new own own domain item None h.walk there (inl refl) refl (λ st t. refl) refl refl (refl, inl refl, λ open_. absurd (true≢false (sym open_)));
        left = left-push s.places h.marked (mark old.tree item own None ∷ []) h.left;
      };
      here = record { process = new; there = record { place = get-set-same s.list.processes p new old there.place; inside = get-set-same s.list.domains p domain own there.inside }; closed = refl };
      kept = record {
        table = refl;
        invented = refl;
        source = refl;
        keeps = keeps-put s.list p old new (slice_set s.list.domains p domain) there.place refl refl;
        same = λ key. number-plain key s.warnings note (λ key pid. refl);
      };
    }
    )

-- A child

pub child-found : (recs : List Used) (F : ℕ → Type 0) (s : Making) (q : ℕ) (origin : Origin) (domain : DomainName) → Sounds recs F s → F origin.number → Born recs (Less F origin.number) s (child s q origin domain).0 (child s q origin domain).1 origin domain
unfolding child
child-found recs F s q origin domain h fresh = by (is_settled s.list domain q || moved s.list q domain) refl
  where
    lengths : length s.list.processes ≡ length s.list.domains
    lengths = h.walk.listing.lengths

    -- after steps that keep all
    later : (mid made : Making) (p : ℕ) → Kept s mid → Born recs (Less F origin.number) mid made p origin domain → Born recs (Less F origin.number) s made p origin domain
    later mid made p kept b = record { found = record { sound = b.found.sound; here = b.found.here; kept = kept-trans s mid made kept b.found.kept }; is = b.is }

    starting : Making
    starting = warned s (Warning.Start origin.number domain)

    gone : Making
    gone = gone_manually s q domain

    last-by : Bool → Making × ℕ
    last-by b = if b then forked gone q origin domain else put starting origin domain

    writes : (b : Bool) → (at s.list q).is_writer ≡ b → Born recs (Less F origin.number) s (last-by b).0 (last-by b).1 origin domain
    writes true e =
        let who = writer-there s.list q lengths e in
        let done = gone-found recs F s q who.0 who.1 domain h who.2 in
        let fit : Fitting gone.list q domain = record { process = done.here.process; own = domain; there = done.here.there; goes = inl refl } in
        later gone (forked gone q origin domain).0 (forked gone q origin domain).1 done.kept (forked-found recs F gone q origin domain done.sound fit fresh)
    writes false e =
        later starting (put starting origin domain).0 (put starting origin domain).1 (kept-warned s (Warning.Start origin.number domain) (λ key pid. refl))
        (put-found recs F starting origin domain (sound-warned recs F s (Warning.Start origin.number domain) refl (λ key pid. refl) h) fresh)

    last : (o : Option Place) → left_by s q domain ≡ o → Born recs (Less F origin.number) s (child_last o s q origin domain).0 (child_last o s q origin domain).1 origin domain
    last None e = writes (at s.list q).is_writer refl
    last (Some place) e = forked-at-found recs F s place origin domain h (left-by-ok s.places h.marked (at s.list q).last_execute domain place h.left e) fresh

    child-by : Bool → Making × ℕ
    child-by b = if b then forked s q origin domain else child_last (left_by s q domain) s q origin domain

    by : (b : Bool) → (is_settled s.list domain q || moved s.list q domain) ≡ b → Born recs (Less F origin.number) s (child-by b).0 (child-by b).1 origin domain
    by true e = forked-found recs F s q origin domain h (fitting-child s.list q domain lengths e) fresh
    by false e = last (left_by s q domain) refl
