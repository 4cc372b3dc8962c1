-- Lines, trees and processes that are added to a trace that is being made still replay.
use Rattle.std.proofs.Common.{◌≡◌, ℕ, ◌+◌, ◌<◌, Bool, true, false, true≢false, List, [], ◌∷◌, ◌++◌, length, refl, sym, ap, ◌∙◌, subst, arith, append_assoc, length-append, inl}
use Rattle.std.specs.Prelude.{Option, Some, None, slice_get, slice_set}
use Rattle.std.specs.List.{AllByRecursion}
use Rattle.tm_rules.specs.Types.{Item}
use Rattle.tm_rules.specs.Prelude.{DomainName, Trace, pid_of_line}
use Rattle.tm_log.specs.declared.log.Used.{Used}
use Rattle.tm_log_processes.specs.declared.process.Process.{Process}
use Rattle.tm_log_processes.specs.Forests.{new_tree}
use Rattle.tm_log_processes.specs.Lists.{Listed, with_process, with_domain, entered}
use Rattle.tm_log_trace_laws.specs.History.{Happening, Stand, Stands, stand_of, StandsIn, stand_after, with_child, after_line, Replays, firsts_from}
use Rattle.tm_log_trace_laws.proofs.Lists.{All-set, All-both, All-later, All-get, SplitAt, split-at, set-same}
use Rattle.tm_log_trace_laws.proofs.Walks.{after_lines, after-append, replays-both, SameBut, same-refl, same-one, stand-same, stand-other, Joined, fork_line, settled_at, fork-before, tree-last}
use Rattle.tm_log_trace_laws.proofs.Listing.{HeldIn, There, Listing, MayGo, held-fits, held-some, listing-changed, listing-kept, listing-entered}
use Rattle.tm_log_trace_laws.proofs.Told.{Marked, mark, line_of, forks_of, history, bearing, history-append}

-- where all are at the end
abbrev pub ends : Trace → List Marked → Stands
ends trees marked = after_lines (firsts_from 0 trees) (history marked)

-- numbers that nobody has, without one of them
abbrev pub Less : (ℕ → Type 0) → ℕ → ℕ → Type 0
Less F c n = F n × (n ≡ c → ⊥)

pub record Walk (F : ℕ → Type 0) (trees : Trace) (list : Listed) (marked : List Marked) : Type 0 where
  pub replays : Replays (firsts_from 0 trees) (history marked)
  pub listing : Listing (ends trees marked) list
  pub free : (n : ℕ) → F n → stand_of (ends trees marked) n ≡ None
  pub rooted : AllByRecursion (λ (process : Process). process.tree < length trees) list.processes

pub walk-fewer : (F G : ℕ → Type 0) (trees : Trace) (list : Listed) (marked : List Marked) → ((n : ℕ) → G n → F n) → Walk F trees list marked → Walk G trees list marked
walk-fewer F G trees list marked fewer h = record { replays = h.replays; listing = h.listing; free = λ n g. h.free n (fewer n g); rooted = h.rooted }

pub tree-there : (F : ℕ → Type 0) (trees : Trace) (list : Listed) (marked : List Marked) (p : ℕ) (process : Process) (own : DomainName) → Walk F trees list marked → There list p process own → process.tree < length trees
tree-there F trees list marked p process own h there = All-get (λ (process : Process). process.tree < length trees) list.processes p process h.rooted there.place

-- who is there has a number that isn't free
pub taken-number : (F : ℕ → Type 0) (trees : Trace) (list : Listed) (marked : List Marked) (p : ℕ) (process : Process) (own : DomainName) (n : ℕ) → Walk F trees list marked → There list p process own → F n → process.origin.number ≡ n → ⊥
taken-number F trees list marked p process own n h there f e =
    held-some (stand_of (ends trees marked) process.origin.number) process own (h.listing.held p process own there) (ap (stand_of (ends trees marked)) e ∙ h.free n f)

-- its stand
held-stand : (o : Option Stand) (process : Process) (domain : DomainName) → HeldIn o process domain → (st : Stand) × (o ≡ Some st) × HeldIn (Some st) process domain
held-stand None process domain h = absurd h
held-stand (Some st) process domain h = (st, refl, h)

not-open : (b : Bool) → b ≡ false → b ≡ true → ⊥
not-open b closed opened = true≢false (sym opened ∙ closed)

-- A line more

history-push : (marked : List Marked) (tree : ℕ) (item : Item) (domain : DomainName) (used : Option Used) → history (marked ++ mark tree item domain used ∷ []) ≡ history marked ++ line_of (mark tree item domain used) ∷ []
history-push marked tree item domain used = history-append marked (mark tree item domain used ∷ [])

ends-push : (trees : Trace) (marked : List Marked) (tree : ℕ) (item : Item) (domain : DomainName) (used : Option Used) → ends trees (marked ++ mark tree item domain used ∷ []) ≡ after_line (ends trees marked) (line_of (mark tree item domain used))
ends-push trees marked tree item domain used =
    ap (after_lines (firsts_from 0 trees)) (history-push marked tree item domain used) ∙ after-append (firsts_from 0 trees) (history marked) (line_of (mark tree item domain used) ∷ [])

replays-push : (trees : Trace) (marked : List Marked) (tree : ℕ) (item : Item) (domain : DomainName) (used : Option Used) → Replays (firsts_from 0 trees) (history marked) → StandsIn (stand_of (ends trees marked) (pid_of_line item)) tree domain → Replays (firsts_from 0 trees) (history (marked ++ mark tree item domain used ∷ []))
replays-push trees marked tree item domain used h fits =
    subst (λ hs. Replays (firsts_from 0 trees) hs) (sym (history-push marked tree item domain used))
    (replays-both (firsts_from 0 trees) (history marked) (line_of (mark tree item domain used) ∷ []) h (fits, tt))

-- a line of a process that makes no other one
pub walk-line : (F : ℕ → Type 0) (trees : Trace) (list : Listed) (marked : List Marked) (p : ℕ) (old new : Process) (own domain to : DomainName) (item : Item) (used : Option Used) → Walk F trees list marked → There list p old own → MayGo old own domain → pid_of_line item ≡ old.origin.number → ((st : Stand) (t : Stands) → with_child item st t ≡ t) → new.origin.number ≡ old.origin.number → new.tree ≡ old.tree → HeldIn (Some (stand_after (line_of (mark old.tree item domain used)))) new to → Walk F trees (with_domain (with_process list p new) p to) (marked ++ mark old.tree item domain used ∷ [])
walk-line F trees list marked p old new own domain to item used h there goes pid quiet number tree held =
    record {
      replays = replays-push trees marked old.tree item domain used h.replays (rw pid (held-fits (stand_of w old.origin.number) old own domain (h.listing.held p old own there) goes));
      listing = subst (λ v. Listing v (with_domain (with_process list p new) p to)) (sym end)
          (listing-changed w ((old.origin.number, st) ∷ w) list p old new own to st h.listing there number (same-one old.origin.number st w w (same-refl old.origin.number w)) (stand-same w old.origin.number st) held);
      free = λ n f. ap (λ v. stand_of v n) end ∙ stand-other w old.origin.number n st (taken-number F trees list marked p old own n h there f) ∙ h.free n f;
      rooted = All-set (λ (process : Process). process.tree < length trees) list.processes p new h.rooted (rw tree (tree-there F trees list marked p old own h there));
    }
  where
    w : Stands
    w = ends trees marked

    line : Happening
    line = line_of (mark old.tree item domain used)

    st : Stand
    st = stand_after line

    end : ends trees (marked ++ mark old.tree item domain used ∷ []) ≡ (old.origin.number, st) ∷ w
    end = ends-push trees marked old.tree item domain used ∙ quiet st ((pid_of_line item, st) ∷ w) ∙ ap (λ n. (n, st) ∷ w) pid

-- it stays in its domain
pub walk-line-kept : (F : ℕ → Type 0) (trees : Trace) (list : Listed) (marked : List Marked) (p : ℕ) (old new : Process) (own : DomainName) (item : Item) (used : Option Used) → Walk F trees list marked → There list p old own → pid_of_line item ≡ old.origin.number → ((st : Stand) (t : Stands) → with_child item st t ≡ t) → new.origin.number ≡ old.origin.number → new.tree ≡ old.tree → HeldIn (Some (stand_after (line_of (mark old.tree item own used)))) new own → Walk F trees (with_process list p new) (marked ++ mark old.tree item own used ∷ [])
walk-line-kept F trees list marked p old new own item used h there pid quiet number tree held =
    subst (λ (ds : List DomainName). Walk F trees (record { processes = slice_set list.processes p new; domains = ds }) (marked ++ mark old.tree item own used ∷ [])) (set-same list.domains p own there.inside)
    (walk-line F trees list marked p old new own own own item used h there (inl refl) pid quiet number tree held)

-- No line

-- a process settles where its last execute may have led it
pub walk-settles : (F : ℕ → Type 0) (trees : Trace) (list : Listed) (marked : List Marked) (p : ℕ) (old new : Process) (own domain : DomainName) → Walk F trees list marked → There list p old own → MayGo old own domain → new.origin.number ≡ old.origin.number → new.tree ≡ old.tree → new.is_open ≡ false → Walk F trees (with_domain (with_process list p new) p domain) marked
walk-settles F trees list marked p old new own domain h there goes number tree closed =
    let w : Stands = ends trees marked in
    let held = held-stand (stand_of w old.origin.number) old own (h.listing.held p old own there) in
    let fits : StandsIn (Some held.0) old.tree domain = held-fits (Some held.0) old own domain held.2 goes in
    record {
      replays = h.replays;
      listing = listing-changed w w list p old new own domain held.0 h.listing there number (same-refl old.origin.number w) held.1
          (fits.0 ∙ sym tree, fits.1, λ open_. absurd (not-open new.is_open closed open_));
      free = h.free;
      rooted = All-set (λ (process : Process). process.tree < length trees) list.processes p new h.rooted (rw tree (tree-there F trees list marked p old own h there));
    }

-- what its number, its tree and its last move don't tell is another matter
pub walk-same : (F : ℕ → Type 0) (trees : Trace) (list : Listed) (marked : List Marked) (p : ℕ) (old new : Process) (own : DomainName) → Walk F trees list marked → There list p old own → new.origin.number ≡ old.origin.number → new.tree ≡ old.tree → new.is_open ≡ old.is_open → Walk F trees (with_process list p new) marked
walk-same F trees list marked p old new own h there number tree open_ =
    let w : Stands = ends trees marked in
    let held = held-stand (stand_of w old.origin.number) old own (h.listing.held p old own there) in
    record {
      replays = h.replays;
      listing = listing-kept w w list p old new own held.0 h.listing there number (same-refl old.origin.number w) held.1
          (held.2.0 ∙ sym tree, held.2.1, λ e. held.2.2 (sym open_ ∙ e));
      free = h.free;
      rooted = All-set (λ (process : Process). process.tree < length trees) list.processes p new h.rooted (rw tree (tree-there F trees list marked p old own h there));
    }

-- A process more

-- whoever it is made by
walk-entered : (F : ℕ → Type 0) (trees more : Trace) (list : Listed) (marked later : List Marked) (new : Process) (domain : DomainName) → Listing (ends trees marked) list → ((n : ℕ) → F n → stand_of (ends trees marked) n ≡ None) → F new.origin.number → Replays (firsts_from 0 more) (history later) → SameBut new.origin.number (ends trees marked) (ends more later) → stand_of (ends more later) new.origin.number ≡ Some (settled_at new.tree domain) → new.is_open ≡ false → AllByRecursion (λ (process : Process). process.tree < length more) list.processes → new.tree < length more → Walk (Less F new.origin.number) more (entered list new domain).0 later
walk-entered F trees more list marked later new domain listing free fresh replays others own closed rooted within =
    record {
      replays = replays;
      listing = listing-entered (ends trees marked) (ends more later) list new domain (settled_at new.tree domain) listing (free new.origin.number fresh) others own
          (refl, inl refl, λ open_. absurd (not-open new.is_open closed open_));
      free = λ n f. sym (others n f.1) ∙ free n f.0;
      rooted = All-both (λ (process : Process). process.tree < length more) list.processes (new ∷ []) rooted (within, tt);
    }

-- by a fork at the end, after which both are in this domain
pub walk-forks : (F : ℕ → Type 0) (trees : Trace) (list : Listed) (marked : List Marked) (p : ℕ) (old parent child : Process) (own domain : DomainName) → Walk F trees list marked → There list p old own → MayGo old own domain → F child.origin.number → parent.origin.number ≡ old.origin.number → parent.tree ≡ old.tree → parent.is_open ≡ false → child.tree ≡ old.tree → child.is_open ≡ false → Walk (Less F child.origin.number) trees (entered (with_domain (with_process list p parent) p domain) child domain).0 (marked ++ mark old.tree (Item.Fork old.origin.number child.origin.number) domain None ∷ [])
walk-forks F trees list marked p old parent child own domain h there goes fresh number tree closed child-tree child-closed =
    record {
      replays = replays-push trees marked old.tree item domain None h.replays (held-fits (stand_of w old.origin.number) old own domain (h.listing.held p old own there) goes);
      listing = subst (λ v. Listing v (entered moved child domain).0) (sym end)
          (listing-entered mid ((c, st) ∷ mid) moved child domain st moved-listing none-mid (same-one c st mid mid (same-refl c mid)) (stand-same mid c st)
          (sym child-tree, inl refl, λ open_. absurd (not-open child.is_open child-closed open_)));
      free = λ n f. ap (λ v. stand_of v n) end ∙ stand-other mid c n st (λ e. f.1 (sym e)) ∙ stand-other w old.origin.number n st (taken-number F trees list marked p old own n h there f.0) ∙ h.free n f.0;
      rooted = All-both (λ (process : Process). process.tree < length trees) moved.processes (child ∷ [])
          (All-set (λ (process : Process). process.tree < length trees) list.processes p parent h.rooted (rw tree within)) (rw child-tree within, tt);
    }
  where
    w : Stands
    w = ends trees marked

    c : ℕ
    c = child.origin.number

    item : Item
    item = Item.Fork old.origin.number c

    st : Stand
    st = settled_at old.tree domain

    mid : Stands
    mid = (old.origin.number, st) ∷ w

    moved : Listed
    moved = with_domain (with_process list p parent) p domain

    within : old.tree < length trees
    within = tree-there F trees list marked p old own h there

    end : ends trees (marked ++ mark old.tree item domain None ∷ []) ≡ (c, st) ∷ mid
    end = ends-push trees marked old.tree item domain None

    none-mid : stand_of mid c ≡ None
    none-mid = stand-other w old.origin.number c st (taken-number F trees list marked p old own c h there fresh) ∙ h.free c fresh

    moved-listing : Listing mid moved
    moved-listing = listing-changed w mid list p old parent own domain st h.listing there number (same-one old.origin.number st w w (same-refl old.origin.number w)) (stand-same w old.origin.number st)
        (sym tree, inl refl, λ open_. absurd (not-open parent.is_open closed open_))

-- by a fork just before a line that was
pub walk-forks-before : (F : ℕ → Type 0) (trees : Trace) (list : Listed) (marked : List Marked) (k : ℕ) (m : Marked) (child : Process) → Walk F trees list marked → slice_get marked k ≡ Some m → ((st : Stand) (t : Stands) → with_child m.line.item st t ≡ t) → F child.origin.number → child.tree ≡ m.line.tree → child.is_open ≡ false → m.line.tree < length trees → Walk (Less F child.origin.number) trees (entered list child m.domain).0 (slice_set marked k (bearing m child.origin.number))
walk-forks-before F trees list marked k m child h at quiet fresh tree closed within =
    walk-entered F trees trees list marked later child m.domain h.listing h.free fresh
    (subst (λ hs. Replays s hs) (sym becomes) joined.replays)
    (λ n ne. ap (λ hs. stand_of (after_lines s hs) n) was ∙ joined.others n ne ∙ ap (λ hs. stand_of (after_lines s hs) n) (sym becomes))
    (ap (λ hs. stand_of (after_lines s hs) c) becomes ∙ joined.own ∙ ap (λ n. Some (settled_at n m.domain)) (sym tree))
    closed h.rooted (rw tree within)
  where
    c : ℕ
    c = child.origin.number

    s : Stands
    s = firsts_from 0 trees

    later : List Marked
    later = slice_set marked k (bearing m c)

    split : SplitAt marked k m
    split = split-at marked k m at

    xs : List Happening
    xs = history split.before ++ forks_of m m.line.children

    ys : List Happening
    ys = history split.behind

    was : history marked ≡ xs ++ line_of m ∷ ys
    was = ap history split.is ∙ history-append split.before (m ∷ split.behind) ∙ ap (λ t. history split.before ++ t) (append_assoc (forks_of m m.line.children) (line_of m ∷ []) ys) ∙ sym (append_assoc (history split.before) (forks_of m m.line.children) (line_of m ∷ ys))

    fork : Happening
    fork = fork_line m.line.tree (pid_of_line m.line.item) c m.domain

    becomes : history later ≡ xs ++ fork ∷ line_of m ∷ ys
    becomes =
        ap history (split.set (bearing m c)) ∙ history-append split.before (bearing m c ∷ split.behind)
        ∙ ap (λ t. history split.before ++ ((t ++ line_of m ∷ []) ++ ys)) (forks-bearing m.line.children)
        ∙ ap (λ t. history split.before ++ t) (regroup (forks_of m m.line.children) fork (line_of m) ys)
        ∙ sym (append_assoc (history split.before) (forks_of m m.line.children) (fork ∷ line_of m ∷ ys))
      where
        forks-bearing : (cs : List ℕ) → forks_of (bearing m c) (cs ++ c ∷ []) ≡ forks_of m cs ++ fork ∷ []
        forks-bearing [] = refl
        forks-bearing (x ∷ cs) = ap (λ t. fork_line m.line.tree (pid_of_line m.line.item) x m.domain ∷ t) (forks-bearing cs)

        regroup : (fs : List Happening) (f l : Happening) (zs : List Happening) → ((fs ++ f ∷ []) ++ l ∷ []) ++ zs ≡ fs ++ f ∷ l ∷ zs
        regroup [] f l zs = refl
        regroup (x ∷ fs) f l zs = ap (λ t. x ∷ t) (regroup fs f l zs)

    joined : Joined c s s (xs ++ line_of m ∷ ys) (xs ++ fork ∷ line_of m ∷ ys) (settled_at m.line.tree m.domain)
    joined =
        fork-before c m.line.tree m.line.item m.domain m.used s xs ys quiet (subst (λ hs. Replays s hs) was h.replays)
        (ap (λ hs. stand_of (after_lines s hs) c) (sym was) ∙ h.free c fresh)

-- as the first of a new tree
pub walk-planted : (F : ℕ → Type 0) (trees : Trace) (list : Listed) (marked : List Marked) (first : Process) (start : DomainName) → Walk F trees list marked → F first.origin.number → first.tree ≡ length trees → first.is_open ≡ false → Walk (Less F first.origin.number) (trees ++ new_tree start first.origin.number ∷ []) (entered list first start).0 marked
walk-planted F trees list marked first start h fresh tree closed =
    let more : Trace = trees ++ new_tree start first.origin.number ∷ [] in
    let longer : length more ≡ length trees + 1 = length-append trees (new_tree start first.origin.number ∷ []) in
    let joined = tree-last trees (new_tree start first.origin.number) (history marked) h.replays (h.free first.origin.number fresh) in
    walk-entered F trees more list marked marked first start h.listing h.free fresh joined.replays joined.others (joined.own ∙ ap (λ n. Some (settled_at n start)) (sym tree)) closed
    (All-later (λ (process : Process). process.tree < length trees) (λ (process : Process). process.tree < length more) list.processes (λ process lt. rw longer (omega (arith, lt))) h.rooted)
    (rw (longer, tree) (omega arith))
