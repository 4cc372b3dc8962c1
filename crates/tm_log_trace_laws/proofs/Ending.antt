-- All records of a log are taken, and the trace tells them.
use Rattle.std.proofs.Common.{◌≡◌, ℕ, zero, suc, ◌<◌, ◌==◌, Bool, true, false, not, ◌||◌, if◌then◌else◌, List, [], ◌∷◌, ◌++◌, length, map, refl, sym, ap, ◌∙◌, subst, arith, append_assoc, append-nil}
use Rattle.std.specs.Prelude.{Option, Some, None, is_some, slice_get, slice_set}
use Rattle.std.specs.Ordering.{nat_cmp}
use Rattle.std.specs.BTreeMap.{is_at, insert_entry}
use Rattle.std.specs.Map.{lookup}
use Rattle.std.specs.List.{AllByRecursion, flat_map}
use Rattle.std.proofs.lemmas.Bool.{eqb-true, eqb-false}
use Rattle.std.proofs.lemmas.Grind.{flat_map-append}
use Rattle.tm_rules.specs.Types.{Item, Tree}
use Rattle.tm_rules.specs.Prelude.{DomainName, Trace, pid_of_line}
use Rattle.tm_log.specs.declared.record.Record.{Record}
use Rattle.tm_log.specs.declared.log.Source.{Source}
use Rattle.tm_log.specs.declared.log.Used.{Used}
use Rattle.tm_log_processes.specs.declared.forest.TraceLine.{TraceLine}
use Rattle.tm_log_processes.specs.Forests.{has_room, items_of, with_items, put_if, with_line, in_trees}
use Rattle.tm_log_trace.specs.Making.{Making, nothing_made, taken, seen}
use Rattle.tm_log_trace.specs.Made.{all_seen, step, step_if, count_next, taken_all, none_taken, trace_made}
use Rattle.tm_log_trace_laws.specs.History.{Happening, Replays, firsts_from}
use Rattle.tm_log_trace_laws.specs.Told.{items_in, record_in, records_of, IsOf, IsNamed, supposed_in, supposed_of, IsCutBefore, IsOfKernel, RisesFrom, EachRecordIsOneLine, EachRecordOfBytesIsOneLine}
use Rattle.tm_log_trace_laws.proofs.Lists.{All-get, All-both, All-later, get-in, get-set-same, get-set-other, length-set}
use Rattle.tm_log_trace_laws.proofs.Walks.{fork_line}
use Rattle.tm_log_trace_laws.proofs.Told.{Marked, line_of, forks_of, happenings, history}
use Rattle.tm_log_trace_laws.proofs.Keys.{IsFree}
use Rattle.tm_log_trace_laws.proofs.Sound.{Sound}
use Rattle.tm_log.specs.Logs.{log_of}
use Rattle.tm_log_trace_laws.proofs.Asking.{Going, taken-going}
use Rattle.tm_log_trace_laws.proofs.LogReads.{log-ok}

-- The trees with their lines

-- the lines of a tree
abbrev lines_in : ℕ → List TraceLine → List Item
lines_in t [] = []
lines_in t (line ∷ lines) = if line.tree == t then items_of line ++ lines_in t lines else lines_in t lines

length-line : (trees : Trace) (line : TraceLine) → length (with_line trees line) ≡ length trees
unfolding with_line
length-line trees line = by (slice_get trees line.tree)
  where
    by : (o : Option Tree) → length (put_if o trees line.tree (items_of line)) ≡ length trees
    by None = refl
    by (Some tree) = length-set trees line.tree (with_items tree (items_of line))

length-trees : (trees : Trace) (lines : List TraceLine) → length (in_trees trees lines) ≡ length trees
length-trees trees [] = refl
length-trees trees (line ∷ lines) = length-trees (with_line trees line) lines ∙ length-line trees line

-- a tree after one line
abbrev with_more : Tree → List Item → Tree
with_more tree items = record tree { records = tree.records ++ items }

line-here : (trees : Trace) (line : TraceLine) (t : ℕ) (tree : Tree) → slice_get trees t ≡ Some tree → slice_get (with_line trees line) t ≡ Some (with_more tree (if line.tree == t then items_of line else []))
unfolding with_line
line-here trees line t tree at = by (line.tree == t) refl
  where
    put-other : (o : Option Tree) → (t ≡ line.tree → ⊥) → slice_get (put_if o trees line.tree (items_of line)) t ≡ slice_get trees t
    put-other None ne = refl
    put-other (Some other) ne = get-set-other trees line.tree t (with_items other (items_of line)) ne

    by : (b : Bool) → (line.tree == t) ≡ b → slice_get (put_if (slice_get trees line.tree) trees line.tree (items_of line)) t ≡ Some (with_more tree (if b then items_of line else []))
    by true e =
        let is : line.tree ≡ t = eqb-true line.tree t e in
        rw (is, at) (get-set-same trees t (with_items tree (items_of line)) tree at)
    by false e =
        put-other (slice_get trees line.tree) (λ same. eqb-false line.tree t e (sym same)) ∙ at
        ∙ ap (λ items. Some (record tree { records = items })) (sym (append-nil tree.records))

trees-at : (trees : Trace) (lines : List TraceLine) (t : ℕ) (tree : Tree) → slice_get trees t ≡ Some tree → slice_get (in_trees trees lines) t ≡ Some (with_more tree (lines_in t lines))
trees-at trees [] t tree at = at ∙ ap (λ items. Some (record tree { records = items })) (sym (append-nil tree.records))
trees-at trees (line ∷ lines) t tree at =
    trees-at (with_line trees line) lines t (with_more tree (if line.tree == t then items_of line else [])) (line-here trees line t tree at)
    ∙ ap (λ items. Some (record tree { records = items })) (by (line.tree == t))
  where
    by : (b : Bool) → (tree.records ++ (if b then items_of line else [])) ++ lines_in t lines ≡ tree.records ++ (if b then items_of line ++ lines_in t lines else lines_in t lines)
    by true = append_assoc tree.records (items_of line) (lines_in t lines)
    by false = ap (λ items. items ++ lines_in t lines) (append-nil tree.records)

-- The history tells what its lines tell

items-append : (t : ℕ) (xs ys : List Happening) → items_in t (xs ++ ys) ≡ items_in t xs ++ items_in t ys
items-append t [] ys = refl
items-append t (x ∷ xs) ys = by (x.tree == t) (items-append t xs ys)
  where
    by : (b : Bool) → items_in t (xs ++ ys) ≡ items_in t xs ++ items_in t ys → (if b then x.item ∷ items_in t (xs ++ ys) else items_in t (xs ++ ys)) ≡ (if b then x.item ∷ items_in t xs else items_in t xs) ++ items_in t ys
    by true more = ap (λ items. x.item ∷ items) more
    by false more = more

-- those of one line
items-of : (t : ℕ) (m : Marked) → items_in t (happenings m) ≡ (if m.line.tree == t then items_of m.line else [])
items-of t m = items-append t (forks_of m m.line.children) (line_of m ∷ []) ∙ by (m.line.tree == t) refl
  where
    forks-true : (cs : List ℕ) → (m.line.tree == t) ≡ true → items_in t (forks_of m cs) ≡ map (Item.Fork (pid_of_line m.line.item)) cs
    forks-true [] e = refl
    forks-true (c ∷ cs) e = rw e (ap (λ items. Item.Fork (pid_of_line m.line.item) c ∷ items) (forks-true cs e))

    forks-false : (cs : List ℕ) → (m.line.tree == t) ≡ false → items_in t (forks_of m cs) ≡ []
    forks-false [] e = refl
    forks-false (c ∷ cs) e = rw e (forks-false cs e)

    by : (b : Bool) → (m.line.tree == t) ≡ b → items_in t (forks_of m m.line.children) ++ (if b then m.line.item ∷ [] else []) ≡ (if b then items_of m.line else [])
    by true e = ap (λ items. items ++ m.line.item ∷ []) (forks-true m.line.children e)
    by false e = ap (λ items. items ++ []) (forks-false m.line.children e)

items-all : (t : ℕ) (ms : List Marked) → items_in t (history ms) ≡ lines_in t (map (λ (m : Marked). m.line) ms)
items-all t [] = refl
items-all t (m ∷ ms) = items-append t (happenings m) (history ms) ∙ ap (λ items. items ++ items_in t (history ms)) (items-of t m) ∙ by (items-all t ms) (m.line.tree == t)
  where
    by : items_in t (history ms) ≡ lines_in t (map (λ (m : Marked). m.line) ms) → (b : Bool) → (if b then items_of m.line else []) ++ items_in t (history ms) ≡ (if b then items_of m.line ++ lines_in t (map (λ (m : Marked). m.line) ms) else lines_in t (map (λ (m : Marked). m.line) ms))
    by more true = ap (λ items. items_of m.line ++ items) more
    by more false = more

records-all : (ms : List Marked) → records_of (history ms) ≡ flat_map (λ (m : Marked). record_in m.used) ms
records-all [] = refl
records-all (m ∷ ms) =
    flat_map-append (λ (h : Happening). record_in h.used) (happenings m) (history ms)
    ∙ ap (λ rs. rs ++ records_of (history ms)) (here m.line.children) ∙ ap (λ rs. record_in m.used ++ rs) (records-all ms)
  where
    here : (cs : List ℕ) → records_of (forks_of m cs ++ line_of m ∷ []) ≡ record_in m.used
    here [] = append-nil (record_in m.used)
    here (c ∷ cs) = here cs

supposed-all : (ms : List Marked) → supposed_of (history ms) ≡ flat_map (λ (m : Marked). supposed_in m.used m.line.item) ms
supposed-all [] = refl
supposed-all (m ∷ ms) =
    flat_map-append (λ (h : Happening). supposed_in h.used h.item) (happenings m) (history ms)
    ∙ ap (λ rs. rs ++ supposed_of (history ms)) (here m.line.children) ∙ ap (λ rs. supposed_in m.used m.line.item ++ rs) (supposed-all ms)
  where
    here : (cs : List ℕ) → supposed_of (forks_of m cs ++ line_of m ∷ []) ≡ supposed_in m.used m.line.item
    here [] = append-nil (supposed_in m.used m.line.item)
    here (c ∷ cs) = here cs

-- what holds of a line holds of its forks
each-all : (P : Happening → Type 0) (ms : List Marked) → ((m : Marked) (c : ℕ) → P (line_of m) → P (fork_line m.line.tree (pid_of_line m.line.item) c m.domain)) → AllByRecursion (λ (m : Marked). P (line_of m)) ms → AllByRecursion P (history ms)
each-all P [] forks all = tt
each-all P (m ∷ ms) forks all = All-both P (happenings m) (history ms) (here m.line.children) (each-all P ms forks all.1)
  where
    here : (cs : List ℕ) → AllByRecursion P (forks_of m cs ++ line_of m ∷ [])
    here [] = (all.0, tt)
    here (c ∷ cs) = (forks m c all.0, here cs)

-- All records

-- first records are only looked at
seen-all : (s : Making) (used : List Used) → (P : Making → Type 0) → ((s : Making) (one : Record) → P s → P (seen s one)) → P s → P (all_seen s used)
seen-all s [] P keeps h = h
seen-all s (used ∷ more) P keeps h = seen-all (seen s used.«record») more P keeps (keeps s used.«record» h)

going-seen : (s : Making) (one : Record) → Going [] 0 s → Going [] 0 (seen s one)
unfolding seen
going-seen s one h = by (not (one.global_pid == one.process.pid) || is_some (key_of_first s.firsts)) (insert_entry nat_cmp s.firsts one.process.pid one.domain)
  where
    key_of_first : List (ℕ × DomainName) → Option DomainName
    key_of_first firsts = lookup (is_at (nat_cmp one.process.pid)) firsts

    by : (b : Bool) (firsts : List (ℕ × DomainName)) → Going [] 0 (if b then s else record s { firsts = firsts })
    by true firsts = h
    by false firsts = record { sound = h.sound; names = h.names; low = h.low; high = h.high }

-- nothing is made yet
going-nothing : Going [] 0 nothing_made
going-nothing = record {
  sound = record {
    marked = [];
    told = record { lines = refl; records = refl; each = tt; named = tt; past = tt; notes = tt; manuals = refl; within = tt; bare = tt; many = omega arith };
    walk = record {
      replays = tt;
      listing = record {
        lengths = refl;
        held = λ p process domain there. absurd (nowhere process (λ e. e) there.place);
        distinct = λ p q a b x y e. absurd (nowhere a (λ e. e) x);
      };
      free = λ n f. refl;
      rooted = tt;
    };
    left = record { lengths = refl; placed = λ i place domain a b. absurd (nowhere place (λ e. e) a) };
  };
  names = record { known = λ key p ne e. absurd (nowhere p (λ e. e) e); unknown = λ key ne low e. refl };
  low = omega arith;
  high = omega arith;
}
  where
    nowhere : {A : Type 0} (x : A) → (⊥ → ⊥) → None ≡ Some x → ⊥
    nowhere x f e = absurd cc

-- what is taken, and what isn't
pub record TakenSo (recs log : List Used) (made : Making) (cut : Option Source) : Type 0 where
  pub more : List Used
  pub rest : List Used
  pub next : ℕ
  pub going : Going (recs ++ more) next made
  pub is : log ≡ more ++ rest
  pub at_cut : IsCutBefore cut rest

-- once the log is cut nothing is taken
stays-made : (s : Making) (count : ℕ) (source : Source) (log : List Used) → (taken_all (record { maker = s; count = count; cut = Some source }) log).maker ≡ s
unfolding step
stays-made s count source [] = refl
stays-made s count source (used ∷ more) = stays-made s count source more

stays-cut : (s : Making) (count : ℕ) (source : Source) (log : List Used) → (taken_all (record { maker = s; count = count; cut = Some source }) log).cut ≡ Some source
unfolding step
stays-cut s count source [] = refl
stays-cut s count source (used ∷ more) = stays-cut s count source more

taken-so : (recs log : List Used) (next : ℕ) (s : Making) (count : ℕ) → Going recs next s → AllByRecursion IsOfKernel log → RisesFrom next log → TakenSo recs log (taken_all (record { maker = s; count = count; cut = None }) log).maker (taken_all (record { maker = s; count = count; cut = None }) log).cut
unfolding step
taken-so recs [] next s count h pids rises = record { more = []; rest = []; next = next; going = rw (append-nil recs) h; is = refl; at_cut = refl }
taken-so recs (used ∷ log) next s count h pids rises = by (has_room s.forest used.size) refl (λ going. taken-so (recs ++ used ∷ []) log (suc used.source.number) (taken s used) (count_next count) going pids.1 rises.1)
  where
    by : (b : Bool) → has_room s.forest used.size ≡ b → (Going (recs ++ used ∷ []) (suc used.source.number) (taken s used) → TakenSo (recs ++ used ∷ []) log (taken_all (record { maker = taken s used; count = count_next count; cut = None }) log).maker (taken_all (record { maker = taken s used; count = count_next count; cut = None }) log).cut) → TakenSo recs (used ∷ log) (taken_all (step_if b (record { maker = s; count = count; cut = None }) used) log).maker (taken_all (step_if b (record { maker = s; count = count; cut = None }) used) log).cut
    by true room later =
        let t = later (taken-going recs next s used h pids.0.0 rises.0 room) in
        record {
          more = used ∷ t.more;
          rest = t.rest;
          next = t.next;
          going = subst (λ rs. Going rs t.next (taken_all (record { maker = taken s used; count = count_next count; cut = None }) log).maker) (append_assoc recs (used ∷ []) t.more) t.going;
          is = ap (λ rs. used ∷ rs) t.is;
          at_cut = t.at_cut;
        }
    by false room later =
        record {
          more = [];
          rest = used ∷ log;
          next = next;
          going = rw (append-nil recs, stays-made s count used.source log) h;
          is = refl;
          at_cut = rw (stays-cut s count used.source log) (used, log, refl, refl);
        }

-- first processes are what they were
firsts-set : (k : ℕ) (trees : Trace) (t : ℕ) (tree new : Tree) → slice_get trees t ≡ Some tree → new.pid ≡ tree.pid → new.start ≡ tree.start → firsts_from k (slice_set trees t new) ≡ firsts_from k trees
firsts-set k [] t tree new at pid start = refl
firsts-set k (x ∷ trees) zero tree new at pid start = (let same : x ≡ tree = cc in rw (same, pid, start) refl)
firsts-set k (x ∷ trees) (suc t) tree new at pid start = ap (λ s. (x.pid, record { tree = k; domain = x.start; is_open = false }) ∷ s) (firsts-set (suc k) trees t tree new at pid start)

firsts-line : (trees : Trace) (line : TraceLine) → firsts_from 0 (with_line trees line) ≡ firsts_from 0 trees
unfolding with_line
firsts-line trees line = by (slice_get trees line.tree) refl
  where
    by : (o : Option Tree) → slice_get trees line.tree ≡ o → firsts_from 0 (put_if o trees line.tree (items_of line)) ≡ firsts_from 0 trees
    by None e = refl
    by (Some tree) e = firsts-set 0 trees line.tree tree (with_items tree (items_of line)) e refl refl

firsts-trees : (trees : Trace) (lines : List TraceLine) → firsts_from 0 (in_trees trees lines) ≡ firsts_from 0 trees
firsts-trees trees [] = refl
firsts-trees trees (line ∷ lines) = firsts-trees (with_line trees line) lines ∙ firsts-line trees line

-- a tree has the lines that its number has
tree-items : (trees : Trace) (lines : List TraceLine) (t : ℕ) (tree : Tree) → AllByRecursion (λ (tree : Tree). tree.records ≡ []) trees → slice_get (in_trees trees lines) t ≡ Some tree → tree.records ≡ lines_in t lines
tree-items trees lines t tree bare at =
    let was = get-in (in_trees trees lines) trees t tree (length-trees trees lines) at in
    let now : slice_get (in_trees trees lines) t ≡ Some (with_more was.0 (lines_in t lines)) = trees-at trees lines t was.0 was.1 in
    let is : tree ≡ with_more was.0 (lines_in t lines) = cc in
    let none : was.0.records ≡ [] = All-get (λ (tree : Tree). tree.records ≡ []) trees t was.0 bare was.1 in
    ap (λ (tree : Tree). tree.records) is ∙ ap (λ items. items ++ lines_in t lines) none

pub one_line_each : EachRecordIsOneLine
unfolding trace_made
one_line_each log pids rises = (
  history sound.marked,
  t.rest,
  record {
    lines = λ k tree at. tree-items trees lines k tree sound.told.bare at ∙ sym (items-all k sound.marked ∙ ap (lines_in k) (sym sound.told.lines));
    within = each-all (λ (h : Happening). h.tree < length trace) sound.marked (λ m c lt. lt)
        (All-later (λ (m : Marked). m.line.tree < length trees) (λ (m : Marked). m.line.tree < length trace) sound.marked (λ m lt. rw (length-trees trees lines) lt) sound.told.within);
    records = t.is ∙ ap (λ rs. rs ++ t.rest) (sym sound.told.records ∙ sym (records-all sound.marked));
    cut = t.at_cut;
    each = each-all (λ (h : Happening). IsOf h.used h) sound.marked (λ m c is. tt) sound.told.each;
    named = each-all (λ (h : Happening). IsNamed made.warnings h.used (pid_of_line h.item)) sound.marked (λ m c is. tt) sound.told.named;
    manuals = supposed-all sound.marked ∙ sound.told.manuals;
    replays = subst (λ s. Replays s (history sound.marked)) (sym (firsts-trees trees lines)) sound.walk.replays;
  },
)
  where
    start : Making
    start = all_seen nothing_made log.used

    made : Making
    made = (taken_all (none_taken start) log.used).maker

    t : TakenSo [] log.used made (taken_all (none_taken start) log.used).cut
    t = taken-so [] log.used 0 start 0 (seen-all nothing_made log.used (Going [] 0) going-seen going-nothing) pids rises

    sound : Sound t.more (IsFree made.table made.invented) t.next made.forest made.list made.places made.warnings
    sound = t.going.sound

    trees : Trace
    trees = made.forest.trees

    lines : List TraceLine
    lines = made.forest.lines

    trace : Trace
    trace = in_trees trees lines

pub one_line_each_of_bytes : EachRecordOfBytesIsOneLine
one_line_each_of_bytes bytes room = (let log = log-ok bytes room in one_line_each (log_of bytes) log.1.pids log.1.rises)
