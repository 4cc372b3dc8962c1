-- What is read is a trace.
use Rattle.std.proofs.Common.{◌≡◌, ℕ, suc, ◌^◌, Bool, true, false, cond, ◌&&◌, List, [], ◌∷◌, ◌++◌, Option, Some, None, Result, Ok, Err, refl, sym, subst, ◌∙◌}
use Rattle.std.specs.Prelude.{codes, option_to_list}
use Rattle.std.specs.List.{list_all, IsDistinct}
use Rattle.std.proofs.lemmas.Bool.{lt-ltb}
use Rattle.std.proofs.lemmas.List.{append-nil}
use Rattle.std.proofs.lemmas.List.Folds.{list_all-append}
use Rattle.tm_word.specs.Prelude.{Text, lines_of, texts_equal, words_of, ◌>>=◌}
use Rattle.tm_rules.specs.Types.{Ids, Item, LineKind, TraceKind, Tree}
use Rattle.tm_rules.specs.Prelude.{Trace, is_domain_name}
use Rattle.tm_line.specs.Names.{is_path}
use Rattle.tm_line.specs.Lines.{word_at}
use Rattle.tm_line.specs.Arguments.{plain_word}
use Rattle.tm_line.specs.Domains.{domain_to_end}
use Rattle.tm_line.proofs.Steps.{both, all}
use Rattle.tm_line.proofs.Steps as steps
use Rattle.tm_line.proofs.DomainLaws.{to_end_right}
use Rattle.tm_line.proofs.NumberArgLaws.{plain_read}
use Rattle.tm_trace.specs.Lines.{in_trace}
use Rattle.tm_line.specs.Lines.{ended}
use Rattle.tm_trace.specs.Processes.{pid_word, id_at, eight_ids, ids_to_end}
use Rattle.tm_trace.specs.Trees.{made_by, tree_pids, trace_pids, is_among, Trees, no_trees, all_trees, new_tree, with_tree, with_item, with_record}
use Rattle.tm_trace.specs.Reading.{new_at, process_at, request_of, tree_line, ids_line, fork_line, do_line, line_at, next_line, trace_from, trace_of}
use Rattle.tm_trace.specs.Written.{is_pid, is_id, are_ids, is_item, is_trace_request, is_tree, are_items, IsTrace}
use Rattle.tm_trace.proofs.WordLaws.{AreIds, ids_whole}
use Rattle.tm_trace.proofs.RequestOf.{bind_ok, done, ok_is, in_ok, whole_read}
use Rattle.tm_trace.proofs.Pids.{pid_read, AreDistinct, distinct_more, pids_more, last_pids, items_more}

abbrev Line : Type 0
Line = List Text

-- ---- pids and ids

pid_at : (words : Line) (x : ℕ × Line) → word_at pid_word words ≡ Ok x → is_pid x.0 ≡ true
pid_at [] x e = absurd cc
pid_at (word ∷ words) x e =
    let n = steps.bind_ok (pid_word word) (λ k. Ok (k, words)) x e in
    subst (λ (y : ℕ × Line). is_pid y.0 ≡ true) (steps.ok_is (n.0, words) x n.2) (pid_read word n.0 n.1)

unless_ok : {A : Type 0} (t : Bool) (kind : TraceKind) (r : Result A TraceKind) (x : A) → cond t (Err kind) r ≡ Ok x → (t ≡ false) × (r ≡ Ok x)
unless_ok true kind r x e = absurd cc
unless_ok false kind r x e = (refl, e)

if_ok : {A : Type 0} (t : Bool) (kind : TraceKind) (r : Result A TraceKind) (x : A) → cond t r (Err kind) ≡ Ok x → (t ≡ true) × (r ≡ Ok x)
if_ok true kind r x e = (refl, e)
if_ok false kind r x e = absurd cc

-- a pid that is new in these trees
new_read : (trees : Trees) (words : Line) (x : ℕ × Line) → new_at trees words ≡ Ok x → (is_pid x.0 ≡ true) × (is_among (trace_pids (all_trees trees)) x.0 ≡ false)
unfolding new_at
new_read trees words x e =
    let pid = bind_ok (in_trace TraceKind.Number (word_at pid_word words)) (λ pid. cond (is_among (trace_pids (all_trees trees)) pid.0) (Err TraceKind.KnownProcess) (Ok pid)) x e in
    let t = unless_ok (is_among (trace_pids (all_trees trees)) pid.0.0) TraceKind.KnownProcess (Ok pid.0) x pid.2 in
    subst (λ (y : ℕ × Line). (is_pid y.0 ≡ true) × (is_among (trace_pids (all_trees trees)) y.0 ≡ false)) (ok_is pid.0 x t.1)
    (pid_at words pid.0 (in_ok TraceKind.Number (word_at pid_word words) pid.0 pid.1), t.0)

-- a pid of this tree
process_read : (tree : Tree) (words : Line) (x : ℕ × Line) → process_at tree words ≡ Ok x → is_among (tree_pids tree) x.0 ≡ true
unfolding process_at
process_read tree words x e =
    let pid = bind_ok (in_trace TraceKind.Number (word_at pid_word words)) (λ pid. cond (is_among (tree_pids tree) pid.0) (Ok pid) (Err TraceKind.NoProcess)) x e in
    let t = if_ok (is_among (tree_pids tree) pid.0.0) TraceKind.NoProcess (Ok pid.0) x pid.2 in
    subst (λ (y : ℕ × Line). is_among (tree_pids tree) y.0 ≡ true) (ok_is pid.0 x t.1) t.0

id_read : (words : Line) (x : ℕ × Line) → id_at words ≡ Ok x → is_id x.0 ≡ true
unfolding id_at
id_read [] x e = absurd cc
id_read (word ∷ words) x e =
    let n = steps.bind_ok (plain_word (2 ^ 32) word) (λ k. Ok (k, words)) x e in
    subst (λ (y : ℕ × Line). is_id y.0 ≡ true) (steps.ok_is (n.0, words) x n.2) (lt-ltb _ _ (plain_read (2 ^ 32) word n.0 n.1))

ended_ok : {A : Type 0} (x y : A) (words : Line) → ended x words ≡ Ok y → x ≡ y
ended_ok x y [] e = steps.ok_is x y e
ended_ok x y (word ∷ words) e = absurd cc

-- one id, and what comes after it
id_then : {B : Type 0} {P : Type 0} (words : Line) (f : ℕ × Line → Result B LineKind) (y : B) → (id_at words >>= f) ≡ Ok y → ((x : ℕ × Line) → is_id x.0 ≡ true → f x ≡ Ok y → P) → P
id_then words f y e more = let x = steps.bind_ok (id_at words) f y e in more x.0 (id_read words x.0 x.1) x.2

ids_as : (made ids : Ids) (words : Line) → AreIds made → ended made words ≡ Ok ids → are_ids ids ≡ true
ids_as made ids words h e = subst (λ (x : Ids). are_ids x ≡ true) (ended_ok made ids words e) (ids_whole made h)

ids_read : (words : Line) (ids : Ids) → ids_to_end words ≡ Ok ids → are_ids ids ≡ true
unfolding ids_to_end
ids_read words ids e =
    id_then words _ ids e
    (λ a ha ea. id_then a.1 _ ids ea
    (λ b hb eb. id_then b.1 _ ids eb
    (λ c hc ec. id_then c.1 _ ids ec
    (λ d hd ed. id_then d.1 _ ids ed
    (λ f hf ef. id_then f.1 _ ids ef
    (λ g hg eg. id_then g.1 _ ids eg
    (λ h hh eh. id_then h.1 _ ids eh
    (λ i hi ei. ids_as (eight_ids a.0 b.0 c.0 d.0 f.0 g.0 h.0 i.0) ids i.1 (record { uid = ha; euid = hb; suid = hc; fsuid = hd; gid = hf; egid = hg; sgid = hh; fsgid = hi }) ei))))))))

-- ---- one more tree, one more record

all_last : (trees : List Tree) (tree : Tree) → list_all is_tree (trees ++ tree ∷ []) ≡ true → (list_all is_tree trees ≡ true) × (is_tree tree ≡ true)
all_last trees tree h =
    let t = both (list_all is_tree trees) (is_tree tree && true) (sym (list_all-append is_tree trees (tree ∷ [])) ∙ h) in
    (t.0, (both (is_tree tree) true t.1).0)

all_with : (trees : List Tree) (tree : Tree) → list_all is_tree trees ≡ true → is_tree tree ≡ true → list_all is_tree (trees ++ tree ∷ []) ≡ true
all_with trees tree h k = list_all-append is_tree trees (tree ∷ []) ∙ all (list_all is_tree trees) (is_tree tree && true) h (all (is_tree tree) true k refl)

new_is : (pid : ℕ) (start : Text) → is_pid pid ≡ true → is_domain_name is_path start ≡ true → is_tree (new_tree pid start) ≡ true
unfolding is_tree
new_is pid start h k = all (is_pid pid && is_domain_name is_path start) true (all (is_pid pid) (is_domain_name is_path start) h k) refl

item_is : (tree : Tree) (item : Item) → is_tree tree ≡ true → is_item (tree_pids tree) item ≡ true → is_tree (with_item tree item) ≡ true
unfolding is_tree
item_is tree item h k =
    let t = both (is_pid tree.pid && is_domain_name is_path tree.start) (are_items (tree.pid ∷ []) tree.records) h in
    all (is_pid tree.pid && is_domain_name is_path tree.start) (are_items (tree.pid ∷ []) (tree.records ++ item ∷ [])) t.0 (items_more (tree.pid ∷ []) tree.records item t.1 k)

-- the trees so far are a trace
abbrev Fits : Trees → Type 0
Fits trees = IsTrace (all_trees trees)

with_new : (trees : Trees) (pid : ℕ) (start : Text) → Fits trees → is_pid pid ≡ true → is_among (trace_pids (all_trees trees)) pid ≡ false → is_domain_name is_path start ≡ true → Fits (with_tree trees (new_tree pid start))
with_new trees pid start fits h k s = record {
  trees = all_with (all_trees trees) (new_tree pid start) fits.trees (new_is pid start h s);
  once = subst AreDistinct (sym (pids_more (all_trees trees) (new_tree pid start))) (distinct_more (trace_pids (all_trees trees)) pid fits.once k);
}

fits_as : (made next : Trees) → done made ≡ done next → Fits made → Fits next
fits_as made next e h = subst Fits {x = made} (ok_is made next e) h

-- the processes that a record makes are new
abbrev Fresh : List ℕ → Item → Type 0
Fresh pids item = (AreDistinct pids → AreDistinct (pids ++ made_by item))

with_one : (trees : Trees) (tree : Tree) (item : Item) → IsTrace (trees.before ++ tree ∷ []) → is_item (tree_pids tree) item ≡ true → Fresh (trace_pids (trees.before ++ tree ∷ [])) item → Fits (with_record trees tree item)
with_one trees tree item fits h fresh =
    let t = all_last trees.before tree fits.trees in
    record {
      trees = all_with trees.before (with_item tree item) t.0 (item_is tree item t.1 h);
      once = subst AreDistinct (sym (last_pids trees.before tree item)) (fresh fits.once);
    }

none_made : (pids : List ℕ) → AreDistinct pids → AreDistinct (pids ++ [])
none_made pids h = subst AreDistinct (sym (append-nil pids)) h

-- ---- lines

tree_read : (trees next : Trees) (words : Line) → Fits trees → tree_line trees words ≡ Ok next → Fits next
unfolding tree_line
tree_read trees next words fits e =
    let pid = bind_ok (new_at trees words) (λ pid. in_trace TraceKind.NoDomain (domain_to_end pid.1) >>= λ start. Ok (with_tree trees (new_tree pid.0 start))) next e in
    let start = bind_ok (in_trace TraceKind.NoDomain (domain_to_end pid.0.1)) (λ start. done (with_tree trees (new_tree pid.0.0 start))) next pid.2 in
    let is = new_read trees words pid.0 pid.1 in
    fits_as (with_tree trees (new_tree pid.0.0 start.0)) next start.2
    (with_new trees pid.0.0 start.0 fits is.0 is.1 (to_end_right pid.0.1 start.0 (in_ok TraceKind.NoDomain (domain_to_end pid.0.1) start.0 start.1)))

-- the trees before the last one, and the last one
abbrev FitsWith : Trees → Option Tree → Type 0
FitsWith trees last = IsTrace (trees.before ++ option_to_list last)

ids_of : (trees next : Trees) (last : Option Tree) (words : Line) → FitsWith trees last → ids_line trees last words ≡ Ok next → Fits next
unfolding ids_line
ids_of trees next None words fits e = absurd cc
ids_of trees next (Some tree) words fits e =
    let pid = bind_ok (process_at tree words) (λ pid. in_trace TraceKind.Number (ids_to_end pid.1) >>= λ ids. Ok (with_record trees tree (Item.Ids pid.0 ids))) next e in
    let ids = bind_ok (in_trace TraceKind.Number (ids_to_end pid.0.1)) (λ ids. done (with_record trees tree (Item.Ids pid.0.0 ids))) next pid.2 in
    let is : are_ids ids.0 ≡ true = ids_read pid.0.1 ids.0 (in_ok TraceKind.Number (ids_to_end pid.0.1) ids.0 ids.1) in
    let item : is_item (tree_pids tree) (Item.Ids pid.0.0 ids.0) ≡ true = all (is_among (tree_pids tree) pid.0.0) (are_ids ids.0) (process_read tree words pid.0 pid.1) is in
    fits_as (with_record trees tree (Item.Ids pid.0.0 ids.0)) next ids.2 (with_one trees tree (Item.Ids pid.0.0 ids.0) fits item (none_made (trace_pids (trees.before ++ tree ∷ []))))

do_of : (trees next : Trees) (last : Option Tree) (words : Line) → FitsWith trees last → do_line trees last words ≡ Ok next → Fits next
unfolding do_line
do_of trees next None words fits e = absurd cc
do_of trees next (Some tree) words fits e =
    let pid = bind_ok (process_at tree words) (λ pid. request_of pid.1 >>= λ request. Ok (with_record trees tree (Item.Do pid.0 request))) next e in
    let request = bind_ok (request_of pid.0.1) (λ request. done (with_record trees tree (Item.Do pid.0.0 request))) next pid.2 in
    let item : is_item (tree_pids tree) (Item.Do pid.0.0 request.0) ≡ true = all (is_among (tree_pids tree) pid.0.0) (is_trace_request request.0) (process_read tree words pid.0 pid.1) (whole_read pid.0.1 request.0 request.1) in
    fits_as (with_record trees tree (Item.Do pid.0.0 request.0)) next request.2 (with_one trees tree (Item.Do pid.0.0 request.0) fits item (none_made (trace_pids (trees.before ++ tree ∷ []))))

item_as : (trees next : Trees) (tree : Tree) (made item : Item) → made ≡ item → done (with_record trees tree item) ≡ done next → Fits (with_record trees tree made) → Fits next
item_as trees next tree made item is e h = fits_as (with_record trees tree item) next e (subst (λ i. Fits (with_record trees tree i)) is h)

fork_of : (trees next : Trees) (last : Option Tree) (words : Line) → trees.last ≡ last → FitsWith trees last → fork_line trees last words ≡ Ok next → Fits next
unfolding fork_line
fork_of trees next None words at fits e = absurd cc
fork_of trees next (Some tree) words at fits e =
    let pid = bind_ok (process_at tree words) (λ pid. new_at trees pid.1 >>= λ child. in_trace TraceKind.Number (ended (Item.Fork pid.0 child.0) child.1) >>= λ item. Ok (with_record trees tree item)) next e in
    let child = bind_ok (new_at trees pid.0.1) (λ child. in_trace TraceKind.Number (ended (Item.Fork pid.0.0 child.0) child.1) >>= λ item. Ok (with_record trees tree item)) next pid.2 in
    let item = bind_ok (in_trace TraceKind.Number (ended (Item.Fork pid.0.0 child.0.0) child.0.1)) (λ item. done (with_record trees tree item)) next child.2 in
    let fork : Item.Fork pid.0.0 child.0.0 ≡ item.0 = ended_ok (Item.Fork pid.0.0 child.0.0) item.0 child.0.1 (in_ok TraceKind.Number (ended (Item.Fork pid.0.0 child.0.0) child.0.1) item.0 item.1) in
    let new = new_read trees pid.0.1 child.0 child.1 in
    let none : is_among (trace_pids (trees.before ++ tree ∷ [])) child.0.0 ≡ false = subst (λ (o : Option Tree). is_among (trace_pids (trees.before ++ option_to_list o)) child.0.0 ≡ false) at new.1 in
    let is : is_item (tree_pids tree) (Item.Fork pid.0.0 child.0.0) ≡ true = all (is_among (tree_pids tree) pid.0.0) (is_pid child.0.0) (process_read tree words pid.0 pid.1) new.0 in
    item_as trees next tree (Item.Fork pid.0.0 child.0.0) item.0 fork item.2
    (with_one trees tree (Item.Fork pid.0.0 child.0.0) fits is (λ once. distinct_more (trace_pids (trees.before ++ tree ∷ [])) child.0.0 once none))

pub line_read : (trees next : Trees) (words : Line) → Fits trees → line_at trees words ≡ Ok next → Fits next
unfolding line_at
line_read trees next [] fits e = subst Fits (ok_is trees next e) fits
line_read trees next (word ∷ words) fits e = by_word (texts_equal word (codes "tree")) (texts_equal word (codes "ids")) (texts_equal word (codes "fork")) (texts_equal word (codes "do")) e
  where
    by_word : (a b c d : Bool) → cond a (tree_line trees words) (cond b (ids_line trees trees.last words) (cond c (fork_line trees trees.last words) (cond d (do_line trees trees.last words) (Err TraceKind.Keyword)))) ≡ Ok next → Fits next
    by_word true b c d f = tree_read trees next words fits f
    by_word false true c d f = ids_of trees next trees.last words fits f
    by_word false false true d f = fork_of trees next trees.last words refl fits f
    by_word false false false true f = do_of trees next trees.last words fits f
    by_word false false false false f = absurd cc

-- ---- texts

abbrev pub read_done : Trace → Result Trace (ℕ × TraceKind)
read_done t = Ok t

pub read_is : (x y : Trace) → read_done x ≡ read_done y → x ≡ y
read_is x y e = cc

pub next_ok : (line : ℕ) (r : Result Trees TraceKind) (rest : Trees → Result Trace (ℕ × TraceKind)) (t : Trace) → next_line line r rest ≡ Ok t → (next : Trees) × (r ≡ Ok next) × (rest next ≡ Ok t)
next_ok line (Ok next) rest t e = (next, refl, e)
next_ok line (Err kind) rest t e = absurd cc

from_read : (line : ℕ) (trees : Trees) (texts : List Text) (t : Trace) → Fits trees → trace_from line trees texts ≡ Ok t → IsTrace t
unfolding trace_from
from_read line trees [] t fits e = subst IsTrace (read_is (all_trees trees) t e) fits
from_read line trees (text ∷ texts) t fits e =
    let n = next_ok line (line_at trees (words_of text)) (λ next. trace_from (suc line) next texts) t e in
    from_read (suc line) n.0 texts t (line_read trees n.0 (words_of text) fits n.1) n.2

no_trace : IsTrace []
unfolding IsDistinct
no_trace = record { trees = refl; once = tt }

pub trace_read : (text : Text) (t : Trace) → trace_of text ≡ Ok t → IsTrace t
unfolding trace_of
trace_read text t e = from_read 1 no_trees (lines_of text) t no_trace e
