-- A printed trace is read again.
use Rattle.std.proofs.Common.{◌≡◌, ℕ, suc, ◌<◌, ◌^◌, ◌==◌, true, false, ◌&&◌, not, List, [], ◌∷◌, ◌++◌, map, length, Some, Ok, refl, sym, ap, subst, ◌∙◌, arith, append_assoc, true≢false}
use Rattle.std.specs.List.{list_all, flat_map}
use Rattle.std.specs.Fmt.{decimal}
use Rattle.std.proofs.lemmas.Bool.{ne_eqb, ltb-true}
use Rattle.std.proofs.lemmas.List.{append-nil}
use Rattle.std.proofs.lemmas.Grind.{flat_map-append}
use Rattle.tm_word.specs.Prelude.{Text, is_separator, is_solid, is_word, joined, lines_of, words_of}
use Rattle.tm_rules.specs.Types.{Ids, Item, Tree}
use Rattle.tm_rules.specs.Prelude.{Trace, is_domain_name}
use Rattle.tm_line.specs.Names.{is_path}
use Rattle.tm_addr.proofs.Free.{Free, free_append, split_at}
use Rattle.tm_line.specs.DomainWords.{domain_parts}
use Rattle.tm_line.specs.Lines.{spaced}
use Rattle.tm_line.proofs.Steps.{both, all, not_true}
use Rattle.tm_line.proofs.JoinLaws.{joined_is}
use Rattle.tm_line.proofs.WholeLaws.{words_again}
use Rattle.tm_line.proofs.DomainLaws.{to_end_again}
use Rattle.tm_line.proofs.NumberArgLaws.{plain_again}
use Rattle.tm_trace.specs.Processes.{id_at, ids_to_end}
use Rattle.tm_trace.specs.Trees.{made_by, tree_pids, trace_pids, is_among, Trees, no_trees, all_trees, new_tree, with_tree, with_item}
use Rattle.tm_trace.specs.Reading.{new_at, process_at, tree_line, ids_line, fork_line, do_line, line_at, trace_from, trace_of}
use Rattle.tm_trace.specs.Printing.{request_words, attribute_words, ids_words, item_words, tree_words, line_text, tree_lines, trace_text}
use Rattle.tm_trace.specs.Written.{is_pid, is_id, are_ids, is_item, is_trace_request, are_items, is_tree, IsTrace}
use Rattle.tm_trace.proofs.WordLaws.{Are, pid_of, ids_parts, item_are, tree_are}
use Rattle.tm_trace.proofs.RequestOf.{whole_again}
use Rattle.tm_trace.proofs.Pids.{pid_again, AreDistinct, not_yet, pids_more, item_pids, last_pids, among_pid, pids_right}

-- ---- the lines of a printed text

inner : (b : ℕ) → is_separator b ≡ false → (b == 10) ≡ false
inner b h = ne_eqb b 10 (λ e. true≢false (sym (ap is_separator e) ∙ h))

solid_free : (w : Text) → is_solid w ≡ true → Free 10 w
solid_free [] h = tt
solid_free (b ∷ w) h = let t = both (not (is_separator b)) (is_solid w) h in (inner b (not_true (is_separator b) t.0), solid_free w t.1)

word_free : (w : Text) → is_word w ≡ true → Free 10 w
word_free w h = solid_free w (both (not (length w == 0)) (is_solid w) h).1

spaced_free : (ws : List Text) → Are ws → Free 10 (spaced ws)
spaced_free [] h = tt
spaced_free (w ∷ ws) h = let t = both (is_word w) (list_all is_word ws) h in (refl, free_append 10 w (spaced ws) (word_free w t.0) (spaced_free ws t.1))

joined_free : (ws : List Text) → Are ws → Free 10 (joined ws)
joined_free [] h = tt
joined_free (w ∷ ws) h =
    let t = both (is_word w) (list_all is_word ws) h in
    subst (Free 10) (sym (joined_is w ws)) (free_append 10 w (spaced ws) (word_free w t.0) (spaced_free ws t.1))

-- a line, and what stands after it
line_first : (ws : List Text) (rest : Text) → Are ws → lines_of (line_text ws ++ rest) ≡ joined ws ∷ lines_of rest
line_first ws rest h = ap lines_of (append_assoc (joined ws) (10 ∷ []) rest) ∙ split_at 10 (joined ws) rest refl (joined_free ws h)

-- this text is read as this trace, after these trees, whatever the number of its first line
abbrev Reads : Trees → Text → Trace → Type 0
Reads trees text t = (line : ℕ) → trace_from line trees (lines_of text) ≡ Ok t

-- a line that is read, and what comes after it
line_then : (trees next : Trees) (ws : List Text) (rest : Text) (t : Trace) → Are ws → line_at trees ws ≡ Ok next → Reads next rest t → Reads trees (line_text ws ++ rest) t
unfolding trace_from
line_then trees next ws rest t h e more line = ap (trace_from line trees) (line_first ws rest h) ∙ rw (words_again ws h, e) (more (suc line))

end_again : (trees : Trees) → Reads trees [] (all_trees trees)
unfolding trace_from line_at words_of
end_again trees line = refl

-- ---- pids and ids

new_again : (trees : Trees) (pid : ℕ) (more : List Text) → is_pid pid ≡ true → is_among (trace_pids (all_trees trees)) pid ≡ false → new_at trees (decimal pid ∷ more) ≡ Ok (pid, more)
unfolding new_at
new_again trees pid more h k = rw (pid_again pid h, k) refl

process_again : (tree : Tree) (pid : ℕ) (more : List Text) → is_pid pid ≡ true → is_among (tree_pids tree) pid ≡ true → process_at tree (decimal pid ∷ more) ≡ Ok (pid, more)
unfolding process_at
process_again tree pid more h k = rw (pid_again pid h, k) refl

id_again : (n : ℕ) (more : List Text) → is_id n ≡ true → id_at (decimal n ∷ more) ≡ Ok (n, more)
unfolding id_at
id_again n more h = let low : n < 2 ^ 32 = ltb-true _ _ h in rw (plain_again (2 ^ 32) n low (omega (arith, low))) refl

ids_again : (ids : Ids) → are_ids ids ≡ true → ids_to_end (ids_words ids) ≡ Ok ids
unfolding ids_to_end
ids_again ids h =
    let p = ids_parts ids h in
    let seven : List Text = decimal ids.fsgid ∷ [] in
    let six : List Text = decimal ids.sgid ∷ seven in
    let five : List Text = decimal ids.egid ∷ six in
    let four : List Text = decimal ids.gid ∷ five in
    let three : List Text = decimal ids.fsuid ∷ four in
    let two : List Text = decimal ids.suid ∷ three in
    let one : List Text = decimal ids.euid ∷ two in
    rw (id_again ids.uid one p.uid, id_again ids.euid two p.euid, id_again ids.suid three p.suid, id_again ids.fsuid four p.fsuid, id_again ids.gid five p.gid, id_again ids.egid six p.egid, id_again ids.sgid seven p.sgid, id_again ids.fsgid [] p.fsgid) refl

-- ---- one line

tree_again : (trees : Trees) (tree : Tree) → is_pid tree.pid ≡ true → is_among (trace_pids (all_trees trees)) tree.pid ≡ false → is_domain_name is_path tree.start ≡ true → line_at trees (tree_words tree) ≡ Ok (with_tree trees (new_tree tree.pid tree.start))
unfolding line_at tree_line tree_words
tree_again trees tree h k s = rw (new_again trees tree.pid (domain_parts tree.start) h k, to_end_again tree.start s) refl

-- the processes that a record makes are new
abbrev IsNew : List ℕ → Item → Type 0
IsNew pids (Item.Ids pid ids) = Unit {0}
IsNew pids (Item.Fork pid child) = is_among pids child ≡ false
IsNew pids (Item.Do pid request) = Unit {0}

trees_with : List Tree → Tree → Trees
trees_with before tree = record { before = before; last = Some tree }

item_again : (before : List Tree) (tree : Tree) (item : Item) → is_pid (pid_of item) ≡ true → is_item (tree_pids tree) item ≡ true → IsNew (trace_pids (before ++ tree ∷ [])) item
    → line_at (trees_with before tree) (item_words item) ≡ Ok (trees_with before (with_item tree item))
unfolding line_at ids_line fork_line do_line item_words trees_with
item_again before tree (Item.Ids pid ids) h k new =
    let t = both (is_among (tree_pids tree) pid) (are_ids ids) k in
    rw (process_again tree pid (ids_words ids) h t.0, ids_again ids t.1) refl
item_again before tree (Item.Fork pid child) h k new =
    let t = both (is_among (tree_pids tree) pid) (is_pid child) k in
    rw (process_again tree pid (decimal child ∷ []) h t.0, new_again (trees_with before tree) child [] t.1 new) refl
item_again before tree (Item.Do pid request) h k new =
    let t = both (is_among (tree_pids tree) pid) (is_trace_request request) k in
    rw (process_again tree pid (request_words request ++ attribute_words request.attributes) h t.0, whole_again request t.1) refl

-- ---- the records of a tree

is_new : (pids : List ℕ) (own : List ℕ) (item : Item) (later : List ℕ) → AreDistinct (pids ++ (made_by item ++ later)) → IsNew pids item
is_new pids own (Item.Ids pid ids) later h = tt
is_new pids own (Item.Fork pid child) later h = not_yet pids child later h
is_new pids own (Item.Do pid request) later h = tt

own_pid : (own : List ℕ) (item : Item) → list_all is_pid own ≡ true → is_item own item ≡ true → is_pid (pid_of item) ≡ true
own_pid own (Item.Ids pid ids) h k = among_pid own pid h (both (is_among own pid) (are_ids ids) k).0
own_pid own (Item.Fork pid child) h k = among_pid own pid h (both (is_among own pid) (is_pid child) k).0
own_pid own (Item.Do pid request) h k = among_pid own pid h (both (is_among own pid) (is_trace_request request) k).0

abbrev with_items : Tree → List Item → Tree
with_items tree items = record tree { records = tree.records ++ items }

abbrev items_text : List Item → Text
items_text items = flat_map line_text (map item_words items)

items_again : (before : List Tree) (tree : Tree) (items : List Item) (later : List ℕ) (rest : Text) (t : Trace) → list_all is_pid (tree_pids tree) ≡ true → are_items (tree_pids tree) items ≡ true
    → AreDistinct (trace_pids (before ++ tree ∷ []) ++ (flat_map made_by items ++ later)) → Reads (trees_with before (with_items tree items)) rest t → Reads (trees_with before tree) (items_text items ++ rest) t
items_again before tree [] later rest t h k once more = subst (λ (rs : List Item). Reads (trees_with before (record tree { records = rs })) rest t) (append-nil tree.records) more
items_again before tree (item ∷ items) later rest t h k once more =
    let s = both (is_item (tree_pids tree) item) (are_items (tree_pids tree ++ made_by item) items) k in
    let pids = trace_pids (before ++ tree ∷ []) in
    let split : (made_by item ++ flat_map made_by items) ++ later ≡ made_by item ++ (flat_map made_by items ++ later) = append_assoc (made_by item) (flat_map made_by items) later in
    let parted : AreDistinct (pids ++ (made_by item ++ (flat_map made_by items ++ later))) = subst (λ (ps : List ℕ). AreDistinct (pids ++ ps)) split once in
    let pid : is_pid (pid_of item) ≡ true = own_pid (tree_pids tree) item h s.0 in
    let next : Tree = with_item tree item in
    let own : tree_pids next ≡ tree_pids tree ++ made_by item = item_pids tree item in
    let all_pids : trace_pids (before ++ next ∷ []) ++ (flat_map made_by items ++ later) ≡ pids ++ (made_by item ++ (flat_map made_by items ++ later)) =
    ap (λ (ps : List ℕ). ps ++ (flat_map made_by items ++ later)) (last_pids before tree item) ∙ append_assoc pids (made_by item) (flat_map made_by items ++ later) in
    let after : Reads (trees_with before next) (items_text items ++ rest) t =
    items_again before next items later rest t (subst (λ (ps : List ℕ). list_all is_pid ps ≡ true) (sym own) (pids_right (tree_pids tree) item h s.0))
    (subst (λ (ps : List ℕ). are_items ps items ≡ true) (sym own) s.1) (subst AreDistinct (sym all_pids) parted)
    (subst (λ (rs : List Item). Reads (trees_with before (record tree { records = rs })) rest t) (sym (append_assoc tree.records (item ∷ []) items)) more) in
    subst (λ (text : Text). Reads (trees_with before tree) text t) (sym (append_assoc (line_text (item_words item)) (items_text items) rest))
    (line_then (trees_with before tree) (trees_with before next) (item_words item) (items_text items ++ rest) t (item_are (tree_pids tree) item pid s.0)
    (item_again before tree item pid s.0 (is_new pids (tree_pids tree) item (flat_map made_by items ++ later) parted)) after)

-- ---- the trees of a trace

abbrev trees_text : List Tree → Text
trees_text trees = flat_map line_text (flat_map tree_lines trees)

-- what a tree says
record TreeParts (tree : Tree) : Type 0 where
  pub pid : is_pid tree.pid ≡ true
  pub start : is_domain_name is_path tree.start ≡ true
  pub items : are_items (tree.pid ∷ []) tree.records ≡ true

tree_parts : (tree : Tree) → is_tree tree ≡ true → TreeParts tree
unfolding is_tree
tree_parts tree h =
    let t = both (is_pid tree.pid && is_domain_name is_path tree.start) (are_items (tree.pid ∷ []) tree.records) h in
    let s = both (is_pid tree.pid) (is_domain_name is_path tree.start) t.0 in
    record { pid = s.0; start = s.1; items = t.1 }

tree_then : (trees : Trees) (tree : Tree) (later : List ℕ) (rest : Text) (t : Trace) → TreeParts tree → AreDistinct (trace_pids (all_trees trees) ++ (tree_pids tree ++ later)) → Reads (trees_with (all_trees trees) tree) rest t
    → Reads trees (flat_map line_text (tree_lines tree) ++ rest) t
unfolding trees_with
tree_then trees tree later rest t p once more =
    let first : Tree = new_tree tree.pid tree.start in
    let pids = trace_pids (all_trees trees) in
    let new : is_among pids tree.pid ≡ false = not_yet pids tree.pid (flat_map made_by tree.records ++ later) once in
    let all_pids : trace_pids (all_trees trees ++ first ∷ []) ++ (flat_map made_by tree.records ++ later) ≡ pids ++ (tree_pids tree ++ later) =
    ap (λ (ps : List ℕ). ps ++ (flat_map made_by tree.records ++ later)) (pids_more (all_trees trees) first) ∙ append_assoc pids (tree.pid ∷ []) (flat_map made_by tree.records ++ later) in
    let items : Reads (trees_with (all_trees trees) first) (items_text tree.records ++ rest) t =
    items_again (all_trees trees) first tree.records later rest t (all (is_pid tree.pid) true p.pid refl) p.items (subst AreDistinct (sym all_pids) once) more in
    subst (λ (text : Text). Reads trees text t) (sym (append_assoc (line_text (tree_words tree)) (items_text tree.records) rest))
    (line_then trees (with_tree trees first) (tree_words tree) (items_text tree.records ++ rest) t (tree_are tree p.pid p.start) (tree_again trees tree p.pid new p.start) items)

trees_again : (trees : Trees) (todo : List Tree) → list_all is_tree todo ≡ true → AreDistinct (trace_pids (all_trees trees) ++ trace_pids todo) → Reads trees (trees_text todo) (all_trees trees ++ todo)
unfolding trees_with
trees_again trees [] h once = subst (Reads trees []) (sym (append-nil (all_trees trees))) (end_again trees)
trees_again trees (tree ∷ todo) h once =
    let s = both (is_tree tree) (list_all is_tree todo) h in
    let next : Trees = trees_with (all_trees trees) tree in
    let all_pids : trace_pids (all_trees trees ++ tree ∷ []) ++ trace_pids todo ≡ trace_pids (all_trees trees) ++ (tree_pids tree ++ trace_pids todo) =
    ap (λ (ps : List ℕ). ps ++ trace_pids todo) (pids_more (all_trees trees) tree) ∙ append_assoc (trace_pids (all_trees trees)) (tree_pids tree) (trace_pids todo) in
    let rest : Reads next (trees_text todo) ((all_trees trees ++ tree ∷ []) ++ todo) = trees_again next todo s.1 (subst AreDistinct (sym all_pids) once) in
    let after : Reads next (trees_text todo) (all_trees trees ++ tree ∷ todo) = subst (Reads next (trees_text todo)) (append_assoc (all_trees trees) (tree ∷ []) todo) rest in
    subst (λ (text : Text). Reads trees text (all_trees trees ++ tree ∷ todo)) (sym (flat_map-append line_text (tree_lines tree) (flat_map tree_lines todo)))
    (tree_then trees tree (trace_pids todo) (trees_text todo) (all_trees trees ++ tree ∷ todo) (tree_parts tree s.0) once after)

pub trace_again : (t : Trace) → IsTrace t → trace_of (trace_text t) ≡ Ok t
unfolding trace_of trace_text
trace_again t h = trees_again no_trees t h.trees h.once 1
