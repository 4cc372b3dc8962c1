-- The text of a request and its attributes, and the lines of trees.
use Rattle.std.proofs.Common.{◌≡◌, ℕ, suc, ◌+◌, ◌-◌, ◌<◌, ◌==◌, Bool, true, false, cond, List, [], ◌∷◌, ◌++◌, length, Option, Some, None, IsSome, Ok, Err, refl, sym, ap, subst, ◌∙◌, arith}
use Rattle.std.specs.Prelude.{codes, option_to_list}
use Rattle.std.proofs.lemmas.Bool.Decides.{nat_tests}
use Rattle.std.proofs.lemmas.List.{length-append}
use Rattle.tm_word.specs.Prelude.{Text, joined, lines_of, texts_equal, words_of, ◌>>=◌}
use Rattle.tm_rules.specs.Types.{Item, Request, TraceKind, Tree}
use Rattle.tm_rules.specs.Prelude.{Trace, permission}
use Rattle.tm_line.specs.Domains.{domain_to_end}
use Rattle.tm_line.proofs.JoinLaws.{joined_more}
use Rattle.tm_line.proofs.WholeLaws.{words_again}
use Rattle.tm_entry.proofs.TextLaws.{acl_first}
use Rattle.tm_trace.specs.Lines.{in_trace}
use Rattle.tm_line.specs.Lines.{ended}
use Rattle.tm_trace.specs.Processes.{ids_to_end}
use Rattle.tm_trace.specs.Trees.{Trees, no_trees, all_trees, new_tree, with_tree, with_item, with_record}
use Rattle.tm_trace.specs.Reading.{new_at, process_at, request_of, tree_line, ids_line, fork_line, do_line, line_at, trace_from, trace_of, is_tree_line, tree_line_from, tree_line_at}
use Rattle.tm_trace.specs.Printing.{request_words, request_text, attribute_words, attributes_text}
use Rattle.tm_trace.specs.Written.{is_trace_request}
use Rattle.tm_trace.proofs.WordLaws.{request_are}
use Rattle.tm_trace.proofs.RequestOf.{bind_ok, done, ok_is}
use Rattle.tm_trace.proofs.TraceRead.{next_ok, read_is}

-- ---- a request's text

pub request_joined : (r : Request) → joined (request_words r ++ attribute_words r.attributes) ≡ request_text r ++ attributes_text r
unfolding request_words
request_joined r = let w = acl_first r.args (record { bits = permission r.perm }) in rw w.are (joined_more w.first w.rest (attribute_words r.attributes))

pub request_found : (r : Request) → is_trace_request r ≡ true → words_of (request_text r ++ attributes_text r) ≡ request_words r ++ attribute_words r.attributes
request_found r h = ap words_of (sym (request_joined r)) ∙ words_again (request_words r ++ attribute_words r.attributes) (request_are r h)

-- ---- the lines of trees

-- how many trees there are
abbrev count : Trees → ℕ
count trees = length (all_trees trees)

abbrev one_if : Bool → ℕ
one_if true = 1
one_if false = 0

more_trees : (trees : List Tree) (tree : Tree) → length (trees ++ tree ∷ []) ≡ length trees + 1
more_trees trees tree = length-append trees (tree ∷ [])

same_count : (trees : Trees) (tree : Tree) (item : Item) → trees.last ≡ Some tree → count (with_record trees tree item) ≡ count trees + 0
same_count trees tree item e =
    let one = more_trees trees.before (with_item tree item) in
    let other = more_trees trees.before tree in
    let last : count trees ≡ length (trees.before ++ tree ∷ []) = ap (λ (o : Option Tree). length (trees.before ++ option_to_list o)) e in
    omega (arith, one, other, last)

abbrev Counts : ℕ → Trees → Trees → Type 0
Counts n trees next = count next ≡ count trees + n

tree_count : (trees next : Trees) (words : List Text) → tree_line trees words ≡ Ok next → Counts 1 trees next
unfolding tree_line
tree_count trees next words e =
    let pid = bind_ok (new_at trees words) (λ pid. in_trace TraceKind.NoDomain (domain_to_end pid.1) >>= λ start. Ok (with_tree trees (new_tree pid.0 start))) next e in
    let start = bind_ok (in_trace TraceKind.NoDomain (domain_to_end pid.0.1)) (λ start. done (with_tree trees (new_tree pid.0.0 start))) next pid.2 in
    subst (Counts 1 trees) (ok_is (with_tree trees (new_tree pid.0.0 start.0)) next start.2) (more_trees (all_trees trees) (new_tree pid.0.0 start.0))

ids_count : (trees next : Trees) (last : Option Tree) (words : List Text) → trees.last ≡ last → ids_line trees last words ≡ Ok next → Counts 0 trees next
unfolding ids_line
ids_count trees next None words at e = absurd cc
ids_count trees next (Some tree) words at e =
    let pid = bind_ok (process_at tree words) (λ pid. in_trace TraceKind.Number (ids_to_end pid.1) >>= λ ids. Ok (with_record trees tree (Item.Ids pid.0 ids))) next e in
    let ids = bind_ok (in_trace TraceKind.Number (ids_to_end pid.0.1)) (λ ids. done (with_record trees tree (Item.Ids pid.0.0 ids))) next pid.2 in
    subst (Counts 0 trees) (ok_is (with_record trees tree (Item.Ids pid.0.0 ids.0)) next ids.2) (same_count trees tree (Item.Ids pid.0.0 ids.0) at)

fork_count : (trees next : Trees) (last : Option Tree) (words : List Text) → trees.last ≡ last → fork_line trees last words ≡ Ok next → Counts 0 trees next
unfolding fork_line
fork_count trees next None words at e = absurd cc
fork_count trees next (Some tree) words at e =
    let pid = bind_ok (process_at tree words) (λ pid. new_at trees pid.1 >>= λ child. in_trace TraceKind.Number (ended (Item.Fork pid.0 child.0) child.1) >>= λ item. Ok (with_record trees tree item)) next e in
    let child = bind_ok (new_at trees pid.0.1) (λ child. in_trace TraceKind.Number (ended (Item.Fork pid.0.0 child.0) child.1) >>= λ item. Ok (with_record trees tree item)) next pid.2 in
    let item = bind_ok (in_trace TraceKind.Number (ended (Item.Fork pid.0.0 child.0.0) child.0.1)) (λ item. done (with_record trees tree item)) next child.2 in
    subst (Counts 0 trees) {x = with_record trees tree item.0} (ok_is (with_record trees tree item.0) next item.2) (same_count trees tree item.0 at)

do_count : (trees next : Trees) (last : Option Tree) (words : List Text) → trees.last ≡ last → do_line trees last words ≡ Ok next → Counts 0 trees next
unfolding do_line
do_count trees next None words at e = absurd cc
do_count trees next (Some tree) words at e =
    let pid = bind_ok (process_at tree words) (λ pid. request_of pid.1 >>= λ request. Ok (with_record trees tree (Item.Do pid.0 request))) next e in
    let request = bind_ok (request_of pid.0.1) (λ request. done (with_record trees tree (Item.Do pid.0.0 request))) next pid.2 in
    subst (Counts 0 trees) (ok_is (with_record trees tree (Item.Do pid.0.0 request.0)) next request.2) (same_count trees tree (Item.Do pid.0.0 request.0) at)

-- a line begins a tree where its first word is `tree`, and no other does
line_count : (trees next : Trees) (words : List Text) → line_at trees words ≡ Ok next → Counts (one_if (is_tree_line words)) trees next
unfolding line_at
line_count trees next [] e = let same : trees ≡ next = ok_is trees next e in subst (Counts 0 trees) same (omega arith)
line_count trees next (word ∷ words) e = by_word (texts_equal word (codes "tree")) (texts_equal word (codes "ids")) (texts_equal word (codes "fork")) (texts_equal word (codes "do")) e
  where
    by_word : (a b c d : Bool) → cond a (tree_line trees words) (cond b (ids_line trees trees.last words) (cond c (fork_line trees trees.last words) (cond d (do_line trees trees.last words) (Err TraceKind.Keyword)))) ≡ Ok next → Counts (one_if a) trees next
    by_word true b c d f = tree_count trees next words f
    by_word false true c d f = ids_count trees next trees.last words refl f
    by_word false false true d f = fork_count trees next trees.last words refl f
    by_word false false false true f = do_count trees next trees.last words refl f
    by_word false false false false f = absurd cc

line_by : (line n : ℕ) (t zero_ : Bool) (texts : List Text) → (n == 0) ≡ zero_ → (t ≡ true → zero_ ≡ false → IsSome (tree_line_from (suc line) (n - 1) texts)) → (t ≡ false → IsSome (tree_line_from (suc line) n texts))
    → IsSome (cond t (cond zero_ (Some line) (tree_line_from (suc line) (n - 1) texts)) (tree_line_from (suc line) n texts))
line_by line n true true texts e f g = refl
line_by line n true false texts e f g = f refl refl
line_by line n false zero_ texts e f g = g refl

not_zero : (n : ℕ) → (n == 0) ≡ false → 0 < n
not_zero n h = search (arith, nat_tests)

one_less : (after before n all : ℕ) → after ≡ before + 1 → (n == 0) ≡ false → before + n < all → after + (n - 1) < all
one_less after before n all e some low = let more : 0 < n = not_zero n some in omega (arith, e, more, low)

the_same : (after before n all : ℕ) → after ≡ before + 0 → before + n < all → after + n < all
the_same after before n all e low = omega (arith, e, low)

-- each tree has its line
from_lines : (line : ℕ) (trees : Trees) (texts : List Text) (t : Trace) (n : ℕ) → trace_from line trees texts ≡ Ok t → count trees + n < length t → IsSome (tree_line_from line n texts)
unfolding trace_from tree_line_from
from_lines line trees [] t n e low = absurd (let same : length (all_trees trees) ≡ length t = ap length (read_is (all_trees trees) t e) in omega (arith, low, same))
from_lines line trees (text ∷ texts) t n e low =
    let next = next_ok line (line_at trees (words_of text)) (λ m. trace_from (suc line) m texts) t e in
    let counted : Counts (one_if (is_tree_line (words_of text))) trees next.0 = line_count trees next.0 (words_of text) next.1 in
    line_by line n (is_tree_line (words_of text)) (n == 0) texts refl
    (λ a b. from_lines (suc line) next.0 texts t (n - 1) next.2 (one_less (count next.0) (count trees) n (length t) (subst (λ x. Counts (one_if x) trees next.0) a counted) b low))
    (λ a. from_lines (suc line) next.0 texts t n next.2 (the_same (count next.0) (count trees) n (length t) (subst (λ x. Counts (one_if x) trees next.0) a counted) low))

pub tree_lines_there : (text : Text) (t : Trace) (n : ℕ) → trace_of text ≡ Ok t → n < length t → IsSome (tree_line_at text n)
unfolding trace_of tree_line_at
tree_lines_there text t n e low = from_lines 1 no_trees (lines_of text) t n e (omega (arith, low))
