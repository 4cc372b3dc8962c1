-- The lines of a trace: what reading gives, or the first faulty line and the kind of its fault.
use Rattle.std.specs.Prelude.{ℕ, suc, ◌-◌, ◌==◌, if◌then◌else◌, Bool, false, List, [], ◌∷◌, codes, Option, Some, None, Result, Ok, Err}
use Rattle.tm_word.specs.Prelude.{Text, lines_of, texts_equal, words_of, ◌>>=◌}
use Rattle.tm_rules.specs.Types.{Args, Item, Request, TraceKind, Tree, no_attributes}
use Rattle.tm_rules.specs.Prelude.{Trace}
use Rattle.tm_line.specs.Lines.{word_at}
use Rattle.tm_line.specs.Domains.{domain_to_end}
use Rattle.tm_trace.specs.Lines.{in_trace}
use Rattle.tm_line.specs.Lines.{ended}
use Rattle.tm_trace.specs.Requests.{request_line}
use Rattle.tm_trace.specs.Attributes.{request, attributes_from}
use Rattle.tm_trace.specs.Processes.{pid_word, ids_to_end}
use Rattle.tm_trace.specs.Trees.{tree_pids, trace_pids, is_among, Trees, no_trees, all_trees, new_tree, with_tree, with_record}

-- Processes

-- a pid that no line has made
unfoldable pub new_at : Trees → List Text → Result (ℕ × List Text) TraceKind
new_at trees words = do
  pid ← in_trace TraceKind.Number (word_at pid_word words)
  if is_among (trace_pids (all_trees trees)) pid.0 then Err TraceKind.KnownProcess else Ok pid

-- a process of the tree
unfoldable pub process_at : Tree → List Text → Result (ℕ × List Text) TraceKind
process_at tree words = do
  pid ← in_trace TraceKind.Number (word_at pid_word words)
  if is_among (tree_pids tree) pid.0 then Ok pid else Err TraceKind.NoProcess

-- Requests

-- its arguments and the place of its permission, and the words after them
unfoldable pub request_at : List Text → Result (Args × ℕ × List Text) TraceKind
request_at words = in_trace TraceKind.Request (request_line words)

-- a request and its attributes
unfoldable pub request_of : List Text → Result Request TraceKind
request_of words = do
  line ← request_at words
  attributes ← in_trace TraceKind.Attribute (attributes_from line.0 line.1 no_attributes line.2)
  Ok (request line.0 line.1 attributes)

-- Lines, past their first word

-- `tree PID DOMAIN`
unfoldable pub tree_line : Trees → List Text → Result Trees TraceKind
tree_line trees words = do
  pid ← new_at trees words
  start ← in_trace TraceKind.NoDomain (domain_to_end pid.1)
  Ok (with_tree trees (new_tree pid.0 start))

-- `ids PID UID EUID SUID FSUID GID EGID SGID FSGID`
unfoldable pub ids_line : Trees → Option Tree → List Text → Result Trees TraceKind
ids_line trees None words = Err TraceKind.NoTree
ids_line trees (Some tree) words = do
  pid ← process_at tree words
  ids ← in_trace TraceKind.Number (ids_to_end pid.1)
  Ok (with_record trees tree (Item.Ids pid.0 ids))

-- `fork PID CHILD`
unfoldable pub fork_line : Trees → Option Tree → List Text → Result Trees TraceKind
fork_line trees None words = Err TraceKind.NoTree
fork_line trees (Some tree) words = do
  pid ← process_at tree words
  child ← new_at trees pid.1
  item ← in_trace TraceKind.Number (ended (Item.Fork pid.0 child.0) child.1)
  Ok (with_record trees tree item)

-- `do PID REQUEST ATTRIBUTES`
unfoldable pub do_line : Trees → Option Tree → List Text → Result Trees TraceKind
do_line trees None words = Err TraceKind.NoTree
do_line trees (Some tree) words = do
  pid ← process_at tree words
  request ← request_of pid.1
  Ok (with_record trees tree (Item.Do pid.0 request))

-- a line without words does nothing; the first word tells what a line is
unfoldable pub line_at : Trees → List Text → Result Trees TraceKind
line_at trees [] = Ok trees
line_at trees (word ∷ words) =
    if texts_equal word (codes "tree") then tree_line trees words else
    (if texts_equal word (codes "ids") then ids_line trees trees.last words else
    (if texts_equal word (codes "fork") then fork_line trees trees.last words else
    (if texts_equal word (codes "do")
    then do_line trees trees.last words
    else Err TraceKind.Keyword)))

-- Texts

-- a fault stands in this line; without one the lines after it follow
abbrev pub next_line : ℕ → Result Trees TraceKind → (Trees → Result Trace (ℕ × TraceKind))
    → Result Trace (ℕ × TraceKind)
next_line line (Ok trees) rest = rest trees
next_line line (Err kind) rest = Err (line, kind)

-- the trace after these lines, the first with this number
unfoldable pub trace_from : ℕ → Trees → List Text → Result Trace (ℕ × TraceKind)
trace_from line trees [] = Ok (all_trees trees)
trace_from line trees (text ∷ texts) =
    next_line line (line_at trees (words_of text)) (λ next. trace_from (suc line) next texts)

-- the trace that a text is
unfoldable pub trace_of : Text → Result Trace (ℕ × TraceKind)
trace_of text = trace_from 1 no_trees (lines_of text)

-- Which line begins which tree

-- the first word is `tree`
abbrev pub is_tree_line : List Text → Bool
is_tree_line [] = false
is_tree_line (word ∷ words) = texts_equal word (codes "tree")

-- the number of the line of the n-th tree from here on, the first line with this number
unfoldable pub tree_line_from : ℕ → ℕ → List Text → Option ℕ
tree_line_from line n [] = None
tree_line_from line n (text ∷ texts) =
    if is_tree_line (words_of text)
    then (if n == 0 then Some line else tree_line_from (suc line) (n - 1) texts)
    else tree_line_from (suc line) n texts

-- the number of the line of the tree at place n, from 0
unfoldable pub tree_line_at : Text → ℕ → Option ℕ
tree_line_at text n = tree_line_from 1 n (lines_of text)
