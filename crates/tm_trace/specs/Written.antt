-- The traces that a text can write.
use Rattle.std.specs.Prelude.{◌≡◌, ℕ, ◌^◌, ◌==◌, nat_lt, Bool, true, ◌&&◌, not, List, [], ◌∷◌, ◌++◌}
use Rattle.std.specs.Bool.{IsTrue}
use Rattle.std.specs.List.{list_all, AllByRecursion, IsDistinct}
use Rattle.tm_word.specs.Prelude.{Word}
use Rattle.tm_rules.specs.Types.{Ids, Item, Request, Stat, Tree}
use Rattle.tm_rules.specs.Prelude.{Trace, is_domain_name, is_request}
use Rattle.tm_line.specs.Names.{is_path}
use Rattle.tm_entry.specs.Written.{is_name_byte, has_field, has_type}
use Rattle.tm_trace.specs.Attributes.{stat_rank, has_name}
use Rattle.tm_trace.specs.Trees.{made_by, trace_pids, is_among}

-- Requests

-- each stat is printed later than the one before it, the first later than this rank
abbrev pub rises_from : ℕ → List Stat → Bool
rises_from rank [] = true
rises_from rank (stat ∷ stats) = nat_lt rank (stat_rank stat) && rises_from (stat_rank stat) stats

-- stats in the order in which they are printed, each attribute once
abbrev pub rises : List Stat → Bool
rises [] = true
rises (stat ∷ stats) = rises_from (stat_rank stat) stats

-- no environment name twice
abbrev pub names_once : List (Word × Word) → Bool
names_once [] = true
names_once (pair ∷ envp) = not (has_name pair.0 envp) && names_once envp

-- environment names are of bytes without `=`
abbrev pub are_names : List (Word × Word) → Bool
are_names envp = list_all (λ pair. list_all is_name_byte pair.0) envp

-- a stat that has a word: a folder has four numbers and no type
abbrev pub has_word : Stat → Bool
has_word (Stat.Number place field value) = has_field place field
has_word (Stat.Kind place kind) = has_type place

-- a request that can be asked, with each environment name once, and stats that have words, in order
unfoldable pub is_trace_request : Request → Bool
is_trace_request r =
    is_request is_path r && are_names r.attributes.envp && names_once r.attributes.envp
    && list_all has_word r.attributes.stats && rises r.attributes.stats

-- Records

-- 1 to 2^32 - 1
abbrev pub is_pid : ℕ → Bool
is_pid pid = not (pid == 0) && nat_lt pid (2 ^ 32)

-- below 2^32
abbrev pub is_id : ℕ → Bool
is_id id = nat_lt id (2 ^ 32)

-- all eight
abbrev pub are_ids : Ids → Bool
are_ids ids =
    is_id ids.uid && is_id ids.euid && is_id ids.suid && is_id ids.fsuid && is_id ids.gid
    && is_id ids.egid && is_id ids.sgid && is_id ids.fsgid

-- the process is one of its tree so far; a child has a pid, and a request is right
abbrev pub is_item : List ℕ → Item → Bool
is_item own (Item.Ids pid ids) = is_among own pid && are_ids ids
is_item own (Item.Fork pid child) = is_among own pid && is_pid child
is_item own (Item.Do pid request) = is_among own pid && is_trace_request request

-- each record after those before it, whose children are processes of the tree too
abbrev pub are_items : List ℕ → List Item → Bool
are_items own [] = true
are_items own (item ∷ items) = is_item own item && are_items (own ++ made_by item) items

-- Trees

-- it starts in a domain name, and its records are of its own processes
unfoldable pub is_tree : Tree → Bool
is_tree tree =
    is_pid tree.pid && is_domain_name is_path tree.start && are_items (tree.pid ∷ []) tree.records

-- a pid is made once in the whole trace
pub record IsTrace (trace : Trace) : Type 0 where
  pub trees : list_all is_tree trace ≡ true
  pub once : IsDistinct (λ x y. x == y) (trace_pids trace)

-- Requests of a trace

-- each `do` line asks what passes this test
abbrev pub EachAsked : (Item → Bool) → Trace → Type 0
EachAsked test trace = AllByRecursion (λ (tree : Tree). IsTrue (list_all test tree.records)) trace
