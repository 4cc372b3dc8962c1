-- The trace that is being made, record by record.
use Rattle.std.specs.Prelude.{ℕ, ◌+◌, ◌-◌, ◌^◌, ◌==◌, ◌&&◌, ◌||◌, nat_le, Bool, true, false, not, if◌then◌else◌, List, [], ◌∷◌, ◌++◌, length, drop, min, codes, slice_get, Option, Some, None, is_some}
use Rattle.std.specs.Ordering.{nat_cmp}
use Rattle.std.specs.BTreeMap.{is_at, insert_entry}
use Rattle.std.specs.Map.{lookup}
use Rattle.tm_word.specs.Prelude.{Text, Word, texts_equal}
use Rattle.tm_rules.specs.Types.{Args, Item, Proc, Request, argument_words, no_attributes}
use Rattle.tm_rules.specs.Prelude.{DomainName, is_execute, no_ids}
use Rattle.tm_log.specs.declared.record.Record.{Record}
use Rattle.tm_log.specs.declared.log.Source.{Source}
use Rattle.tm_log.specs.declared.log.Used.{Used}
use Rattle.tm_log_processes.specs.declared.process.Origin.{Origin}
use Rattle.tm_log_processes.specs.declared.process.Place.{Place}
use Rattle.tm_log_processes.specs.declared.process.Process.{Process}
use Rattle.tm_log_processes.specs.Processes.{born, same_ids}
use Rattle.tm_log_processes.specs.Lists.{Listed, none_listed, at, with_process, with_domain, is_in, moved, fits, entered, is_settled, settled_in, comes_from}
use Rattle.tm_log_processes.specs.Places.{Left, no_places, with_place, first_in, is_at as is_place_in}
use Rattle.tm_log_processes.specs.Forests.{Grown, bare, sum_of, added, forked_before, planted}
use Rattle.tm_log_trace.specs.declared.maker.Told.{Told}
use Rattle.tm_log_trace.specs.declared.notes.Note.{Note}
use Rattle.tm_log_trace.specs.declared.notes.Warning.{Warning}

-- the lines, the processes, the places of executes, the process of each key, the domain of the
-- first record of each pid, the last number that was invented, the record that is taken, and the
-- warnings
pub record Making : Type 0 where
  pub forest : Grown
  pub list : Listed
  pub places : Left
  pub table : List (ℕ × ℕ)
  pub firsts : List (ℕ × DomainName)
  pub invented : ℕ
  pub source : Source
  pub warnings : List Note

abbrev pub nothing_made : Making
nothing_made = record {
  forest = bare;
  list = none_listed;
  places = no_places;
  table = [];
  firsts = [];
  invented = 4194304;
  source = record { number = 0; line = 0 };
  warnings = [];
}

-- Small steps

abbrev pub warned : Making → Warning → Making
warned s warning = record s { warnings = s.warnings ++ record { source = s.source; warning = warning } ∷ [] }

-- the process that a key means
abbrev pub process_with : Making → ℕ → Option ℕ
process_with s key = lookup (is_at (nat_cmp key)) s.table

abbrev pub named : Making → ℕ → ℕ → Making
named s key p = record s { table = insert_entry nat_cmp s.table key p }

-- a new number
abbrev pub next_number : ℕ → ℕ
next_number n = min (n + 1) (2 ^ 32 - 1)

abbrev pub with_invented : Making → Making
with_invented s = record s { invented = next_number s.invented }

-- Forks, trees and manual transitions

-- a new process in this domain is last in the list
abbrev pub entering : Making → Process → DomainName → Making × ℕ
entering s process domain = (record s { list = (entered s.list process domain).0 }, (entered s.list process domain).1)

-- it goes on in this domain, and its last move was no execute
abbrev pub staying : Listed → ℕ → DomainName → Listed
staying list p domain = with_domain (with_process list p (record (at list p) { is_open = false })) p domain

-- a process makes a child in this domain, in which both are then
unfoldable pub forked : Making → ℕ → Origin → DomainName → Making × ℕ
forked s p origin domain =
    entering (record s { forest = added s.forest (at s.list p).tree (Item.Fork (at s.list p).origin.number origin.number) 0; list = staying s.list p domain })
    (born origin (at s.list p).tree (at s.list p).ids) domain

-- a child was made just before an execute
unfoldable pub forked_at : Making → Place → Origin → DomainName → Making × ℕ
forked_at s place origin domain =
    entering (record s { forest = forked_before s.forest place.line origin.number }) (born origin place.tree place.ids) domain

-- `<kernel>` is in every policy
abbrev pub warned_of_tree : Making → Origin → DomainName → Making
warned_of_tree s origin domain = if texts_equal domain (codes "<kernel>") then s else warned s (Warning.Tree origin.number domain)

-- a tree starts in this domain
unfoldable pub tree_planted : Making → Origin → DomainName → Making × ℕ
tree_planted s origin domain =
    entering (warned_of_tree (record s { forest = (planted s.forest domain origin.number).0 }) origin domain)
    (born origin (planted s.forest domain origin.number).1 no_ids) domain

-- the place of the first execute in a domain
abbrev pub place_at : Left → Option ℕ → Option Place
place_at left None = None
place_at left (Some i) = slice_get left.places i

abbrev pub first_left : Left → DomainName → Option Place
first_left left domain = place_at left (first_in left domain)

-- where nobody is in the domain or was, a tree starts there
abbrev pub put_before : Option Place → Making → Origin → DomainName → Making × ℕ
put_before None s origin domain = tree_planted s origin domain
put_before (Some place) s origin domain = forked_at s place origin domain

abbrev pub put_by : Option ℕ → Making → Origin → DomainName → Making × ℕ
put_by None s origin domain = put_before (first_left s.places domain) s origin domain
put_by (Some p) s origin domain = forked s p origin domain

-- a process in a domain to which no execute leads: a child of one that is there, or once was, or
-- else a tree
unfoldable pub put : Making → Origin → DomainName → Making × ℕ
put s origin domain = put_by (settled_in s.list domain) s origin domain

-- the request of a manual transition
abbrev pub manual_request : DomainName → Request
manual_request domain = record { args = Args.Manual domain; perm = 0; attributes = no_attributes }

-- a process goes to this domain by a manual transition
unfoldable pub gone_manually : Making → ℕ → DomainName → Making
gone_manually s p domain =
    warned (record s {
      forest = added s.forest (at s.list p).tree (Item.Do (at s.list p).origin.number (manual_request domain)) (sum_of (length domain) 30);
      list = with_domain (with_process s.list p (record (at s.list p) { is_open = false; is_writer = false })) p domain;
    })
    (Warning.Manual (at s.list p).origin.number domain)

-- A process of a record that wasn't there

abbrev pub naming : ℕ → Making × ℕ → Making × ℕ
naming key made = (named made.0 key made.1, made.1)

-- the domain of the first record of a pid, or else this one
abbrev pub or_domain : Option DomainName → DomainName → DomainName
or_domain None domain = domain
or_domain (Some first) domain = first

abbrev pub start_of : Making → Told → DomainName
start_of s told = or_domain (lookup (is_at (nat_cmp told.process.ppid)) s.firsts) told.domain

-- nothing is known of a parent but its pid
abbrev pub unknown_parent : ℕ → Origin
unknown_parent pid = record { number = pid; key = pid; ppid = None; parent = None }

-- the parent, which is made where no record was of it yet
abbrev pub parent_by : Option ℕ → Making → Told → Making × ℕ
parent_by (Some q) s told = (s, q)
parent_by None s told =
    naming told.process.ppid (put (warned s (Warning.Parent told.process.ppid (start_of s told))) (unknown_parent told.process.ppid) (start_of s told))

unfoldable pub parent_of : Making → Told → Making × ℕ
parent_of s told = parent_by (process_with s told.process.ppid) s told

-- the place of the last execute of a process, where it was in this domain
abbrev pub left_if : Left → Option ℕ → DomainName → Option Place
left_if left None domain = None
left_if left (Some i) domain = if is_place_in left i domain then slice_get left.places i else None

abbrev pub left_by : Making → ℕ → DomainName → Option Place
left_by s q domain = left_if s.places (at s.list q).last_execute domain

-- by a place that its parent left, by a manual transition of its parent, or else where nobody can
-- tell
abbrev pub child_last : Option Place → Making → ℕ → Origin → DomainName → Making × ℕ
child_last (Some place) s q origin domain = forked_at s place origin domain
child_last None s q origin domain =
    if (at s.list q).is_writer then forked (gone_manually s q domain) q origin domain else put (warned s (Warning.Start origin.number domain)) origin domain

-- a child of a process
unfoldable pub child : Making → ℕ → Origin → DomainName → Making × ℕ
child s q origin domain =
    if is_settled s.list domain q || moved s.list q domain then forked s q origin domain else child_last (left_by s q domain) s q origin domain

abbrev pub origin_of : ℕ → Told → Option ℕ → Origin
origin_of number told parent = record { number = number; key = told.key; ppid = Some told.process.ppid; parent = parent }

abbrev pub child_of : Making × ℕ → ℕ → Told → Making × ℕ
child_of found number told = child found.0 found.1 (origin_of number told (Some found.1)) told.domain

-- a pid or ppid of another namespace, no parent, and itself tell of no parent
abbrev pub has_no_parent : Told → Bool
has_no_parent told = not (told.key == told.process.pid) || told.process.ppid == 0 || told.process.ppid == told.key

unfoldable pub made_as : Making → ℕ → Told → Making × ℕ
made_as s number told = if has_no_parent told then put s (origin_of number told None) told.domain else child_of (parent_of s told) number told

-- a process with this number
unfoldable pub made : Making → ℕ → Told → Making × ℕ
made s number told = naming told.key (made_as s number told)

-- A process of a record that is there

-- another one goes on for it
unfoldable pub moved_on : Making → ℕ → Told → Making × ℕ
moved_on s p told =
    naming told.key (put (warned (with_invented s) (Warning.Move (at s.list p).origin.number told.domain (next_number s.invented) (at s.list p).was_refused))
    (record (at s.list p).origin { number = next_number s.invented }) told.domain)

-- it is in the domain of its record, goes there, or another one goes on for it
unfoldable pub settled : Making → ℕ → Told → Making × ℕ
settled s p told =
    if fits s.list p told.domain then (record s { list = staying s.list p told.domain }, p) else
    (if (at s.list p).is_writer then (gone_manually s p told.domain, p) else moved_on s p told)

-- its parent is this one from now on
abbrev pub handed : Making → ℕ → ℕ → Making
handed s p ppid = record s { list = with_process s.list p (record (at s.list p) { origin = record (at s.list p).origin { ppid = Some ppid } }) }

-- its pid is used again
unfoldable pub again : Making → Told → Making × ℕ
again s told = made (warned (with_invented s) (Warning.Again told.key (next_number s.invented))) (next_number s.invented) told

-- it is known and another one
abbrev pub differs : Option ℕ → ℕ → Bool
differs None pid = false
differs (Some before) pid = not (before == pid)

-- a parent that isn't the one that it had: init or one that it comes from takes it over, any other
-- one has a new process
abbrev pub known_with : Making → ℕ → Told → ℕ → Making × ℕ
known_with s p told ppid =
    if not (differs (at s.list p).origin.ppid ppid) then settled (handed s p ppid) p told else
    (if not (ppid == 1) && not (comes_from s.list p ppid) then again s told else
    settled (handed (warned s (Warning.Handed (at s.list p).origin.number ppid)) p ppid) p told)

unfoldable pub known : Making → ℕ → Told → Making × ℕ
known s p told = if not (told.key == told.global_pid) then settled s p told else known_with s p told told.process.ppid

-- The process of a record

abbrev pub warned_of_thread : Making → Told → Making
warned_of_thread s told = if told.key == told.process.pid then s else warned s (Warning.Thread told.global_pid told.process.pid told.key)

abbrev pub process_by : Option ℕ → Making → Told → Making × ℕ
process_by None s told = made (warned_of_thread s told) told.key told
process_by (Some p) s told = known s p told

unfoldable pub process_of : Making → Told → Making × ℕ
process_of s told = process_by (process_with s told.key) s told

-- the pid, where it is the global one or that of a process that may be in the domain; else the
-- global one
abbrev pub key_by : Option ℕ → Making → Record → ℕ
key_by None s one = one.global_pid
key_by (Some p) s one = if fits s.list p one.domain then one.process.pid else one.global_pid

unfoldable pub key_of : Making → Record → ℕ
key_of s one = if one.process.pid == one.global_pid then one.process.pid else key_by (process_with s one.process.pid) s one

-- What a record does

unfoldable pub with_ids : Making → ℕ → Told → Making
with_ids s p told = if same_ids (at s.list p).ids told.process.ids then s else
    record s {
      forest = added s.forest (at s.list p).tree (Item.Ids (at s.list p).origin.number told.process.ids) 0;
      list = with_process s.list p (record (at s.list p) { ids = told.process.ids });
    }

-- an execute is the last one of its process, and its last move unless it was refused
unfoldable pub executed : Making → ℕ → ℕ → Bool → DomainName → Making
executed s p line refused domain =
    record s {
      places = with_place s.places (record { line = line; tree = (at s.list p).tree; ids = (at s.list p).ids }) domain;
      list = with_process s.list p (record (at s.list p) {
        last_execute = Some (length s.places.places);
        was_refused = refused;
        is_open = (at s.list p).is_open || not refused;
        is_writer = (at s.list p).is_writer && refused;
      });
    }

-- a word ends with another
abbrev pub ends : Text → Text → Bool
ends word end = nat_le (length end) (length word) && texts_equal (drop (length word - length end) word) end

-- the first name of a request ends so
abbrev pub name_ends : List Word → Bool
name_ends [] = false
name_ends (word ∷ words) = ends word (codes "/tomoyo/self_domain")

-- it writes or appends to `self_domain`
abbrev pub writes_own_domain : Request → Bool
writes_own_domain request = go request.args
  where
    go : Args → Bool
    go (Args.Path name) = (request.perm == 2 || request.perm == 3) && name_ends (argument_words request.args)
    go _ = false

abbrev pub writing : Making → ℕ → Making
writing s p = record s { list = with_process s.list p (record (at s.list p) { is_writer = true }) }

abbrev pub after_request : Making → ℕ → ℕ → Request → Bool → DomainName → Making
after_request s p line request refused domain =
    if is_execute request then executed s p line refused domain else (if writes_own_domain request && not refused then writing s p else s)

unfoldable pub asked : Making → ℕ → Told → Request → ℕ → Bool → Making
asked s p told request size refused =
    after_request (record s { forest = added s.forest (at s.list p).tree (Item.Do (at s.list p).origin.number request) size }) p (length s.forest.lines) request refused told.domain

abbrev pub warned_of_cut : Making → Bool → Making
warned_of_cut s cut = if cut then warned s Warning.Arguments else s

abbrev pub told_of : ℕ → Record → Told
told_of key one = record { key = key; global_pid = one.global_pid; process = one.process; domain = one.domain }

abbrev pub with_request : Making × ℕ → Told → Record → ℕ → Making
with_request found told one size = warned_of_cut (asked (with_ids found.0 found.1 told) found.1 told one.request size one.refused) one.cut

-- a record of the process that this key means
abbrev pub taken_as : Making → ℕ → Record → ℕ → Making
taken_as s key one size = with_request (process_of s (told_of key one)) (told_of key one) one size

-- one record more
abbrev pub at_source : Making → Source → Making
at_source s source = record s { source = source }

unfoldable pub taken : Making → Used → Making
taken s used = taken_as (at_source s used.source) (key_of (at_source s used.source) used.«record») used.«record» used.size

-- the domain of a record that is the first with its pid, where the pid is the global one
unfoldable pub seen : Making → Record → Making
seen s one =
    if not (one.global_pid == one.process.pid) || is_some (lookup (is_at (nat_cmp one.process.pid)) s.firsts) then s else
    record s { firsts = insert_entry nat_cmp s.firsts one.process.pid one.domain }
