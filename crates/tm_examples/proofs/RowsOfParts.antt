-- Groups, numbers, conditions, profiles, managers, books and queries of small cases.
use Rattle.std.specs.Prelude.{◌≡◌, ℕ, Bool, true, false, List, [], ◌∷◌, map, Option, Some, None, codes, refl, option_map}
use Rattle.tm_word.specs.Prelude.{Text, literal, matches}
use Rattle.tm_rules.specs.Types.{Addr, AddrUnion, Answer, AnswerFault, Answered, Args, Attr, Base, Book, Component, Cond, Editor, Element, Entry, EntryPlace, FileKind, Function, Groups, Held, IdField, InetKind, ListWords, Mode, NamePlace, NameUnion, Number, NumberUnion, Policy, Proc, Profile, Query, Reason, Repeat, Reply, Request, Right, SlotName, Stat, StatField, StatPlace, Step, Verdict, no_attributes}
use Rattle.tm_rules.specs.Prelude.{answer_of, book_answer, grants, holds, is_manager, logs_of, mode_of, name_in}
use Rattle.tm_legal.specs.Prelude.{State, after, apply, opening, verdict}
use Rattle.tm_examples.proofs.Examples.{computed, «<kernel>», no_groups, kernel_namespace, domain, policy_of, file_line, read, execute, process, no_ids, begins_with_slash, grammar}

abbrev plain : List Element → Component
plain part = record { repeat = Repeat.Once; first = part; minus = [] }

abbrev bytes : List ℕ → List Element
bytes [] = []
bytes (b ∷ bs) = Element.Byte b ∷ bytes bs

abbrev empty : Component
empty = plain []

-- `/d/\@.c` against `/d/a.b.c` and `/d/ .c`; `/d/\?` against `/d/ `
dots : matches (empty ∷ plain (bytes (codes "d")) ∷ plain (Element.NoDot ∷ bytes (codes ".c")) ∷ []) (codes "/d/a.b.c") ≡ false
unfolding computed
dots = refl

blank : matches (empty ∷ plain (bytes (codes "d")) ∷ plain (Element.NoDot ∷ bytes (codes ".c")) ∷ []) (codes "/d/ .c") ≡ true
unfolding computed
blank = refl

one_blank : matches (empty ∷ plain (bytes (codes "d")) ∷ plain (Element.One ∷ []) ∷ []) (codes "/d/ ") ≡ true
unfolding computed
one_blank = refl

-- Groups: the first member that matches, by its place in the whole list; a group without lines has
-- none

abbrev groups : Groups
groups =
    record no_groups {
      paths =
          (codes "S", literal (codes "/z"))
          ∷ (codes "T", empty ∷ plain (Element.Byte 97 ∷ Element.Digits ∷ []) ∷ [])
          ∷ (codes "T", empty ∷ plain (Element.Star ∷ []) ∷ [])
          ∷ [];
    }

members : map (name_in groups (NameUnion.Group (codes "T"))) (codes "/a1" ∷ codes "/b" ∷ codes "/b/c" ∷ []) ≡ Some (NamePlace.Member 1) ∷ Some (NamePlace.Member 2) ∷ None ∷ []
unfolding computed
members = refl

no_members : name_in groups (NameUnion.Group (codes "U")) (codes "/a1") ≡ None
unfolding computed
no_members = refl

-- Numbers and addresses

abbrev octal : ℕ → Number
octal n = record { value = n; base = Base.Octal }

abbrev single : Number → NumberUnion
single n = NumberUnion.One (record { low = n; high = n })

abbrev with_args : Args → Entry
with_args args = record { args = args; perms = record { bits = 2 }; cond = record { clauses = []; grant_log = None } }

abbrev asks : Args → ℕ → Request
asks args perm = record { args = args; perm = perm; attributes = no_attributes }

-- `file mkdir /d 0700-0755` grants 0750 and not 0777
abbrev mkdir : NumberUnion → Args
mkdir mode = Args.PathNumber (NameUnion.One (literal (codes "/d"))) mode

modes : map (λ n. grants no_groups (process 7) (asks (mkdir (single (octal n))) 1) (with_args (mkdir (NumberUnion.One (record { low = octal 448; high = octal 493 }))))) (488 ∷ 511 ∷ []) ≡ Some NamePlace.Own ∷ None ∷ []
unfolding computed
modes = refl

-- `network inet stream bind 10.0.0.0-10.255.255.255 22`
abbrev bind : AddrUnion → NumberUnion → Args
bind addr port = Args.Inet InetKind.Stream addr port

abbrev address : ℕ → AddrUnion
address n = AddrUnion.One (record { low = Addr.V4 n; high = Addr.V4 n })

abbrev port : ℕ → NumberUnion
port n = single (record { value = n; base = Base.Decimal })

binds : map (λ (pair : ℕ × ℕ). grants no_groups (process 7) (asks (bind (address pair.0) (port pair.1)) 1) (with_args (bind (AddrUnion.One (record { low = Addr.V4 167772160; high = Addr.V4 184549375 })) (port 22)))) ((167838211, 22) ∷ (184549376, 22) ∷ (167838211, 23) ∷ []) ≡ Some NamePlace.Own ∷ None ∷ None ∷ []
unfolding computed
binds = refl

-- Conditions: `!=` is false of an attribute that isn't there

abbrev clause : Attr → Bool → Right → Cond
clause left equal right = record { clauses = record { left = left; equal = equal; right = right } ∷ []; grant_log = None }

abbrev by_uid : ℕ → Proc
by_uid n = record { pid = 7; ppid = 0; ids = record no_ids { uid = n } }

abbrev owned : ℕ → Request
owned n = record { args = Args.Path (NameUnion.One (literal (codes "/x"))); perm = 1; attributes = record no_attributes { stats = Stat.Number StatPlace.Path1 StatField.Uid n ∷ [] } }

abbrev zero_uid : Right
zero_uid = Right.Numbers (port 0)

task_uid : map (λ n. holds (clause (Attr.Task IdField.Uid) false zero_uid) no_groups (by_uid n) (read (codes "/x"))) (0 ∷ 5 ∷ []) ≡ false ∷ true ∷ []
unfolding computed
task_uid = refl

no_stat : holds (clause (Attr.Stat StatPlace.Path1 StatField.Uid) false zero_uid) no_groups (by_uid 5) (read (codes "/x")) ≡ false
unfolding computed
no_stat = refl

equal_uids : holds (clause (Attr.Task IdField.Uid) true (Right.Attr (Attr.Stat StatPlace.Path1 StatField.Uid))) no_groups (by_uid 5) (owned 5) ≡ true
unfolding computed
equal_uids = refl

past_last : holds (clause (Attr.Argv 3) false (Right.Name (NameUnion.One (literal (codes "x"))))) no_groups (by_uid 0) (execute (codes "/a") (codes "/a") (codes "y")) ≡ false
unfolding computed
past_last = refl

preload : Bool → Request → Bool
preload equal request = holds (clause (Attr.Envp (codes "LD_PRELOAD")) equal Right.Null) no_groups (by_uid 0) request

no_preload : preload true (execute (codes "/a") (codes "/a") (codes "y")) ≡ true
unfolding computed preload
no_preload = refl

no_execute : preload true (read (codes "/a")) ≡ false
unfolding computed preload
no_execute = refl

-- Profiles: a slot for the category, and none for the function

abbrev sliced : Profile
sliced =
    record {
      comment = [];
      max_audit_log = 1024;
      max_learning_entry = 2048;
      config = record { mode = Mode.Disabled; logs = record { grant = false; reject = false } };
      slots = (SlotName.File, record { mode = Mode.Learning; logs = record { grant = true; reject = true } }) ∷ [];
    }

slots : map (mode_of sliced) (Function.Open ∷ Function.Env ∷ []) ≡ Mode.Learning ∷ Mode.Disabled ∷ []
unfolding computed
slots = refl

slot_logs : logs_of sliced Function.Open ≡ record { grant = true; reject = true }
unfolding computed
slot_logs = refl

-- The first entry that grants is found, patterns or not

abbrev place_of : List Entry → Text → Option Reason
place_of entries name = option_map (λ (v : Verdict). v.reason) (verdict begins_with_slash (policy_of kernel_namespace (domain «<kernel>» 1 entries ∷ [])) false 0 (process 7) (read name))

abbrev star : Entry
star = file_line 2 (empty ∷ plain (Element.Star ∷ []) ∷ [])

abbrev lit_a : Entry
lit_a = file_line 2 (literal (codes "/a"))

pattern_first : place_of (star ∷ lit_a ∷ []) (codes "/a") ≡ Some (Reason.Entry (EntryPlace.Own 0))
unfolding computed
pattern_first = refl

literal_first : map (place_of (lit_a ∷ star ∷ [])) (codes "/a" ∷ codes "/b" ∷ []) ≡ Some (Reason.Entry (EntryPlace.Own 0)) ∷ Some (Reason.Entry (EntryPlace.Own 1)) ∷ []
unfolding computed
literal_first = refl

-- An editor whose domain is a manager line and whose uid is 5 is a manager where
-- `manage_by_non_root` stands

abbrev managed : Bool → Policy
managed by_non_root = record { namespaces = []; domains = []; by_non_root = by_non_root; managers = «<kernel>» ∷ []; opened = false }

abbrev five : Editor
five = record { uid = 5; euid = 5; exe = codes "/bin/x"; domain = «<kernel>»; lines = [] }

managers : map (λ b. is_manager (managed b) five) (true ∷ false ∷ []) ≡ true ∷ false ∷ []
unfolding computed
managers = refl

-- The first rule of a book that matches; no without one

abbrev listed : List Text → Bool → ListWords
listed ws any = record { patterns = map literal ws; any = any }

abbrev book : Book
book =
    record {
      rules =
          record { retries = 0; last = Answer.No; domain = listed («<kernel>» ∷ []) true; line = listed (codes "file" ∷ codes "read" ∷ []) true }
          ∷ record { retries = 0; last = Answer.Yes; domain = listed [] true; line = listed [] true }
          ∷ [];
      stop = None;
    }

abbrev query : Text → Query
query line = record { serial = 1; retry = 0; domain = «<kernel>»; line = line }

answers : map (book_answer book) (query (codes "file read /x") ∷ query (codes "file write /x") ∷ []) ≡ Answer.No ∷ Answer.Yes ∷ []
unfolding computed
answers = refl

no_rule : book_answer (record { rules = []; stop = Some 1 }) (query (codes "file read /x")) ≡ Answer.No
unfolding computed
no_rule = refl

-- Hostile supervisors: each step's reply

abbrev one_domain : State
one_domain = opening (record { policy = policy_of kernel_namespace (domain «<kernel>» 1 [] ∷ []); editors = []; trees = 1; desk = true })

replies_to : State → List Step → List (Option Reply)
replies_to state [] = []
replies_to state (step ∷ steps) = (apply grammar state step).reply ∷ replies_to (apply grammar state step).state steps

abbrev hostile : List Step
hostile = Step.Attach ∷ Step.Answer 9 1 ∷ Step.Ask 0 0 (codes "l") ∷ Step.Answer 1 4 ∷ Step.Answer 1 1 ∷ Step.Answer 1 2 ∷ Step.Detach ∷ Step.Ask 0 0 (codes "l") ∷ []

hostile_replies : replies_to one_domain hostile ≡ map Some (Reply.Attach true ∷ Reply.Answer (Some AnswerFault.NoQuery) ∷ Reply.Ask (Held.Serial 1) ∷ Reply.Answer (Some AnswerFault.BadAnswer) ∷ Reply.Answer None ∷ Reply.Answer (Some AnswerFault.Answered) ∷ Reply.Detach true ∷ Reply.Ask Held.Nobody ∷ [])
unfolding computed replies_to
hostile_replies = refl

kept_answer : answer_of (after grammar one_domain hostile).queries 1 ≡ Some Answered.Yes
unfolding computed
kept_answer = refl

-- a step that doesn't fit has no reply
unfitting : replies_to one_domain (Step.Fail 1 ∷ Step.Make 0 (codes "</other>") ∷ Step.End 2 ∷ Step.Edit 1 FileKind.Domain [] ∷ []) ≡ None ∷ None ∷ None ∷ None ∷ []
unfolding computed replies_to
unfitting = refl
