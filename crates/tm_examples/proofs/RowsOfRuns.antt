-- Whole runs of small scenes, as the definitions play them.
use Rattle.std.specs.Prelude.{◌≡◌, ◌≤◌, ℕ, zero, suc, Bool, true, false, List, [], ◌∷◌, ◌++◌, Option, Some, None, option_map, codes, refl}
use Rattle.std.proofs.Common.{lit≤, true≢false, sym, ap, ◌∙◌, arith}
use Rattle.std.proofs.lemmas.Bool.{ne_eqb}
use Rattle.tm_rules.specs.Prelude.{Trace, first_query, numbered}
use mathlib.Core.Logic.{inr}
use Rattle.tm_legal.specs.Prelude.{AnswersByBook, Legal, OutcomesHold, Plays, Replies, Scene, TreesEnd, VerdictsHold, VersionsRise, lines_of_editor, opening_of, own_numbers, state_at, step_at, times, times_owned}
use Rattle.tm_word.specs.Prelude.{Text, literal}
use Rattle.tm_rules.specs.Types.{Answer, Answered, Args, Attr, Book, BookRule, Clause, ControlKind, EditReply, Editor, Element, Entry, EntryPlace, FileKind, Heard, Held, Item, LearnReply, ListWords, Look, MakeReply, Mode, Move, NameUnion, Namespace, Policy, Reason, Repeat, Reply, Request, Right, Run, Step, Take, Turn, Verdict}
use Rattle.tm_examples.proofs.Examples.{computed, «<kernel>», kernel_namespace, domain, policy_of, file_line, read, execute, tree, grammar}

abbrev scene : Policy → Trace → List Editor → Option Book → Scene
scene policy trace editors book = record { grammar = grammar; policy = policy; trace = trace; editors = editors; book = book }

abbrev look : ℕ → Mode → Reason → Move → List ℕ → Option Heard → Look
look version mode reason move own heard = record { version = version; mode = Some mode; reason = reason; step = move; own = own; heard = heard }

abbrev take : ℕ → ℕ → ℕ → Bool → List Look → Option Text → Take
take pid before after granted looks audit = record { pid = pid; before = before; after = after; granted = granted; looks = looks; audit = audit }

abbrev named : Text → NameUnion
named name = NameUnion.One (literal name)

-- Two reads under enforcing: the one that is listed is granted, the other is denied

abbrev enforced : Scene
enforced = scene (policy_of kernel_namespace (domain «<kernel>» 1 (file_line 2 (literal (codes "/a")) ∷ []) ∷ [])) (tree 7 (read (codes "/a") ∷ read (codes "/b") ∷ []) ∷ []) [] None

abbrev ids : Text
ids = codes " pid=7 ppid=0 uid=0 euid=0 suid=0 fsuid=0 gid=0 egid=0 sgid=0 fsgid=0\n"

enforced_run : Plays enforced [] (record {
  steps = [];
  takes =
      take 7 0 0 true (look 0 Mode.Enforcing (Reason.Entry (EntryPlace.Own 0)) Move.Stay [] None ∷ []) (Some (codes "profile=1 mode=enforcing granted=yes verdict=entry" ++ ids ++ codes "<kernel>\nfile read /a\n\n"))
      ∷ take 7 0 0 false (look 0 Mode.Enforcing Reason.NoEntry Move.Stay [] None ∷ []) (Some (codes "profile=1 mode=enforcing granted=no verdict=no_entry" ++ ids ++ codes "<kernel>\nfile read /b\n\n"))
      ∷ [];
})
unfolding computed
enforced_run = record { number_of_rounds = 2; over = (refl, (refl, tt)); run_is = refl }

-- An execute that is learned: the aggregated name is kept, and the domain is made

abbrev bytes_of : List ℕ → List Element
bytes_of [] = []
bytes_of (b ∷ bs) = Element.Byte b ∷ bytes_of bs

abbrev added : ℕ → Entry → Step × Reply
added d entry = (Step.Learn d entry, Reply.Learn LearnReply.Added)

abbrev made : ℕ → Text → ℕ → Step × Reply
made d name n = (Step.Make d name, Reply.Make (MakeReply.New n))

abbrev word_clause : Attr → Text → Clause
word_clause attr word = record { left = attr; equal = true; right = Right.Name (named word) }

abbrev execute_line : Text → Text → Text → Entry
execute_line name real argument = record { args = Args.Path (named name); perms = record { bits = 1 }; cond = record { clauses = word_clause Attr.RealPath real ∷ word_clause (Attr.Argv 0) argument ∷ []; grant_log = None } }

abbrev python : Scene
python =
    scene
    (policy_of
    (record kernel_namespace {
      aggregators = (record { repeat = Repeat.Once; first = []; minus = [] } ∷ record { repeat = Repeat.Once; first = bytes_of (codes "usr"); minus = [] } ∷ record { repeat = Repeat.Once; first = bytes_of (codes "bin"); minus = [] } ∷ record { repeat = Repeat.Once; first = bytes_of (codes "python") ++ Element.Star ∷ []; minus = [] } ∷ [], codes "/usr/bin/python") ∷ [];
    })
    (domain «<kernel>» 2 [] ∷ []))
    (tree 7 (execute (codes "/usr/bin/python3") (codes "/usr/bin/python3.11") (codes "python3") ∷ []) ∷ [])
    []
    None

python_run : Plays python [] (record {
  steps = added 0 (execute_line (codes "/usr/bin/python") (codes "/usr/bin/python3.11") (codes "python3")) ∷ made 0 (codes "<kernel> /usr/bin/python") 1 ∷ [];
  takes = take 7 0 1 true (look 0 Mode.Learning Reason.Learn Move.Make (1 ∷ 2 ∷ []) None ∷ []) None ∷ [];
})
unfolding computed
python_run = record { number_of_rounds = 3; over = (refl, (refl, tt)); run_is = refl }

-- A pattern's written name is the candidate: a control for `/bin/ls` doesn't match `/bin/\*`

abbrev any_of_bin : Scene
any_of_bin =
    scene
    (policy_of
    (record kernel_namespace { controls = record { kind = ControlKind.Keep; program = Some (codes "/bin/ls"); domain = None; last = false } ∷ [] })
    (domain «<kernel>» 1 (file_line 1 (record { repeat = Repeat.Once; first = []; minus = [] } ∷ record { repeat = Repeat.Once; first = bytes_of (codes "bin"); minus = [] } ∷ record { repeat = Repeat.Once; first = Element.Star ∷ []; minus = [] } ∷ []) ∷ []) ∷ []))
    (tree 7 (execute (codes "/bin/ls") (codes "/bin/ls") (codes "x") ∷ []) ∷ [])
    []
    None

any_of_bin_run : (audit : Option Text) → Plays any_of_bin [] (record {
  steps = made 0 (codes "<kernel> /bin/\\*") 1 ∷ [];
  takes = take 7 0 1 true (look 0 Mode.Enforcing (Reason.Entry (EntryPlace.Own 0)) Move.Make (1 ∷ []) None ∷ []) (Some (codes "profile=1 mode=enforcing granted=yes verdict=entry" ++ ids ++ codes "<kernel>\nfile execute /bin/ls\n\n")) ∷ [];
})
unfolding computed
any_of_bin_run audit = record { number_of_rounds = 2; over = (refl, (refl, tt)); run_is = refl }

-- A full domain: the first line replies `quota` and the flag stands, the second look is granted by
-- it

abbrev full_profile : Namespace
full_profile = record kernel_namespace { profiles = (2, record { comment = []; max_audit_log = 1024; max_learning_entry = 3; config = record { mode = Mode.Learning; logs = record { grant = false; reject = false } }; slots = [] }) ∷ [] }

abbrev full : Scene
full =
    scene
    (policy_of full_profile (domain «<kernel>» 2 (file_line 6 (literal (codes "/a")) ∷ file_line 32 (literal (codes "/b")) ∷ []) ∷ []))
    (tree 7 (read (codes "/c") ∷ read (codes "/d") ∷ []) ∷ [])
    []
    None

full_run : Plays full [] (record {
  steps = (Step.Learn 0 (file_line 2 (literal (codes "/c"))), Reply.Learn LearnReply.Quota) ∷ [];
  takes =
      take 7 0 0 true (look 0 Mode.Learning Reason.Learn Move.Stay (1 ∷ []) None ∷ []) None
      ∷ take 7 0 0 true (look 1 Mode.Learning Reason.Quota Move.Stay [] None ∷ []) None
      ∷ [];
})
unfolding computed
full_run = record { number_of_rounds = 3; over = (refl, (refl, tt)); run_is = refl }

-- Two trees look at one version and learn the same line: the second finds it there

abbrev twice : Scene
twice = scene (policy_of kernel_namespace (domain «<kernel>» 2 [] ∷ [])) (tree 7 (read (codes "/x") ∷ []) ∷ tree 8 (read (codes "/x") ∷ []) ∷ []) [] None

abbrev read_x : Entry
read_x = file_line 2 (literal (codes "/x"))

twice_run : Plays twice (Turn.Tree 1 ∷ Turn.Tree 2 ∷ Turn.Tree 1 ∷ Turn.Tree 2 ∷ []) (record {
  steps = added 0 read_x ∷ (Step.Learn 0 read_x, Reply.Learn LearnReply.There) ∷ [];
  takes =
      take 7 0 0 true (look 0 Mode.Learning Reason.Learn Move.Stay (1 ∷ []) None ∷ []) None
      ∷ take 8 0 0 true (look 0 Mode.Learning Reason.Learn Move.Stay (2 ∷ []) None ∷ []) None
      ∷ [];
})
unfolding computed
twice_run = record { number_of_rounds = 0; over = (refl, (refl, (refl, tt))); run_is = refl }

-- An edit between a look and its step: the profile isn't learning any more, and nothing is added

abbrev admin : ℕ → List (FileKind × Text) → Editor
admin uid lines = record { uid = uid; euid = 0; exe = codes "/usr/sbin/admin"; domain = «<kernel>»; lines = lines }

abbrev select_line : FileKind × Text
select_line = (FileKind.Domain, codes "select <kernel>")

abbrev edit : ℕ → FileKind × Text → EditReply → Step × Reply
edit e line reply = (Step.Edit e line.0 line.1, Reply.Edit reply)

abbrev overtaken : ℕ → Scene
overtaken uid =
    scene
    (policy_of kernel_namespace (domain «<kernel>» 2 [] ∷ []))
    (tree 7 (read (codes "/x") ∷ []) ∷ [])
    (admin uid (select_line ∷ (FileKind.Domain, codes "use_profile 1") ∷ []) ∷ [])
    None

abbrev overtaking : List Turn
overtaking = Turn.Tree 1 ∷ Turn.Editor 1 ∷ Turn.Editor 1 ∷ Turn.Tree 1 ∷ []

overtaken_run : Plays (overtaken 0) overtaking (record {
  steps = edit 1 select_line EditReply.Done ∷ edit 1 (FileKind.Domain, codes "use_profile 1") EditReply.Done ∷ (Step.Learn 0 read_x, Reply.Learn LearnReply.Mode) ∷ [];
  takes = take 7 0 0 true (look 0 Mode.Learning Reason.Learn Move.Stay (3 ∷ []) None ∷ []) None ∷ [];
})
unfolding computed
overtaken_run = record { number_of_rounds = 0; over = (refl, (refl, (refl, tt))); run_is = refl }

-- the same by somebody who is no manager
stranger_run : Plays (overtaken 5) overtaking (record {
  steps = edit 1 select_line EditReply.NotManager ∷ edit 1 (FileKind.Domain, codes "use_profile 1") EditReply.NotManager ∷ added 0 read_x ∷ [];
  takes = take 7 0 0 true (look 0 Mode.Learning Reason.Learn Move.Stay (3 ∷ []) None ∷ []) None ∷ [];
})
unfolding computed
stranger_run = record { number_of_rounds = 0; over = (refl, (refl, (refl, tt))); run_is = refl }

-- A held query: the book asks for a retry, an edit grants the line meanwhile, and the second look
-- finds it

abbrev any_words : ListWords
any_words = record { patterns = []; any = true }

abbrev rule : ℕ → Answer → BookRule
rule retries last = record { retries = retries; last = last; domain = any_words; line = any_words }

abbrev retried : Scene
retried =
    scene
    (policy_of kernel_namespace (domain «<kernel>» 1 [] ∷ []))
    (tree 7 (read (codes "/x") ∷ []) ∷ [])
    (admin 0 (select_line ∷ (FileKind.Domain, codes "file read /x") ∷ []) ∷ [])
    (Some (record { rules = rule 1 Answer.No ∷ []; stop = None }))

abbrev attached : Step × Reply
attached = (Step.Attach, Reply.Attach true)

abbrev asked : ℕ → Text → ℕ → Step × Reply
asked retry line serial = (Step.Ask 0 retry line, Reply.Ask (Held.Serial serial))

abbrev ended : ℕ → Step × Reply
ended t = (Step.End t, Reply.End)

abbrev detached : Step × Reply
detached = (Step.Detach, Reply.Detach true)

abbrev heard : Answered → ℕ → Option Heard
heard answer version = Some (record { answer = Some answer; version = version })

retried_run : Plays retried (Turn.Desk ∷ Turn.Tree 1 ∷ Turn.Tree 1 ∷ Turn.Editor 1 ∷ Turn.Editor 1 ∷ Turn.Desk ∷ Turn.Tree 1 ∷ Turn.Tree 1 ∷ []) (record {
  steps =
      attached
      ∷ asked 0 (codes "file read /x") 1
      ∷ edit 1 select_line EditReply.Done
      ∷ edit 1 (FileKind.Domain, codes "file read /x") EditReply.Done
      ∷ (Step.Answer 1 3, Reply.Answer None)
      ∷ ended 1
      ∷ detached
      ∷ [];
  takes =
      take 7 0 0 true (look 1 Mode.Enforcing Reason.Ask Move.Stay (2 ∷ []) (heard Answered.Retry 5) ∷ look 5 Mode.Enforcing (Reason.Entry (EntryPlace.Own 0)) Move.Stay [] None ∷ [])
      (Some (codes "profile=1 mode=enforcing granted=yes verdict=entry" ++ ids ++ codes "<kernel>\nfile read /x\n\n"))
      ∷ [];
})
unfolding computed
retried_run = record { number_of_rounds = 1; over = (refl, (refl, (refl, tt))); run_is = refl }

-- A supervisor that leaves: both held queries are closed, and the third read meets no supervisor

abbrev left_alone : Scene
left_alone =
    scene
    (policy_of kernel_namespace (domain «<kernel>» 1 [] ∷ []))
    (tree 7 (read (codes "/x") ∷ read (codes "/z") ∷ []) ∷ tree 8 (read (codes "/y") ∷ []) ∷ [])
    []
    (Some (record { rules = rule 0 Answer.Yes ∷ []; stop = Some 0 }))

abbrev refusal : Text → Text → Text → Option Text
refusal pid reason name =
    Some (codes "profile=1 mode=enforcing granted=no verdict=" ++ reason ++ codes " pid=" ++ pid ++ codes " ppid=0 uid=0 euid=0 suid=0 fsuid=0 gid=0 egid=0 sgid=0 fsgid=0\n<kernel>\nfile read " ++ name ++ codes "\n\n")

left_alone_run : Plays left_alone (Turn.Desk ∷ Turn.Tree 1 ∷ Turn.Tree 1 ∷ Turn.Tree 2 ∷ Turn.Tree 2 ∷ Turn.Desk ∷ []) (record {
  steps = attached ∷ asked 0 (codes "file read /x") 1 ∷ asked 0 (codes "file read /y") 2 ∷ detached ∷ ended 2 ∷ ended 1 ∷ [];
  takes =
      take 7 0 0 false (look 1 Mode.Enforcing Reason.Ask Move.Stay (2 ∷ []) (heard Answered.Detached 4) ∷ []) (refusal (codes "7") (codes "ask") (codes "/x"))
      ∷ take 7 0 0 false (look 4 Mode.Enforcing Reason.NoEntry Move.Stay [] None ∷ []) (refusal (codes "7") (codes "no_entry") (codes "/z"))
      ∷ take 8 0 0 false (look 2 Mode.Enforcing Reason.Ask Move.Stay (3 ∷ []) (heard Answered.Detached 4) ∷ []) (refusal (codes "8") (codes "ask") (codes "/y"))
      ∷ [];
})
unfolding computed
left_alone_run = record { number_of_rounds = 3; over = (refl, (refl, (refl, tt))); run_is = refl }

-- A deleted domain goes on for the process in it, and a new one of its name is made by another
-- process

abbrev deleted : Scene
deleted =
    scene
    (policy_of kernel_namespace (domain «<kernel>» 2 [] ∷ domain (codes "<kernel> /s") 1 (read_x ∷ []) ∷ []))
    (record (tree 7 (read (codes "/x") ∷ [])) { start = codes "<kernel> /s" } ∷ tree 8 (execute (codes "/s") (codes "/s") (codes "x") ∷ []) ∷ [])
    (admin 0 ((FileKind.Domain, codes "delete <kernel> /s") ∷ []) ∷ [])
    None

deleted_run : Plays deleted (Turn.Editor 1 ∷ []) (record {
  steps = edit 1 (FileKind.Domain, codes "delete <kernel> /s") EditReply.Done ∷ added 0 (execute_line (codes "/s") (codes "/s") (codes "x")) ∷ made 0 (codes "<kernel> /s") 2 ∷ [];
  takes =
      take 7 1 1 true (look 1 Mode.Enforcing (Reason.Entry (EntryPlace.Own 0)) Move.Stay [] None ∷ []) (Some (codes "profile=1 mode=enforcing granted=yes verdict=entry" ++ ids ++ codes "<kernel> /s\nfile read /x\n\n"))
      ∷ take 8 0 2 true (look 1 Mode.Learning Reason.Learn Move.Make (2 ∷ 3 ∷ []) None ∷ []) None
      ∷ [];
})
unfolding computed
deleted_run = record { number_of_rounds = 3; over = (refl, (refl, (refl, (refl, tt)))); run_is = refl }

-- A manual transition, granted where the line stands and denied in the domain that it made

abbrev manual_request : Text → Request
manual_request name = record { args = Args.Manual name; perm = 0; attributes = record { real_path = None; argv = []; envp = []; target = None; stats = [] } }

abbrev manual : Text → Scene
manual name =
    scene
    (policy_of kernel_namespace (domain «<kernel>» 1 (record { args = Args.Manual name; perms = record { bits = 1 }; cond = record { clauses = []; grant_log = None } } ∷ []) ∷ []))
    (tree 7 (manual_request name ∷ manual_request name ∷ []) ∷ [])
    []
    None

abbrev manual_look : ℕ → Reason → Move → List ℕ → Look
manual_look version reason move own = record { version = version; mode = None; reason = reason; step = move; own = own; heard = None }

manual_run : Plays (manual (codes "<kernel> /m")) [] (record {
  steps = made 0 (codes "<kernel> /m") 1 ∷ [];
  takes =
      take 7 0 1 true (manual_look 0 (Reason.Entry (EntryPlace.Own 0)) Move.Make (1 ∷ []) ∷ []) None
      ∷ take 7 1 1 false (manual_look 1 Reason.NoManual Move.Stay [] ∷ []) None
      ∷ [];
})
unfolding computed
manual_run = record { number_of_rounds = 3; over = (refl, (refl, tt)); run_is = refl }

-- another namespace can't be made
manual_other : Plays (manual (codes "</other>")) [] (record {
  steps = [];
  takes =
      take 7 0 0 false (manual_look 0 Reason.NotReady Move.Stay [] ∷ []) None
      ∷ take 7 0 0 false (manual_look 0 Reason.NotReady Move.Stay [] ∷ []) None
      ∷ [];
})
unfolding computed
manual_other = record { number_of_rounds = 2; over = (refl, (refl, tt)); run_is = refl }

-- The run of two trees is legal, and each way of spoiling it breaks the clause that it should

abbrev twice_of : Reply → ℕ → Bool → Run
twice_of reply version granted =
    record {
      steps = added 0 read_x ∷ (Step.Learn 0 read_x, reply) ∷ [];
      takes =
          take 7 0 0 true (look 0 Mode.Learning Reason.Learn Move.Stay (1 ∷ []) None ∷ []) None
          ∷ take 8 0 0 granted (look version Mode.Learning Reason.Learn Move.Stay (2 ∷ []) None ∷ []) None
          ∷ [];
    }

abbrev there : Reply
there = Reply.Learn LearnReply.There

twice_own : (number : ℕ) → times number (own_numbers (twice_of there 0 true).takes) ≡ times_owned (step_at (twice_of there 0 true).steps number)
unfolding computed
twice_own zero = refl
twice_own (suc zero) = refl
twice_own (suc (suc zero)) = refl
twice_own (suc (suc (suc n))) = rw (ne_eqb 1 (suc (suc (suc n))) (λ e. omega arith), ne_eqb 2 (suc (suc (suc n))) (λ e. omega arith)) refl

twice_edits : (e : ℕ) (editor : Editor) → numbered twice.editors e ≡ Some editor → lines_of_editor e (twice_of there 0 true).steps ≡ editor.lines
twice_edits zero editor h = absurd cc
twice_edits (suc e) editor h = absurd cc

twice_legal : Legal twice (twice_of there 0 true)
unfolding computed
twice_legal =
    record {
      takes = record { pids = refl; looks = (lit≤ tt, (lit≤ tt, tt)) };
      versions = ((lit≤ tt, lit≤ tt, tt), ((lit≤ tt, lit≤ tt, tt), tt));
      verdicts = (
        record { before = refl; shown = ((_, refl, record { mode = refl; reason = refl; move = refl }), tt) },
        (record { before = refl; shown = ((_, refl, record { mode = refl; reason = refl; move = refl }), tt) }, tt),
      );
      own_steps = (
        (record { asked = refl; rising = (lit≤ tt, tt); after_yes = tt }, tt),
        ((record { asked = refl; rising = (lit≤ tt, tt); after_yes = tt }, tt), tt),
      );
      places = record { own = twice_own; edits = twice_edits; replies = (refl, (refl, tt)) };
      supervisor = refl;
      answers = (record { heard = (refl, tt); follow = (tt, refl) }, (record { heard = (refl, tt); follow = (tt, refl) }, tt));
      outcomes = (record { granted = refl; domain = refl; audit = refl }, (record { granted = refl; domain = refl; audit = refl }, tt));
    }

-- a denied take that its look grants has another outcome
twice_denied : ¬ OutcomesHold twice (twice_of there 0 false)
unfolding computed
twice_denied h = true≢false (sym h.1.0.granted)

-- a reply that the step doesn't have
twice_added : ¬ Replies twice.grammar (opening_of twice) (twice_of (Reply.Learn LearnReply.Added) 0 true).steps
unfolding computed
twice_added h = absurd cc

-- the second look at version 1, where the entry is there: another reason
an_entry : Some (Reason.Entry (EntryPlace.Own 0)) ≡ Some Reason.Learn → ⊥
an_entry e = absurd cc

twice_later : ¬ VerdictsHold twice (twice_of there 1 true)
unfolding computed
twice_later h = let second = h.1.0.shown.0 in an_entry (ap (option_map (λ (v : Verdict). v.reason)) second.1 ∙ sym (ap Some second.2.reason))

-- The run with a retried query is legal too

abbrev retried_expected : Run
retried_expected =
    record {
      steps =
          attached
          ∷ asked 0 (codes "file read /x") 1
          ∷ edit 1 select_line EditReply.Done
          ∷ edit 1 (FileKind.Domain, codes "file read /x") EditReply.Done
          ∷ (Step.Answer 1 3, Reply.Answer None)
          ∷ ended 1
          ∷ detached
          ∷ [];
      takes =
          take 7 0 0 true (look 1 Mode.Enforcing Reason.Ask Move.Stay (2 ∷ []) (heard Answered.Retry 5) ∷ look 5 Mode.Enforcing (Reason.Entry (EntryPlace.Own 0)) Move.Stay [] None ∷ [])
          (Some (codes "profile=1 mode=enforcing granted=yes verdict=entry" ++ ids ++ codes "<kernel>\nfile read /x\n\n"))
          ∷ [];
    }

retried_own : (number : ℕ) → times number (own_numbers retried_expected.takes) ≡ times_owned (step_at retried_expected.steps number)
retried_own zero = refl
retried_own (suc zero) = refl
retried_own (suc (suc zero)) = refl
retried_own (suc (suc (suc n))) = rw (ne_eqb 2 (suc (suc (suc n))) (λ e. omega arith)) (rest n)
  where
    rest : (n : ℕ) → 0 ≡ times_owned (step_at retried_expected.steps (suc (suc (suc n))))
    rest zero = refl
    rest (suc zero) = refl
    rest (suc (suc zero)) = refl
    rest (suc (suc (suc zero))) = refl
    rest (suc (suc (suc (suc zero)))) = refl
    rest (suc (suc (suc (suc (suc n))))) = refl

retried_edits : (e : ℕ) (editor : Editor) → numbered retried.editors e ≡ Some editor → lines_of_editor e retried_expected.steps ≡ editor.lines
retried_edits zero editor h = absurd cc
retried_edits (suc zero) editor h = cc
retried_edits (suc (suc e)) editor h = absurd cc

abbrev retried_book : Book
retried_book = record { rules = rule 1 Answer.No ∷ []; stop = None }

retried_by_book : AnswersByBook retried retried_expected.steps retried_book
unfolding computed
retried_by_book zero serial code h = absurd cc
retried_by_book (suc zero) serial code h = absurd cc
retried_by_book (suc (suc zero)) serial code h = absurd cc
retried_by_book (suc (suc (suc zero))) serial code h = absurd cc
retried_by_book (suc (suc (suc (suc zero)))) serial code h = (_, refl, cc, cc)
retried_by_book (suc (suc (suc (suc (suc zero))))) serial code h = absurd cc
retried_by_book (suc (suc (suc (suc (suc (suc zero)))))) serial code h = absurd cc
retried_by_book (suc (suc (suc (suc (suc (suc (suc n))))))) serial code h = absurd cc

nothing_held : (version : ℕ) → suc version ≡ 7 → first_query (state_at retried retried_expected.steps version).queries ≡ None
unfolding computed
nothing_held version e = rw (let six : version ≡ 6 = omega arith in six) refl

retried_ends : TreesEnd retried retried_expected
unfolding computed
retried_ends zero tree h = absurd cc
retried_ends (suc zero) tree h = (6, refl, (lit≤ tt, (lit≤ tt, (lit≤ tt, (lit≤ tt, tt)))))
retried_ends (suc (suc t)) tree h = absurd cc

retried_legal : Legal retried retried_expected
unfolding computed
retried_legal =
    record {
      takes = record { pids = refl; looks = (lit≤ tt, tt) };
      versions = ((lit≤ tt, lit≤ tt, (lit≤ tt, lit≤ tt, tt)), tt);
      verdicts = (
        record { before = refl; shown = ((_, refl, record { mode = refl; reason = refl; move = refl }), ((_, refl, record { mode = refl; reason = refl; move = refl }), tt)) },
        tt,
      );
      own_steps = ((record { asked = refl; rising = (lit≤ tt, tt); after_yes = tt }, (record { asked = refl; rising = tt; after_yes = tt }, tt)), tt);
      places = record { own = retried_own; edits = retried_edits; replies = (refl, (refl, (refl, (refl, (refl, (refl, (refl, tt))))))) };
      supervisor = (
        record {
          attach = 1;
          detach = 7;
          attached_once = refl;
          detached_once = refl;
          attached_first = lit≤ tt;
          answers_between = ((lit≤ tt, lit≤ tt), tt);
          answers_enough = tt;
          by_book = retried_by_book;
          due = inr ((lit≤ tt, tt), nothing_held);
        },
        retried_ends,
      );
      answers = (record { heard = ((Answered.Retry, 5, refl, lit≤ tt, lit≤ tt, refl), (refl, tt)); follow = (refl, refl, (tt, refl)) }, tt);
      outcomes = (record { granted = refl; domain = refl; audit = refl }, tt);
    }

-- A child begins with its parent's floor: its look may not fall below its parent's step

abbrev forked_scene : Scene
forked_scene =
    scene
    (policy_of kernel_namespace (domain «<kernel>» 2 [] ∷ []))
    (record { start = «<kernel>»; pid = 7; records = Item.Do 7 (read (codes "/x")) ∷ Item.Fork 7 8 ∷ Item.Do 8 (read (codes "/x")) ∷ [] } ∷ [])
    []
    None

forked_run : Plays forked_scene [] (record {
  steps = added 0 read_x ∷ [];
  takes =
      take 7 0 0 true (look 0 Mode.Learning Reason.Learn Move.Stay (1 ∷ []) None ∷ []) None
      ∷ take 8 0 0 true (look 1 Mode.Learning (Reason.Entry (EntryPlace.Own 0)) Move.Stay [] None ∷ []) None
      ∷ [];
})
unfolding computed
forked_run = record { number_of_rounds = 3; over = (refl, (refl, tt)); run_is = refl }

abbrev forked_early : Run
forked_early =
    record {
      steps = added 0 read_x ∷ [];
      takes =
          take 7 0 0 true (look 0 Mode.Learning Reason.Learn Move.Stay (1 ∷ []) None ∷ []) None
          ∷ take 8 0 0 true (look 0 Mode.Learning Reason.Learn Move.Stay [] None ∷ []) None
          ∷ [];
    }

child_is_early : ¬ VersionsRise forked_scene forked_early
unfolding computed
child_is_early h = let floor : 1 ≤ 0 = h.1.0.0 in omega arith
