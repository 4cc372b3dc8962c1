-- Worked examples: the text of a run with two takes, and those of runs with steps.
use Rattle.std.specs.Prelude.{◌≡◌, Bool, true, false, List, [], ◌∷◌, ◌++◌, Some, None, codes, refl}
use Rattle.std.specs.Fmt.{digits}
use Rattle.tm_rules.specs.Types.{AnswerFault, Args, EditReply, Element, Entry, EntryPlace, FileKind, Held, LearnReply, LineKind, Look, MakeReply, Mode, Move, NameUnion, Reason, Repeat, Reply, Run, Step, Take}
use Rattle.tm_word.specs.Prelude.{spelled_pattern}
use Rattle.tm_line.specs.Permissions.{perm_on}
use Rattle.tm_line.specs.Printing.{name_spelling}
use Rattle.tm_entry.specs.FileLines.{file_words}
use Rattle.tm_entry.specs.Reading.{cond_words}
use Rattle.tm_entry.specs.Entries.{acl_words, entry_words}
use Rattle.tm_run.specs.RunText.{run_text}

-- a look in mode enforcing at version 0 that stays where it is
pub look_of : Reason → Look
look_of reason = record { version = 0; mode = Some Mode.Enforcing; reason = reason; step = Move.Stay; own = []; heard = None }

-- a take of process 7 in domain 0 with one look
pub take_of : Bool → Reason → Take
take_of granted reason = record { pid = 7; before = 0; after = 0; granted = granted; looks = look_of reason ∷ []; audit = None }

-- a request that the first entry grants, and one that no entry grants
pub two : Run
two = record { steps = []; takes = take_of true (Reason.Entry (EntryPlace.Own 0)) ∷ take_of false Reason.NoEntry ∷ [] }

-- each take has its line, its look and its audit line
pub two_takes
    : run_text two
    ≡ codes "run 1\n"
    ++ codes "take 1 7 0 0 granted\nlook 0 enforcing entry:0 stay - -\naudit -\n"
    ++ codes "take 2 7 0 0 denied\nlook 0 enforcing no_entry stay - -\naudit -\n"
unfolding run_text two take_of look_of digits
two_takes = refl

-- a run of these steps and no take
pub run_of : List (Step × Reply) → Run
run_of steps = record { steps = steps; takes = [] }

-- steps stand by number after the first line; a name and a line of a policy file stand as they are
pub made_and_edited
    : run_text (run_of ((Step.Make 0 (codes "<kernel> /a"), Reply.Make (MakeReply.New 1)) ∷ (Step.Edit 1 FileKind.Exception (codes "acl_group 0"), Reply.Edit (EditReply.BadLine LineKind.Arity)) ∷ []))
    ≡ codes "run 1\nstep 1 new:1 make 0 <kernel> /a\nstep 2 bad:arity edit 1 exception_policy acl_group 0\n"
unfolding run_text run_of digits
made_and_edited = refl

-- a query's line has the domain and the retry number, and its answer the serial and the code
pub asked_and_answered
    : run_text (run_of ((Step.Attach, Reply.Attach true) ∷ (Step.Ask 0 2 (codes "file read /x"), Reply.Ask (Held.Serial 1)) ∷ (Step.Answer 1 3, Reply.Answer None) ∷ (Step.End 1, Reply.End) ∷ []))
    ≡ codes "run 1\nstep 1 done attach\nstep 2 held:1 ask 0 2 file read /x\nstep 3 done answer 1 3\nstep 4 done end 1\n"
unfolding run_text run_of digits
asked_and_answered = refl

-- a mark that stood before, a supervisor that had gone, an answer that names no query
pub was_so
    : run_text (run_of ((Step.Fail 2, Reply.Fail false) ∷ (Step.Detach, Reply.Detach false) ∷ (Step.Answer 9 1, Reply.Answer (Some AnswerFault.NoQuery)) ∷ []))
    ≡ codes "run 1\nstep 1 was fail 2\nstep 2 was detach\nstep 3 no_query answer 9 1\n"
unfolding run_text run_of digits
was_so = refl

-- the entry `file read` on the path `/c`, without conditions
pub read_c : Entry
read_c =
    record {
      args = Args.Path (NameUnion.One (record { first = []; minus = []; repeat = Repeat.Once } ∷ record { first = Element.Byte 99 ∷ []; minus = []; repeat = Repeat.Once } ∷ []));
      perms = record { bits = 2 };
      cond = record { clauses = []; grant_log = None };
    }

-- a learned line is printed as entries are
pub learned
    : run_text (run_of ((Step.Learn 0 read_c, Reply.Learn LearnReply.Added) ∷ (Step.Learn 0 read_c, Reply.Learn LearnReply.Quota) ∷ []))
    ≡ codes "run 1\nstep 1 added learn 0 file read /c\nstep 2 quota learn 0 file read /c\n"
unfolding run_text run_of read_c digits entry_words acl_words file_words perm_on cond_words name_spelling spelled_pattern
learned = refl
