-- The lines of the steps of a run.
use Rattle.std.specs.Prelude.{ℕ, ◌+◌, Bool, true, false, List, [], ◌∷◌, ◌++◌, Option, Some, None, decimal, codes}
use Rattle.tm_word.specs.Prelude.{Text, joined}
use Rattle.tm_rules.specs.Types.{AnswerFault, Held, MakeReply, Reply, Step, edit_text, learn_text, policy_text}
use Rattle.tm_entry.specs.Entries.{entry_words}

-- the number of the new domain, or of the live one of that name
abbrev pub make_text : MakeReply → Text
make_text (MakeReply.New domain) = codes "new:" ++ decimal domain
make_text (MakeReply.Old domain) = codes "old:" ++ decimal domain

-- the domain is marked, or it was before
abbrev pub fail_text : Bool → Text
fail_text true = codes "set"
fail_text false = codes "was"

-- the serial that the query draws; `nobody` where no supervisor is attached
abbrev pub held_text : Held → Text
held_text Held.Nobody = codes "nobody"
held_text (Held.Serial serial) = codes "held:" ++ decimal serial

-- why an answer has no effect
abbrev pub fault_text : AnswerFault → Text
fault_text AnswerFault.NoQuery = codes "no_query"
fault_text AnswerFault.Answered = codes "answered"
fault_text AnswerFault.BadAnswer = codes "bad"

-- and `done` where it has
abbrev pub answer_reply_text : Option AnswerFault → Text
answer_reply_text None = codes "done"
answer_reply_text (Some fault) = fault_text fault

-- the supervisor comes or goes, or it was so before
abbrev pub change_text : Bool → Text
change_text true = codes "done"
change_text false = codes "was"

-- the word of a reply
abbrev pub reply_text : Reply → Text
reply_text (Reply.Learn reply) = learn_text reply
reply_text (Reply.Make reply) = make_text reply
reply_text (Reply.Fail set) = fail_text set
reply_text (Reply.Ask held) = held_text held
reply_text (Reply.Answer fault) = answer_reply_text fault
reply_text (Reply.Attach changed) = change_text changed
reply_text (Reply.Detach changed) = change_text changed
reply_text (Reply.Edit reply) = edit_text reply
reply_text Reply.End = codes "done"

-- the words of a step: its domain, editor or tree by number, an entry by its line, and a name or
-- another line as it is
abbrev pub step_text : Step → Text
step_text (Step.Learn domain entry) =
    codes "learn " ++ decimal domain ++ 32 ∷ joined (entry_words entry)
step_text (Step.Make domain name) = codes "make " ++ decimal domain ++ 32 ∷ name
step_text (Step.Fail domain) = codes "fail " ++ decimal domain
step_text (Step.Ask domain retry line) =
    codes "ask " ++ decimal domain ++ 32 ∷ decimal retry ++ 32 ∷ line
step_text (Step.Answer serial code) = codes "answer " ++ decimal serial ++ 32 ∷ decimal code
step_text Step.Attach = codes "attach"
step_text Step.Detach = codes "detach"
step_text (Step.Edit editor file line) =
    codes "edit " ++ decimal editor ++ 32 ∷ policy_text file ++ 32 ∷ line
step_text (Step.End tree) = codes "end " ++ decimal tree

-- the line of the step with that number: its reply, and its words
abbrev pub step_line : ℕ → Step × Reply → Text
step_line number pair =
    codes "step " ++ decimal number ++ 32 ∷ reply_text pair.1 ++ 32 ∷ step_text pair.0 ++ 10 ∷ []

-- the lines of steps, of which the first has the number after `count`
abbrev pub steps_text : ℕ → List (Step × Reply) → Text
steps_text count [] = []
steps_text count (pair ∷ steps) = step_line (count + 1) pair ++ steps_text (count + 1) steps
