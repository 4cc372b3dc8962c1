-- Worked examples: the runs that texts are read as, and the first lines with which a text can't go
-- on.
use Rattle.std.specs.Prelude.{◌≡◌, true, false, List, [], ◌∷◌, Some, None, Ok, Err, codes, refl}
use Rattle.std.specs.Fmt.{digits}
use Rattle.tm_word.specs.Prelude.{head_of, spelled_word, word_of, words_of}
use Rattle.tm_number.specs.Numbers.{value_of, plain_of}
use Rattle.tm_number.specs.Numbers.{number_of as numeral_of}
use Rattle.tm_pattern.specs.Tokens.{token_at}
use Rattle.tm_rules.specs.Types.{AnswerFault, Answered, EditReply, EntryPlace, FileKind, Heard, Held, LineKind, Look, Mode, Move, Reason, Reply, Run, Step, Take}
use Rattle.tm_run.specs.Fields.{number_of, mode_of, reason_of, move_of, numbers_of, answer_of, heard_of, file_of}
use Rattle.tm_run.specs.Replies.{held_of, fault_of, kind_of, edited_of, edit_of}
use Rattle.tm_run.specs.StepWords.{step_in, step_of}
use Rattle.tm_run.specs.Reading.{take_of, look_of, audit_of, line_read, lines_of, run_of}

-- nothing, another first line, and a first line without its end
pub no_run : run_of (codes "") ≡ Err 1
unfolding run_of lines_of
no_run = refl

pub other_run : run_of (codes "run 2\n") ≡ Err 1
unfolding run_of lines_of
other_run = refl

pub unended : run_of (codes "run 1") ≡ Err 1
unfolding run_of lines_of
unended = refl

-- takes are numbered from 1
pub second_take : run_of (codes "run 1\ntake 2 7 0 0 granted\n") ≡ Err 2
unfolding run_of lines_of line_read words_of take_of number_of plain_of numeral_of value_of digits
second_take = refl

-- a number has no leading zero
pub leading_zero : run_of (codes "run 1\ntake 1 07 0 0 granted\n") ≡ Err 2
unfolding run_of lines_of line_read words_of take_of number_of plain_of numeral_of value_of digits
leading_zero = refl

-- the audit line of the last take is missing
pub no_audit : run_of (codes "run 1\ntake 1 7 0 0 granted\n") ≡ Err 3
unfolding run_of lines_of line_read words_of take_of number_of plain_of numeral_of value_of digits
no_audit = refl

-- a take with one look that heard an answer, and with an audit text
pub asked : Take
asked =
    let heard : Heard = record { answer = Some Answered.No; version = 14 } in
    let look : Look = record { version = 3; mode = Some Mode.Learning; reason = Reason.Entry (EntryPlace.Acl 2 5); step = Move.Enter 4; own = 1 ∷ 12 ∷ []; heard = Some heard } in
    record { pid = 7; before = 0; after = 4; granted = true; looks = look ∷ []; audit = Some (codes "a b") }

pub one_take : Run
one_take = record { steps = []; takes = asked ∷ [] }

pub read : run_of (codes "run 1\ntake 1 7 0 4 granted\nlook 3 learning group:2:5 enter:4 1,12 no@14\naudit a\\040b\n") ≡ Ok one_take
unfolding run_of lines_of line_read words_of take_of look_of audit_of number_of plain_of numeral_of value_of digits mode_of reason_of move_of numbers_of answer_of heard_of spelled_word word_of head_of token_at one_take asked
read = refl

-- ---- steps

-- marks, answers and ends
pub numbered_steps : List (Step × Reply)
numbered_steps = (Step.Fail 3, Reply.Fail true) ∷ (Step.Attach, Reply.Attach true) ∷ (Step.Answer 7 1, Reply.Answer (Some AnswerFault.NoQuery)) ∷ (Step.Answer 1 2, Reply.Answer None) ∷ (Step.Detach, Reply.Detach false) ∷ (Step.End 1, Reply.End) ∷ []

pub numbered_read : run_of (codes "run 1\nstep 1 set fail 3\nstep 2 done attach\nstep 3 no_query answer 7 1\nstep 4 done answer 1 2\nstep 5 was detach\nstep 6 done end 1\n") ≡ Ok (record { steps = numbered_steps; takes = [] })
unfolding run_of lines_of line_read words_of step_of step_in number_of plain_of numeral_of value_of digits fault_of numbered_steps
numbered_read = refl

-- a question and an edit, each with its line
pub lined_steps : List (Step × Reply)
lined_steps =
    (Step.Ask 0 2 (codes "file read /a"), Reply.Ask (Held.Serial 3)) ∷ (Step.Edit 1 FileKind.Domain (codes "a"), Reply.Edit (EditReply.BadLine LineKind.Arity)) ∷ (Step.Edit 1 FileKind.Manager (codes "/b c"), Reply.Edit EditReply.NotManager)
    ∷ []

pub lined_read : run_of (codes "run 1\nstep 1 held:3 ask 0 2 file read /a\nstep 2 bad:arity edit 1 domain_policy a\nstep 3 not_manager edit 1 manager /b c\n") ≡ Ok (record { steps = lined_steps; takes = [] })
unfolding run_of lines_of line_read words_of step_of step_in number_of plain_of numeral_of value_of digits held_of edit_of edited_of kind_of file_of lined_steps
lined_read = refl

-- a reply of another kind
pub other_reply : run_of (codes "run 1\nstep 1 done fail 0\n") ≡ Err 2
unfolding run_of lines_of line_read words_of step_of step_in number_of plain_of numeral_of value_of digits
other_reply = refl

-- a gap in the numbers
pub second_step : run_of (codes "run 1\nstep 1 set fail 0\nstep 3 was fail 0\n") ≡ Err 3
unfolding run_of lines_of line_read words_of step_of step_in number_of plain_of numeral_of value_of digits
second_step = refl

-- a question without a line, and one with two spaces in it
pub no_line : run_of (codes "run 1\nstep 1 nobody ask 0 0\n") ≡ Err 2
unfolding run_of lines_of line_read words_of step_of step_in number_of plain_of numeral_of value_of digits
no_line = refl

pub two_spaces : run_of (codes "run 1\nstep 1 nobody ask 0 0 file  read\n") ≡ Err 2
unfolding run_of lines_of line_read words_of step_of step_in number_of plain_of numeral_of value_of digits held_of
two_spaces = refl

-- a step after a take, and a last line without its end
pub late_step : run_of (codes "run 1\ntake 1 7 0 0 granted\naudit -\nstep 1 set fail 0\n") ≡ Err 4
unfolding run_of lines_of line_read words_of take_of audit_of number_of plain_of numeral_of value_of digits
late_step = refl

pub cut_step : run_of (codes "run 1\nstep 1 set fail 0") ≡ Err 2
unfolding run_of lines_of line_read words_of step_of step_in number_of plain_of numeral_of value_of digits
cut_step = refl

-- no such step
pub no_step : run_of (codes "run 1\nstep 1 done wait 1\n") ≡ Err 2
unfolding run_of lines_of line_read words_of step_of step_in
no_step = refl
