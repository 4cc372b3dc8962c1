-- The run that workers have made who took processes from each other.
use Rattle.std.proofs.Common.{◌≡◌, List, length, map, refl, ap, ◌∙◌, subst}
use Rattle.tm_rules.specs.Types.{Book, Run, Start, Take}
use Rattle.tm_rules.specs.Prelude.{Trace}
use Rattle.tm_replay.specs.Tomoyo.{tomoyo_grammar}
use Rattle.tm_legal.specs.Prelude.{CanPlay, Legal, NoLookBeforeAttach, Replies, State, opening, opening_of}
use Rattle.tm_made.specs.Made.{history_made, told_from, steps_made}
use Rattle.tm_made.proofs.Telling.{told-again}
use Rattle.tm_joint.specs.Joint.{takes_in}
use Rattle.tm_replay.specs.Machine.{Course, history_of}
use Rattle.tm_replay.specs.Office.{list_of}
use Rattle.tm_replay.proofs.Offices.{course-steps}
use Rattle.tm_replay.specs.PlayedTree.{PlayedTree}
use Rattle.tm_replay.specs.Rows.{row_of}
use Rattle.tm_replay.specs.Replayed.{scene_of, run_of}
use Rattle.tm_steal_rows.specs.Stolen.{StolenRunsAreLegal}
use Rattle.tm_steal.specs.declared.board.Hand.{Hand}
use Rattle.tm_steal.specs.Boards.{AreStolen}

-- the course's history is that of its list
told : (course : Course) (start : Start) (trace : Trace) (book : Book) → course.start ≡ start → length trace ≡ start.trees → Replies tomoyo_grammar (opening course.start) (history_of course) → history_made (scene_of start trace book) (list_of course) ≡ history_of course
told course start trace book same trees replies =
    let opened : opening_of (scene_of start trace book) ≡ opening course.start = rw (trees, same) refl in
    ap (λ (s : State). told_from tomoyo_grammar s (steps_made (list_of course))) opened
    ∙ ap (told_from tomoyo_grammar (opening course.start)) (course-steps course)
    ∙ told-again tomoyo_grammar (opening course.start) (history_of course) replies

-- it is legal, and no look is older than the supervisor's coming
pub stolen-run : StolenRunsAreLegal Hand → (start : Start) (trace : Trace) (book : Book) (course : Course) (rows : List PlayedTree) (takes : List Take) → course.start ≡ start → length trace ≡ start.trees → CanPlay (scene_of start trace book) → Replies tomoyo_grammar (opening course.start) (history_of course) → AreStolen start trace book (list_of course) rows → takes ≡ takes_in (map row_of rows) → (let run : Run = record { steps = history_of course; takes = takes } in Legal (scene_of start trace book) run × NoLookBeforeAttach run)
stolen-run law start trace book course rows takes same trees can replies (hands, stolen) are =
    let steps : history_made (scene_of start trace book) (list_of course) ≡ history_of course = told course start trace book same trees replies in
    let is : run_of start trace book (list_of course) rows ≡ (let run : Run = record { steps = history_of course; takes = takes } in run) = rw (steps, are) refl in
    let both = law start trace book hands (list_of course) rows trees can stolen in
    (subst (Legal (scene_of start trace book)) is both.0, subst NoLookBeforeAttach is both.1)
