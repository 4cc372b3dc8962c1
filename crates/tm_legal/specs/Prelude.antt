-- The definitions of what a run is, passed on from one place. Declares nothing.
pub use Rattle.tm_legal.specs.Cases.{IsLegalTake, LegalTakesMakeLegalRuns, LookDone, TreePlayed}
pub use Rattle.tm_legal.specs.Clean.{SameDomains, domain_names, name_at, switched_config, switched_mode, switched_profile}
unfoldable pub use Rattle.tm_legal.specs.Clean.{switched}
pub use Rattle.tm_legal.specs.Legal.{AfterAnswer, AnswersAreHeard, AnswersByBook, AsksWith, DetachIsDue, EachCase, EndsWith, Hears, IsShown, Legal, LookHears, LookHolds, LooksFollow, LooksRise, MakesAfterYes, NoLookBeforeAttach, OutcomesHold, OwnSteps, Replies, RisesFrom, Scene, StepsAreAsked, StepsHavePlaces, Subject, Supervised, SupervisorActs, TakeHears, TakeHolds, TakesInOrder, TreesEnd, VerdictsHold, VersionsRise, cases_of, domain_after, edit_line, final_policy, grants_with, is_answer, is_attach, is_detach, is_end, is_of_supervisor, is_own, is_retry, is_some_end, is_yes, last_look, last_number, lines_of_editor, look_grants, made_number, newest, opening_of, own_numbers, retry_of, retry_written, seen_by_tree, state_at, steps_of_line, steps_of_move, subject_of, times, times_owned, verdict_at}
unfoldable pub use Rattle.tm_legal.specs.Legal.{steps_asked}
pub use Rattle.tm_legal.specs.Needs.{CanGoOn, IsJudged, Needs, NextIsJudged, StageFits, TreeFits}
pub use Rattle.tm_legal.specs.Play.{CanPlay, EveryEventIsWork, EveryPlayEnds, EveryPlayIsLegal, EveryStopIsFinished, HasEnded, InProgress, IsFinished, IsNamed, IsOpened, NobodyCanMove, Player, Plays, Settled, Stage, Way, after_answer, after_step, all_ended, begun_left, book_ends, desk_left, editor_event, ended_way, ends_so, entered, everybody, going_on, has_step, is_first, is_reached, lines_left, looks_left, most_retries, number_of_answers, numbers_to, on_way, passed, play_left, retries_of, run_of, stage_left, start_of, steps_left, take_event, taken, unanswered, way_left, ways_left, with_heard, with_own}
unfoldable pub use Rattle.tm_legal.specs.Play.{desk_turn, end_tree, event, first_look, left_with, line_event, look_at, own_turn, own_turns, player_event, rounds, settle, stage_event, supervisor_step, tree_event, turn, turns}
pub use Rattle.tm_legal.specs.Replay.{CleanRunGrows, DomainGrows, DomainsStay, EntriesGrow, Execute, FirstExecuteStays, FoundLine, Grows, IsLearnedLine, IsLive, LearnedLinesGrant, LearnedRunRepeats, LooksRepeat, NamespaceGrows, NoFewer, OwnLineGrants, Repeats, StaysLearned, alone, execute_found, execute_line, execute_request, is_repeated, line_found, nobody, rerun_scene}
pub use Rattle.tm_legal.specs.Run.{Case, History, Situation, Situations, after_take, all_do_pids, at_start, cases, do_pids, forked, heard_version, last_from, pid_of_do, places, places_from, raised, reply_at, seen, step_at, steps_of, with_ids, with_situation}
unfoldable pub use Rattle.tm_legal.specs.Run.{cases_from, tree_cases}
pub use Rattle.tm_legal.specs.Stages.{Agrees, AllAgree, Begins, DomainIn, EndsMake, FollowsTo, Leads, LineFits, Looked, MoveFits, NoMake, NotAsk, Ready, RisesTo, Settles, StageHolds, ToAsk, Waits, is_make, subject_now}
pub use Rattle.tm_legal.specs.Steps.{Applied, State, ask_step, at, edit_by, end_step, fits, fits_entry, fits_name, on_policy, on_queries, opening, unfit}
unfoldable pub use Rattle.tm_legal.specs.Steps.{after, apply, edit_step}
pub use Rattle.tm_legal.specs.Verdict.{by_entry, denied, in_mode, is_enforcing, is_granting, is_ready, made, moving, verdict_in, with_line}
unfoldable pub use Rattle.tm_legal.specs.Verdict.{by_mode, execute_verdict, manual_verdict, move_to, verdict}
