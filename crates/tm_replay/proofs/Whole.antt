-- All jobs of a replay, from their beginning to the run that they have made.
use Rattle.std.proofs.Common.{◌≡◌, ◌<◌, ℕ, List, [], ◌∷◌, ◌++◌, length, map, Bool, true, false, true≢false, refl, sym, ap, ◌∙◌, subst, append-nil, append_assoc}
use Rattle.std.specs.Prelude.{Option, Some, None, slice_get, slice_index_or, take}
use Rattle.std.specs.List.{AllByRecursion}
use Rattle.std.specs.Option.{IfSome}
use Rattle.std.proofs.lemmas.List.{map-append}
use Rattle.tm_rules.specs.Types.{Book, Made, Run, Start, Take}
use Rattle.tm_rules.specs.Prelude.{Trace}
use Rattle.tm_machine.specs.Written.{IsTrace}
use Rattle.tm_machine.specs.Tomoyo.{tomoyo_grammar}
use Rattle.tm_legal.specs.Prelude.{CanPlay, Legal, NoLookBeforeAttach, Replies, State, after, final_policy, opening, opening_of, steps_of}
use Rattle.tm_made.specs.Made.{history_made, told_from, steps_made}
use Rattle.tm_made.proofs.Telling.{told-again}
use Rattle.tm_joint.specs.Joint.{takes_in}
use Rattle.tm_joint.proofs.Rows.{All-left, All-right}
use Rattle.tm_machine.specs.Machine.{Course, history_of}
use Rattle.tm_machine.specs.Machine as machine
use Rattle.tm_machine.specs.Office.{list_of}
use Rattle.tm_machine.proofs.Offices.{course-steps}
use Rattle.tm_publish.specs.declared.front.Front.{Front}
use Rattle.tm_publish.specs.declared.pass.Pass.{Pass}
use Rattle.tm_publish.specs.Words.{home, front_home, front_list, IsFresh}
use Rattle.tm_serve.specs.Serving as serving
use Rattle.tm_seat.specs.declared.tree.PlayedTree.{PlayedTree}
use Rattle.tm_seat.specs.declared.tree.TreeToPlay.{TreeToPlay}
use Rattle.tm_seat.specs.Seats.{FitsFrom}
use Rattle.tm_seat.specs.Rows.{row_of}
use Rattle.tm_seat.specs.Dealing.{hand_of}
use Rattle.tm_seat.specs.declared.part.Part.{Part}
use Rattle.tm_take.specs.Each.{EachWith}
use Rattle.tm_seat.specs.Parts.{coming, trees_from, editor_parts, working_parts, desk_parts, CanBegin, IsWorking, PartWaits, PartIsDone, Deed, PlayedTogether}
use Rattle.tm_seat.specs.Replayed.{scene_of, AreDealt, Replayed, run_of, ReplayedRunsAreLegal}
use Rattle.tm_seat.proofs.Lists.{All-at, get-map, get-mapped}
use Rattle.tm_replay.specs.Jobs.{IsJob, JobIsDone, StartsFrom, JobStarts, HasComing, EachIsDone, ArePlayed}
use Rattle.tm_replay.specs.Beginnings.{HaveBegun}
use Rattle.tm_replay.specs.Replays.{AreAllPlayed}
use Rattle.tm_replay.proofs.Beginning.{starts-come, jobs-more}
use Rattle.tm_replay.proofs.Courses.{course-fitted}
use Rattle.tm_replay.proofs.Given.{All-index, index-there, WaitsOrServes, all-serve, job-given, JobEnds, job-ends, Ended, ends-all, done-all}

module _ {L O H : Type 0} {n : _} {l : _} {o : _} {J : Type 0} (part_of : J → Option (Part H)) (pass_of : J → Option (Pass L O Start Made n l o)) where
  pub began-lone : (parts : List (Part H)) (passes : List (Pass L O Start Made n l o)) (jobs : List J) → map part_of jobs ≡ map Some parts → ((start : Start) → AllByRecursion (IsFresh start) passes → Some start ≡ Some start → AllByRecursion IsWorking parts → AllByRecursion (λ j. JobStarts start [] (part_of j) (pass_of j)) jobs) → HaveBegun part_of pass_of false parts passes jobs
  began-lone parts passes jobs are starts =
      record {
        parts_are = are ∙ ap (map Some) (sym (append-nil parts));
        starts = λ start fresh waits. ([], (λ stands. absurd (true≢false (sym stands))), starts start fresh refl waits);
      }

  pub began-supervised : (parts : List (Part H)) (passes rest : List (Pass L O Start Made n l o)) (before pass : Pass L O Start Made n l o) (front : Front L O Start Made n l o) (jobs more : List J) (job : J) → passes ≡ rest ++ before ∷ [] → serving.HasCome coming before pass front → front_home front ≡ home before → home pass ≡ home before → map part_of jobs ≡ map Some parts → ((start : Start) → AllByRecursion (IsFresh start) rest → front_home front ≡ Some start → AllByRecursion IsWorking parts → AllByRecursion (λ j. JobStarts start (front_list front) (part_of j) (pass_of j)) jobs) → more ≡ jobs ++ job ∷ [] → part_of job ≡ Some Part.Desk → pass_of job ≡ Some pass → HaveBegun part_of pass_of true parts passes more
  began-supervised parts passes rest before pass front jobs more job popped come board opened are starts pushed of_part of_pass =
      record {
        parts_are = ap (map part_of) pushed ∙ map-append part_of jobs (job ∷ []) ∙ ap (λ (ps : List (Option (Part H))). ps ++ part_of job ∷ []) are ∙ ap (λ (p : Option (Part H)). map Some parts ++ p ∷ []) of_part ∙ sym (map-append Some parts (Part.Desk ∷ []));
        starts = λ start fresh waits.
            let fresh_all : AllByRecursion (IsFresh start) (rest ++ before ∷ []) = subst (AllByRecursion (IsFresh start)) popped fresh in
            let fresh_last : IsFresh start before = (All-right (IsFresh start) rest (before ∷ []) fresh_all).0 in (
              front_list front,
              (λ stands. (come.number, come.there)),
              subst (AllByRecursion (λ j. JobStarts start (front_list front) (part_of j) (pass_of j))) (sym pushed)
                  (jobs-more part_of pass_of start (front_list front) jobs job
                  (starts start (All-left (IsFresh start) rest (before ∷ []) fresh_all) (board ∙ fresh_last.opened) waits)
                  (desk-starts start (part_of job) (pass_of job) of_part of_pass (starts-come start before pass front fresh_last opened come))),
            );
      }
    where
      desk-starts : (start : Start) (p : Option (Part H)) (q : Option (Pass L O Start Made n l o)) → p ≡ Some Part.Desk → q ≡ Some pass → StartsFrom {H = H} start (front_list front) Part.Desk pass → JobStarts {H = H} start (front_list front) p q
      desk-starts start p q p_is q_is h = subst (λ (x : Option (Part H)). JobStarts start (front_list front) x q) (sym p_is) (subst (λ (y : Option (Pass L O Start Made n l o)). JobStarts {H = H} start (front_list front) (Some Part.Desk) y) (sym q_is) h)

  -- each job has what it needs
  pub began-given : (Ready : Start → H → Type 0) (start : Start) (attached : List Made) (supervised : Bool) (parts : List (Part H)) (jobs : List J) (k : ℕ) (d : J) → CanBegin start → supervised ≡ start.desk → map part_of jobs ≡ map Some (parts ++ desk_parts supervised) → AllByRecursion (PartWaits Ready start) parts → AllByRecursion (λ j. JobStarts start attached (part_of j) (pass_of j)) jobs → k < length jobs → IsJob Ready supervised (part_of (slice_index_or jobs k d)) (pass_of (slice_index_or jobs k d))
  began-given Ready start attached supervised parts jobs k d can stands are waits all lt =
      let there : slice_get (map part_of jobs) k ≡ Some (part_of (slice_index_or jobs k d)) = get-map part_of jobs k (slice_index_or jobs k d) (index-there jobs k d lt) in
      let (its, its_at, is) = get-mapped Some (parts ++ desk_parts supervised) k (part_of (slice_index_or jobs k d)) (subst (λ (l : List (Option (Part H))). slice_get l k ≡ Some (part_of (slice_index_or jobs k d))) are there) in
      job-given Ready start attached supervised (part_of (slice_index_or jobs k d)) (pass_of (slice_index_or jobs k d)) its (sym is)
      (All-at (WaitsOrServes Ready start) (parts ++ desk_parts supervised) k its (all-serve Ready start parts supervised waits) its_at)
      can stands
      (All-index (λ j. JobStarts start attached (part_of j) (pass_of j)) jobs k d all lt)

  -- what all jobs have come to
  pub played-at : {D : Type 0} (Did : Start → ℕ → H → Deed D → Type 0) (rows_of : J → Option (List D)) (start : Start) (book : Book) (supervised : Bool) (parts : List (Part H)) (attached : List Made) (old new : List J) (passes : List (Pass L O Start Made n l o)) (rows : Option (List (List D))) → supervised ≡ start.desk → map part_of old ≡ map Some (parts ++ desk_parts supervised) → HasComing supervised attached → AllByRecursion (λ j. JobStarts start attached (part_of j) (pass_of j)) old → length new ≡ length old → ((k : ℕ) (d : J) → k < length old → JobIsDone Did book (part_of (slice_index_or old k d)) (pass_of (slice_index_or old k d)) (pass_of (slice_index_or new k d)) (rows_of (slice_index_or new k d))) → map Some passes ≡ map pass_of new → IfSome rows (λ queues. map Some queues ≡ map rows_of new) → ArePlayed Did start book (parts ++ desk_parts start.desk) passes rows
  played-at Did rows_of start book supervised parts attached old new passes rows stands are come starts long done passes_are rows_are =
      subst (λ (b : Bool). ArePlayed Did start book (parts ++ desk_parts b) passes rows) stands
      (record {
        attached = attached;
        come = subst (λ (b : Bool). HasComing b attached) stands come;
        count = ended.count;
        homes = ended.homes;
        grows = ended.grows;
        has = ended.has;
        done = all rows rows_are;
      })
    where
      each : (k : ℕ) (d : J) → k < length old → JobEnds Did start book attached (part_of (slice_index_or old k d)) (pass_of (slice_index_or new k d)) (rows_of (slice_index_or new k d))
      each k d lt =
          job-ends Did start book attached (part_of (slice_index_or old k d)) (pass_of (slice_index_or old k d)) (pass_of (slice_index_or new k d)) (rows_of (slice_index_or new k d))
          (All-index (λ j. JobStarts start attached (part_of j) (pass_of j)) old k d starts lt) (done k d lt)

      ended : Ended Did part_of pass_of rows_of start book attached (parts ++ desk_parts supervised) passes
      ended = ends-all Did part_of pass_of rows_of start book attached old new (parts ++ desk_parts supervised) passes long are passes_are each

      all : (found : Option (List (List _))) → IfSome found (λ queues. map Some queues ≡ map rows_of new) → IfSome found (EachIsDone Did start book attached (parts ++ desk_parts supervised) passes)
      all None h = tt
      all (Some queues) h = done-all Did part_of pass_of rows_of start book attached old new (parts ++ desk_parts supervised) passes long are passes_are each queues h

-- The run

-- a scene of an opening has that opening
same-opening : (start : Start) (trace : Trace) (book : Book) → length trace ≡ start.trees → opening_of (scene_of start trace book) ≡ opening start
same-opening start trace book trees = rw trees refl

-- the course's history is that of its list
pub course-history : (course : Course) (trace : Trace) (book : Book) → length trace ≡ course.start.trees → Replies tomoyo_grammar (opening course.start) (history_of course) → history_made (scene_of course.start trace book) (list_of course) ≡ history_of course
course-history course trace book trees replies =
    ap (λ (s : State). told_from tomoyo_grammar s (steps_made (list_of course))) (same-opening course.start trace book trees)
    ∙ ap (told_from tomoyo_grammar (opening course.start)) (course-steps course)
    ∙ told-again tomoyo_grammar (opening course.start) (history_of course) replies

-- what all parts have come to at a machine
pub together : {H D : Type 0} (Did : Start → ℕ → H → Deed D → Type 0) (start : Start) (book : Book) (hands : List H) (parts : List (Part H)) (course : Course) (queues given : List (List D)) → parts ≡ working_parts hands start.editors → AreAllPlayed Did start book parts course queues → Replies tomoyo_grammar (opening course.start) (history_of course) → given ≡ take (length hands) queues → PlayedTogether Did start book hands (list_of course) given
together Did start book hands parts course queues given are played replies left =
    record {
      fitted = subst (λ (s : Start). FitsFrom s (list_of course)) played.opened (course-fitted course replies);
      attached = played.attached;
      come = played.come;
      begins = played.begins;
      deeds = played.deeds;
      each = subst (λ (ps : List (Part _)). EachWith (PartIsDone Did start book (length played.attached)) ps played.deeds)
          (ap (λ (ps : List (Part _)). ps ++ desk_parts start.desk) are ∙ append_assoc (map Part.Worker hands) (editor_parts 1 start.editors) (desk_parts start.desk)) played.each;
      seen = played.seen;
      closed = played.closed;
      given_is = left ∙ ap (take (length hands)) played.queues_are;
    }

-- the run that was replayed, by the machine's history
pub replayed-run : ReplayedRunsAreLegal → (start : Start) (trace : Trace) (book : Book) (workers : ℕ) (course : Course) (rows : List PlayedTree) (takes : List Take) → course.start ≡ start → length trace ≡ start.trees → IsTrace trace → CanPlay (scene_of start trace book) → Replies tomoyo_grammar (opening course.start) (history_of course) → Replayed start trace book workers (list_of course) rows → takes ≡ takes_in (map row_of rows) → (let run : Run = record { steps = history_of course; takes = takes } in Legal (scene_of start trace book) run × NoLookBeforeAttach run)
replayed-run law start trace book workers course rows takes same trees written can replies h are =
    let steps : history_made (scene_of start trace book) (list_of course) ≡ history_of course = subst (λ (s : Start). length trace ≡ s.trees → history_made (scene_of s trace book) (list_of course) ≡ history_of course) same (λ long. course-history course trace book long replies) trees in
    let is : run_of start trace book (list_of course) rows ≡ (let run : Run = record { steps = history_of course; takes = takes } in run) = rw (steps, are) refl in
    let both = law start trace book workers (list_of course) rows written trees can h in
    (subst (Legal (scene_of start trace book)) is both.0, subst NoLookBeforeAttach is both.1)

-- its last policy
pub replayed-policy : (start : Start) (trace : Trace) (book : Book) (course : Course) (takes : List Take) → course.start ≡ start → length trace ≡ start.trees → course.state ≡ after tomoyo_grammar (opening course.start) (machine.steps_made course) → (let run : Run = record { steps = history_of course; takes = takes } in final_policy (scene_of start trace book) run) ≡ course.state.policy
replayed-policy start trace book course takes same trees is =
    ap (λ (s : State). (after tomoyo_grammar s (steps_of (history_of course))).policy) (same-opening start trace book trees ∙ ap opening (sym same))
    ∙ ap (λ (s : State). s.policy) (sym is)

-- the hands to which the trees of a trace are dealt
pub dealt-hands : (start : Start) (trace : Trace) (workers : ℕ) (trees : List TreeToPlay) (hands : List (List TreeToPlay)) → trees ≡ trees_from start.policy 1 trace → length hands ≡ workers → ((worker : ℕ) → worker < workers → slice_get hands worker ≡ Some (hand_of workers worker trees)) → AreDealt start trace workers hands
dealt-hands start trace workers trees hands are count each =
    record { count = count; each = subst (λ (ts : List TreeToPlay). (worker : ℕ) → worker < workers → slice_get hands worker ≡ Some (hand_of workers worker ts)) are each }
