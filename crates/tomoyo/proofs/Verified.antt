-- What was played leaves a legal run, and of a legal run `verify` says yes.
use Rattle.std.proofs.Common.{◌≡◌, ◌∙◌, ℕ, List, [], ◌∷◌, Bool, true, false, Ok, refl, sym, ap, subst}
use Rattle.std.specs.Prelude.{Option, Some, None, Result, MatchOption}
use Rattle.tm_io.specs.declared.names.FileName.{FileName}
use Rattle.tm_io.specs.Files.{FileState, Files}
use Rattle.tm_io.specs.Bytes.{then_bytes}
use Rattle.tm_rules.specs.Types.{Run}
use Rattle.tm_legal.specs.Prelude.{Legal, Scene}
use Rattle.tm_run.specs.Reading.{run_of}
use Rattle.tm_run.specs.RunText.{run_text}
use Rattle.tm_verify_laws.specs.declared.broken.Broken.{Broken}
use Rattle.tm_verify_laws.proofs.BrokenLaws.{not_legal}
use Rattle.tm_verify.specs.Verified.{IsVerified}
use Rattle.tm_gen.specs.Files.{generated}
use Rattle.tm_gen_laws.specs.Generated.{generated_files}
use Rattle.tm_call.specs.declared.status.Status.{Status}
use Rattle.tm_call.specs.declared.words.How.{How}
use Rattle.tm_call.specs.declared.words.Command.{Command}
use Rattle.tm_call.specs.Fetches.{Texts, TellsAll, told, told_texts}
use Rattle.tm_call.specs.Stores.{is_named}
use Rattle.tm_call.specs.Ends.{Outside}
use Rattle.tm_gen_laws.specs.CallInputLoaded.{Loaded}
use Rattle.tm_gen_laws.specs.Policies.{policy_of}
use Rattle.tm_gen_laws.specs.Reading.{parts_reading, scene_reading, scene_of}
use Rattle.tm_gen_laws.proofs.Readings.{step-scene, judging-read}
use Rattle.tomoyo.specs.Play.{reading_of}
use Rattle.tomoyo.specs.Verify.{verdict_text}
use Rattle.tomoyo.specs.Call.{scene_wants, played_wants, wants_of, stored_by, IsPlayed, IsLearned, IsGenerated, IsJudged, HasDone, HoldsLegalRun, HoldsPlayedRun, LegalRuns}

-- Which files are read

-- the files of a scene are the same two times
same-told : (a b : Files) → a FileName.Profile ≡ b FileName.Profile → a FileName.ExceptionPolicy ≡ b FileName.ExceptionPolicy → a FileName.DomainPolicy ≡ b FileName.DomainPolicy → a FileName.Manager ≡ b FileName.Manager
    → a FileName.Trace ≡ b FileName.Trace → a FileName.Edits ≡ b FileName.Edits → a FileName.Answers ≡ b FileName.Answers → told_texts scene_wants a ≡ told_texts scene_wants b
same-told a b profile exception domain manager trace edits answers = rw (profile, exception, domain, manager, trace, edits, answers) refl

-- nothing else is read of what `verify` and what plays fetch
played-texts : (how : How) (files : Files) → scene_reading (told_texts (played_wants how) files) ≡ scene_reading (told_texts scene_wants files)
unfolding scene_reading parts_reading policy_of
played-texts How.ByTurns files = refl
played-texts (How.OnThreads workers) files = refl
played-texts (How.Stealing workers) files = refl

verify-texts : (files : Files) → scene_reading (told_texts (wants_of Command.Verify) files) ≡ scene_reading (told_texts scene_wants files)
unfolding scene_reading parts_reading policy_of
verify-texts files = refl

-- Runs that were played

-- what was read is the scene, and its schedule
scene-played : (how : How) (files : Files) (loaded : Loaded) → reading_of how (told_texts (played_wants how) files) ≡ Ok loaded
    → (scene : Loaded) × (scene_reading (told_texts scene_wants files) ≡ Ok scene) × (scene_of scene ≡ scene_of loaded)
scene-played How.ByTurns files loaded e =
    (record loaded { schedule = [] }, sym (played-texts How.ByTurns files) ∙ step-scene (told_texts (played_wants How.ByTurns) files) loaded e, refl)
scene-played (How.OnThreads workers) files loaded e = (loaded, e, refl)
scene-played (How.Stealing workers) files loaded e = (loaded, e, refl)

-- a legal run of what was read is there
holds-run : (how : How) (old new : Files) (loaded : Loaded) (run : Run) (text : List ℕ) → told_texts scene_wants new ≡ told_texts scene_wants old
    → reading_of how (told_texts (played_wants how) old) ≡ Ok loaded → new FileName.Run ≡ FileState.Holds text
    → run_of text ≡ Ok run → text ≡ run_text run → Legal (scene_of loaded) run → HoldsPlayedRun new
holds-run how old new loaded run text kept read stored back printed legal =
    let (scene, reads, is) = scene-played how old loaded read in
    record {
      holds = record {
        loaded = scene;
        read = ap scene_reading kept ∙ reads;
        run = run;
        run_is = ap (λ (state : FileState). run_of (told state)) stored ∙ back;
        is_legal = subst (λ (s : Scene). Legal s run) (sym is) legal;
      };
      text = ap told stored ∙ printed;
    }

-- the files that a command has kept
abbrev pub Kept : Command → Outside → Outside → Type 0
Kept command old new = (name : FileName) → is_named (stored_by command) name ≡ false → new.files name ≡ old.files name

played-holds : (how : How) (old new : Outside) → told_texts scene_wants new.files ≡ told_texts scene_wants old.files → IsPlayed how old new → HoldsPlayedRun new.files
played-holds how old new kept done =
    holds-run how old.files new.files done.plays.loaded done.plays.plays.run done.played.run kept done.plays.read done.stored.0 done.plays.read_back done.plays.plays.printed.run_is done.plays.plays.is_legal

learned-holds : (how : How) (old new : Outside) → told_texts scene_wants new.files ≡ told_texts scene_wants old.files → IsLearned how old new → HoldsPlayedRun new.files
learned-holds how old new kept done =
    holds-run how old.files new.files done.learns.loaded done.learns.learns.run done.learned.played.run kept done.learns.read done.stored.0 done.learns.read_back done.learns.learns.printed.run_is done.learns.learns.is_legal

-- generated files without edits and answers are read as they were generated
generated-texts : (seed size : ℕ) → scene_reading ((FileName.Profile, (generated seed size).profile) ∷ (FileName.ExceptionPolicy, (generated seed size).exception) ∷ (FileName.DomainPolicy, (generated seed size).domain)
    ∷ (FileName.Manager, (generated seed size).manager) ∷ (FileName.Trace, (generated seed size).trace) ∷ (FileName.Edits, []) ∷ (FileName.Answers, []) ∷ []) ≡ scene_reading (generated_files seed size)
unfolding scene_reading parts_reading policy_of
generated-texts seed size = refl

generated-holds : (seed size : ℕ) (old new : Outside) → told (new.files FileName.Edits) ≡ [] → told (new.files FileName.Answers) ≡ [] → IsGenerated seed size old new → HoldsPlayedRun new.files
generated-holds seed size old new edits answers done =
    let s = done.stored in
    let texts : told_texts scene_wants new.files ≡ (FileName.Profile, (generated seed size).profile) ∷ (FileName.ExceptionPolicy, (generated seed size).exception) ∷ (FileName.DomainPolicy, (generated seed size).domain)
    ∷ (FileName.Manager, (generated seed size).manager) ∷ (FileName.Trace, (generated seed size).trace) ∷ (FileName.Edits, []) ∷ (FileName.Answers, []) ∷ [] = rw (s.0, s.1.0, s.1.1.0, s.1.1.1.0, s.1.1.1.1.0, edits, answers) refl in
    record {
      holds = record {
        loaded = record done.plays.loaded { schedule = [] };
        read = ap scene_reading texts ∙ generated-texts seed size ∙ step-scene (generated_files seed size) done.plays.loaded done.plays.read;
        run = done.plays.plays.run;
        run_is = ap (λ (state : FileState). run_of (told state)) s.1.1.1.1.1.0 ∙ done.plays.read_back;
        is_legal = done.plays.plays.is_legal;
      };
      text = ap told s.1.1.1.1.1.0 ∙ done.plays.plays.printed.run_is;
    }

-- Runs that are judged

-- of a legal run nothing is broken
none-broken : (scene : Scene) (run : Run) (broken : Option Broken) → Legal scene run → IsVerified scene run broken → broken ≡ None
none-broken scene run None legal verdict = refl
none-broken scene run (Some broken) legal verdict = absurd (not_legal scene run broken verdict legal)

abbrev as-ok : {A E : Type 0} → A → Result A E
as-ok x = Ok x

ok-is : {A E : Type 0} (x y : A) → as-ok {A = A} {E = E} x ≡ as-ok {A = A} {E = E} y → x ≡ y
ok-is x y e = cc

judged-yes : (old new : Outside) → HoldsLegalRun old.files → IsJudged old new → new.written ≡ then_bytes (verdict_text None) old.written
judged-yes old new holds judged =
    let read = judging-read (told_texts (wants_of Command.Verify) old.files) judged.judging judged.reads in
    let scene : judged.judging.scene ≡ holds.loaded = ok-is judged.judging.scene holds.loaded (sym read.scene ∙ verify-texts old.files ∙ holds.read) in
    let run : judged.judging.run ≡ holds.run = ok-is judged.judging.run holds.run (sym read.run_is ∙ holds.run_is) in
    let legal : Legal (scene_of judged.judging.scene) judged.judging.run =
    subst (λ (loaded : Loaded). Legal (scene_of loaded) judged.judging.run) (sym scene) (subst (λ (given : Run). Legal (scene_of holds.loaded) given) (sym run) holds.is_legal) in
    judged.line ∙ ap (λ (broken : Option Broken). then_bytes (verdict_text broken) old.written) (none-broken (scene_of judged.judging.scene) judged.judging.run judged.broken legal judged.verdict)

-- the files that are played are kept by all that store a run
kept-texts : (command : Command) (old new : Outside) → Kept command old new → is_named (stored_by command) FileName.Profile ≡ false → is_named (stored_by command) FileName.ExceptionPolicy ≡ false → is_named (stored_by command) FileName.DomainPolicy ≡ false
    → is_named (stored_by command) FileName.Manager ≡ false → is_named (stored_by command) FileName.Trace ≡ false → is_named (stored_by command) FileName.Edits ≡ false → is_named (stored_by command) FileName.Answers ≡ false
    → told_texts scene_wants new.files ≡ told_texts scene_wants old.files
kept-texts command old new kept profile exception domain manager trace edits answers =
    same-told new.files old.files (kept FileName.Profile profile) (kept FileName.ExceptionPolicy exception) (kept FileName.DomainPolicy domain) (kept FileName.Manager manager) (kept FileName.Trace trace) (kept FileName.Edits edits) (kept FileName.Answers answers)

pub legal-runs : (command : Command) (old new : Outside) (status : Status) → HasDone (Ok command) old new status → Kept command old new → LegalRuns (Ok command) old new status
legal-runs (Command.Play how false) old new status done kept = λ tells is.
    played-holds how old new (kept-texts (Command.Play how false) old new kept refl refl refl refl refl refl refl) (done tells is)
legal-runs (Command.Play how true) old new status done kept = λ tells is.
    learned-holds how old new (kept-texts (Command.Play how true) old new kept refl refl refl refl refl refl refl) (done tells is)
legal-runs Command.Print old new status done kept = tt
legal-runs Command.Verify old new status done kept = λ tells holds is. judged-yes old new holds (done tells is)
legal-runs Command.Sort old new status done kept = tt
legal-runs (Command.Gen seed size) old new status done kept = λ tells is edits answers.
    generated-holds seed size old new (ap told (kept FileName.Edits refl) ∙ edits) (ap told (kept FileName.Answers refl) ∙ answers) (done tells is)
